-- What create gives.
use Rattle.std.specs.Prelude.{◌≡◌, ℕ, Option, Some, None}
use denote.RawPtr.{null_ptr}
use Rattle.tlsf_heap.specs.Counted.{Counted}
use Rattle.tlsf_heap.specs.Pools.{created}
use Rattle.tlsf_c.specs.declared.made.Made.{Made}

-- no heap: what a C program starts with, and finds where it ended one
abbrev pub zeros : Made
zeros = record { at = null_ptr; value = None }

-- there is a heap: one of this many records, with no pool, whose table wasn't touched yet
pub record IsNew (records : ℕ) (made : Option Counted) : Type 0 where
  pub heap : Counted
  pub is_there : made ≡ Some heap
  pub content : heap.content ≡ created records
  pub untouched : heap.touches ≡ 0
