-- Records by slot, and what may be written into one.
use Rattle.std.specs.Prelude.{◌≡◌, ℕ, ◌<◌, ◌%◌, Bool, true, false, List, Option, Some, None, slice_index_or, count_by}
use Rattle.tlsf_class.specs.Classes.{unit}
use Rattle.tlsf_store.specs.declared.records.State.{State}
use Rattle.tlsf_store.specs.declared.records.State.TheVariants.{Vacant, Free, Live}
use Rattle.tlsf_store.specs.declared.records.Record.{Record}

-- the most records that a table has
abbrev pub most_records : ℕ
most_records = 65535

-- a record in this state, with no block and no links
abbrev pub blank_in : State → Record
blank_in s = record { place = 0; size = 0; state = s; prev = None; next = None; prev_free = None; next_free = None }

-- what a vacant record holds
abbrev pub blank : Record
blank = blank_in Vacant

-- the record of a slot
abbrev pub record_at : List Record → ℕ → Record
record_at records slot = slice_index_or records slot blank

abbrev pub is_vacant : State → Bool
is_vacant Vacant = true
is_vacant Free = false
is_vacant Live = false

-- whether a record in this state is of a free block
abbrev pub is_free_state : State → Bool
is_free_state Vacant = false
is_free_state Free = true
is_free_state Live = false

-- whether a record in this state is of a live block
abbrev pub is_live_state : State → Bool
is_live_state Vacant = false
is_live_state Free = false
is_live_state Live = true

-- how many records are vacant
abbrev pub vacant_count : List Record → ℕ
vacant_count records = count_by (λ r. is_vacant r.state) records

-- a link is none, or a slot below `count`
abbrev pub IsBelow : ℕ → Option ℕ → Type 0
IsBelow count None = Unit {0}
IsBelow count (Some slot) = slot < count

-- what a record of a table of `count` records holds
pub record IsKept (count : ℕ) (r : Record) : Type 0 where
  pub place : r.place % unit ≡ 0
  pub size : r.size % unit ≡ 0
  pub prev : IsBelow count r.prev
  pub next : IsBelow count r.next
  pub prev_free : IsBelow count r.prev_free
  pub next_free : IsBelow count r.next_free
