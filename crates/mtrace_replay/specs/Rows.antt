-- What a reading of a heap's rows gives.
use Rattle.std.specs.Prelude.{◌≡◌, ℕ, List, [], Result, Ok, Err}
use Rattle.mtrace_log.specs.Shown.{WriterState}
use Rattle.mtrace_log.specs.Output.{Puts}
use Rattle.tlsf_heap.specs.declared.refusal.Refusal.{Refusal}
use Rattle.tlsf_heap.specs.declared.row.Row.{Row}
use Rattle.tlsf_heap.specs.Content.{Content, Pool}
use Rattle.tlsf_heap.specs.Rows.{rows_from}

-- the rows, or none where no pool begins at the base
abbrev pub or_none : Result (List Row) Refusal → List Row
or_none (Ok rows) = rows
or_none (Err refusal) = []

abbrev pub pool_rows : {A : Type 0} → List (Pool A) → ℕ → List Row
pool_rows pools base = or_none (rows_from base pools)

-- a text is put of what is read of a heap, which stays as it is
pub record PutsOf {H T E : Type 0} (content : H → Content ℕ) (result : Result T E) (text : List ℕ)
    (writer_old writer_new : WriterState) (heap_old heap_new : H) : Type 0 where
  pub puts : Puts result text writer_old writer_new
  pub unchanged : content heap_new ≡ content heap_old
