-- What contracts see of a heap: its content, how often its store was touched, and the rows from each slot on.
use Rattle.std.specs.Prelude.{◌≡◌, ℕ, List}
use Rattle.tlsf_heap.specs.declared.row.Row.{Row}
use Rattle.tlsf_store.specs.CountedCells.{CountedCells}
use Rattle.tlsf_heap.specs.Content.{Pool, Content}
use Rattle.tlsf_heap.specs.Inner.Following.{content_of}
use Rattle.tlsf_heap.specs.Cursors.{rows_by}
use Rattle.tlsf_heap.specs.Touches.{AtMost}

pub record Counted : Type 0 where
  pub content : Content ℕ
  pub touches : ℕ
  pub rows : List (List Row)

-- a store, as contracts of a heap see it
abbrev pub counted : CountedCells → Counted
counted store = record { content = content_of store.cells; touches = store.touches; rows = rows_by store.cells.records }

-- where the pool begins, and its bytes
abbrev pub range_of : {A : Type 0} → Pool A → ℕ × ℕ
range_of pool = (pool.base, pool.bytes)

-- the content is as it was, and each cursor stands where it stood, with the rows that are to come
pub record IsUnchanged (old new : Counted) : Type 0 where
  pub content : new.content ≡ old.content
  pub rows : new.rows ≡ old.rows

-- a reading: nothing changes, and there are at most n touches
pub record Reads (n : ℕ) (old new : Counted) : Type 0 where
  pub unchanged : IsUnchanged old new
  pub bound : AtMost n old.touches new.touches
