-- What every heap leaves as it was.
use Rattle.std.specs.Prelude.{◌≡◌, ℕ, List}
use Rattle.tlsf_heap.specs.declared.cursor.Cursor.{Cursor}
use Rattle.tlsf_heap.specs.declared.row.Row.{Row}
use Rattle.tlsf_heap.specs.Content.{Content}
use Rattle.tlsf_heap.specs.Touches.{AtMost}

-- the content is as it was, and each cursor stands where it stood, with the rows that are to come
pub record LooksUnchanged {H : Type 0} (content_of : H → Content ℕ) (stands : H → Cursor → Type 0) (rest : H → Cursor → List Row) (old new : H) : Type 0 where
  pub content : content_of new ≡ content_of old
  pub cursors : (cursor : Cursor) → stands old cursor → stands new cursor
  pub rows : (cursor : Cursor) → rest new cursor ≡ rest old cursor

-- a reading: nothing changes, and there are at most n touches
pub record Reads {H : Type 0} (content_of : H → Content ℕ) (stands : H → Cursor → Type 0) (rest : H → Cursor → List Row) (touches : H → ℕ) (n : ℕ) (old new : H) : Type 0 where
  pub unchanged : LooksUnchanged content_of stands rest old new
  pub bound : AtMost n (touches old) (touches new)
