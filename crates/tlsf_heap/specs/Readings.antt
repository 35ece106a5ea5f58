-- What readings give: of a pool's rows, and of all free lists.
use Rattle.std.specs.Prelude.{◌≡◌, ◌≢◌, ℕ, ◌<◌, ◌≤◌, List, [], ◌∷◌, Option, IfSome, IfNone, Result, Ok, Err, IfOk, IfErr}
use Rattle.tlsf_heap.specs.declared.row.Row.{Row}
use Rattle.tlsf_heap.specs.declared.cursor.Cursor.{Cursor}
use Rattle.tlsf_heap.specs.declared.refusal.Refusal.{Refusal}
use Rattle.tlsf_heap.specs.declared.refusal.Refusal.TheVariants.{NoFit}
use Rattle.tlsf_heap.specs.Content.{Content}
use Rattle.tlsf_heap.specs.Malloc.{malloc}
use Rattle.tlsf_heap.specs.Touches.{AtMost}

-- the cursor at the first of these rows, or why there are none. `rest` has the rows from a cursor on, and `stands_at` says
-- that it stands at a row or at the end
pub record FindsRows (result : Result Cursor Refusal) (rows : Result (List Row) Refusal) (rest : Cursor → List Row) (stands_at : Cursor → Type 0) : Type 0 where
  pub ok : IfOk result (λ cursor. rows ≡ Ok (rest cursor))
  pub stands : IfOk result (λ cursor. stands_at cursor)
  pub refused : IfErr result (λ refusal. rows ≡ Err refusal)

-- the first of these rows, and the cursor behind it, or nothing where there is none
pub record GivesRow (result : Option (Row × Cursor)) (rows : List Row) (rest : Cursor → List Row) (stands_at : Cursor → Type 0) : Type 0 where
  pub some : IfSome result (λ given. rows ≡ given.0 ∷ rest given.1)
  pub next_stands : IfSome result (λ given. stands_at given.1)
  pub none : IfNone result (rows ≡ [])

-- there are at most n touches where a row is given, and no touch where none is
pub record TouchesForRow (n : ℕ) (result : Option (Row × Cursor)) (old new : ℕ) : Type 0 where
  pub bound : IfSome result (λ given. AtMost n old new)
  pub no_touch : IfNone result (new ≡ old)

-- malloc finds a block for each request of at most `bytes` bytes, and for none of more
pub record IsLargestRequest (bytes : ℕ) (content : Content ℕ) : Type 0 where
  pub found : (slot n : ℕ) → n ≤ bytes → malloc slot n content ≢ Err NoFit
  pub no_fit : (slot n : ℕ) → bytes < n → malloc slot n content ≡ Err NoFit
