-- Rows and blocks that are live, counted one after the other.
use Rattle.std.proofs.Common.{◌≡◌, ℕ, ◌+◌, List, [], ◌∷◌, ◌++◌, map, count_by, refl, ap, arith, inl, inr}
use Rattle.std.specs.Prelude.{not, if◌then◌else◌}
use Rattle.std.proofs.lemmas.Bool.{cases_Bool}
use Rattle.tlsf_heap.specs.declared.row.Row.{Row}
use Rattle.tlsf_heap.specs.Content.{Block, is_free}
use Rattle.tlsf_heap.specs.Room.{live_bytes}
use Rattle.tlsf_heap.specs.Rows.{row_of}
use Rattle.tlsf_heap.proofs.Counts.{one_if, count-cons, count-append}
use Rattle.tlsf_c.specs.LiveCounts.{used_rows, used_bytes}

-- one row more
pub used_rows_next : (past : List Row) (row : Row) → used_rows (past ++ row ∷ []) ≡ used_rows past + one_if row.used
used_rows_next past row = omega (arith, count-append (λ (r : Row). r.used) past (row ∷ []), count-cons (λ (r : Row). r.used) row [])

pub used_bytes_next : (past : List Row) (row : Row) → used_bytes (past ++ row ∷ []) ≡ used_bytes past + (if row.used then row.size else 0)
used_bytes_next [] row = omega arith
used_bytes_next (one ∷ past) row = omega (arith, used_bytes_next past row)

-- the live rows of blocks are those of the live blocks
pub used_rows_of : (blocks : List (Block ℕ)) → used_rows (map row_of blocks) ≡ count_by (λ block. not (is_free block)) blocks
used_rows_of [] = refl
used_rows_of (block ∷ blocks) = omega (arith, used_rows_of blocks, count-cons (λ (r : Row). r.used) (row_of block) (map row_of blocks), count-cons (λ (b : Block ℕ). not (is_free b)) block blocks)

pub used_bytes_of : (blocks : List (Block ℕ)) → used_bytes (map row_of blocks) ≡ live_bytes blocks
used_bytes_of [] = refl
used_bytes_of (block ∷ blocks) = elim (cases_Bool (is_free block)) [
  | inl free ↦
      let rows : used_bytes (map row_of (block ∷ blocks)) ≡ 0 + used_bytes (map row_of blocks) = ap (λ b. (if not b then block.size else 0) + used_bytes (map row_of blocks)) free in
      let live : live_bytes (block ∷ blocks) ≡ 0 + live_bytes blocks = ap (λ b. (if b then 0 else block.size) + live_bytes blocks) free in
      omega (arith, rows, live, used_bytes_of blocks)
  | inr used ↦
      let rows : used_bytes (map row_of (block ∷ blocks)) ≡ block.size + used_bytes (map row_of blocks) = ap (λ b. (if not b then block.size else 0) + used_bytes (map row_of blocks)) used in
      let live : live_bytes (block ∷ blocks) ≡ block.size + live_bytes blocks = ap (λ b. (if b then 0 else block.size) + live_bytes blocks) used in
      omega (arith, rows, live, used_bytes_of blocks)
]
