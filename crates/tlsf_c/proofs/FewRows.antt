-- A pool has fewer rows than there are places.
use Rattle.std.proofs.Common.{ℕ, ◌+◌, ◌^◌, ◌≤◌, Bool, true, false, List, [], ◌∷◌, length, map, Result, Ok, Err, cond, arith}
use Rattle.std.specs.Prelude.{◌==◌}
use Rattle.std.proofs.lemmas.List.{length-map}
use Rattle.tlsf_heap.specs.declared.row.Row.{Row}
use Rattle.tlsf_heap.specs.declared.refusal.Refusal.{Refusal}
use Rattle.tlsf_heap.specs.Content.{Block, Pool}
use Rattle.tlsf_heap.specs.Good.{Covers, AreGoodPools}
use Rattle.tlsf_heap.specs.Rows.{row_of, rows_from}

-- how many rows are given, none where none are
abbrev pub length_of : Result (List Row) Refusal → ℕ
length_of (Ok rows) = length rows
length_of (Err refusal) = 0

covers_few : {A : Type 0} (from to : ℕ) (blocks : List (Block A)) → Covers from to blocks → from + length blocks ≤ to
covers_few from to [] covered = omega (arith, covered)
covers_few from to (block ∷ blocks) covered = omega (arith, covers_few (from + block.size) to blocks covered.3, covered.1)

pub rows_few : {A : Type 0} (base from : ℕ) (pools : List (Pool A)) → AreGoodPools from pools → length_of (rows_from base pools) ≤ 2 ^ 32
rows_few base from [] good = omega arith
rows_few base from (pool ∷ pools) good = of (rows_few base (pool.base + pool.bytes) pools good.2) (pool.base == base)
  where
    of : length_of (rows_from base pools) ≤ 2 ^ 32 → (found : Bool) → length_of (cond found (Ok (map row_of pool.blocks)) (rows_from base pools)) ≤ 2 ^ 32
    of rest true = omega (arith, length-map pool.blocks row_of, covers_few pool.base (pool.base + pool.bytes) pool.blocks good.1.covered, good.1.ends)
    of rest false = rest
