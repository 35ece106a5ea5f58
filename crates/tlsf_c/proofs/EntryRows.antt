-- The rows of the pool that an entry holds are there, and lie within it.
use Rattle.std.proofs.Common.{◌≡◌, ℕ, ◌+◌, ◌<◌, ◌≤◌, List, [], ◌∷◌, map, refl, ap, ◌∙◌, subst, arith, Ok, Err, inl, inr, ◌⊎◌}
use Rattle.std.specs.Prelude.{◌==◌}
use Rattle.std.specs.List.{AllByRecursion, Contains}
use Rattle.std.proofs.lemmas.Bool.{cases_Bool, cases_eq, eqb-true, eqb-false}
use Rattle.std.proofs.lemmas.List.Elements.{All-contains}
use Rattle.std.proofs.Math.Logic.{∥∥₁_elim}
use Rattle.tlsf_heap.specs.declared.row.Row.{Row}
use Rattle.tlsf_heap.specs.declared.refusal.Refusal.{Refusal}
use Rattle.tlsf_heap.specs.Content.{Block, Pool, Content}
use Rattle.tlsf_heap.specs.Counted.{range_of}
use Rattle.tlsf_heap.specs.Good.{Covers, AreGoodPools, IsGood}
use Rattle.tlsf_heap.specs.Rows.{row_of, rows_from}
use Rattle.tlsf_heap.proofs.Good.MallocIsGood.{Covers-le}
use Rattle.tlsf_c.specs.declared.placed_pool.PlacedPool.{PlacedPool}
use Rattle.tlsf_c.specs.Fronts.{front}
use Rattle.tlsf_c.specs.PlacedPools.{IsEntryOf, AreEntriesOf, placed_range}
use Rattle.tlsf_c.specs.PlacedRows.{IsRowOf}
use Rattle.tlsf_c.proofs.LiveBlock.{above_from}
use Rattle.tlsf_c.proofs.Stands.{never_stands, stands_first, stands_first_or_later, stands_later}

cases_range : (one other : ℕ × ℕ) → (one ≡ other) ⊎ (one ≡ other → ⊥)
cases_range one other = elim (cases_eq one.0 other.0) [
  | inr apart ↦ inr (λ same. apart (ap (λ (r : ℕ × ℕ). r.0) same))
  | inl first ↦ elim (cases_eq one.1 other.1) [
    | inr apart ↦ inr (λ same. apart (ap (λ (r : ℕ × ℕ). r.1) same))
    | inl second ↦ inl (λ i. (first i, second i))
  ]
]

-- a range stands in a list, or doesn't
cases_stands : (ranges : List (ℕ × ℕ)) (range : ℕ × ℕ) → Contains ranges range ⊎ (Contains ranges range → ⊥)
cases_stands [] range = inr (λ has. never_stands range has)
cases_stands (first ∷ rest) range = elim (cases_range first range) [
  | inl same ↦ inl (subst (Contains (first ∷ rest)) same (stands_first first rest))
  | inr apart ↦ elim (cases_stands rest range) [
    | inl later ↦ inl (stands_later first range rest later)
    | inr none ↦ inr (λ has. elim (stands_first_or_later first range rest has) [
      | inl same ↦ apart same
      | inr later ↦ none later
    ])
  ]
]

-- the pool that an entry holds is one of the heap's
pub range_of_entry : (ranges : List (ℕ × ℕ)) (pools : List PlacedPool) (pool : PlacedPool) → ∥ AreEntriesOf ranges pools ∥₁ → Contains pools pool → 0 < pool.reach → Contains ranges (placed_range pool)
range_of_entry ranges pools pool entries has some = elim (cases_stands ranges (placed_range pool)) [
  | inl there ↦ there
  | inr none ↦ absurd (∥∥₁_elim entries (λ a b. absurd a) (λ are. none (All-contains (IsEntryOf ranges) pools pool are.of_ranges has some)))
]

-- a row lies between two places
pub record LiesBetween (base end : ℕ) (row : Row) : Type 0 where
  pub begins : base ≤ row.place
  pub ends : row.place + row.size ≤ end
  pub long : 16 ≤ row.size

covered_rows : (base end from to : ℕ) (blocks : List (Block ℕ)) → base ≤ from → to ≤ end → Covers from to blocks → AllByRecursion (LiesBetween base end) (map row_of blocks)
covered_rows base end from to [] low high covers = tt
covered_rows base end from to (block ∷ blocks) low high covers = (
  record {
    begins = omega (arith, covers.0, low);
    ends = omega (arith, covers.0, Covers-le (from + block.size) to blocks covers.3, high);
    long = omega (arith, covers.1, covers.2);
  },
  covered_rows base end (from + block.size) to blocks (omega (arith, low)) high covers.3,
)

-- the rows of the pool of this range
pub record RowsThere (base bytes : ℕ) (pools : List (Pool ℕ)) : Type 0 where
  pub given : List Row
  pub are : rows_from base pools ≡ Ok given
  pub within : AllByRecursion (LiesBetween base (base + bytes)) given

pub rows_there : (base bytes from : ℕ) (pools : List (Pool ℕ)) → AreGoodPools from pools → Contains (map range_of pools) (base, bytes) → RowsThere base bytes pools
rows_there base bytes from [] good has = never_stands (base, bytes) has
rows_there base bytes from (pool ∷ pools) good has = elim (cases_Bool (pool.base == base)) [
  | inl here ↦
      let at : pool.base ≡ base = eqb-true pool.base base here in
      elim (stands_first_or_later (range_of pool) (base, bytes) (map range_of pools) has) [
        | inl same ↦ let bytes_are : pool.bytes ≡ bytes = ap (λ (r : ℕ × ℕ). r.1) same in
            record {
              given = map row_of pool.blocks;
              are = rw here refl;
              within = covered_rows base (base + bytes) pool.base (pool.base + pool.bytes) pool.blocks (omega (arith, at)) (omega (arith, at, bytes_are)) good.1.covered;
            }
        | inr later ↦ absurd (omega (arith, above_from (base, bytes) (pool.base + pool.bytes) pools good.2 later, at, good.1.least_bytes))
      ]
  | inr elsewhere ↦ elim (stands_first_or_later (range_of pool) (base, bytes) (map range_of pools) has) [
    | inl same ↦ absurd (eqb-false pool.base base elsewhere (ap (λ (r : ℕ × ℕ). r.0) same))
    | inr later ↦
        let rest = rows_there base bytes (pool.base + pool.bytes) pools good.2 later in
        let is : rows_from base (pool ∷ pools) ≡ rows_from base pools = rw elsewhere refl in
        record { given = rest.given; are = is ∙ rest.are; within = rest.within }
  ]
]

of_pool : (pool : PlacedPool) (rows : List Row) → AllByRecursion (LiesBetween pool.place (pool.place + (pool.reach + front))) rows → AllByRecursion (IsRowOf pool) rows
of_pool pool [] all = tt
of_pool pool (row ∷ rows) all = (record { begins = all.0.begins; ends = omega (arith, all.0.ends); long = all.0.long }, of_pool pool rows all.1)

-- the rows of the pool that an entry holds: they are found, and lie within it
pub record EntryRows (pool : PlacedPool) (pools : List (Pool ℕ)) : Type 0 where
  pub given : List Row
  pub are : rows_from pool.place pools ≡ Ok given
  pub within : AllByRecursion (IsRowOf pool) given

pub entry_rows : (pool : PlacedPool) (entries : List PlacedPool) (content : Content ℕ) → IsGood content → ∥ AreEntriesOf (map range_of content.pools) entries ∥₁ → Contains entries pool → 0 < pool.reach → EntryRows pool content.pools
entry_rows pool entries content good are has some =
    let there = rows_there pool.place (pool.reach + front) 0 content.pools good.pools_good (range_of_entry (map range_of content.pools) entries pool are has some) in
    record { given = there.given; are = there.are; within = of_pool pool there.given there.within }

-- they are the rows that a reading finds, and it isn't refused
pub the_rows : (pool : PlacedPool) (pools : List (Pool ℕ)) (rows : EntryRows pool pools) (found : List Row) → rows_from pool.place pools ≡ Ok found → rows.given ≡ found
the_rows pool pools rows found is = cc (rows.are, is)

pub never_refused : (pool : PlacedPool) (pools : List (Pool ℕ)) (rows : EntryRows pool pools) (refusal : Refusal) → rows_from pool.place pools ≡ Err refusal → ⊥
never_refused pool pools rows refusal is = cc (rows.are, is)
