-- Two entries that have a place are one, in a good content: so blocks at two addresses begin at two places.
use Rattle.std.proofs.Common.{◌≡◌, ◌≢◌, ℕ, ◌+◌, ◌<◌, ◌≤◌, List, [], ◌∷◌, map, slice_index_or, sym, ap, ◌∙◌, subst, arith, inl, inr}
use Rattle.std.specs.List.{AllPairs, Contains}
use Rattle.std.proofs.lemmas.Bool.{cases_order}
use Rattle.std.proofs.lemmas.List.{get_or_default}
use Rattle.std.proofs.lemmas.List.Elements.{All-contains}
use Rattle.std.proofs.Math.Logic.{∥∥₁_elim}
use Rattle.tlsf_heap.specs.Content.{Pool, Content}
use Rattle.tlsf_heap.specs.Counted.{range_of}
use Rattle.tlsf_heap.specs.Good.{AreGoodPools, IsGood}
use Rattle.tlsf_c.specs.declared.placed_pool.PlacedPool.{PlacedPool}
use Rattle.tlsf_c.specs.PlacedPools.{IsAt, AreApart, IsEntryOf, AreEntriesOf, placed_range}
use Rattle.tlsf_c.proofs.Stands.{never_stands, stands_first_or_later}

abbrev ranges : List (Pool ℕ) → List (ℕ × ℕ)
ranges pools = map range_of pools

abbrev HasIn : ℕ × ℕ → ℕ → Type 0
HasIn range place = (range.0 ≤ place) × (place < range.0 + range.1)

-- ranges of good pools begin behind what is before them
begins_behind : (from : ℕ) (pools : List (Pool ℕ)) (range : ℕ × ℕ) → AreGoodPools from pools → Contains (ranges pools) range → from ≤ range.0
begins_behind from [] range good has = never_stands range has
begins_behind from (pool ∷ pools) range good has = elim (stands_first_or_later (range_of pool) range (ranges pools) has) [
  | inl same ↦ omega (arith, good.0, ap (λ (r : ℕ × ℕ). r.0) same)
  | inr later ↦ omega (arith, good.0, begins_behind (pool.base + pool.bytes) pools range good.2 later)
]

-- two of them that have a place begin together
begin_together : (place from : ℕ) (pools : List (Pool ℕ)) (one other : ℕ × ℕ) → AreGoodPools from pools → Contains (ranges pools) one → Contains (ranges pools) other → HasIn one place → HasIn other place → one.0 ≡ other.0
begin_together place from [] one other good has has_other at at_other = never_stands one has
begin_together place from (pool ∷ pools) one other good has has_other at at_other = elim (stands_first_or_later (range_of pool) one (ranges pools) has) [
  | inl first ↦ elim (stands_first_or_later (range_of pool) other (ranges pools) has_other) [
    | inl same ↦ ap (λ (r : ℕ × ℕ). r.0) (sym first ∙ same)
    | inr later ↦
        let behind = begins_behind (pool.base + pool.bytes) pools other good.2 later in
        absurd (omega (arith, behind, at.1, at_other.0, ap (λ (r : ℕ × ℕ). r.0) first, ap (λ (r : ℕ × ℕ). r.1) first))
  ]
  | inr behind ↦ elim (stands_first_or_later (range_of pool) other (ranges pools) has_other) [
    | inl same ↦
        let later = begins_behind (pool.base + pool.bytes) pools one good.2 behind in
        absurd (omega (arith, later, at_other.1, at.0, ap (λ (r : ℕ × ℕ). r.0) same, ap (λ (r : ℕ × ℕ). r.1) same))
    | inr later ↦ begin_together place (pool.base + pool.bytes) pools one other good.2 behind later at at_other
  ]
]

-- blocks of the entries at two addresses begin at two places
pub places_differ : (place place_other address other : ℕ) (pools : List PlacedPool) (pool pool_other : PlacedPool) (content : Content ℕ) → IsGood content → AllPairs AreApart pools → ∥ AreEntriesOf (map range_of content.pools) pools ∥₁
    → Contains pools pool → Contains pools pool_other → IsAt pool place address → IsAt pool_other place_other other → address ≢ other → place ≢ place_other
places_differ place place_other address other pools pool pool_other content good apart entries has has_other at at_other differ same =
    ∥∥₁_elim entries (λ a b. absurd a) (λ are.
    let range = All-contains (IsEntryOf (map range_of content.pools)) pools pool are.of_ranges has (omega (arith, at.has.0, at.has.1)) in
    let range_other = All-contains (IsEntryOf (map range_of content.pools)) pools pool_other are.of_ranges has_other (omega (arith, at_other.has.0, at_other.has.1)) in
    let together : pool.place ≡ pool_other.place =
    begin_together place 0 content.pools (placed_range pool) (placed_range pool_other) good.pools_good range range_other (omega (arith, at.has.0), omega (arith, at.has.1)) (omega (arith, at_other.has.0, same), omega (arith, at_other.has.1, same)) in
    let some : 0 < pool.reach = omega (arith, at.has.0, at.has.1) in
    let some_other : 0 < pool_other.reach = omega (arith, at_other.has.0, at_other.has.1) in
    let i : ℕ = has.0 in
    let j : ℕ = has_other.0 in
    elim (cases_order i j) [
      | inl one ↦
          let same_pool : pool ≡ pool_other = sym has.2 ∙ get_or_default pools i pool pool_other has.1 ∙ ap (λ k. slice_index_or pools k pool_other) one ∙ has_other.2 in
          let there : IsAt pool place_other other = subst (λ (p : PlacedPool). IsAt p place_other other) (sym same_pool) at_other in
          differ (omega (arith, at.address_is, there.address_is, at.has.0, there.has.0, same))
      | inr apart_by ↦ elim apart_by [
        | inl below ↦
            let to : slice_index_or pools j pool ≡ pool_other = get_or_default pools j pool pool_other has_other.1 ∙ has_other.2 in
            (subst (λ (p : PlacedPool). AreApart p pool_other) has.2 (subst (λ (q : PlacedPool). AreApart (slice_index_or pools i pool) q) to (apart i j pool below has_other.1))).places some some_other together
        | inr above ↦
            let to : slice_index_or pools i pool_other ≡ pool = get_or_default pools i pool_other pool has.1 ∙ has.2 in
            (subst (λ (p : PlacedPool). AreApart p pool) has_other.2 (subst (λ (q : PlacedPool). AreApart (slice_index_or pools j pool_other) q) to (apart j i pool_other above has.1))).places some_other some (sym together)
      ]
    ])
