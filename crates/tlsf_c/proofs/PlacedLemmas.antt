-- The entry that has a place or an address is the only one, and holds a pool of the heap.
use Rattle.std.proofs.Common.{◌≡◌, ℕ, ◌+◌, ◌<◌, ◌≤◌, List, map, ◌⊎◌, slice_index_or, refl, sym, ap, ◌∙◌, subst, arith, ◌≢◌, Option, Result, Ok, Err, inl, inr}
use Rattle.std.specs.List.{All, AllPairs, Contains}
use Rattle.std.proofs.lemmas.Bool.{cases_order, cases_lt, ne_eqb, cond-false}
use Rattle.std.proofs.lemmas.List.{get_or_default}
use Rattle.std.proofs.lemmas.List.Elements.{All-contains}
use Rattle.std.proofs.Math.Logic.{∥∥₁_elim}
use Rattle.tlsf_class.proofs.RoundingLaws.{round_above}
use Rattle.tlsf_heap.specs.declared.refusal.Refusal.{Refusal}
use Rattle.tlsf_heap.specs.declared.refusal.Refusal.TheVariants.{ZeroSize, NoFit}
use Rattle.tlsf_heap.specs.Content.{Content}
use Rattle.tlsf_heap.specs.OwnClass.{malloc_or_own, malloc_or_own_rounded}
use Rattle.tlsf_heap.specs.Counted.{range_of}
use Rattle.tlsf_heap.specs.Good.{IsGood}
use Rattle.tlsf_heap.specs.Pointer.{Pointer, block_size_ptr}
use Rattle.tlsf_heap.specs.Served.{IsServed}
use Rattle.tlsf_c.proofs.LiveBlock.{live_lies, live_ends_before}
use Rattle.tlsf_c.specs.declared.placed_pool.PlacedPool.{PlacedPool}
use Rattle.tlsf_c.specs.Fronts.{front, told_size}
use Rattle.tlsf_c.specs.Lying.{LiesIn}
use Rattle.tlsf_c.specs.PlacedPools.{HasPlace, HasAddress, IsAt, AreApart, IsEntered, IsEntryOf, AreEntriesOf, placed_range}
use Rattle.tlsf_c.specs.PlacedHeaps.{IsLiveAt, IsGivenAt, told_block, malloc_with_front}

-- two entries that have an address are one
pub same_at : (address : ℕ) (pools : List PlacedPool) (one other : PlacedPool) → AllPairs AreApart pools → Contains pools one → Contains pools other → HasAddress one address → HasAddress other address → one ≡ other
same_at address pools one other apart has has_other at at_other =
    let i : ℕ = has.0 in
    let j : ℕ = has_other.0 in
    elim (cases_order i j) [
      | inl same ↦ sym has.2 ∙ get_or_default pools i one other has.1 ∙ ap (λ k. slice_index_or pools k other) same ∙ has_other.2
      | inr apart_by ↦ elim apart_by [
        | inl below ↦
            let pair = apart i j one below has_other.1 in
            let is : slice_index_or pools j one ≡ other = get_or_default pools j one other has_other.1 ∙ has_other.2 in
            absurd ((subst (λ (p : PlacedPool). AreApart p other) has.2 (subst (λ (q : PlacedPool). AreApart (slice_index_or pools i one) q) is pair)).addresses (omega (arith, at.0, at.1)) (omega (arith, at_other.0, at_other.1)) (omega (arith, at.0, at_other.1)) (omega (arith, at_other.0, at.1)))
        | inr above ↦
            let pair = apart j i other above has.1 in
            let is : slice_index_or pools i other ≡ one = get_or_default pools i other one has.1 ∙ has.2 in
            absurd ((subst (λ (p : PlacedPool). AreApart p one) has_other.2 (subst (λ (q : PlacedPool). AreApart (slice_index_or pools j other) q) is pair)).addresses (omega (arith, at_other.0, at_other.1)) (omega (arith, at.0, at.1)) (omega (arith, at_other.0, at.1)) (omega (arith, at.0, at_other.1)))
      ]
    ]

pub address_at : (pool : PlacedPool) (place address : ℕ) → IsAt pool place address → HasAddress pool address
address_at pool place address at = (omega (arith, at.address_is), omega (arith, at.address_is, at.has.0, at.has.1))

-- what is live at an address is found in the entry that has it
pub live_in_found : (address word place : ℕ) (pools : List PlacedPool) (pool : PlacedPool) (content : Content ℕ) → AllPairs AreApart pools → Contains pools pool → IsAt pool place address
    → IsLiveAt address word pools content → block_size_ptr (told_block place address word) content ≡ Ok (told_size word address)
live_in_found address word place pools pool content apart has at live =
    let same = same_at address pools live.pool pool apart live.of_pools has (address_at live.pool live.place address live.at) (address_at pool place address at) in
    let there : IsAt pool live.place address = subst (λ (p : PlacedPool). IsAt p live.place address) same live.at in
    let place_is : live.place ≡ place = omega (arith, at.address_is, there.address_is, at.has.0, there.has.0) in
    subst (λ (p : ℕ). block_size_ptr (told_block p address word) content ≡ Ok (told_size word address)) place_is live.live

-- a block that lies in a pool of the heap is in an entry
pub lies_somewhere : (place bytes : ℕ) (ranges : List (ℕ × ℕ)) (pools : List PlacedPool) → ∥ AreEntriesOf ranges pools ∥₁ → LiesIn place bytes ranges → front < bytes → All (λ pool. HasPlace pool place → ⊥) pools → ⊥
lies_somewhere place bytes ranges pools entries lies some none =
    ∥∥₁_elim entries (λ a b. absurd a) (λ are.
    let there : IsEntered pools lies.range = All-contains (IsEntered pools) ranges lies.range are.entered lies.of_ranges in
    let base_is : there.0.place ≡ lies.range.0 = ap (λ (r : ℕ × ℕ). r.0) there.3 in
    let bytes_are : there.0.reach + front ≡ lies.range.1 = ap (λ (r : ℕ × ℕ). r.1) there.3 in
    let ends = lies.ends lies.range lies.of_ranges lies.from lies.below in
    All-contains (λ pool. HasPlace pool place → ⊥) pools there.0 none there.1 (omega (arith, base_is, lies.from), omega (arith, base_is, bytes_are, ends, some)))

-- it ends within the entry that has its place
pub ends_in_entry : (place bytes : ℕ) (ranges : List (ℕ × ℕ)) (pools : List PlacedPool) (pool : PlacedPool) → ∥ AreEntriesOf ranges pools ∥₁ → LiesIn place bytes ranges → Contains pools pool → HasPlace pool place
    → place + bytes ≤ pool.place + pool.reach + front
ends_in_entry place bytes ranges pools pool entries lies has at = elim (cases_lt (pool.place + pool.reach + front) (place + bytes)) [
  | inr most ↦ most
  | inl beyond ↦ absurd (∥∥₁_elim entries (λ a b. absurd a) (λ are.
      let there : Contains ranges (placed_range pool) = All-contains (IsEntryOf ranges) pools pool are.of_ranges has (omega (arith, at.0, at.1)) in
      let ends = lies.ends (placed_range pool) there at.0 (omega (arith, at.1)) in
      let never : ⊥ = omega (arith, ends, beyond) in never))
]

-- a block that the heap gave has an address, and ends within the entry that has it
pub given_at : (call : ℕ → Content ℕ → Result (ℕ × Content ℕ) Refusal) (bytes address size : ℕ) (ptr : Pointer) (entries : List PlacedPool) (old new : Content ℕ) → ∥ AreEntriesOf (map range_of old.pools) entries ∥₁
    → IsServed call ptr old new → LiesIn ptr.place size (map range_of old.pools) → bytes + front ≤ size → (pool : PlacedPool) × Contains entries pool × IsAt pool ptr.place address → IsGivenAt call bytes address entries old new
given_at call bytes address size ptr entries old new are served lies long there =
    let ends = ends_in_entry ptr.place size (map range_of old.pools) entries there.0 are lies there.1 there.2.has in
    record { pointer = ptr; pool = there.0; served = served; of_pools = there.1; at = there.2; ends = omega (arith, there.2.address_is, there.2.has.0, ends, long) }

-- no byte is refused, and neither are more than a block can have
pub refuses_none : (slot : ℕ) (content : Content ℕ) → malloc_with_front slot 0 content ≡ Err ZeroSize
refuses_none slot content = refl

pub refuses_above : (slot bytes : ℕ) (content : Content ℕ) → 1073741800 < bytes → malloc_with_front slot bytes content ≡ Err NoFit
refuses_above slot bytes content above =
    cond-false _ _ _ (ne_eqb bytes 0 (λ e. absurd (omega (arith, above, e))))
    ∙ cond-false _ _ _ (ne_eqb (bytes + front) 0 (λ e. absurd (omega (arith, e))))
    ∙ ap (λ (r : Option ℕ). malloc_or_own_rounded slot r content) (round_above (bytes + front) (omega (arith, above)))

-- else it is malloc with the front
pub with_front : (slot bytes : ℕ) (content : Content ℕ) → bytes ≢ 0 → malloc_with_front slot bytes content ≡ malloc_or_own slot (bytes + front) content
with_front slot bytes content some = rw (ne_eqb bytes 0 some) refl

-- two sizes that are told are one
abbrev pub IsSame : ℕ → ℕ → Type 0
IsSame size other = let one : Result ℕ Refusal = Ok size in one ≡ Ok other

pub the_size : {size other : ℕ} → IsSame size other → size ≡ other
the_size e = cc

-- the first of two blocks that are live at addresses ends, with its front, at or before the second's front
pub live_apart : (one other word other_word : ℕ) (pools : List PlacedPool) (content : Content ℕ) → IsGood content → AllPairs AreApart pools → ∥ AreEntriesOf (map range_of content.pools) pools ∥₁
    → IsLiveAt one word pools content → IsLiveAt other other_word pools content → one < other → one + told_size word one ≤ other
live_apart one other word other_word pools content good apart entries live live_other below =
    let size : ℕ = told_size word one in
    let ptr : Pointer = told_block live.place one word in
    let ptr_other : Pointer = told_block live_other.place other other_word in
    let pool : PlacedPool = live.pool in
    let pool_other : PlacedPool = live_other.pool in
    let i : ℕ = live.of_pools.0 in
    let j : ℕ = live_other.of_pools.0 in
    let is : slice_index_or pools i pool ≡ pool = live.of_pools.2 in
    let is_other : slice_index_or pools j pool_other ≡ pool_other = live_other.of_pools.2 in
    let ends = ends_in_entry live.place size (map range_of content.pools) pools pool entries (live_lies ptr size content good live.live) live.of_pools live.at.has in
    let at = live.at in
    let at_other = live_other.at in
    let overlap : AreApart pool pool_other ⊎ AreApart pool_other pool → one + size ≤ other = λ pair. elim (cases_lt other (one + size)) [
      | inr good_end ↦ good_end
      | inl within ↦ absurd (
          let some : 0 < pool.reach = omega (arith, at.has.0, at.has.1) in
          let some_other : 0 < pool_other.reach = omega (arith, at_other.has.0, at_other.has.1) in
          let h : pool.first < pool_other.first + pool_other.reach + front = omega (arith, at.address_is, at_other.address_is, at.has.0, at_other.has.0, at_other.has.1, below) in
          let h_other : pool_other.first < pool.first + pool.reach + front = omega (arith, at.address_is, at_other.address_is, at.has.0, at_other.has.0, ends, within) in
          elim pair [
            | inl pair ↦ pair.addresses some some_other h h_other
            | inr pair ↦ pair.addresses some_other some h_other h
          ])
    ] in
    elim (cases_order i j) [
      | inl same ↦
          let one_pool : pool ≡ pool_other = sym is ∙ get_or_default pools i pool pool_other live.of_pools.1 ∙ ap (λ (k : ℕ). slice_index_or pools k pool_other) same ∙ is_other in
          let at_one : IsAt pool live_other.place other = subst (λ (p : PlacedPool). IsAt p live_other.place other) (sym one_pool) at_other in
          let places : live.place < live_other.place = omega (arith, at.address_is, at_one.address_is, at.has.0, at_one.has.0, below) in
          let end = live_ends_before ptr ptr_other size (told_size other_word other) content good live.live live_other.live places in
          omega (arith, at.address_is, at_one.address_is, at.has.0, at_one.has.0, end)
      | inr differ ↦ elim differ [
        | inl before ↦
            let to : slice_index_or pools j pool ≡ pool_other = get_or_default pools j pool pool_other live_other.of_pools.1 ∙ is_other in
            overlap (inl (subst (λ (p : PlacedPool). AreApart p pool_other) is (subst (λ (p : PlacedPool). AreApart (slice_index_or pools i pool) p) to (apart i j pool before live_other.of_pools.1))))
        | inr behind ↦
            let to : slice_index_or pools i pool_other ≡ pool = get_or_default pools i pool_other pool live.of_pools.1 ∙ is in
            overlap (inr (subst (λ (p : PlacedPool). AreApart p pool) is_other (subst (λ (p : PlacedPool). AreApart (slice_index_or pools j pool_other) p) to (apart j i pool_other behind live.of_pools.1))))
      ]
    ]
