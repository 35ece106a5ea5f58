-- A live block lies in a range of the pools, and ends before the next one.
use Rattle.std.proofs.Common.{sym, ◌≡◌, ℕ, ◌+◌, ◌<◌, ◌≤◌, List, [], ◌∷◌, map, count_by, refl, ap, ◌∙◌, arith, Ok, inl, inr, Bool, true, false}
use Rattle.std.specs.Prelude.{◌==◌}
use Rattle.std.specs.List.{AllByRecursion, Contains}
use Rattle.std.proofs.lemmas.Bool.{cases_Bool, cases_lt, eqb-true, ne_eqb}
use Rattle.tlsf_heap.specs.Content.{Block, Pool, Content, blocks_of, is_at, size_at}
use Rattle.tlsf_heap.specs.Counted.{range_of}
use Rattle.tlsf_heap.specs.Free.{is_live}
use Rattle.tlsf_heap.specs.Good.{Covers, AreGoodPools, IsGood}
use Rattle.tlsf_heap.proofs.Counts.{one_if, count-cons, count-append}
use Rattle.tlsf_heap.proofs.Content.Blocks.{Ascends, Ascends-pools}
use Rattle.tlsf_heap.proofs.Good.MallocIsGood.{Covers-le, all-append}
use Rattle.tlsf_heap.specs.Pointer.{Pointer, block_size_ptr}
use Rattle.tlsf_region.proofs.Ends.{live_is_there}
use Rattle.tlsf_region.proofs.Sizes.{size_is}
use Rattle.tlsf_c.specs.Lying.{LiesIn}
use Rattle.tlsf_c.proofs.Stands.{never_stands, stands_first, stands_first_or_later, stands_later}

module _ (base end : ℕ) where
  -- a block that begins from the base on and before the end doesn't go beyond the end
  abbrev EndsThere : Block ℕ → Type 0
  EndsThere block = base ≤ block.place → block.place < end → block.place + block.size ≤ end

  -- the blocks up to the end, those before the base, and those from the end on
  there : (from to : ℕ) (blocks : List (Block ℕ)) → to ≤ end → Covers from to blocks → AllByRecursion EndsThere blocks
  there from to [] most covers = tt
  there from to (block ∷ blocks) most covers = (
    λ above below. omega (arith, covers.0, Covers-le (from + block.size) to blocks covers.3, most),
    there (from + block.size) to blocks most covers.3,
  )

  before : (from to : ℕ) (blocks : List (Block ℕ)) → to ≤ base → Covers from to blocks → AllByRecursion EndsThere blocks
  before from to [] most covers = tt
  before from to (block ∷ blocks) most covers = (
    λ above below. absurd (omega (arith, above, covers.0, covers.1, Covers-le (from + block.size) to blocks covers.3, most)),
    before (from + block.size) to blocks most covers.3,
  )

  behind : (from to : ℕ) (blocks : List (Block ℕ)) → end ≤ from → Covers from to blocks → AllByRecursion EndsThere blocks
  behind from to [] least covers = tt
  behind from to (block ∷ blocks) least covers = (
    λ above below. absurd (omega (arith, below, covers.0, least)),
    behind (from + block.size) to blocks (omega (arith, least)) covers.3,
  )

  pools_behind : (from : ℕ) (pools : List (Pool ℕ)) → end ≤ from → AreGoodPools from pools → AllByRecursion EndsThere (blocks_of pools)
  pools_behind from [] least good = tt
  pools_behind from (pool ∷ pools) least good =
      all-append EndsThere pool.blocks (blocks_of pools)
      (behind pool.base (pool.base + pool.bytes) pool.blocks (omega (arith, least, good.0)) good.1.covered)
      (pools_behind (pool.base + pool.bytes) pools (omega (arith, least, good.0)) good.2)

-- a pool of good ones begins above where they may
pub above_from : (range : ℕ × ℕ) (from : ℕ) (pools : List (Pool ℕ)) → AreGoodPools from pools → Contains (map range_of pools) range → from ≤ range.0
above_from range from [] good has = never_stands range has
above_from range from (pool ∷ pools) good has = elim (stands_first_or_later (range_of pool) range (map range_of pools) has) [
  | inl here ↦ omega (arith, good.0, ap (λ (r : ℕ × ℕ). r.0) here)
  | inr later ↦ omega (arith, good.0, above_from range (pool.base + pool.bytes) pools good.2 later)
]

-- a block that begins in a range of the pools ends there
ends_there : (range : ℕ × ℕ) (from : ℕ) (pools : List (Pool ℕ)) → AreGoodPools from pools → Contains (map range_of pools) range → AllByRecursion (EndsThere range.0 (range.0 + range.1)) (blocks_of pools)
ends_there range from [] good has = tt
ends_there range from (pool ∷ pools) good has = elim (stands_first_or_later (range_of pool) range (map range_of pools) has) [
  | inl here ↦
      let base_is : pool.base ≡ range.0 = ap (λ (r : ℕ × ℕ). r.0) here in
      let bytes_are : pool.bytes ≡ range.1 = ap (λ (r : ℕ × ℕ). r.1) here in
      all-append (EndsThere range.0 (range.0 + range.1)) pool.blocks (blocks_of pools)
      (there range.0 (range.0 + range.1) pool.base (pool.base + pool.bytes) pool.blocks (omega (arith, base_is, bytes_are)) good.1.covered)
      (pools_behind range.0 (range.0 + range.1) (pool.base + pool.bytes) pools (omega (arith, base_is, bytes_are)) good.2)
  | inr later ↦
      all-append (EndsThere range.0 (range.0 + range.1)) pool.blocks (blocks_of pools)
      (before range.0 (range.0 + range.1) pool.base (pool.base + pool.bytes) pool.blocks (above_from range (pool.base + pool.bytes) pools good.2 later) good.1.covered)
      (ends_there range (pool.base + pool.bytes) pools good.2 later)
]

-- a place where a block begins is in the range that the blocks cover
covers_has : (place from to : ℕ) (blocks : List (Block ℕ)) → Covers from to blocks → 1 ≤ count_by (is_at place) blocks → (from ≤ place) × (place < to)
covers_has place from to [] covers some = absurd (omega (arith, some))
covers_has place from to (block ∷ blocks) covers some = elim (cases_Bool (is_at place block)) [
  | inl here ↦
      let at = eqb-true block.place place here in
      let rest = Covers-le (from + block.size) to blocks covers.3 in
      (omega (arith, at, covers.0), omega (arith, at, covers.0, covers.1, rest))
  | inr elsewhere ↦
      let rest = covers_has place (from + block.size) to blocks covers.3 (omega (arith, some, count-cons (is_at place) block blocks, ap one_if elsewhere)) in
      (omega (arith, rest.0), rest.1)
]

in_a_range : (place from : ℕ) (pools : List (Pool ℕ)) → AreGoodPools from pools → 1 ≤ count_by (is_at place) (blocks_of pools)
    → (range : ℕ × ℕ) × Contains (map range_of pools) range × (range.0 ≤ place) × (place < range.0 + range.1)
in_a_range place from [] good some = absurd (omega (arith, some))
in_a_range place from (pool ∷ pools) good some = elim (cases_lt 0 (count_by (is_at place) pool.blocks)) [
  | inl here ↦
      let has = covers_has place pool.base (pool.base + pool.bytes) pool.blocks good.1.covered (omega (arith, here)) in
      (range_of pool, stands_first (range_of pool) (map range_of pools), has.0, has.1)
  | inr none ↦
      let rest = in_a_range place (pool.base + pool.bytes) pools good.2 (omega (arith, some, none, count-append (is_at place) pool.blocks (blocks_of pools))) in
      (rest.0, stands_later (range_of pool) rest.0 (map range_of pools) rest.1, rest.2, rest.3)
]

-- a block begins at the place of a live one
live_counted : (is_meant : ℕ → Bool) (place : ℕ) (blocks : List (Block ℕ)) → is_live is_meant place blocks ≡ true → 1 ≤ count_by (is_at place) blocks
live_counted is_meant place [] live = absurd (cc)
live_counted is_meant place (block ∷ blocks) live = elim (cases_Bool (is_at place block)) [
  | inl here ↦ omega (arith, count-cons (is_at place) block blocks, ap one_if here)
  | inr elsewhere ↦
      let same : is_live is_meant place (block ∷ blocks) ≡ is_live is_meant place blocks = rw elsewhere refl in
      omega (arith, count-cons (is_at place) block blocks, ap one_if elsewhere, live_counted is_meant place blocks (sym same ∙ live))
]

-- a live block lies in a range of the pools
pub live_lies : (ptr : Pointer) (size : ℕ) (content : Content ℕ) → IsGood content → block_size_ptr ptr content ≡ Ok size → LiesIn ptr.place size (map range_of content.pools)
live_lies ptr size content good e =
    let is = size_is ptr content size e in
    let counted = live_counted (λ slot. slot == ptr.slot) ptr.place (blocks_of content.pools) is.0 in
    let there = in_a_range ptr.place 0 content.pools good.pools_good counted in
    record {
      range = there.0;
      of_ranges = there.1;
      from = there.2;
      below = there.3;
      ends = λ other has above below.
          let block = live_is_there (EndsThere other.0 (other.0 + other.1)) (λ slot. slot == ptr.slot) ptr.place (blocks_of content.pools) (ends_there other 0 content.pools good.pools_good has) is.0 in
          omega (arith, is.1, block.2, block.3, block.1 (omega (arith, above, block.2)) (omega (arith, below, block.2)));
    }

-- of blocks in order, one begins at or above where they do
begins_above : (place from : ℕ) (blocks : List (Block ℕ)) → Ascends from blocks → 1 ≤ count_by (is_at place) blocks → from ≤ place
begins_above place from [] ascends some = absurd (omega (arith, some))
begins_above place from (block ∷ blocks) ascends some = elim (cases_Bool (is_at place block)) [
  | inl here ↦ omega (arith, ascends.0, eqb-true block.place place here)
  | inr elsewhere ↦
      omega (arith, ascends.0, ascends.1, begins_above place (block.place + block.size) blocks ascends.2 (omega (arith, some, count-cons (is_at place) block blocks, ap one_if elsewhere)))
]

-- the first of two ends at or before the second
ends_before : (place other from : ℕ) (blocks : List (Block ℕ)) → Ascends from blocks → 1 ≤ count_by (is_at place) blocks → 1 ≤ count_by (is_at other) blocks → place < other → place + size_at place blocks ≤ other
ends_before place other from [] ascends some some_other below = absurd (omega (arith, some))
ends_before place other from (block ∷ blocks) ascends some some_other below = elim (cases_Bool (is_at other block)) [
  | inl first ↦
      let at : block.place ≡ other = eqb-true block.place other first in
      let elsewhere : is_at place block ≡ false = ne_eqb block.place place (λ e. (omega (arith, at, e, below))) in
      let rest = begins_above place (block.place + block.size) blocks ascends.2 (omega (arith, some, count-cons (is_at place) block blocks, ap one_if elsewhere)) in
      absurd (omega (arith, rest, at, below))
  | inr later ↦
      let rest_other : 1 ≤ count_by (is_at other) blocks = omega (arith, some_other, count-cons (is_at other) block blocks, ap one_if later) in
      elim (cases_Bool (is_at place block)) [
        | inl here ↦
            let size : size_at place (block ∷ blocks) ≡ block.size = rw here refl in
            omega (arith, size, eqb-true block.place place here, begins_above other (block.place + block.size) blocks ascends.2 rest_other)
        | inr elsewhere ↦
            let size : size_at place (block ∷ blocks) ≡ size_at place blocks = rw elsewhere refl in
            omega (arith, size, ends_before place other (block.place + block.size) blocks ascends.2 (omega (arith, some, count-cons (is_at place) block blocks, ap one_if elsewhere)) rest_other below)
      ]
]

-- the first of two live blocks ends at or before the second
pub live_ends_before : (ptr other : Pointer) (size other_size : ℕ) (content : Content ℕ) → IsGood content → block_size_ptr ptr content ≡ Ok size → block_size_ptr other content ≡ Ok other_size → ptr.place < other.place → ptr.place + size ≤ other.place
live_ends_before ptr other size other_size content good e e_other below =
    let is = size_is ptr content size e in
    let is_other = size_is other content other_size e_other in
    omega (
      arith,
      is.1,
      ends_before ptr.place other.place 0 (blocks_of content.pools) (Ascends-pools 0 content.pools good.pools_good)
          (live_counted (λ slot. slot == ptr.slot) ptr.place (blocks_of content.pools) is.0) (live_counted (λ slot. slot == other.slot) other.place (blocks_of content.pools) is_other.0) below,
    )
