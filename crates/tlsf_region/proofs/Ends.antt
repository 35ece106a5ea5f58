-- Where blocks end: at or below the end of their pool.
use Rattle.std.proofs.Common.{◌≡◌, ℕ, ◌+◌, ◌<◌, ◌≤◌, Bool, true, List, [], ◌∷◌, ◌++◌, map, refl, sym, ◌∙◌, subst, arith, inl, inr}
use Rattle.std.specs.List.{AllByRecursion}
use Rattle.std.proofs.lemmas.Bool.{cases_Bool, eqb-true}
use Rattle.tlsf_heap.specs.Content.{Block, Pool, blocks_of, is_at, size_at}
use Rattle.tlsf_heap.specs.Counted.{range_of}
use Rattle.tlsf_heap.specs.Free.{is_live}
use Rattle.tlsf_heap.specs.Good.{Covers, AreGoodPools}
use Rattle.tlsf_heap.proofs.Content.Blocks.{Found}
use Rattle.tlsf_heap.proofs.Good.MallocIsGood.{Covers-le, all-append, IsWholeBlock, whole_in_pools}
use Rattle.tlsf_region.specs.Region.{EndBelow}

-- the first live block at a place is one of the blocks, and its size is the size there
pub live_is_there : {A : Type 0} (P : Block A → Type 0) (is_meant : A → Bool) (place : ℕ) (blocks : List (Block A)) → AllByRecursion P blocks → is_live is_meant place blocks ≡ true
    → (block : Block A) × P block × (block.place ≡ place) × (size_at place blocks ≡ block.size)
live_is_there P is_meant place [] all live = absurd (cc)
live_is_there P is_meant place (block ∷ blocks) all live = elim (cases_Bool (is_at place block)) [
  | inl here ↦
      let size : size_at place (block ∷ blocks) ≡ block.size = rw here refl in
      (block, all.0, eqb-true block.place place here, size)
  | inr elsewhere ↦
      let size : size_at place (block ∷ blocks) ≡ size_at place blocks = rw elsewhere refl in
      let same : is_live is_meant place (block ∷ blocks) ≡ is_live is_meant place blocks = rw elsewhere refl in
      let there = live_is_there P is_meant place blocks all.1 (sym same ∙ live) in
      (there.0, there.1, there.2, size ∙ there.3)
]

module _ {A : Type 0} (end : ℕ) where
  -- the block ends at or below the end
  abbrev pub IsBelow : Block A → Type 0
  IsBelow block = block.place + block.size ≤ end

  below_in_pool : (from to : ℕ) (blocks : List (Block A)) → to ≤ end → Covers from to blocks → AllByRecursion IsBelow blocks
  below_in_pool from to [] ends covers = tt
  below_in_pool from to (block ∷ blocks) ends covers =
      (omega (arith, covers.0, Covers-le (from + block.size) to blocks covers.3, ends), below_in_pool (from + block.size) to blocks ends covers.3)

  -- where good pools end there, so do their blocks
  pub below_in_pools : (from : ℕ) (pools : List (Pool A)) → AreGoodPools from pools → EndBelow end (map range_of pools) → AllByRecursion IsBelow (blocks_of pools)
  below_in_pools from [] good ends = tt
  below_in_pools from (pool ∷ pools) good ends =
      all-append IsBelow pool.blocks (blocks_of pools)
      (below_in_pool pool.base (pool.base + pool.bytes) pool.blocks ends.0 good.1.covered)
      (below_in_pools (pool.base + pool.bytes) pools good.2 ends.1)

  -- so does a live one
  pub live_is_below : (is_meant : A → Bool) (place : ℕ) (blocks : List (Block A)) → AllByRecursion IsBelow blocks → is_live is_meant place blocks ≡ true → place + size_at place blocks ≤ end
  live_is_below is_meant place blocks below live = let there = live_is_there IsBelow is_meant place blocks below live in omega (arith, there.1, there.2, there.3)

  -- the block that was found at a place
  pub found_is_below : (place : ℕ) (blocks : List (Block A)) (found : Found place blocks) → AllByRecursion IsBelow blocks → IsBelow found.block
  found_is_below place blocks found below = of found.front (subst (λ (all : List (Block A)). AllByRecursion IsBelow all) found.whole below)
    where
      of : (front : List (Block A)) → AllByRecursion IsBelow (front ++ found.block ∷ found.back) → IsBelow found.block
      of [] below = below.0
      of (block ∷ front) below = of front below.1

-- a live block isn't empty
pub live_is_positive : {A : Type 0} (is_meant : A → Bool) (place : ℕ) (pools : List (Pool A)) → AreGoodPools 0 pools → is_live is_meant place (blocks_of pools) ≡ true → 0 < size_at place (blocks_of pools)
live_is_positive is_meant place pools good live =
    let there = live_is_there IsWholeBlock is_meant place (blocks_of pools) (whole_in_pools 0 pools good) live in omega (arith, there.1.positive, there.3)
