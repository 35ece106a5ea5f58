-- Where there is room, a request for bytes is served.
use Rattle.std.proofs.Common.{◌≡◌, ◌≢◌, ℕ, zero, suc, ◌+◌, ◌-◌, ◌*◌, ◌%◌, ◌<◌, ◌≤◌, Bool, true, false, not, List, [], ◌∷◌, ◌++◌, length, refl, ap, ◌∙◌, arith, count_by, Option, Some, Ok, Err, Result, inl, inr, subst}
use Rattle.std.specs.Prelude.{IsTrue, if◌then◌else◌}
use Rattle.std.specs.List.{AllByRecursion}
use Rattle.std.proofs.lemmas.List.Elements.{recursion_from_All}
use Rattle.tlsf_class.specs.Classes.{unit, low}
use Rattle.tlsf_class.specs.Rounding.{round}
use Rattle.tlsf_class.proofs.LowestSizes.{low-unit}
use Rattle.tlsf_heap.specs.declared.refusal.Refusal.{Refusal}
use Rattle.tlsf_heap.specs.declared.refusal.Refusal.TheVariants.{BadPointer, BadAlign}
use Rattle.tlsf_heap.specs.Content.{Block, Pool, Content, blocks_of, is_free}
use Rattle.tlsf_heap.specs.Malloc.{malloc}
use Rattle.tlsf_heap.specs.OwnClass.{malloc_or_own}
use Rattle.tlsf_heap.specs.Memalign.{size_asked, memalign}
use Rattle.tlsf_heap.specs.Realloc.{realloc}
use Rattle.tlsf_heap.specs.Good.{Covers, AreGoodPools, IsGood}
use Rattle.tlsf_heap.specs.Implied.{AreFreeBelow, live_blocks}
use Rattle.tlsf_heap.specs.Room.{live_bytes, pool_bytes, HasRoomFor, HasRoom, HasRoomAligned}
use Rattle.tlsf_heap.proofs.Counts.{count-cons, one_if}
use Rattle.tlsf_heap.proofs.Content.MallocCases.{malloc_reasons}
use Rattle.tlsf_heap.proofs.Content.OwnCases.{as_malloc}
use Rattle.tlsf_heap.proofs.Content.MemalignCases.{memalign_reasons}
use Rattle.tlsf_heap.proofs.Content.ReallocCases.{realloc_reasons}
use Rattle.tlsf_heap.proofs.Good.Implied.{no_fit, malloc_full, few_blocks}
use Rattle.tlsf_heap.proofs.Good.AlignedImplied.{aligned_no_fit, aligned_full}

pub product_le : (a b c : ℕ) → a ≤ b → a * c ≤ b * c
product_le zero b c l = omega arith
product_le (suc a) zero c l = absurd (omega (arith, l))
product_le (suc a) (suc b) c l = omega (arith, product_le a b c (omega (arith, l)))

one_more : (a c : ℕ) → suc a * c ≡ c + a * c
one_more a c = omega arith

pub add_product : (a b c : ℕ) → (a + b) * c ≡ a * c + b * c
add_product zero b c = omega arith
add_product (suc a) b c = omega (arith, add_product a b c)

module _ {A : Type 0} where
  abbrev Below : ℕ → Block A → Type 0
  Below bound block = IsTrue (is_free block) → block.size < bound

  abbrev free_count : List (Block A) → ℕ
  free_count blocks = count_by (λ block. is_free block) blocks

  pub live_bytes-append : (front back : List (Block A)) → live_bytes (front ++ back) ≡ live_bytes front + live_bytes back
  live_bytes-append [] back = omega arith
  live_bytes-append (block ∷ front) back = omega (arith, live_bytes-append front back)

  -- all blocks are free or live
  free_or_live : (blocks : List (Block A)) → free_count blocks + count_by (λ block. not (is_free block)) blocks ≡ length blocks
  free_or_live [] = refl
  free_or_live (block ∷ blocks) = of (is_free block) refl (free_or_live blocks)
    where
      of : (free : Bool) → is_free block ≡ free → free_count blocks + count_by (λ b. not (is_free b)) blocks ≡ length blocks → free_count (block ∷ blocks) + count_by (λ b. not (is_free b)) (block ∷ blocks) ≡ length (block ∷ blocks)
      of true is behind = omega (arith, behind, count-cons (λ b. is_free b) block blocks, count-cons (λ b. not (is_free b)) block blocks, ap one_if is, ap (λ b. one_if (not b)) is)
      of false is behind = omega (arith, behind, count-cons (λ b. is_free b) block blocks, count-cons (λ b. not (is_free b)) block blocks, ap one_if is, ap (λ b. one_if (not b)) is)

  -- blocks that cover all hold as many bytes as the live ones, and for each free one a unit less than the bound
  covered_bytes : (bound from to : ℕ) (blocks : List (Block A)) → bound % unit ≡ 0 → Covers from to blocks → AllByRecursion (Below bound) blocks
      → to ≤ from + live_bytes blocks + free_count blocks * (bound - unit)
  covered_bytes bound from to [] units c all = omega (arith, c)
  covered_bytes bound from to (block ∷ blocks) units c all = of (is_free block) refl (covered_bytes bound (from + block.size) to blocks units c.3 all.1)
    where
      most : ℕ
      most = bound - unit

      of : (free : Bool) → is_free block ≡ free → to ≤ (from + block.size) + live_bytes blocks + free_count blocks * most → to ≤ from + live_bytes (block ∷ blocks) + free_count (block ∷ blocks) * most
      of true is behind =
          let counted : free_count (block ∷ blocks) ≡ suc (free_count blocks) = omega (arith, count-cons (λ b. is_free b) block blocks, ap one_if is) in
          let product : free_count (block ∷ blocks) * most ≡ most + free_count blocks * most = ap (λ n. n * most) counted ∙ one_more (free_count blocks) most in
          let small : block.size ≤ most = omega (arith, all.0 is, units, c.2) in
          let bytes : live_bytes (block ∷ blocks) ≡ 0 + live_bytes blocks = ap (λ b. (if b then 0 else block.size) + live_bytes blocks) is in
          omega (arith, behind, product, bytes, small)
      of false is behind =
          let counted : free_count (block ∷ blocks) ≡ free_count blocks = omega (arith, count-cons (λ b. is_free b) block blocks, ap one_if is) in
          let product : free_count (block ∷ blocks) * most ≡ free_count blocks * most = ap (λ n. n * most) counted in
          let bytes : live_bytes (block ∷ blocks) ≡ block.size + live_bytes blocks = ap (λ b. (if b then 0 else block.size) + live_bytes blocks) is in
          omega (arith, behind, product, bytes)

  free_count-append : (front back : List (Block A)) → free_count (front ++ back) ≡ free_count front + free_count back
  free_count-append [] back = omega arith
  free_count-append (block ∷ front) back = omega (arith, free_count-append front back, count-cons (λ b. is_free b) block front, count-cons (λ b. is_free b) block (front ++ back))

  pub front_of : (P : Block A → Type 0) (front back : List (Block A)) → AllByRecursion P (front ++ back) → AllByRecursion P front
  front_of P [] back all = tt
  front_of P (block ∷ front) back all = (all.0, front_of P front back all.1)

  pub back_of : (P : Block A → Type 0) (front back : List (Block A)) → AllByRecursion P (front ++ back) → AllByRecursion P back
  back_of P [] back all = all
  back_of P (block ∷ front) back all = back_of P front back all.1

  pools_bytes : (bound from : ℕ) (pools : List (Pool A)) → bound % unit ≡ 0 → AreGoodPools from pools → AllByRecursion (Below bound) (blocks_of pools)
      → pool_bytes pools ≤ live_bytes (blocks_of pools) + free_count (blocks_of pools) * (bound - unit)
  pools_bytes bound from [] units g all = omega arith
  pools_bytes bound from (pool ∷ pools) units g all =
      let most : ℕ = bound - unit in
      let here : pool.base + pool.bytes ≤ pool.base + live_bytes pool.blocks + free_count pool.blocks * most =
      covered_bytes bound pool.base (pool.base + pool.bytes) pool.blocks units g.1.covered (front_of (Below bound) pool.blocks (blocks_of pools) all) in
      let behind : pool_bytes pools ≤ live_bytes (blocks_of pools) + free_count (blocks_of pools) * most =
      pools_bytes bound (pool.base + pool.bytes) pools units g.2 (back_of (Below bound) pool.blocks (blocks_of pools) all) in
      let product : free_count (pool.blocks ++ blocks_of pools) * most ≡ free_count pool.blocks * most + free_count (blocks_of pools) * most =
      ap (λ n. n * most) (free_count-append pool.blocks (blocks_of pools)) ∙ add_product (free_count pool.blocks) (free_count (blocks_of pools)) most in
      omega (arith, here, behind, product, live_bytes-append pool.blocks (blocks_of pools))

  -- where each free block is below the lowest size of a class, the pools hold at most the live blocks, and for each of these and
  -- each pool a unit less than that size
  pub few_bytes : (c : ℕ) (content : Content A) → IsGood content → AreFreeBelow (low c) (blocks_of content.pools)
      → pool_bytes content.pools ≤ live_bytes (blocks_of content.pools) + (live_blocks content + length content.pools) * (low c - unit)
  few_bytes c content good below =
      let blocks : List (Block A) = blocks_of content.pools in
      let most : ℕ = low c - unit in
      let all : pool_bytes content.pools ≤ live_bytes blocks + free_count blocks * most =
      pools_bytes (low c) 0 content.pools (low-unit c) good.pools_good (recursion_from_All (Below (low c)) blocks below) in
      let few : free_count blocks ≤ live_blocks content + length content.pools = omega (arith, few_blocks content.pools 0 good.pools_good, free_or_live blocks) in
      omega (arith, all, product_le (free_count blocks) (live_blocks content + length content.pools) most few)

  -- where there is room, not each free block is too small
  one_fits : (asked : ℕ → ℕ) (rests n : ℕ) (content : Content A) → IsGood content → (room : HasRoomFor asked rests n content) → AreFreeBelow (low room.c) (blocks_of content.pools) → ⊥
  one_fits asked rests n content good room below = omega (arith, few_bytes room.c content good below, room.bytes)

  some_bytes : (asked : ℕ → ℕ) (rests n : ℕ) (content : Content A) → HasRoomFor asked rests n content → n ≢ 0
  some_bytes asked rests n content room nothing = let none : round 0 ≡ Some room.m = subst (λ k. round k ≡ Some room.m) nothing room.rounds in absurd (cc)

  -- so malloc finds one, and a record, and it has no other reason to refuse
  pub room_serves : (owner : A) (n : ℕ) (content : Content A) (refusal : Refusal) → IsGood content → HasRoom n content → malloc owner n content ≡ Err refusal → ⊥
  room_serves owner n content refusal good room refused = elim (malloc_reasons owner n content refusal refused) [
    | inl nothing ↦ some_bytes (λ m. m) 1 n content room nothing
    | inr (inl fit) ↦ one_fits (λ m. m) 1 n content good room (no_fit owner n content good (refused ∙ ap (λ why. Err why) fit) room.m room.c room.rounds room.needed)
    | inr (inr full) ↦ omega (arith, malloc_full owner n content good (refused ∙ ap (λ why. Err why) full), room.records)
  ]

  -- and so does the call that may take a block of their own class
  pub or_own_room_serves : (owner : A) (n : ℕ) (content : Content A) (refusal : Refusal) → IsGood content → HasRoom n content → malloc_or_own owner n content ≡ Err refusal → ⊥
  or_own_room_serves owner n content refusal good room refused = by (malloc owner n content) refl
    where
      by : (answer : Result (ℕ × Content A) Refusal) → malloc owner n content ≡ answer → ⊥
      by (Ok new) is = let same = as_malloc owner content n new is in absurd (cc)
      by (Err why) is = room_serves owner n content why good room is

  -- memalign finds both, too, and refuses a bad alignment alone
  pub aligned_room_serves : (owner : A) (align n : ℕ) (content : Content A) (refusal : Refusal) → IsGood content → HasRoomAligned align n content → memalign owner align n content ≡ Err refusal → refusal ≡ BadAlign
  aligned_room_serves owner align n content refusal good room refused = elim (memalign_reasons owner align n content refusal refused) [
    | inl bad ↦ bad
    | inr (inl nothing) ↦ absurd (some_bytes (size_asked align) 2 n content room nothing)
    | inr (inr (inl fit)) ↦ absurd (one_fits (size_asked align) 2 n content good room (aligned_no_fit owner align n content good (refused ∙ ap (λ why. Err why) fit) room.m room.c room.rounds room.needed))
    | inr (inr (inr full)) ↦ absurd (omega (arith, aligned_full owner align n content good (refused ∙ ap (λ why. Err why) full), room.records))
  ]

  -- realloc refuses a bad pointer alone
  pub realloc_room_serves : (owner : A) (same : A → A → Bool) (pointer : Option (ℕ × A)) (n : ℕ) (content : Content A) (refusal : Refusal) → IsGood content → HasRoom n content → realloc same owner pointer n content ≡ Err refusal → refusal ≡ BadPointer
  realloc_room_serves owner same pointer n content refusal good room refused = elim (realloc_reasons owner refusal same pointer n content (λ some. (room.m, room.rounds)) refused) [
    | inl asked ↦ absurd (room_serves owner n content refusal good room asked)
    | inr bad ↦ bad
  ]
