-- What calls make of the number of live blocks and of their bytes.
use Rattle.std.proofs.Common.{◌≡◌, ℕ, zero, suc, ◌+◌, ◌*◌, ◌<◌, ◌≤◌, Bool, true, false, not, ◌&&◌, List, [], ◌∷◌, length, refl, sym, ap, ◌∙◌, subst, arith, find, count_by, Option, Some, None, Ok, Err, inl, inr}
use Rattle.std.specs.Prelude.{◌==◌, ⊤, nat_lt, if◌then◌else◌}
use Rattle.std.specs.List.{AllByRecursion, Contains}
use Rattle.std.proofs.lemmas.Bool.{cases_Bool, cases_lt, eq-eqb, eqb-true, ne_eqb, lt-ltb, le-ltb, and_parts, and_left, and_right}
use Rattle.std.proofs.lemmas.List.Elements.{All-contains, All-from_recursion}
use Rattle.tlsf_class.specs.Classes.{greatest_size}
use Rattle.tlsf_class.proofs.RoundingLaws.{round-Some}
use Rattle.tlsf_heap.specs.Content.{Block, Pool, Content, blocks_of, is_free, is_at, size_at}
use Rattle.tlsf_heap.specs.Free.{is_live, after_free}
use Rattle.tlsf_heap.specs.Good.{Covers, AreGoodPools, IsGood}
use Rattle.tlsf_heap.specs.Implied.{live_blocks}
use Rattle.tlsf_heap.specs.Malloc.{gap, malloc}
use Rattle.tlsf_heap.specs.Realloc.{resized, realloc}
use Rattle.tlsf_heap.specs.declared.refusal.Refusal.TheVariants.{PoolInUse}
use Rattle.tlsf_heap.specs.Pools.{most_pools, add_pool, with_pool, is_based, is_unused, remove_found, remove_pool, without_pool}
use Rattle.tlsf_heap.proofs.Content.PoolCases.{pool_added}
use Rattle.tlsf_heap.proofs.Good.RemovedPool.{others, removed, one_block, without_pool_is_good}
use Rattle.tlsf_heap.specs.Room.{live_bytes}
use Rattle.tlsf_heap.proofs.Good.Room.{live_bytes-append}
use Rattle.tlsf_heap.proofs.Counts.{one_if, count-cons}
use Rattle.tlsf_heap.proofs.Content.Given.{IsInPlace, realloc_left}
use Rattle.tlsf_heap.proofs.Good.GivenSizes.{found_counted}
use Rattle.tlsf_heap.proofs.Good.LiveBlocks.{none_stands, stands_first_or_later, live_here, size_here}
use Rattle.tlsf_heap.proofs.Good.MallocIsGood.{IsWholeBlock, whole_in_pools, malloc_is_good, count_by-pools, add_pool_is_good}
use Rattle.tlsf_heap.proofs.Good.StaysLive.{Gives, malloc_gives, live_given, live_through_malloc, given_elsewhere}
use Rattle.tlsf_heap.proofs.Meaning.BlockPositions.{BlockPosition, filled_pools, count-filled_pools}
use Rattle.tlsf_heap.proofs.Meaning.FreedIsGood.{owned_is_live, at_live, counts_freed, freed_counts, freed_is_good}
use Rattle.tlsf_heap.proofs.Meaning.Gaps.{FailsOnFree, gap_counts}
use Rattle.tlsf_heap.proofs.Meaning.ResizedIsGood.{counts_resized, resized_is_good}

module _ {A : Type 0} where
  -- some live blocks went and others came: a test that no free block passes tells it
  abbrev pub Changed : (gone came old new : List (Block A)) → Type 0
  Changed gone came old new = (test : Block A → Bool) → FailsOnFree test → count_by test new + count_by test gone ≡ count_by test old + count_by test came

  -- whether the block is live and has more than k bytes
  abbrev is_above : ℕ → Block A → Bool
  is_above k block = not (is_free block) && nat_lt k block.size

  above_fails : (k : ℕ) → FailsOnFree (is_above k)
  above_fails k block free = ap (λ b. not b && nat_lt k block.size) free

  -- the bytes of live blocks: for each number below n, how many have more
  abbrev above : ℕ → List (Block A) → ℕ
  above zero blocks = 0
  above (suc k) blocks = count_by (is_above k) blocks + above k blocks

  above_changed : (n : ℕ) (gone came old new : List (Block A)) → Changed gone came old new → above n new + above n gone ≡ above n old + above n came
  above_changed zero gone came old new changed = refl
  above_changed (suc k) gone came old new changed = omega (arith, changed (is_above k) (above_fails k), above_changed k gone came old new changed)

  above_none : (n : ℕ) (blocks : List (Block A)) → blocks ≡ [] → above n blocks ≡ 0
  above_none zero blocks none = refl
  above_none (suc k) blocks none = omega (arith, ap (count_by (is_above k)) none, above_none k blocks none)

  above_cons : (n : ℕ) (block : Block A) (blocks : List (Block A)) → above n (block ∷ blocks) ≡ above n (block ∷ []) + above n blocks
  above_cons zero block blocks = refl
  above_cons (suc k) block blocks = omega (arith, count-cons (is_above k) block blocks, count-cons (is_above k) block [], above_cons k block blocks)

  above_free : (n : ℕ) (block : Block A) → is_free block ≡ true → above n (block ∷ []) ≡ 0
  above_free zero block free = refl
  above_free (suc k) block free = omega (arith, count-cons (is_above k) block [], ap one_if (above_fails k block free), above_free k block free)

  above_part : (n : ℕ) (block : Block A) → is_free block ≡ false → n ≤ block.size → above n (block ∷ []) ≡ n
  above_part zero block live part = refl
  above_part (suc k) block live part =
      let passes : is_above k block ≡ true = ap (λ b. not b && nat_lt k block.size) live ∙ lt-ltb k block.size part in
      omega (arith, count-cons (is_above k) block [], ap one_if passes, above_part k block live (omega (arith, part)))

  above_live : (n : ℕ) (block : Block A) → is_free block ≡ false → block.size ≤ n → above n (block ∷ []) ≡ block.size
  above_live zero block live small = omega (arith, small)
  above_live (suc k) block live small = elim (cases_lt k block.size) [
    | inl all ↦ omega (arith, small, all, above_part (suc k) block live all)
    | inr smaller ↦
        let fails : is_above k block ≡ false = ap (λ b. not b && nat_lt k block.size) live ∙ le-ltb k block.size smaller in
        omega (arith, count-cons (is_above k) block [], ap one_if fails, above_live k block live smaller)
  ]

  abbrev AreSmall : ℕ → List (Block A) → Type 0
  AreSmall n blocks = AllByRecursion (λ block. block.size ≤ n) blocks

  above_is : (n : ℕ) (blocks : List (Block A)) → AreSmall n blocks → above n blocks ≡ live_bytes blocks
  above_is n [] small = above_none n [] refl
  above_is n (block ∷ blocks) small = elim (cases_Bool (is_free block)) [
    | inl free ↦
        let rest : live_bytes (block ∷ blocks) ≡ 0 + live_bytes blocks = ap (λ b. (if b then 0 else block.size) + live_bytes blocks) free in
        omega (arith, above_cons n block blocks, above_free n block free, above_is n blocks small.1, rest)
    | inr live ↦
        let rest : live_bytes (block ∷ blocks) ≡ block.size + live_bytes blocks = ap (λ b. (if b then 0 else block.size) + live_bytes blocks) live in
        omega (arith, above_cons n block blocks, above_live n block live small.0, above_is n blocks small.1, rest)
  ]

  bytes_changed : (n : ℕ) (gone came old new : List (Block A)) → AreSmall n gone → AreSmall n came → AreSmall n old → AreSmall n new → Changed gone came old new → live_bytes new + live_bytes gone ≡ live_bytes old + live_bytes came
  bytes_changed n gone came old new small_gone small_came small_old small_new changed =
      omega (arith, above_changed n gone came old new changed, above_is n gone small_gone, above_is n came small_came, above_is n old small_old, above_is n new small_new)

  small_if_whole : (blocks : List (Block A)) → AllByRecursion IsWholeBlock blocks → AreSmall greatest_size blocks
  small_if_whole [] all = tt
  small_if_whole (block ∷ blocks) all = (all.0.at_most, small_if_whole blocks all.1)

  small_in : (content : Content A) → IsGood content → AreSmall greatest_size (blocks_of content.pools)
  small_in content good = small_if_whole (blocks_of content.pools) (whole_in_pools 0 content.pools good.pools_good)

  one_live : (block : Block A) → is_free block ≡ false → live_bytes (block ∷ []) ≡ block.size
  one_live block live = let is : live_bytes (block ∷ []) ≡ block.size + 0 = ap (λ b. (if b then 0 else block.size) + 0) live in omega (arith, is)

  live_counted : (block : Block A) → is_free block ≡ false → count_by (λ (b : Block A). not (is_free b)) (block ∷ []) ≡ 1
  live_counted block live = omega (arith, count-cons (λ (b : Block A). not (is_free b)) block [], ap (λ f. one_if (not f)) live)

  -- a live block of these bytes at the place
  abbrev is_sized_at : ℕ → ℕ → Block A → Bool
  is_sized_at place size block = not (is_free block) && (is_at place block && (block.size == size))

  sized_fails : (place size : ℕ) → FailsOnFree (is_sized_at place size)
  sized_fails place size block free = ap (λ b. not b && (is_at place block && (block.size == size))) free

  sized_passes : (place size : ℕ) (block : Block A) → is_free block ≡ false → block.place ≡ place → block.size ≡ size → is_sized_at place size block ≡ true
  sized_passes place size block live here same = rw (live, eq-eqb block.place place here, eq-eqb block.size size same) refl

  -- where one is counted it is the size that is told of the place
  pub size_counted : (place size : ℕ) (content : Content A) → IsGood content → 1 ≤ count_by (is_sized_at place size) (blocks_of content.pools) → (size_at place (blocks_of content.pools) ≡ size) × (size ≤ greatest_size)
  size_counted place size content good some =
      let found = found_counted (is_sized_at place size) (blocks_of content.pools) some in
      let parts = and_parts _ _ (and_parts (not (is_free found.0)) (is_at place found.0 && (found.0.size == size)) found.2).1 in
      let same : found.0.size ≡ size = eqb-true found.0.size size parts.1 in
      let most = All-contains IsWholeBlock (blocks_of content.pools) found.0 (All-from_recursion IsWholeBlock (blocks_of content.pools) (whole_in_pools 0 content.pools good.pools_good)) found.1 in
      (sym (size_here place content found.0 good found.1 (eqb-true found.0.place place parts.0)) ∙ same, omega (arith, same, most.at_most))

  stands_counted : (test : Block A → Bool) (blocks : List (Block A)) (block : Block A) → Contains blocks block → test block ≡ true → 1 ≤ count_by test blocks
  stands_counted test [] block has passes = none_stands block has
  stands_counted test (first ∷ blocks) block has passes = elim (stands_first_or_later first block blocks has) [
    | inl same ↦ omega (arith, count-cons test first blocks, ap one_if (ap test same ∙ passes))
    | inr later ↦ omega (arith, count-cons test first blocks, stands_counted test blocks block later passes)
  ]

  -- a live block is counted with its size
  sized_there : (is_meant : A → Bool) (place : ℕ) (content : Content A) → IsGood content → is_live is_meant place (blocks_of content.pools) ≡ true → 1 ≤ count_by (is_sized_at place (size_at place (blocks_of content.pools))) (blocks_of content.pools)
  sized_there is_meant place content good live =
      let there = live_here is_meant place content live in
      let size = size_here place content there.0 good there.1 there.2 in
      stands_counted (is_sized_at place (size_at place (blocks_of content.pools))) (blocks_of content.pools) there.0 there.1 (sized_passes place (size_at place (blocks_of content.pools)) there.0 there.3 there.2 size)

  module _ (owner : A) (place : ℕ) (old new : Content A) (good : IsGood old) (good_new : IsGood new) (gives : Gives owner place old new) where
    abbrev given_block : Block A
    given_block = record { place = place; size = gives.size; owner = Some owner }

    given_size : (size_at place (blocks_of new.pools) ≡ gives.size) × (gives.size ≤ greatest_size)
    given_size =
        let passes = sized_passes place gives.size given_block refl refl refl in
        size_counted place gives.size new good_new (omega (arith, gives.counts (is_sized_at place gives.size) (sized_fails place gives.size), ap one_if passes))

    -- a block that is given comes to the live ones
    pub given_bytes : live_bytes (blocks_of new.pools) ≡ live_bytes (blocks_of old.pools) + size_at place (blocks_of new.pools)
    given_bytes =
        let changed : Changed [] (given_block ∷ []) (blocks_of old.pools) (blocks_of new.pools) = λ test fails. (omega (arith, gives.counts test fails, count-cons test given_block [])) in
        omega (arith, given_size.0, bytes_changed greatest_size [] (given_block ∷ []) (blocks_of old.pools) (blocks_of new.pools) tt (given_size.1, tt) (small_in old good) (small_in new good_new) changed, one_live given_block refl)

    pub given_blocks : live_blocks new ≡ live_blocks old + 1
    given_blocks = omega (arith, gives.counts (λ (b : Block A). not (is_free b)) (λ block free. ap not free))

    -- and a live block elsewhere keeps its size
    pub size_kept : (is_meant : A → Bool) (p : ℕ) → is_live is_meant p (blocks_of old.pools) ≡ true → size_at p (blocks_of new.pools) ≡ size_at p (blocks_of old.pools)
    size_kept is_meant p live =
        let size : ℕ = size_at p (blocks_of old.pools) in
        (size_counted p size new good_new (omega (arith, gives.counts (is_sized_at p size) (sized_fails p size), sized_there is_meant p old good live))).0

  -- a block at its position is counted with its size
  at_position : (content : Content A) (position : BlockPosition A) (block : Block A) (blocks : List (Block A)) → is_free block ≡ false → IsGood (record content { pools = filled_pools position (block ∷ blocks) })
      → (size_at block.place (blocks_of (filled_pools position (block ∷ blocks))) ≡ block.size) × (block.size ≤ greatest_size)
  at_position content position block blocks live good =
      let test : Block A → Bool = is_sized_at block.place block.size in
      let passes = sized_passes block.place block.size block live refl refl in
      size_counted block.place block.size (record content { pools = filled_pools position (block ∷ blocks) }) good (omega (arith, count-filled_pools test position (block ∷ blocks), count-cons test block blocks, ap one_if passes))

  -- a block that is freed goes from them
  module _ (is_meant : A → Bool) (place : ℕ) (content : Content A) (good : IsGood content) (live : is_live is_meant place (blocks_of content.pools) ≡ true) where
    abbrev IsLess : ℕ → Content A → Type 0
    IsLess p x =
        (live_bytes (blocks_of (after_free p x).pools) + size_at p (blocks_of x.pools) ≡ live_bytes (blocks_of x.pools)) × (live_blocks (after_free p x) + 1 ≡ live_blocks x)

    pub freed_less : IsLess place content
    freed_less =
        at_live is_meant place content (λ p x. IsGood (after_free p x) → IsLess p x) good live
        (λ position block blocks owned g after.
        let x : Content A = record content { pools = filled_pools position (block ∷ blocks) } in
        let is_live_one = owned_is_live is_meant block.owner owned in
        let there = at_position content position block blocks is_live_one g in
        let counted = counts_freed content.records position block blocks content.lists g is_live_one in
        let changed : Changed (block ∷ []) [] (blocks_of x.pools) (blocks_of (after_free block.place x).pools) = λ test fails. (omega (arith, counted test fails, count-cons test block [])) in (
          omega (arith, there.0, bytes_changed greatest_size (block ∷ []) [] (blocks_of x.pools) (blocks_of (after_free block.place x).pools) (there.1, tt) tt (small_in x g) (small_in (after_free block.place x) after) changed, one_live block is_live_one),
          omega (arith, counted (λ (b : Block A). not (is_free b)) (λ b free. ap not free), ap (λ f. one_if (not f)) is_live_one),
        ))
        (freed_is_good is_meant place content good live)

    -- one that gets other bytes in its place has these
    module _ (owner : A) (m : ℕ) (most : m ≤ greatest_size) (good_new : IsGood (resized owner place m content)) where
      abbrev IsOther : ℕ → Content A → Type 0
      IsOther p x =
          (live_bytes (blocks_of (resized owner p m x).pools) + size_at p (blocks_of x.pools) ≡ live_bytes (blocks_of x.pools) + m)
          × (live_blocks (resized owner p m x) ≡ live_blocks x)
          × (size_at p (blocks_of (resized owner p m x).pools) ≡ m)

      pub resized_other : IsOther place content
      resized_other =
          at_live is_meant place content (λ p x. IsGood (resized owner p m x) → IsOther p x) good live
          (λ position block blocks owned g after.
          let x : Content A = record content { pools = filled_pools position (block ∷ blocks) } in
          let is_live_one = owned_is_live is_meant block.owner owned in
          let there = at_position content position block blocks is_live_one g in
          let came : Block A = record { place = block.place; size = m; owner = Some owner } in
          let counted = counts_resized owner m block blocks content.lists content.records position g in
          let changed : Changed (block ∷ []) (came ∷ []) (blocks_of x.pools) (blocks_of (resized owner block.place m x).pools) = λ test fails. (omega (arith, counted test fails, count-cons test block [], count-cons test came [])) in
          let test : Block A → Bool = is_sized_at block.place m in
          let passes = sized_passes block.place m came refl refl refl in (
            omega (arith, there.0, bytes_changed greatest_size (block ∷ []) (came ∷ []) (blocks_of x.pools) (blocks_of (resized owner block.place m x).pools) (there.1, tt) (most, tt) (small_in x g) (small_in (resized owner block.place m x) after) changed, one_live block is_live_one, one_live came refl),
            omega (arith, counted (λ (b : Block A). not (is_free b)) (λ b free. ap not free), ap (λ f. one_if (not f)) is_live_one),
            (size_counted block.place m (resized owner block.place m x) after (omega (
              arith,
              counted test (sized_fails block.place m),
              ap one_if passes,
              count-filled_pools test position (block ∷ blocks),
              count-cons test block blocks,
            ))).0,
          ))
          good_new

  -- what realloc of a live block leaves, where it gives one
  module _ (same : A → A → Bool) (owner known : A) (place n : ℕ) (content : Content A) (reflexive : (a : A) → same a a ≡ true) (good : IsGood content) where
    abbrev meant : A → A → Bool
    meant a other = same other a

    abbrev pub IsResizedTo : Option (ℕ × A) → Content A → Type 0
    IsResizedTo None new = ⊤
    IsResizedTo (Some given) new =
        (live_bytes (blocks_of new.pools) + size_at place (blocks_of content.pools) ≡ live_bytes (blocks_of content.pools) + size_at given.0 (blocks_of new.pools))
        × (live_blocks new ≡ live_blocks content)

    in_place : (m : ℕ) → is_live (meant known) place (blocks_of content.pools) ≡ true → IsInPlace same owner known place n content m → IsResizedTo (Some (place, known)) (resized known place m content)
    in_place m live is =
        let size = round-Some n m is.rounds in
        let positive : 0 < m = omega (arith, size.some, size.least) in
        let after = resized_is_good (meant known) known place m content good live positive size.whole is.fits is.other in
        let other = resized_other (meant known) place content good live known m size.within after in
        (omega (arith, other.0, other.2), other.1)

    elsewhere : (given : ℕ × Content A) → is_live (meant known) place (blocks_of content.pools) ≡ true → malloc owner n content ≡ Ok given → IsResizedTo (Some (given.0, owner)) (after_free place given.1)
    elsewhere given live is =
        let good_mid = malloc_is_good owner n content given good is in
        let gives = malloc_gives owner n given.0 content given.1 good is in
        let still = live_through_malloc (meant known) owner place n given.0 content given.1 good live is in
        let apart = given_elsewhere (meant known) owner place n given.0 content given.1 good live is in
        let less = freed_less (meant known) place given.1 good_mid still in
        let kept = size_kept owner given.0 content given.1 good good_mid gives (meant known) place live in
        let size : ℕ = size_at given.0 (blocks_of given.1.pools) in
        let there = sized_there (meant owner) given.0 given.1 good_mid (live_given (meant owner) owner n given.0 content given.1 good is (reflexive owner)) in
        let test : Block A → Bool = is_sized_at given.0 size in
        let counted = freed_counts (meant known) place given.1 good_mid still test (sized_fails given.0 size) (λ block here.
        and_right (not (is_free block)) _ (and_left (is_at given.0 block) _ (ne_eqb block.place given.0 (λ e. apart (sym e ∙ eqb-true block.place place here))))) in
        let now = (size_counted given.0 size (after_free place given.1) (freed_is_good (meant known) place given.1 good_mid still) (omega (arith, counted, there))).0 in
        (omega (arith, less.0, given_bytes owner given.0 content given.1 good good_mid gives, kept, now), omega (arith, less.1, given_blocks owner given.0 content given.1 good good_mid gives))

    pub realloc_figures : (answer : Option (ℕ × A) × Content A) → realloc same owner (Some (place, known)) n content ≡ Ok answer → IsResizedTo answer.0 answer.1
    realloc_figures =
        realloc_left same owner known place n content (λ answer. IsResizedTo answer.0 answer.1)
        (λ live nothing. tt)
        (λ live some. (refl, refl))
        (λ m live some is. in_place m live is)
        (λ given live some is. elsewhere given live is)

  -- the live blocks have at most as many bytes as eight pools can have
  covered_live : (from to : ℕ) (blocks : List (Block A)) → Covers from to blocks → from + live_bytes blocks ≤ to
  covered_live from to [] covers = omega (arith, covers)
  covered_live from to (block ∷ blocks) covers = elim (cases_Bool (is_free block)) [
    | inl free ↦
        let rest : live_bytes (block ∷ blocks) ≡ 0 + live_bytes blocks = ap (λ b. (if b then 0 else block.size) + live_bytes blocks) free in
        omega (arith, rest, covered_live (from + block.size) to blocks covers.3)
    | inr live ↦
        let rest : live_bytes (block ∷ blocks) ≡ block.size + live_bytes blocks = ap (λ b. (if b then 0 else block.size) + live_bytes blocks) live in
        omega (arith, rest, covered_live (from + block.size) to blocks covers.3)
  ]

  live_in_pools : (from : ℕ) (pools : List (Pool A)) → AreGoodPools from pools → live_bytes (blocks_of pools) ≤ length pools * greatest_size
  live_in_pools from [] good = omega arith
  live_in_pools from (pool ∷ pools) good = omega (
    arith,
    live_bytes-append pool.blocks (blocks_of pools),
    covered_live pool.base (pool.base + pool.bytes) pool.blocks good.1.covered,
    good.1.most_bytes,
    live_in_pools (pool.base + pool.bytes) pools good.2,
  )

  pub live_most : (content : Content A) → IsGood content → live_bytes (blocks_of content.pools) ≤ most_pools * greatest_size
  live_most content good = omega (arith, live_in_pools 0 content.pools good.pools_good, good.pools_few)

  -- where a pool comes or goes no live block does
  abbrev pub AreSameFigures : (old new : Content A) → Type 0
  AreSameFigures old new = (live_bytes (blocks_of new.pools) ≡ live_bytes (blocks_of old.pools)) × (live_blocks new ≡ live_blocks old)

  same_figures : (old new : Content A) → IsGood old → IsGood new → Changed [] [] (blocks_of old.pools) (blocks_of new.pools) → AreSameFigures old new
  same_figures old new good good_new changed = (
    omega (arith, bytes_changed greatest_size [] [] (blocks_of old.pools) (blocks_of new.pools) tt tt (small_in old good) (small_in new good_new) changed),
    omega (arith, changed (λ (b : Block A). not (is_free b)) (λ b free. ap not free)),
  )

  pub add_pool_figures : (base bytes : ℕ) (content new : Content A) → IsGood content → add_pool base bytes content ≡ Ok new → AreSameFigures content new
  add_pool_figures base bytes content new good e =
      let added = pool_added base bytes content new e in
      let pool : Pool A = record { base = base; bytes = bytes; blocks = gap base bytes } in
      subst (AreSameFigures content) added.is (same_figures content (with_pool base bytes content) good (add_pool_is_good base bytes content (with_pool base bytes content) good (e ∙ ap Ok (sym added.is)))
      (λ test fails. omega (arith, count_by-pools test pool content.pools, gap_counts test fails base bytes)))

  pub remove_pool_figures : (base : ℕ) (content new : Content A) → IsGood content → remove_pool base content ≡ Ok new → AreSameFigures content new
  remove_pool_figures base content new good = by (find (is_based base) content.pools) refl
    where
      by : (found : Option (Pool A)) → find (is_based base) content.pools ≡ found → remove_found found content ≡ Ok new → AreSameFigures content new
      by None none e = absurd (cc)
      by (Some pool) there e = elim (cases_Bool (is_unused pool)) [
        | inr used ↦ let refused : remove_found (Some pool) content ≡ Err PoolInUse = rw used refl in absurd (cc)
        | inl unused ↦
            let is : remove_found (Some pool) content ≡ Ok (without_pool pool content) = rw unused refl in
            let gone = removed base 0 content.pools pool good.pools_good there in
            let one = one_block pool gone.good unused in
            let same : others {A = A} base content.pools ≡ others pool.base content.pools = ap (λ b. others {A = A} b content.pools) (sym gone.based) in
            let left : without_pool pool content ≡ new = cc in
            subst (AreSameFigures content) left (same_figures content (without_pool pool content) good (without_pool_is_good base pool content good there unused)
            (λ test fails. omega (
              arith,
              gone.left test,
              ap (λ pools. count_by test (blocks_of pools)) same,
              ap (count_by test) one.1,
              count-cons test one.0 [],
              ap one_if (fails one.0 one.2),
            )))
      ]
