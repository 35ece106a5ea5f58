-- A live block that gets another size in its place keeps a content good.
use Rattle.std.proofs.Common.{◌≡◌, ℕ, ◌+◌, ◌-◌, ◌%◌, ◌<◌, ◌≤◌, Bool, true, false, ◌&&◌, List, ◌∷◌, ◌++◌, length, map, refl, ap, ◌∙◌, subst, arith, count_by, Option, Some, ◌≢◌, cond, sym, None, inl, inr, length-append, []}
use Rattle.std.specs.Prelude.{◌==◌, ◌||◌, is_some, nat_lt, nat_le}
use Rattle.tlsf_class.specs.Classes.{unit, classes, class, greatest_size}
use Rattle.tlsf_heap.specs.Content.{Block, Content, blocks_of, is_free, is_at, size_at}
use Rattle.tlsf_heap.specs.Lists.{list_of}
use Rattle.tlsf_heap.specs.Malloc.{link_gap, split, replaced_in}
use Rattle.tlsf_heap.specs.Free.{if_free, free_next, unlink_block, without_block, size_of, is_owned_by, is_live}
use Rattle.tlsf_heap.specs.Realloc.{size_with_next, fits_in_place, resized}
use Rattle.tlsf_heap.specs.Pools.{end_of_places}
use Rattle.tlsf_heap.proofs.Good.MallocIsGood.{Covers-le}
use Rattle.tlsf_heap.specs.Good.{Covers, NoFreeNeighbours, times, is_listed, IsGood}
use Rattle.tlsf_heap.proofs.Content.FreeLists.{count_listed-split, times-link_gap, length-link_gap}
use Rattle.tlsf_heap.proofs.Counts.{one_if, count-cons, count-append, count_all}
use Rattle.tlsf_heap.proofs.Meaning.BlockPositions.{BlockPosition, pool_at, filled_pools, count-filled_pools, IsAlone, block_alone, replaced_at, back_at, size_here}
use Rattle.tlsf_heap.proofs.Meaning.FreeFirst.{begins_once, past_free, free_first, is_first_free, few_past, kept_past, once_past, past_apart, count_past, times-unlink_block, length-unlink_block, covers_behind, without_next, next_once}
use Rattle.tlsf_heap.proofs.Meaning.Gaps.{FailsOnFree, split_counts, covers_split, apart_split, length-split_most}
use Rattle.tlsf_heap.proofs.Meaning.Refilled.{refilled_is_good}
use Rattle.std.proofs.lemmas.Bool.{cases_Bool, eq-eqb, eqb-true, or_cases, ltb-true, ltb-false, leb-true}
use Rattle.tlsf_heap.proofs.Meaning.FreedIsGood.{owned_is_live, at_live, good_behind, within_plug}
use Rattle.tlsf_heap.specs.GoodSlots.{is_slot, HasGoodSlots}
use Rattle.tlsf_heap.proofs.Good.Slots.{slot_times-append, slot_times-split, slots_fewer}

module _ {A : Type 0} where
  module _ (owner : A) (m : ℕ) (block : Block A) (blocks : List (Block A)) (lists : List (List ℕ)) where
    abbrev next : Option (Block A)
    next = free_first blocks

    abbrev size : ℕ
    size = block.size + size_of next

    abbrev news : List (Block A)
    news = split owner block.place m size ++ past_free blocks

    abbrev new_lists : List (List ℕ)
    new_lists = link_gap (block.place + m) (size - m) (unlink_block next lists)

    covers : 0 < m → m % unit ≡ 0 → m ≤ size → (from to : ℕ) → Covers from to (block ∷ blocks) → Covers from to news
    covers some whole fits from to c = let one = covers_behind block blocks from to c in covers_split owner from to block.place m size (past_free blocks) c.0 some whole fits one.2 one.3

    apart : is_free block ≡ false → (was : Bool) → NoFreeNeighbours was (block ∷ blocks) → NoFreeNeighbours was news
    apart live was n = let P : Bool → Type 0 = λ f. NoFreeNeighbours f blocks in apart_split owner block.place m size was (past_free blocks) (past_apart blocks (subst P live n.1))

    listed : is_free block ≡ false → length lists ≡ classes → ((other : Block A) → next ≡ Some other → times other.place (list_of (class other.size) lists) ≡ 1) → (q p : ℕ)
        → times p (list_of q new_lists) + count_by (is_listed q p) (block ∷ blocks) ≡ times p (list_of q lists) + count_by (is_listed q p) news
    listed live full once q p =
        let kind : Block A → Bool = is_listed q p in
        omega (
          arith,
          times-link_gap (unlink_block next lists) (length-unlink_block lists full next) q p (block.place + m) (size - m),
          times-unlink_block lists full next once q p,
          count_past q p blocks,
          count-cons kind block blocks,
          ap (λ b. one_if (b && (is_at p block && (class block.size == q)))) live,
          count-append kind (split owner block.place m size) (past_free blocks),
          count_listed-split owner q p block.place m size,
        )

    module _ (records : ℕ) (position : BlockPosition A) (good : IsGood (record { records = records; pools = filled_pools position (block ∷ blocks); lists = lists })) where
      abbrev old : Content A
      old = record { records = records; pools = filled_pools position (block ∷ blocks); lists = lists }

      abbrev new : Content A
      new = record { records = records; pools = filled_pools position news; lists = new_lists }

      once_here : (place : ℕ) → count_by (is_at place) (blocks_of (filled_pools position (block ∷ blocks))) ≤ 1
      once_here = begins_once old good

      -- the content, where this is the next block and this is the size
      abbrev after : Option (Block A) → ℕ → Content A
      after o n = record old {
        pools = map (replaced_in block.place (split owner block.place m (n + size_of o))) (without_block o (filled_pools position (block ∷ blocks)));
        lists = link_gap (block.place + m) ((n + size_of o) - m) (unlink_block o lists);
      }

      pub resized_is : resized owner block.place m old ≡ new
      resized_is =
          let alone : IsAlone position block blocks = block_alone position block blocks once_here in
          let next_is : free_next block.place old ≡ next = ap if_free (back_at position block blocks alone) in
          let by_pools : (after next block.size).pools ≡ new.pools =
          ap (map (replaced_in block.place (split owner block.place m size))) (without_next position block blocks once_here)
          ∙ replaced_at position block (past_free blocks) (block_alone position block (past_free blocks) (once_past position block blocks once_here)) (split owner block.place m size) in
          ap (λ o. after o (size_at block.place (blocks_of old.pools))) next_is
          ∙ ap (after next) (size_here position block blocks alone)
          ∙ ap (λ pools. record new { pools = pools }) by_pools

      -- a test that no free block passes counts the resized one for the block, and all else as before
      pub counts_resized : (test : Block A → Bool) → FailsOnFree test → count_by test (blocks_of (resized owner block.place m old).pools) + one_if (test block) ≡ count_by test (blocks_of old.pools) + one_if (test (record { place = block.place; size = m; owner = Some owner }))
      counts_resized test fails =
          omega (
            arith,
            ap (λ (x : Content A). count_by test (blocks_of x.pools)) resized_is,
            count-filled_pools test position (block ∷ blocks),
            count-filled_pools test position news,
            count-cons test block blocks,
            count-append test (split owner block.place m size) (past_free blocks),
            split_counts test fails owner block.place m size,
            kept_past test fails blocks,
          )

      new_is_good : is_free block ≡ false → 0 < m → m % unit ≡ 0 → m ≤ size → length (blocks_of (filled_pools position news)) ≤ records → IsGood new
      new_is_good live some whole fits few =
          refilled_is_good records position (block ∷ blocks) news lists new_lists (record {
            covers = covers some whole fits;
            apart = apart live (is_first_free position.before);
            full = length-link_gap (unlink_block next lists) (length-unlink_block lists good.lists_count next) (block.place + m) (size - m);
            listed = (λ q p within. listed live good.lists_count (next_once records position block blocks lists good) q p);
          }) few good

      -- as many blocks as before, or one more where no free one is behind and a record is left
      past_length : (others : List (Block A)) → length (past_free others) + cond (is_some (free_first others)) 1 0 ≡ length others
      past_length [] = refl
      past_length (b ∷ others) = elim (is_free b) as (λ f. length (cond f others (b ∷ others)) + cond (is_some (cond f (Some b) None)) 1 0 ≡ length (b ∷ others)) [ true ↦ omega arith | false ↦ omega arith ]

      few_after : (is_some next || nat_lt (length (blocks_of old.pools)) records) ≡ true → length (blocks_of (filled_pools position news)) ≤ records
      few_after room =
          let all : Block A → Bool = λ b. true in
          let before = count-filled_pools all position (block ∷ blocks) in
          let behind = count-filled_pools all position news in
          let parts = count_all news in
          let old_count = count_all (blocks_of old.pools) in
          let new_count = count_all (blocks_of (filled_pools position news)) in
          let both = length-append (split owner block.place m size) (past_free blocks) in
          let past = past_length blocks in
          elim (or_cases (is_some next) (nat_lt (length (blocks_of old.pools)) records) room) [
            | inl there ↦ omega (arith, before, behind, parts, old_count, new_count, both, past, ap {B = ℕ} (λ b. cond b 1 0) there, length-split_most owner block.place m size, count_all (block ∷ blocks), good.blocks_few)
            | inr left ↦ omega (arith, before, behind, parts, old_count, new_count, both, past, length-split_most owner block.place m size, count_all (block ∷ blocks), ltb-true (length (blocks_of old.pools)) records left)
          ]

      resized_good : is_free block ≡ false → 0 < m → m % unit ≡ 0 → m ≤ size → (is_some next || nat_lt (length (blocks_of old.pools)) records) ≡ true → IsGood (resized owner block.place m old)
      resized_good live some whole fits room = let P : Content A → Type 0 = λ x. IsGood x in subst P (sym resized_is) (new_is_good live some whole fits (few_after room))

      -- where it fits in place, there is room for it
      fits_room : fits_in_place block.place m old ≡ true → m ≢ block.size → (m ≤ size) × ((is_some next || nat_lt (length (blocks_of old.pools)) records) ≡ true)
      fits_room fits other =
          let alone : IsAlone position block blocks = block_alone position block blocks once_here in
          let next_is : free_next block.place old ≡ next = ap if_free (back_at position block blocks alone) in
          let size_is : size_at block.place (blocks_of old.pools) ≡ block.size = size_here position block blocks alone in
          let room : Bool = is_some next || nat_lt (length (blocks_of old.pools)) records in
          let is : fits_in_place block.place m old ≡ cond (nat_lt m block.size) room (nat_le m size) =
          ap (λ n. cond (nat_lt m n) (is_some (free_next block.place old) || nat_lt (length (blocks_of old.pools)) records) (nat_le m (n + size_of (free_next block.place old)))) size_is
          ∙ ap (λ o. cond (nat_lt m block.size) (is_some o || nat_lt (length (blocks_of old.pools)) records) (nat_le m (block.size + size_of o))) next_is in
          elim (cases_Bool (nat_lt m block.size)) [
            | inl less ↦
                let room_is : cond (nat_lt m block.size) room (nat_le m size) ≡ room = rw less refl in
                (omega (arith, ltb-true m block.size less), sym room_is ∙ sym is ∙ fits)
            | inr more ↦
                let most_is : cond (nat_lt m block.size) room (nat_le m size) ≡ nat_le m size = rw more refl in
                let most : m ≤ size = leb-true m size (sym most_is ∙ sym is ∙ fits) in
                (most, larger next refl (ltb-false m block.size more) most)
          ]
        where
          larger : (o : Option (Block A)) → next ≡ o → block.size ≤ m → m ≤ size → (is_some next || nat_lt (length (blocks_of old.pools)) records) ≡ true
          larger None none at_least most =
              let same : m ≡ block.size = omega (arith, at_least, most, ap size_of none) in
              absurd (other same)
          larger (Some b) there at_least most = ap (λ o. is_some o || nat_lt (length (blocks_of old.pools)) records) there

  -- a live block that fits in place keeps the content good
  pub resized_is_good : (is_meant : A → Bool) (owner : A) (place m : ℕ) (content : Content A) → IsGood content → is_live is_meant place (blocks_of content.pools) ≡ true → 0 < m → m % unit ≡ 0
      → fits_in_place place m content ≡ true → m ≢ size_at place (blocks_of content.pools) → IsGood (resized owner place m content)
  resized_is_good is_meant owner place m content good live some whole fits other =
      let Q : ℕ → Content A → Type 0 = λ p x. fits_in_place p m x ≡ true → m ≢ size_at p (blocks_of x.pools) → IsGood (resized owner p m x) in
      at_live is_meant place content Q good live (λ position block blocks owned g f o.
      let alone : IsAlone position block blocks = block_alone position block blocks (begins_once (record content { pools = filled_pools position (block ∷ blocks) }) g) in
      let room = fits_room owner m block blocks content.lists content.records position g f (λ e. o (e ∙ sym (size_here position block blocks alone))) in
      resized_good owner m block blocks content.lists content.records position g (owned_is_live is_meant block.owner owned) some whole room.0 room.1) fits other

  -- where the block and the resized one pass a test alike, or fail, as much is counted as before
  pub resized_counts : (is_meant : A → Bool) (owner : A) (place m : ℕ) (content : Content A) → IsGood content → is_live is_meant place (blocks_of content.pools) ≡ true
      → (test : Block A → Bool) (passes : Bool) → FailsOnFree test → ((block : Block A) → is_at place block ≡ true → is_owned_by is_meant block.owner ≡ true → test block ≡ passes) → test (record { place = place; size = m; owner = Some owner }) ≡ passes
      → count_by test (blocks_of (resized owner place m content).pools) ≡ count_by test (blocks_of content.pools)
  resized_counts is_meant owner place m content good live test passes fails before after =
      let Q : ℕ → Content A → Type 0 = λ p x. ((block : Block A) → is_at p block ≡ true → is_owned_by is_meant block.owner ≡ true → test block ≡ passes) → test (record { place = p; size = m; owner = Some owner }) ≡ passes
      → count_by test (blocks_of (resized owner p m x).pools) ≡ count_by test (blocks_of x.pools) in
      at_live is_meant place content Q good live (λ position block blocks owned g old new.
      omega (arith, counts_resized owner m block blocks content.lists content.records position g test fails, ap one_if (old block (eq-eqb block.place block.place refl) owned), ap one_if new)) before after

  -- the bytes of a block at its position and the free one behind it
  module _ (records : ℕ) (position : BlockPosition A) (block : Block A) (blocks : List (Block A)) (lists : List (List ℕ)) (good : IsGood (record { records = records; pools = filled_pools position (block ∷ blocks); lists = lists })) where
    abbrev both : ℕ
    both = block.size + size_of (free_first blocks)

    both_is : size_with_next block.place (record { records = records; pools = filled_pools position (block ∷ blocks); lists = lists }) ≡ both
    both_is =
        let alone : IsAlone position block blocks = block_alone position block blocks (begins_once (record { records = records; pools = filled_pools position (block ∷ blocks); lists = lists }) good) in
        omega (arith, size_here position block blocks alone, ap (λ o. size_of (if_free o)) (back_at position block blocks alone))

    both_there : (both % unit ≡ 0) × (both ≤ greatest_size) × (block.place + both ≤ end_of_places)
    both_there =
        let pool = (good_behind 0 position.pools_before (pool_at position (block ∷ blocks) ∷ position.pools_behind) good.pools_good).1.1 in
        let end : ℕ = position.base + position.bytes in
        let at = within_plug position.before (block ∷ blocks) position.base end pool.covered in
        let all = covers_behind block blocks at.0 end at.2 in
        let most = Covers-le (at.0 + both) end (past_free blocks) all.3 in
        (all.2, omega (arith, at.1, most, pool.most_bytes), omega (arith, all.0, most, pool.ends))

  pub size_with_next_whole : (is_meant : A → Bool) (place : ℕ) (content : Content A) → IsGood content → is_live is_meant place (blocks_of content.pools) ≡ true
      → (size_with_next place content % unit ≡ 0) × (size_with_next place content ≤ greatest_size) × (place + size_with_next place content ≤ end_of_places)
  size_with_next_whole is_meant place content good live =
      at_live is_meant place content (λ p x. (size_with_next p x % unit ≡ 0) × (size_with_next p x ≤ greatest_size) × (p + size_with_next p x ≤ end_of_places)) good live (λ position block blocks owned g.
      let R : ℕ → Type 0 = λ n. (n % unit ≡ 0) × (n ≤ greatest_size) × (block.place + n ≤ end_of_places) in
      subst R (sym (both_is content.records position block blocks content.lists g)) (both_there content.records position block blocks content.lists g))

-- a live block keeps its slot in place
pub resized_slots : (known place m : ℕ) (content : Content ℕ) → IsGood content → is_live (λ owner. owner == known) place (blocks_of content.pools) ≡ true → HasGoodSlots content → HasGoodSlots (resized known place m content)
resized_slots known place m content good live slots =
    let meant : ℕ → Bool = λ owner. owner == known in
    at_live meant place content (λ p x. HasGoodSlots x → HasGoodSlots (resized known p m x)) good live (λ position block blocks owned g s.
    let is = resized_is known m block blocks content.lists content.records position g in
    let parts = split known block.place m (block.size + size_of (free_first blocks)) in
    let news : List (Block ℕ) = parts ++ past_free blocks in
    let own : block.owner ≡ Some known = owner_is block.owner owned in
    subst (λ (x : Content ℕ). HasGoodSlots x) (sym is)
    (slots_fewer (record content { pools = filled_pools position (block ∷ blocks) }) (record { records = content.records; pools = filled_pools position news; lists = new_lists known m block blocks content.lists }) refl
    (λ slot.
    let has : Block ℕ → Bool = λ other. is_slot slot other.owner in
    omega (
      arith,
      count-filled_pools has position (block ∷ blocks),
      count-filled_pools has position news,
      count-cons has block blocks,
      ap (λ o. one_if (is_slot slot o)) own,
      slot_times-append slot parts (past_free blocks),
      slot_times-split slot known block.place m (block.size + size_of (free_first blocks)),
      few_past has blocks,
    )) s)) slots
  where
    owner_is : (owner : Option ℕ) → is_owned_by (λ o. o == known) owner ≡ true → owner ≡ Some known
    owner_is None h = absurd (cc)
    owner_is (Some o) h = ap Some (eqb-true o known h)
