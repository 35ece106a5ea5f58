-- free by the block's neighbours keeps a content good.
use Rattle.std.proofs.Common.{◌≡◌, ℕ, ◌+◌, ◌%◌, ◌<◌, ◌≤◌, Bool, true, false, cond, not, ◌&&◌, List, [], ◌∷◌, ◌++◌, length, map, refl, sym, ap, ◌∙◌, subst, arith, count_by, IsTrue, Option, Some, None, inl, inr}
use Rattle.tlsf_class.proofs.ClassLaws.{class-lt}
use Rattle.std.specs.Prelude.{is_none, ◌==◌}
use Rattle.std.proofs.lemmas.Bool.{cases_eq, eq-eqb, ne_eqb, eqb-true, and_parts, false≢true}
use Rattle.tlsf_class.specs.Classes.{unit, greatest_size, classes, class}
use Rattle.tlsf_heap.specs.Content.{Block, Pool, Content, blocks_of, is_free, is_at, size_at}
use Rattle.tlsf_heap.specs.Lists.{list_of, link}
use Rattle.tlsf_heap.specs.Malloc.{replaced_in}
use Rattle.tlsf_heap.specs.Good.{Covers, NoFreeNeighbours, AreGoodPools, times, is_listed, IsGood}
use Rattle.tlsf_heap.specs.Free.{is_owned_by, is_live, if_free, free_previous, free_next, unlink_block, size_of, start_of, free_block, without_block, after_free}
use Rattle.tlsf_heap.specs.Inner.Positions.{plug}
use Rattle.tlsf_heap.proofs.Content.FreeLists.{times-link, length-link}
use Rattle.tlsf_heap.proofs.Good.MallocIsGood.{Covers-le}
use Rattle.tlsf_heap.proofs.Counts.{one_if, count-cons, count-append, count_all, any_counts}
use Rattle.tlsf_heap.proofs.Meaning.BlockPositions.{BlockPosition, pool_at, filled_pools, around_blocks, count-filled_pools, LocatedBlock, located_block, IsAlone, block_alone, replaced_at, front_at, back_at, size_here}
use Rattle.tlsf_heap.proofs.Meaning.FreeFirst.{past_free, free_first, is_first_free, listed_of, lead, lead_plug, count_lead, past_apart, count_past, begins_once, listed_once, next_once, few_past, kept_past, once_past, free_stands, times-unlink_block, length-unlink_block, merged_of, covers_behind, without_next}
use Rattle.tlsf_heap.proofs.Meaning.Gaps.{FailsOnFree}
use Rattle.tlsf_heap.proofs.Meaning.Refilled.{refilled_is_good}

module _ {A : Type 0} where
  pub good_behind : (from : ℕ) (front pools : List (Pool A)) → AreGoodPools from (plug front pools) → (place : ℕ) × AreGoodPools place pools
  good_behind from [] pools g = (from, g)
  good_behind from (pool ∷ front) pools g = let rest = good_behind from front (pool ∷ pools) g in (pool.base + pool.bytes, rest.1.2)

  -- blocks behind others cover the rest
  pub within_plug : (front blocks : List (Block A)) (from to : ℕ) → Covers from to (plug front blocks) → (place : ℕ) × (from ≤ place) × Covers place to blocks
  within_plug [] blocks from to c = (from, omega arith, c)
  within_plug (block ∷ front) blocks from to c = let rest = within_plug front (block ∷ blocks) from to c in (rest.0 + block.size, omega (arith, rest.1), rest.2.3)

  covers_merged : (before : List (Block A)) (block : Block A) (blocks : List (Block A)) (from to : ℕ) → Covers from to (lead before ++ block ∷ blocks) → Covers from to (merged_of (free_first before) block (free_first blocks) ∷ past_free blocks)
  covers_merged before block blocks from to c = of before c
    where
      alone : Covers from to (block ∷ blocks) → Covers from to (merged_of None block (free_first blocks) ∷ past_free blocks)
      alone d =
          let P : ℕ → Type 0 = λ n. Covers from to (free_block block.place n ∷ past_free blocks) in
          let same : block.size + size_of (free_first blocks) ≡ 0 + block.size + size_of (free_first blocks) = omega arith in
          subst P same (covers_behind block blocks from to d)

      of : (before : List (Block A)) → Covers from to (lead before ++ block ∷ blocks) → Covers from to (merged_of (free_first before) block (free_first blocks) ∷ past_free blocks)
      of [] = alone
      of (f ∷ before) = elim (is_free f) as (λ t. Covers from to (cond t (f ∷ []) [] ++ block ∷ blocks) → Covers from to (merged_of (cond t (Some f) None) block (free_first blocks) ∷ past_free blocks)) [
        | true ↦ (λ d.
            let e = covers_behind block blocks (from + f.size) to d.3 in
            let P : ℕ → Type 0 = λ n. Covers n to (past_free blocks) in
            let same : (from + f.size) + (block.size + size_of (free_first blocks)) ≡ from + (f.size + block.size + size_of (free_first blocks)) = omega arith in
            (d.0, omega (arith, d.1), omega (arith, d.2, e.2), subst P same e.3))
        | false ↦ alone
      ]

  apart_merged : (before : List (Block A)) (block : Block A) (blocks : List (Block A)) → is_free block ≡ false → NoFreeNeighbours (is_first_free (past_free before)) (lead before ++ block ∷ blocks)
      → NoFreeNeighbours (is_first_free (past_free before)) (merged_of (free_first before) block (free_first blocks) ∷ past_free blocks)
  apart_merged before block blocks live n = of before n
    where
      behind : NoFreeNeighbours (is_free block) blocks → NoFreeNeighbours true (past_free blocks)
      behind m = past_apart blocks (subst (λ b. NoFreeNeighbours b blocks) live m)

      beside : (f : Block A) (before : List (Block A)) (t : Bool) → is_free f ≡ t → NoFreeNeighbours (is_first_free (cond t before (f ∷ before))) (cond t (f ∷ []) [] ++ block ∷ blocks)
          → NoFreeNeighbours (is_first_free (cond t before (f ∷ before))) (merged_of (cond t (Some f) None) block (free_first blocks) ∷ past_free blocks)
      beside f before true free m = (subst (λ b. IsTrue (not (is_first_free before && b))) free m.0, behind m.1.1)
      beside f before false kept m = (subst (λ b. IsTrue (not (b && true))) (sym kept) refl, behind m.1)

      of : (before : List (Block A)) → NoFreeNeighbours (is_first_free (past_free before)) (lead before ++ block ∷ blocks) → NoFreeNeighbours (is_first_free (past_free before)) (merged_of (free_first before) block (free_first blocks) ∷ past_free blocks)
      of [] m = (refl, behind m.1)
      of (f ∷ before) m = beside f before (is_free f) refl m

  module _ (records : ℕ) (position : BlockPosition A) (block : Block A) (blocks : List (Block A)) (lists : List (List ℕ)) (good : IsGood (record { records = records; pools = filled_pools position (block ∷ blocks); lists = lists })) (live : is_free block ≡ false) where
    abbrev old : Content A
    old = record { records = records; pools = filled_pools position (block ∷ blocks); lists = lists }

    abbrev front : Option (Block A)
    front = free_first position.before

    abbrev back : Option (Block A)
    back = free_first blocks

    abbrev merged : Block A
    merged = merged_of front block back

    abbrev past_position : BlockPosition A
    past_position = record position { before = past_free position.before }

    abbrev new_lists : List (List ℕ)
    new_lists = link merged.place merged.size (unlink_block back (unlink_block front lists))

    abbrev new : Content A
    new = record { records = records; pools = filled_pools past_position (merged ∷ past_free blocks); lists = new_lists }

    once : (place : ℕ) → count_by (is_at place) (blocks_of (filled_pools position (block ∷ blocks))) ≤ 1
    once = begins_once old good

    counts : (kind : Block A → Bool) → count_by kind (blocks_of (filled_pools position (block ∷ blocks))) ≡ around_blocks kind position + (one_if (kind block) + count_by kind blocks)
    counts kind = count-filled_pools kind position (block ∷ blocks) ∙ ap (λ n. around_blocks kind position + n) (count-cons kind block blocks)

    counts_after : (kind : Block A → Bool) → count_by kind (blocks_of (filled_pools past_position (merged ∷ past_free blocks))) ≡ around_blocks kind past_position + (one_if (kind merged) + count_by kind (past_free blocks))
    counts_after kind = count-filled_pools kind past_position (merged ∷ past_free blocks) ∙ ap (λ n. around_blocks kind past_position + n) (count-cons kind merged (past_free blocks))

    not_listed : (q p : ℕ) → one_if (is_listed q p block) ≡ 0
    not_listed q p = ap (λ b. one_if (b && (is_at p block && (class block.size == q)))) live

    -- each neighbour stands once in its list, also where the other left
    front_once : (other : Block A) → front ≡ Some other → times other.place (list_of (class other.size) lists) ≡ 1
    front_once other is = listed_once old good (class other.size) other.place (class-lt other.size) (omega (arith, counts (is_listed (class other.size) other.place), (free_stands position.before other is).0))

    back_once : (other : Block A) → back ≡ Some other → times other.place (list_of (class other.size) (unlink_block front lists)) ≡ 1
    back_once other is =
        let there = free_stands blocks other is in
        omega (
          arith,
          times-unlink_block lists good.lists_count front front_once (class other.size) other.place,
          front_elsewhere (class other.size) other.place there.1,
          next_once records position block blocks lists good other is,
        )
      where
        front_elsewhere : (q p : ℕ) → 1 ≤ count_by (is_at p) blocks → listed_of q p front ≡ 0
        front_elsewhere q p behind = go front refl
          where
            go : (o : Option (Block A)) → front ≡ o → listed_of q p o ≡ 0
            go None is_none = refl
            go (Some f) is_some = elim (cases_eq f.place p) [
              | inl same ↦ absurd (let P : ℕ → Type 0 = λ n. 1 ≤ count_by (is_at n) position.before in omega (arith, subst P same (free_stands position.before f is_some).1, behind, once p, counts (is_at p)))
              | inr apart ↦ ap (λ b. one_if (b && (class f.size == q))) (ne_eqb f.place p apart)
            ]

    full_front : length (unlink_block front lists) ≡ classes
    full_front = length-unlink_block lists good.lists_count front

    full_back : length (unlink_block back (unlink_block front lists)) ≡ classes
    full_back = length-unlink_block (unlink_block front lists) full_front back

    blocks_fit : length (blocks_of new.pools) ≤ records
    blocks_fit =
        let all : Block A → Bool = λ b. true in
        omega (arith, good.blocks_few, count_all (blocks_of old.pools), count_all (blocks_of new.pools), counts all, counts_after all, few_past all position.before, few_past all blocks)

    new_is_good : IsGood new
    new_is_good =
        let of : List (Block A) → Content A = λ bs. record { records = records; pools = plug position.pools_before (record { base = position.base; bytes = position.bytes; blocks = bs } ∷ position.pools_behind); lists = lists } in
        let was : IsGood (of (plug past_position.before (lead position.before ++ block ∷ blocks))) = subst (λ bs. IsGood (of bs)) (lead_plug position.before (block ∷ blocks)) good in
        refilled_is_good records past_position (lead position.before ++ block ∷ blocks) (merged ∷ past_free blocks) lists new_lists (record {
          covers = covers_merged position.before block blocks;
          apart = apart_merged position.before block blocks live;
          full = length-link (unlink_block back (unlink_block front lists)) full_back merged.place merged.size;
          listed = (λ q p within. omega (
            arith,
            times-link (unlink_block back (unlink_block front lists)) full_back q p merged.place merged.size,
            times-unlink_block (unlink_block front lists) full_front back back_once q p,
            times-unlink_block lists good.lists_count front front_once q p,
            not_listed q p,
            count_lead q p position.before,
            count_past q p blocks,
            count-append (is_listed q p) (lead position.before) (block ∷ blocks),
            count-cons (is_listed q p) block blocks,
            count-cons (is_listed q p) merged (past_free blocks),
          ));
        }) blocks_fit was

    -- what free leaves
    once_alone : (place : ℕ) → count_by (is_at place) (blocks_of (filled_pools past_position (block ∷ blocks))) ≤ 1
    once_alone place = omega (arith, once place, counts (is_at place), count-filled_pools (is_at place) past_position (block ∷ blocks), count-cons (is_at place) block blocks, few_past (is_at place) position.before)

    without_front : without_block front (filled_pools position (block ∷ blocks)) ≡ filled_pools past_position (block ∷ blocks)
    without_front = go position.before once
      where
        go : (before : List (Block A)) → ((place : ℕ) → count_by (is_at place) (blocks_of (filled_pools (record position { before = before }) (block ∷ blocks))) ≤ 1)
            → without_block (free_first before) (filled_pools (record position { before = before }) (block ∷ blocks)) ≡ filled_pools (record position { before = past_free before }) (block ∷ blocks)
        go [] few = refl
        go (f ∷ before) few = elim (is_free f) as (λ b.
            without_block (cond b (Some f) None) (filled_pools (record position { before = f ∷ before }) (block ∷ blocks)) ≡ filled_pools (record position { before = cond b before (f ∷ before) }) (block ∷ blocks)) [
              | true ↦ replaced_at (record position { before = before }) f (block ∷ blocks) (block_alone (record position { before = before }) f (block ∷ blocks) few) []
              | false ↦ refl
            ]

    without_back : without_block back (filled_pools past_position (block ∷ blocks)) ≡ filled_pools past_position (block ∷ past_free blocks)
    without_back = without_next past_position block blocks once_alone

    -- the content, where these are the neighbours and this is the size
    abbrev after : Option (Block A) → Option (Block A) → ℕ → Content A
    after f b size = record old {
      pools = map (replaced_in block.place (free_block (start_of f block.place) (size_of f + size + size_of b) ∷ [])) (without_block b (without_block f (filled_pools position (block ∷ blocks))));
      lists = link (start_of f block.place) (size_of f + size + size_of b) (unlink_block b (unlink_block f lists));
    }

    pub after_is : after_free block.place old ≡ new
    after_is =
        let alone : IsAlone position block blocks = block_alone position block blocks once in
        let f_is : free_previous block.place old ≡ front = ap if_free (front_at position block blocks alone) in
        let b_is : free_next block.place old ≡ back = ap if_free (back_at position block blocks alone) in
        let by_pools : (after front back block.size).pools ≡ new.pools =
        ap (map (replaced_in block.place (merged ∷ []))) (ap (without_block back) without_front ∙ without_back)
        ∙ replaced_at past_position block (past_free blocks) (block_alone past_position block (past_free blocks) (once_past past_position block blocks once_alone)) (merged ∷ []) in
        ap (λ x. after x (free_next block.place old) (size_at block.place (blocks_of old.pools))) f_is
        ∙ ap (λ y. after front y (size_at block.place (blocks_of old.pools))) b_is
        ∙ ap (after front back) (size_here position block blocks alone)
        ∙ ap (λ pools. record new { pools = pools }) by_pools

    -- a test that no free block passes counts the freed one no more, and all else as before
    pub counts_freed : (test : Block A → Bool) → FailsOnFree test → count_by test (blocks_of (after_free block.place old).pools) + one_if (test block) ≡ count_by test (blocks_of old.pools)
    counts_freed test fails =
        omega (arith, ap (λ (x : Content A). count_by test (blocks_of x.pools)) after_is, counts test, counts_after test, ap one_if (fails merged refl), kept_past test fails position.before, kept_past test fails blocks)

    pub merged_size : (0 < merged.size) × (merged.size % unit ≡ 0) × (merged.size ≤ greatest_size)
    merged_size =
        let pool = (good_behind 0 position.pools_before (pool_at past_position (merged ∷ past_free blocks) ∷ position.pools_behind) new_is_good.pools_good).1.1 in
        let at = within_plug (past_free position.before) (merged ∷ past_free blocks) past_position.base (past_position.base + past_position.bytes) pool.covered in
        (at.2.1, at.2.2, omega (arith, at.1, Covers-le (at.0 + merged.size) (past_position.base + past_position.bytes) (past_free blocks) at.2.3, pool.most_bytes))

    pub sizes_are : size_of (free_previous block.place old) + size_at block.place (blocks_of old.pools) + size_of (free_next block.place old) ≡ merged.size
    sizes_are =
        let alone : IsAlone position block blocks = block_alone position block blocks once in
        omega (
          arith,
          ap (λ o. size_of (if_free o)) (front_at position block blocks alone),
          ap (λ o. size_of (if_free o)) (back_at position block blocks alone),
          size_here position block blocks alone,
        )

    pub after_is_good : IsGood (after_free block.place old)
    after_is_good = let P : Content A → Type 0 = λ x. IsGood x in subst P (sym after_is) new_is_good

  pub owned_is_live : (is_meant : A → Bool) (owner : Option A) → is_owned_by is_meant owner ≡ true → is_none owner ≡ false
  owned_is_live is_meant None owned = absurd (false≢true owned)
  owned_is_live is_meant (Some a) owned = refl

  -- what holds of a live block at its position holds of it
  pub at_live : (is_meant : A → Bool) (place : ℕ) (content : Content A) (Q : ℕ → Content A → Type 0) → IsGood content → is_live is_meant place (blocks_of content.pools) ≡ true
      → ((position : BlockPosition A) (block : Block A) (blocks : List (Block A)) → is_owned_by is_meant block.owner ≡ true → IsGood (record content { pools = filled_pools position (block ∷ blocks) }) → Q block.place (record content { pools = filled_pools position (block ∷ blocks) }))
      → Q place content
  at_live is_meant place content Q good live holds =
      let test : Block A → Bool = λ block. is_at place block && is_owned_by is_meant block.owner in
      let at : LocatedBlock test content.pools = located_block test content.pools (any_counts test (blocks_of content.pools) live) in
      let parts = and_parts _ _ at.passes in
      let P : List (Pool A) → Type 0 = λ pools. IsGood (record content { pools = pools }) → Q place (record content { pools = pools }) in
      let R : ℕ → Type 0 = λ p. Q p (record content { pools = filled_pools at.position (at.block ∷ at.blocks) }) in
      subst P (sym at.whole) (λ g. subst R (eqb-true at.block.place place parts.0) (holds at.position at.block at.blocks parts.1 g)) good

  -- the content after the free of a live block is good
  pub freed_is_good : (is_meant : A → Bool) (place : ℕ) (content : Content A) → IsGood content → is_live is_meant place (blocks_of content.pools) ≡ true → IsGood (after_free place content)
  freed_is_good is_meant place content good live =
      at_live is_meant place content (λ p x. IsGood (after_free p x)) good live (λ position block blocks owned g. after_is_good content.records position block blocks content.lists g (owned_is_live is_meant block.owner owned))

  -- the block that is left has a size that a block can have
  pub freed_size : (is_meant : A → Bool) (place : ℕ) (content : Content A) → IsGood content → is_live is_meant place (blocks_of content.pools) ≡ true
      → let size = size_of (free_previous place content) + size_at place (blocks_of content.pools) + size_of (free_next place content) in (0 < size) × (size % unit ≡ 0) × (size ≤ greatest_size)
  freed_size is_meant place content good live =
      let IsSize : ℕ → Type 0 = λ n. (0 < n) × (n % unit ≡ 0) × (n ≤ greatest_size) in
      at_live is_meant place content (λ p x. IsSize (size_of (free_previous p x) + size_at p (blocks_of x.pools) + size_of (free_next p x))) good live
      (λ position block blocks owned g.
      let live_one = owned_is_live is_meant block.owner owned in
      subst IsSize (sym (sizes_are content.records position block blocks content.lists g live_one)) (merged_size content.records position block blocks content.lists g live_one))

  -- what stands elsewhere and is not free is counted as before
  pub freed_counts : (is_meant : A → Bool) (place : ℕ) (content : Content A) → IsGood content → is_live is_meant place (blocks_of content.pools) ≡ true
      → (test : Block A → Bool) → FailsOnFree test → ((block : Block A) → is_at place block ≡ true → test block ≡ false) → count_by test (blocks_of (after_free place content).pools) ≡ count_by test (blocks_of content.pools)
  freed_counts is_meant place content good live test fails apart =
      at_live is_meant place content (λ p x. ((block : Block A) → is_at p block ≡ true → test block ≡ false) → count_by test (blocks_of (after_free p x).pools) ≡ count_by test (blocks_of x.pools)) good live
      (λ position block blocks owned g elsewhere. omega (
        arith,
        counts_freed content.records position block blocks content.lists g (owned_is_live is_meant block.owner owned) test fails,
        ap one_if (elsewhere block (eq-eqb block.place block.place refl)),
      )) apart
