-- What a program holds stays live through its calls, and is all that is live.
use Rattle.std.proofs.Common.{◌≡◌, ℕ, ◌+◌, ◌*◌, ◌<◌, ◌≤◌, cond, List, map, length, refl, sym, ap, ◌∙◌, subst, arith, Some, Ok, Err, inl, inr}
use Rattle.std.specs.Prelude.{◌==◌, ◌/◌, ⊤}
use Rattle.std.specs.List.{AllPairs, AllByRecursion, Contains}
use Rattle.std.proofs.lemmas.Bool.{cases_Bool, cases_eq, cases_lt, eq-eqb, ne_eqb}
use Rattle.tlsf_class.specs.Rounding.{round}
use Rattle.tlsf_heap.specs.declared.refusal.Refusal.TheVariants.{ZeroSize}
use Rattle.tlsf_heap.specs.Content.{Content, blocks_of, size_at, used_records}
use Rattle.tlsf_heap.specs.Counted.{Counted, range_of}
use Rattle.tlsf_heap.specs.Good.{IsGood}
use Rattle.tlsf_heap.specs.Implied.{live_blocks}
use Rattle.tlsf_heap.specs.Memalign.{is_alignment}
use Rattle.tlsf_heap.specs.Pointer.{Pointer, realloc_ptr, block_size_ptr}
use Rattle.tlsf_heap.specs.Room.{live_bytes}
use Rattle.tlsf_heap.proofs.Content.Given.{free_gave}
use Rattle.tlsf_heap.proofs.Good.GivenSizes.{moved_sized}
use Rattle.tlsf_heap.proofs.Good.LiveBlocks.{live_here, size_here}
use Rattle.tlsf_heap.proofs.Good.Realloc.{realloc_is_good}
use Rattle.tlsf_heap.proofs.Good.StaysLive.{live_moved}
use Rattle.tlsf_heap.proofs.Meaning.AlignedIsGood.{memalign_is_good}
use Rattle.tlsf_heap.proofs.Meaning.FreedIsGood.{freed_is_good}
use Rattle.tlsf_region.proofs.Ranges.{ranges, freed_ranges}
use Rattle.tlsf_region.proofs.Sizes.{size_is}
use Rattle.tlsf_c.specs.declared.placed_pool.PlacedPool.{PlacedPool}
use Rattle.tlsf_c.specs.Fronts.{front, told_size}
use Rattle.tlsf_c.specs.Held.{Held, without, with_told, held_then, Holds, IsOwn}
use Rattle.tlsf_c.specs.PlacedHeaps.{IsLiveAt, IsFreedAt, IsResizedAt, told_block, malloc_with_front}
use Rattle.tlsf_c.specs.PlacedPools.{IsAt, AreApart, AreEntriesOf}
use Rattle.tlsf_c.specs.PlacedRuns.{Call, ask, ask_aligned, ask_again, give_back, Told, CallStep}
use Rattle.tlsf_c.proofs.Alike.{aligns_none, aligns_bad, aligned_with_front}
use Rattle.tlsf_c.proofs.GivenBlock.{IsGiven, given_size, or_own_given, aligned_given}
use Rattle.tlsf_c.proofs.HeldLemmas.{IsAway, AreDistinct, told_bytes, each_map, each_zip, each_of, each_without, distinct_without, away_without, taken_out}
use Rattle.tlsf_c.proofs.LiveChanges.{given_change, freed_change, resized_change}
use Rattle.tlsf_c.proofs.LiveStays.{Stays, gives_elsewhere, gives_stays, free_stays, moves_elsewhere, move_stays, or_own_is_good}
use Rattle.tlsf_c.proofs.PlacedLemmas.{live_in_found, with_front}
use Rattle.tlsf_c.proofs.PoolsApart.{places_differ}
use Rattle.tlsf_c.proofs.ResizedBlock.{same_ranges, holds_bytes}

-- the size of a block that was told fits what was asked for
abbrev pub IsSized : ((asked size : ℕ) → Type 0) → Call → Told → Type 0
IsSized fits (ask n) told = 0 < told.address → fits n (told_size told.word told.address)
IsSized fits (ask_aligned align n) told = 0 < told.address → fits n (told_size told.word told.address)
IsSized fits (ask_again address word n) told = 0 < told.address → fits n (told_size told.word told.address)
IsSized fits (give_back address word) told = ⊤

-- it has the bytes and the front
abbrev pub IsLong : (asked size : ℕ) → Type 0
IsLong asked size = asked + front ≤ size

-- these rounded up, unless it was resized
abbrev pub IsExact : Call → Told → Type 0
IsExact (ask n) told = 0 < told.address → told_size told.word told.address ≡ (n + front + 15) / 16 * 16
IsExact (ask_aligned align n) told = 0 < told.address → told_size told.word told.address ≡ (n + front + 15) / 16 * 16
IsExact call told = ⊤

long_rounded : (n size : ℕ) → size ≡ (n + front + 15) / 16 * 16 → n + front ≤ size
long_rounded n size is = omega (arith, is)

module _ (pools : List PlacedPool) (apart : AllPairs AreApart pools) where
  -- the content is good, and the entries are its pools
  pub record IsSound (content : Content ℕ) : Type 0 where
    pub good : IsGood content
    pub entries : ∥ AreEntriesOf (map range_of content.pools) pools ∥₁

  abbrev pub IsLive : Content ℕ → Held → Type 0
  IsLive content block = IsLiveAt block.address block.word pools content

  -- the blocks that are held are live, and no others are
  pub record AreAllLive (content : Content ℕ) (held : List Held) : Type 0 where
    pub live : AllByRecursion (IsLive content) held
    pub distinct : AreDistinct held
    pub blocks : live_blocks content ≡ length held
    pub bytes : live_bytes (blocks_of content.pools) ≡ told_bytes held

  still_sound : (old new : Content ℕ) → IsSound old → IsGood new → ranges new ≡ ranges old → IsSound new
  still_sound old new sound good same = record { good = good; entries = subst (λ r. ∥ AreEntriesOf r pools ∥₁) (sym same) sound.entries }

  -- a live block stays so where its pointer does
  live_stays : (address word : ℕ) (old new : Content ℕ) (live : IsLiveAt address word pools old) → Stays (told_block live.place address word) old new → IsLiveAt address word pools new
  live_stays address word old new live stays = record { place = live.place; pool = live.pool; of_pools = live.of_pools; at = live.at; live = stays (told_size word address) live.live }

  -- what a word tells of a live block is its size
  told_is : (address word place : ℕ) (pool : PlacedPool) (content : Content ℕ) → Contains pools pool → IsAt pool place address → IsLiveAt address word pools content → size_at place (blocks_of content.pools) ≡ told_size word address
  told_is address word place pool content has at live = (size_is (told_block place address word) content (told_size word address) (live_in_found address word place pools pool content apart has at live)).1

  -- What holds once a block was given: it is one more.
  pub record IsOneMore (asked bytes : ℕ) (told : Told) (new : Content ℕ) (held : List Held) : Type 0 where
    pub sound : IsSound new
    pub all_live : AreAllLive new (with_told asked told held)
    pub sized : told_size told.word told.address ≡ (bytes + 15) / 16 * 16

  module _ (asked bytes : ℕ) (told : Told) (ptr : Pointer) (pool : PlacedPool) (old new : Content ℕ) (held : List Held) (sound : IsSound old) (good_new : IsGood new) (is : IsGiven bytes ptr old new)
      (has : Contains pools pool) (at : IsAt pool ptr.place told.address) (live : IsLiveAt told.address told.word pools new) (held_live : AreAllLive old held) where
    size_new : block_size_ptr ptr new ≡ Ok ((bytes + 15) / 16 * 16)
    size_new = given_size bytes ptr old new good_new is

    told_new : told_size told.word told.address ≡ (bytes + 15) / 16 * 16
    told_new = sym (told_is told.address told.word ptr.place pool new has at live) ∙ (size_is ptr new ((bytes + 15) / 16 * 16) size_new).1

    others_away : (block : Held) → IsLive old block → IsAway told.address block
    others_away block was same =
        let here = live_in_found block.address block.word ptr.place pools pool old apart has (subst (λ (a : ℕ). IsAt pool ptr.place a) (sym same) at) was in
        gives_elsewhere (told_block ptr.place block.address block.word) old new sound.good good_new ptr is.gives (told_size block.word block.address) here refl

    others_live : (block : Held) → IsLive old block → IsLive new block
    others_live block was = live_stays block.address block.word old new was (gives_stays (told_block was.place block.address block.word) old new sound.good good_new ptr is.gives)

    pub one_more : IsOneMore asked bytes told new held
    one_more =
        let change = given_change bytes ptr old new sound.good good_new is in
        record {
          sound = still_sound old new sound good_new is.same_ranges;
          all_live = record {
            live = (live, each_map (IsLive old) (IsLive new) others_live held held_live.live);
            distinct = (each_map (IsLive old) (IsAway told.address) others_away held held_live.live, held_live.distinct);
            blocks = omega (arith, change.blocks, held_live.blocks);
            bytes = omega (arith, change.bytes, held_live.bytes, told_new);
          };
          sized = told_new;
        }

  -- the block of an address and a word that are held is live
  pub held_is_live : (address word : ℕ) (content : Content ℕ) (held : List Held) → AreAllLive content held → Holds address word held → IsLiveAt address word pools content
  held_is_live address word content held all holds =
      let live = each_of (IsLive content) holds.block held all.live holds.has in
      subst (λ (w : ℕ). IsLiveAt address w pools content) holds.by (subst (λ (a : ℕ). IsLiveAt a holds.block.word pools content) holds.at live)

  -- what is left without it
  left_without : (address word : ℕ) (held : List Held) → AreDistinct held → Holds address word held → (told_bytes (without address held) + told_size word address ≡ told_bytes held) × (length (without address held) + 1 ≡ length held)
  left_without address word held distinct holds =
      let left = taken_out holds.block held distinct holds.has in
      let same_size : told_size holds.block.word holds.block.address ≡ told_size word address = ap (λ w. told_size w holds.block.address) holds.by ∙ ap (λ a. told_size word a) holds.at in
      let same_left : without holds.block.address held ≡ without address held = ap (λ a. without a held) holds.at in
      (omega (arith, left.0, same_size, ap told_bytes same_left), omega (arith, left.1, ap (λ (l : List Held). length l) same_left))

  -- a block given back is one less
  pub one_less : (address word : ℕ) (old new : Content ℕ) (held : List Held) → IsSound old → AreAllLive old held → Holds address word held → IsFreedAt address word pools old new → IsSound new × AreAllLive new (without address held)
  one_less address word old new held sound all holds freed =
      let live = held_is_live address word old held all holds in
      let ptr : Pointer = told_block freed.place address word in
      let told = live_in_found address word freed.place pools freed.pool old apart freed.of_pools freed.at live in
      let gave = free_gave (λ slot. slot == ptr.slot) ptr.place old new freed.freed in
      let good_new : IsGood new = subst (λ (c : Content ℕ). IsGood c) gave.1 (freed_is_good (λ slot. slot == ptr.slot) ptr.place old sound.good gave.0) in
      let same_places : ranges new ≡ ranges old = ap (λ (c : Content ℕ). ranges c) (sym gave.1) ∙ freed_ranges ptr.place old in
      let change = freed_change ptr (told_size word address) old new sound.good good_new told freed.freed in
      let left = left_without address word held all.distinct holds in
      let keeps : (block : Held) → IsLive old block → IsAway address block → IsLive new block = λ block was away.
      live_stays block.address block.word old new was
      (free_stays (told_block was.place block.address block.word) old new sound.good good_new ptr (places_differ was.place freed.place block.address address pools was.pool freed.pool old sound.good apart sound.entries was.of_pools freed.of_pools was.at freed.at away) freed.freed) in (
        still_sound old new sound good_new same_places,
        record {
          live = each_zip (IsLive old) (IsAway address) (IsLive new) keeps (without address held) (each_without (IsLive old) address held all.live) (away_without address held all.distinct);
          distinct = distinct_without address held all.distinct;
          blocks = omega (arith, change.blocks, all.blocks, left.1);
          bytes = omega (arith, change.bytes, all.bytes, left.0);
        },
      )

  -- a block resized is another in its place
  module _ (address word n : ℕ) (told : Told) (old new : Content ℕ) (sound : IsSound old) (moved : IsResizedAt address word n told.address pools old new) where
    abbrev was_ptr : Pointer
    was_ptr = told_block moved.was.place address word

    served : realloc_ptr (Some was_ptr) (n + front) moved.pointer.slot old ≡ Ok (Some (moved.pointer.place, moved.pointer.slot), new)
    served = moved.moved.ok

    good_moved : IsGood new
    good_moved = realloc_is_good (λ a b. a == b) moved.pointer.slot (Some (was_ptr.place, was_ptr.slot)) (n + front) old (Some (moved.pointer.place, moved.pointer.slot), new) sound.good served

    pub moved_sound : IsSound new
    moved_sound = still_sound old new sound good_moved (same_ranges was_ptr moved.pointer (n + front) old new sound.good served)

    moved_told : IsLiveAt told.address told.word pools new → block_size_ptr moved.pointer new ≡ Ok (told_size told.word told.address)
    moved_told live =
        let there = live_moved (λ a b. a == b) moved.pointer.slot was_ptr.slot was_ptr.place (n + front) old moved.pointer.place moved.pointer.slot new (λ a. eq-eqb a a refl) sound.good served in
        let is : block_size_ptr moved.pointer new ≡ Ok (size_at moved.pointer.place (blocks_of new.pools)) = rw there refl in
        is ∙ ap (λ (size : ℕ). Ok size) (told_is told.address told.word moved.pointer.place moved.pool new moved.of_pools moved.at live)

    pub moved_long : IsLiveAt told.address told.word pools new → n + front ≤ told_size told.word told.address
    moved_long live = holds_bytes was_ptr moved.pointer (n + front) old new sound.good served good_moved (told_size told.word told.address) (moved_told live)

    -- where a record is left, it has these, rounded up
    pub moved_exact : used_records old < old.records → IsLiveAt told.address told.word pools new → round (n + front) ≡ Some (told_size told.word told.address)
    moved_exact room live =
        let there = live_moved (λ a b. a == b) moved.pointer.slot was_ptr.slot was_ptr.place (n + front) old moved.pointer.place moved.pointer.slot new (λ a. eq-eqb a a refl) sound.good served in
        let here = live_here (λ slot. slot == moved.pointer.slot) moved.pointer.place new there in
        let is = moved_sized (λ a b. a == b) moved.pointer.slot was_ptr.slot was_ptr.place (n + front) old sound.good room (Some (moved.pointer.place, moved.pointer.slot), new) served moved.pointer.place moved.pointer.slot refl here.0 here.1 here.3 here.2 in
        let size = size_here moved.pointer.place new here.0 good_moved here.1 here.2 in
        is.1 ∙ ap (λ (m : ℕ). Some m) (sym is.2 ∙ size ∙ told_is told.address told.word moved.pointer.place moved.pool new moved.of_pools moved.at live)

    moved_past : (block : Held) → IsLive old block → IsAway address block → IsLive new block
    moved_past block was away =
        let differ = places_differ was.place moved.was.place block.address address pools was.pool moved.was.pool old sound.good apart sound.entries was.of_pools moved.was.of_pools was.at moved.was.at away in
        live_stays block.address block.word old new was (move_stays (told_block was.place block.address block.word) old new sound.good good_moved was_ptr moved.pointer (n + front) differ served)

    moved_away : (block : Held) → IsLive old block → IsAway address block → IsAway told.address block
    moved_away block was away same =
        let there : IsAt moved.pool moved.pointer.place block.address = subst (λ (a : ℕ). IsAt moved.pool moved.pointer.place a) (sym same) moved.at in
        let here = live_in_found block.address block.word moved.pointer.place pools moved.pool old apart moved.of_pools there was in
        let differ = places_differ moved.pointer.place moved.was.place block.address address pools moved.pool moved.was.pool old sound.good apart sound.entries moved.of_pools moved.was.of_pools there moved.was.at away in
        moves_elsewhere (told_block moved.pointer.place block.address block.word) old new sound.good good_moved was_ptr moved.pointer (n + front) differ served (told_size block.word block.address) here refl

    pub another : (held : List Held) → AreAllLive old held → Holds address word held → IsLiveAt told.address told.word pools new → AreAllLive new (with_told n told (without address held))
    another held all holds live =
        let change = resized_change was_ptr moved.pointer (n + front) (told_size word address) (told_size told.word told.address) old new sound.good good_moved moved.was.live (moved_told live) served in
        let left = left_without address word held all.distinct holds in
        let was_live = each_without (IsLive old) address held all.live in
        let away = away_without address held all.distinct in
        record {
          live = (live, each_zip (IsLive old) (IsAway address) (IsLive new) moved_past (without address held) was_live away);
          distinct = (each_zip (IsLive old) (IsAway address) (IsAway told.address) moved_away (without address held) was_live away, distinct_without address held all.distinct);
          blocks = omega (arith, change.blocks, all.blocks, left.1);
          bytes = omega (arith, change.bytes, all.bytes, left.0);
        }

  -- a call leaves what a program then holds
  pub record Leaves (call : Call) (told : Told) (new : Content ℕ) (held : List Held) : Type 0 where
    pub sound : IsSound new
    pub all_live : AreAllLive new (held_then call told held)
    pub long : IsSized IsLong call told
    pub exact : IsExact call told

  same_leaves : (call : Call) (told : Told) (old new : Content ℕ) (held : List Held) → new ≡ old → held_then call told held ≡ held → IsSized IsLong call told → IsExact call told → IsSound old → AreAllLive old held → Leaves call told new held
  same_leaves call told old new held same kept long exact sound all = record {
    sound = subst IsSound (sym same) sound;
    all_live = subst (AreAllLive new) (sym kept) (subst (λ (c : Content ℕ). AreAllLive c held) (sym same) all);
    long = long;
    exact = exact;
  }

  given_leaves : (call : Call) (told : Told) (n : ℕ) (new : Content ℕ) (held : List Held) → 0 < told.address → held_then call told held ≡ cond (told.address == 0) held (with_told n told held)
      → ((0 < told.address → IsLong n (told_size told.word told.address)) → IsSized IsLong call told) → ((0 < told.address → told_size told.word told.address ≡ (n + front + 15) / 16 * 16) → IsExact call told)
      → IsOneMore n (n + front) told new held → Leaves call told new held
  given_leaves call told n new held there is long exact more =
      let held_is : held_then call told held ≡ with_told n told held = is ∙ rw (ne_eqb told.address 0 (λ e. omega (arith, e, there))) refl in
      record {
        sound = more.sound;
        all_live = subst (AreAllLive new) (sym held_is) more.all_live;
        long = long (λ some. long_rounded n (told_size told.word told.address) more.sized);
        exact = exact (λ some. more.sized);
      }

  pub step_leaves : (call : Call) (told : Told) (old new : Counted) (held : List Held) → CallStep pools call told old new → IsOwn call held → IsSound old.content → AreAllLive old.content held → Leaves call told new.content held
  step_leaves (ask n) told old new held step own sound all = elim (cases_lt 0 told.address) [
    | inr none ↦ same_leaves (ask n) told old.content new.content held (step.1 (omega (arith, none))).unchanged.content (rw (eq-eqb told.address 0 (omega (arith, none))) refl) (λ some. absurd (omega (arith, some, none))) (λ some. absurd (omega (arith, some, none))) sound all
    | inl there ↦ (let given = step.0 there in elim (cases_eq n 0) [
      | inl nothing ↦ (let none : malloc_with_front given.pointer.slot n old.content ≡ Err ZeroSize = ap (λ (k : ℕ). malloc_with_front given.pointer.slot k old.content) nothing in let is = given.served.ok in absurd (cc))
      | inr some ↦ (
          let served = sym (with_front given.pointer.slot n old.content some) ∙ given.served.ok in
          let good_new = or_own_is_good given.pointer.slot (n + front) given.pointer.place old.content new.content sound.good served in
          given_leaves (ask n) told n new.content held there refl (λ told. told) (λ told. told)
          (one_more n (n + front) told given.pointer given.pool old.content new.content held sound good_new (or_own_given (n + front) given.pointer old.content new.content sound.good served) given.of_pools given.at (step.2 there) all))
    ])
  ]
  step_leaves (ask_aligned align n) told old new held step own sound all = elim (cases_lt 0 told.address) [
    | inr none ↦ same_leaves (ask_aligned align n) told old.content new.content held (step.2 (omega (arith, none))).content (rw (eq-eqb told.address 0 (omega (arith, none))) refl) (λ some. absurd (omega (arith, some, none))) (λ some. absurd (omega (arith, some, none))) sound all
    | inl there ↦ (let given = step.0 there in elim (cases_Bool (is_alignment align)) [
      | inr bad ↦ (let none = aligns_bad align given.pointer.slot n old.content bad in let is = given.served.ok in absurd (cc))
      | inl is ↦ elim (cases_eq n 0) [
        | inl nothing ↦ (let none = aligns_none align given.pointer.slot n old.content is nothing in let is = given.served.ok in absurd (cc))
        | inr some ↦ (
            let served = sym (aligned_with_front align given.pointer.slot n old.content some) ∙ given.served.ok in
            let good_new = memalign_is_good given.pointer.slot align (n + front) old.content (given.pointer.place, new.content) sound.good served in
            given_leaves (ask_aligned align n) told n new.content held there refl (λ told. told) (λ told. told)
            (one_more n (n + front) told given.pointer given.pool old.content new.content held sound good_new (aligned_given align (n + front) given.pointer old.content new.content sound.good served) given.of_pools given.at (step.3 there) all))
      ]
    ])
  ]
  step_leaves (ask_again address word n) told old new held step own sound all = elim (cases_lt 0 told.address) [
    | inr none ↦ same_leaves (ask_again address word n) told old.content new.content held (step.1 (omega (arith, none))).unchanged.content (rw (eq-eqb told.address 0 (omega (arith, none))) refl) (λ some. absurd (omega (arith, some, none))) tt sound all
    | inl there ↦ (
        let moved = step.0 there in
        record {
          sound = moved_sound address word n told old.content new.content sound moved;
          all_live = subst (AreAllLive new.content) (sym (resized there)) (another address word n told old.content new.content sound moved held all own (step.2 there));
          long = λ some. moved_long address word n told old.content new.content sound moved (step.2 there);
          exact = tt;
        })
  ]
    where
      resized : 0 < told.address → held_then (ask_again address word n) told held ≡ with_told n told (without address held)
      resized there = rw (ne_eqb told.address 0 (λ e. omega (arith, e, there))) refl
  step_leaves (give_back address word) told old new held step own sound all = elim (cases_eq told.word 0) [
    | inl served ↦ (
        let less = one_less address word old.content new.content held sound all own (step.1 served) in
        record { sound = less.0; all_live = subst (AreAllLive new.content) (sym (given_back served)) less.1; long = tt; exact = tt })
    | inr refused ↦ same_leaves (give_back address word) told old.content new.content held (step.2 refused).content (rw (ne_eqb told.word 0 refused) refl) tt tt sound all
  ]
    where
      given_back : told.word ≡ 0 → held_then (give_back address word) told held ≡ without address held
      given_back served = rw (eq-eqb told.word 0 served) refl
