-- A live block stays live, and keeps its size, while a call gives another one, frees it, or moves it.
use Rattle.std.proofs.Common.{◌≡◌, ◌≢◌, ℕ, ◌≤◌, ◌<◌, Bool, true, false, List, [], ◌∷◌, count_by, refl, sym, ap, ◌∙◌, subst, arith, Option, Some, None, Ok, Err, inl, inr}
use Rattle.std.specs.Prelude.{◌==◌, ◌%◌, ◌&&◌, not, nat_lt, nat_le}
use Rattle.std.specs.List.{Contains}
use Rattle.std.proofs.lemmas.Bool.{cases_Bool, cases_eq, eq-eqb, ne_eqb, eqb-true, and_parts}
use Rattle.tlsf_class.specs.Rounding.{round}
use Rattle.tlsf_class.proofs.RoundingLaws.{round-Some}
use Rattle.tlsf_heap.specs.declared.refusal.Refusal.TheVariants.{ZeroSize, TableFull}
use Rattle.tlsf_heap.specs.Content.{Block, Content, blocks_of, is_at, is_free, size_at, used_records}
use Rattle.tlsf_heap.specs.Free.{is_live}
use Rattle.tlsf_heap.specs.Good.{IsGood}
use Rattle.tlsf_heap.specs.Lists.{pick}
use Rattle.tlsf_heap.specs.Malloc.{malloc_picked, allocated}
use Rattle.tlsf_heap.specs.OwnClass.{picked_or_own, malloc_or_own_rounded, malloc_or_own}
use Rattle.tlsf_heap.specs.Pointer.{Pointer, free_ptr, realloc_ptr, block_size_ptr}
use Rattle.tlsf_heap.proofs.Counts.{one_if, count-cons}
use Rattle.tlsf_heap.proofs.Good.GivenSizes.{found_counted}
use Rattle.tlsf_heap.proofs.Good.LiveBlocks.{live_here, size_here, live_from_free, live_from_realloc}
use Rattle.tlsf_heap.proofs.Good.MallocIsGood.{Picked, allocate_is_good}
use Rattle.tlsf_heap.proofs.Good.OwnClass.{or_own_gave}
use Rattle.tlsf_heap.proofs.Good.StaysLive.{Gives, live_still, given_apart, live_through_free, live_through_realloc, moved_elsewhere}
use Rattle.tlsf_region.proofs.Sizes.{size_is}
use Rattle.tlsf_c.proofs.Stands.{never_stands, stands_first_or_later}

-- the block of the pointer has still the size that it had
abbrev pub Stays : Pointer → Content ℕ → Content ℕ → Type 0
Stays ptr old new = (size : ℕ) → block_size_ptr ptr old ≡ Ok size → block_size_ptr ptr new ≡ Ok size

-- a block that stands among others and passes a test is counted
stands_counted : (test : Block ℕ → Bool) (block : Block ℕ) (blocks : List (Block ℕ)) → Contains blocks block → test block ≡ true → 1 ≤ count_by test blocks
stands_counted test block [] has passes = never_stands block has
stands_counted test block (first ∷ rest) has passes = elim (stands_first_or_later first block rest has) [
  | inl same ↦ omega (arith, count-cons test first rest, ap (λ b. one_if (test b)) same, ap one_if passes)
  | inr later ↦ omega (arith, count-cons test first rest, stands_counted test block rest later passes)
]

module _ (ptr : Pointer) (old new : Content ℕ) (good : IsGood old) (good_new : IsGood new) where
  abbrev meant : ℕ → Bool
  meant slot = slot == ptr.slot

  -- a live block keeps its size where the block that stands there did so before
  kept_size : is_live meant ptr.place (blocks_of new.pools) ≡ true
      → ((block : Block ℕ) → Contains (blocks_of new.pools) block → is_free block ≡ false → block.place ≡ ptr.place → (was : Block ℕ) × Contains (blocks_of old.pools) was × (was.place ≡ ptr.place) × (was.size ≡ block.size)) → Stays ptr old new
  kept_size live stood size told =
      let here = live_here meant ptr.place new live in
      let was = stood here.0 here.1 here.3 here.2 in
      let now : block_size_ptr ptr new ≡ Ok (size_at ptr.place (blocks_of new.pools)) = rw live refl in
      let same : size_at ptr.place (blocks_of new.pools) ≡ size = sym (size_here ptr.place new here.0 good_new here.1 here.2) ∙ sym was.3 ∙ size_here ptr.place old was.0 good was.1 was.2 ∙ (size_is ptr old size told).1 in
      now ∙ ap (λ (n : ℕ). Ok n) same

  module _ (given : Pointer) (gives : Gives given.slot given.place old new) where
    -- the block given begins elsewhere
    pub gives_elsewhere : (size : ℕ) → block_size_ptr ptr old ≡ Ok size → given.place ≢ ptr.place
    gives_elsewhere size told = given_apart meant given.slot ptr.place given.place old new gives good_new (size_is ptr old size told).0

    pub gives_stays : Stays ptr old new
    gives_stays size told = kept_size (live_still meant given.slot ptr.place given.place old new gives (size_is ptr old size told).0) stood size told
      where
        stood : (block : Block ℕ) → Contains (blocks_of new.pools) block → is_free block ≡ false → block.place ≡ ptr.place → (was : Block ℕ) × Contains (blocks_of old.pools) was × (was.place ≡ ptr.place) × (was.size ≡ block.size)
        stood block has live at =
            let test : Block ℕ → Bool = λ other. not (is_free other) && (is_at ptr.place other && (other.size == block.size)) in
            let passes : test block ≡ true = rw (live, eq-eqb block.place ptr.place at, eq-eqb block.size block.size refl) refl in
            let fails : test (record { place = given.place; size = gives.size; owner = Some given.slot }) ≡ false = rw (ne_eqb given.place ptr.place (gives_elsewhere size told)) refl in
            let counted = gives.counts test (λ other free. ap (λ b. not b && (is_at ptr.place other && (other.size == block.size))) free) in
            let found = found_counted test (blocks_of old.pools) (omega (arith, stands_counted test block (blocks_of new.pools) has passes, counted, ap one_if fails)) in
            let parts = and_parts (not (is_free found.0)) (is_at ptr.place found.0 && (found.0.size == block.size)) found.2 in
            let more = and_parts (is_at ptr.place found.0) (found.0.size == block.size) parts.1 in
            (found.0, found.1, eqb-true found.0.place ptr.place more.0, eqb-true found.0.size block.size more.1)

  -- it stays where another becomes free
  pub free_stays : (freed : Pointer) → ptr.place ≢ freed.place → free_ptr freed old ≡ Ok new → Stays ptr old new
  free_stays freed apart served size told =
      kept_size (live_through_free meant (λ slot. slot == freed.slot) ptr.place freed.place old new good (size_is ptr old size told).0 apart served)
      (λ block has live at. (block, live_from_free (λ slot. slot == freed.slot) freed.place old new block served has live, at, refl)) size told

  module _ (moved given : Pointer) (n : ℕ) (apart : ptr.place ≢ moved.place) (served : realloc_ptr (Some moved) n given.slot old ≡ Ok (Some (given.place, given.slot), new)) where
    -- where another moves, it moves elsewhere
    pub moves_elsewhere : (size : ℕ) → block_size_ptr ptr old ≡ Ok size → given.place ≢ ptr.place
    moves_elsewhere size told = moved_elsewhere meant (λ a b. a == b) given.slot moved.slot ptr.place moved.place n given.place given.slot (Some (given.place, given.slot)) old new good (size_is ptr old size told).0 apart served refl

    pub move_stays : Stays ptr old new
    move_stays size told =
        kept_size (live_through_realloc meant (λ a b. a == b) given.slot moved.slot ptr.place moved.place n (Some (given.place, given.slot)) old new good (size_is ptr old size told).0 apart served)
        (λ block has live at. elim (live_from_realloc (λ a b. a == b) given.slot moved.slot moved.place n old block given.place given.slot new served has live) [
          | inl stood ↦ (block, stood, at, refl)
          | inr there ↦ absurd (moves_elsewhere size told (sym there ∙ at))
        ]) size told

-- malloc that may take a block of the bytes' own class keeps a content good
pub or_own_is_good : (owner n place : ℕ) (content new : Content ℕ) → IsGood content → malloc_or_own owner n content ≡ Ok (place, new) → IsGood new
or_own_is_good owner n place content new good served = elim (cases_eq n 0) [
  | inl nothing ↦ let refused : malloc_or_own owner n content ≡ Err ZeroSize = rw (eq-eqb n 0 nothing) refl in absurd (cc)
  | inr some ↦ (
      let gave = or_own_gave content good owner n (place, new) served in
      let is : malloc_or_own owner n content ≡ malloc_or_own_rounded owner (round n) content = rw (ne_eqb n 0 some) refl in
      let rounds = round-Some n gave.0 gave.2 in
      by gave.0 gave.1 gave.3 (omega (arith, rounds.least, some)) rounds.whole (ap (λ (g : ℕ × Content ℕ). g.0) gave.4)
      (picked_or_own gave.0 content (pick gave.0 content.lists)) (sym (ap (λ m. malloc_or_own_rounded owner m content) gave.2) ∙ sym is ∙ served))
]
  where
    by : (m at : ℕ) → Picked m at content → 0 < m → m % 16 ≡ 0 → at ≡ place → (found : Option ℕ) → malloc_picked owner m found content ≡ Ok (place, new) → IsGood new
    by m at is positive in_units same None e = absurd (cc)
    by m at is positive in_units same (Some there) e = elim (cases_Bool (nat_lt m (size_at there (blocks_of content.pools)) && nat_le content.records (used_records content))) [
      | inl full ↦ let refused : malloc_picked owner m (Some there) content ≡ Err TableFull = rw full refl in absurd (cc)
      | inr room ↦ (
          let given : malloc_picked owner m (Some there) content ≡ Ok (there, allocated owner there m (size_at there (blocks_of content.pools)) content) = rw room refl in
          let pair : (there, allocated owner there m (size_at there (blocks_of content.pools)) content) ≡ (place, new) = cc in
          let first : there ≡ place = ap (λ (g : ℕ × Content ℕ). g.0) pair in
          allocate_is_good owner m there content (place, new) good (subst (λ (p : ℕ). Picked m p content) (same ∙ sym first) is) positive in_units e)
    ]
