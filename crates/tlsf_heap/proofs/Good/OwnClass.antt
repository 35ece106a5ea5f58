-- What malloc gives that may take a block of the bytes' own class: a live block of the bytes, rounded up.
use Rattle.std.proofs.Common.{◌≡◌, ℕ, ◌≤◌, Bool, true, List, [], ◌∷◌, refl, sym, ap, ◌∙◌, subst, arith, cond, Option, Some, None, inl, inr}
use Rattle.std.specs.Prelude.{◌==◌, ◌&&◌, nat_lt, nat_le, Ok, Err}
use Rattle.std.proofs.lemmas.Bool.{cases_Bool, eq-eqb, leb-true}
use Rattle.tlsf_class.specs.Classes.{class}
use Rattle.tlsf_class.specs.Rounding.{round}
use Rattle.tlsf_class.proofs.ClassLaws.{class-lt}
use Rattle.tlsf_heap.specs.declared.refusal.Refusal.TheVariants.{ZeroSize, TableFull}
use Rattle.tlsf_heap.specs.Content.{Content, blocks_of, size_at, used_records}
use Rattle.tlsf_heap.specs.Free.{is_live}
use Rattle.tlsf_heap.specs.Good.{IsGood, times}
use Rattle.tlsf_heap.specs.Lists.{list_of, pick}
use Rattle.tlsf_heap.specs.Malloc.{malloc_picked}
use Rattle.tlsf_heap.specs.OwnClass.{first_if_holds, picked_or_own, malloc_or_own_rounded, malloc_or_own}
use Rattle.tlsf_heap.proofs.Counts.{one_if, count-cons}
use Rattle.tlsf_heap.proofs.Content.MallocCases.{split_there}
use Rattle.tlsf_heap.proofs.Good.GivenSizes.{AreRounded, replaced_sized}
use Rattle.tlsf_heap.proofs.Good.MallocIsGood.{Picked, picked, listed_picked}
use Rattle.tlsf_heap.proofs.Good.StaysLive.{Gives, split_gives, given_is_live}

module _ {A : Type 0} (content : Content A) (good : IsGood content) where
  own_by : (m place : ℕ) (list : List ℕ) → list_of (class m) content.lists ≡ list → first_if_holds m content list ≡ Some place → Picked m place content
  own_by m place [] is found = absurd (cc)
  own_by m place (first ∷ rest) is found = elim (cases_Bool (nat_le m (size_at first (blocks_of content.pools)))) [
    | inl holds ↦
        let same : first ≡ place = (let e : ◌≡◌ {A = Option ℕ} (Some first) (Some place) = sym (ap (λ b. cond b (Some first) None) holds) ∙ found in cc) in
        let stands : 1 ≤ times first (list_of (class m) content.lists) = omega (arith, ap (times first) is, count-cons (λ other. other == first) first rest, ap one_if (eq-eqb first first refl)) in
        subst (λ (p : ℕ). Picked m p content) same (listed_picked m first (class m) content good (class-lt m) stands (leb-true m (size_at first (blocks_of content.pools)) holds))
    | inr small ↦ absurd (let e : ◌≡◌ {A = Option ℕ} None (Some place) = sym (ap (λ b. cond b (Some first) None) small) ∙ found in cc)
  ]

  -- the block that is found holds the bytes
  found_picked : (m place : ℕ) (by_pick : Option ℕ) → pick m content.lists ≡ by_pick → picked_or_own m content by_pick ≡ Some place → Picked m place content
  found_picked m place None none found = own_by m place (list_of (class m) content.lists) refl found
  found_picked m place (Some other) some found = picked m place content good (some ∙ found)

  module _ (owner : A) (n : ℕ) (given : ℕ × Content A) where
    -- it gave the block that was found, split
    abbrev pub Gave : Type 0
    Gave = (asked place : ℕ) × (round n ≡ Some asked) × Picked asked place content × (split_there owner content asked place ≡ given)

    gave_found : (m : ℕ) (found : Option ℕ) → round n ≡ Some m → picked_or_own m content (pick m content.lists) ≡ found → malloc_picked owner m found content ≡ Ok given → Gave
    gave_found m None rounds is served = absurd (cc)
    gave_found m (Some place) rounds is served = elim (cases_Bool (nat_lt m (size_at place (blocks_of content.pools)) && nat_le content.records (used_records content))) [
      | inl full ↦ let refused : malloc_picked owner m (Some place) content ≡ Err TableFull = rw full refl in absurd (cc)
      | inr room ↦
          let is_given : malloc_picked owner m (Some place) content ≡ Ok (split_there owner content m place) = rw room refl in
          (m, place, rounds, found_picked m place (pick m content.lists) refl is, cc)
    ]

    gave_rounded : (m : Option ℕ) → round n ≡ m → malloc_or_own_rounded owner m content ≡ Ok given → Gave
    gave_rounded None rounds served = absurd (cc)
    gave_rounded (Some m) rounds served = gave_found m (picked_or_own m content (pick m content.lists)) rounds refl served

    pub or_own_gave : malloc_or_own owner n content ≡ Ok given → Gave
    or_own_gave served = elim (cases_Bool (n == 0)) [
      | inl nothing ↦ let refused : malloc_or_own owner n content ≡ Err ZeroSize = rw nothing refl in absurd (cc)
      | inr some ↦ let is : malloc_or_own owner n content ≡ malloc_or_own_rounded owner (round n) content = rw some refl in gave_rounded (round n) refl (sym is ∙ served)
    ]

    module _ (served : malloc_or_own owner n content ≡ Ok given) where
      pub or_own_gives : Gives owner given.0 content given.1
      or_own_gives = let gave = or_own_gave served in subst (λ (g : ℕ × Content A). Gives owner g.0 content g.1) gave.4 (split_gives owner gave.0 gave.1 content gave.3)

      -- the block is live
      pub or_own_live : (is_meant : A → Bool) → is_meant owner ≡ true → is_live is_meant given.0 (blocks_of given.1.pools) ≡ true
      or_own_live is_meant meant = given_is_live is_meant owner given.0 content given.1 or_own_gives meant

      -- and has the bytes, rounded up
      pub or_own_sized : AreRounded n given.0 given.1
      or_own_sized =
          let gave = or_own_gave served in
          subst (λ (g : ℕ × Content A). AreRounded n g.0 g.1) gave.4 (λ b has live at. replaced_sized owner gave.1 gave.0 (size_at gave.1 (blocks_of content.pools)) n content.pools b gave.2 has live at)
