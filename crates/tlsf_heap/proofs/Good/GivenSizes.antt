-- A block that is given has the bytes asked for, rounded up: where a record is left, a smaller one too.
use Rattle.std.proofs.Common.{◌≡◌, ◌≢◌, ℕ, ◌+◌, ◌-◌, ◌<◌, ◌≤◌, Bool, true, false, List, [], ◌∷◌, map, count_by, Option, Some, None, Ok, Err, inl, inr, refl, sym, ap, ◌∙◌, subst, arith}
use Rattle.std.specs.Prelude.{◌==◌, ◌&&◌, Result, is_some}
use Rattle.std.specs.Int.{next_multiple_of}
use Rattle.std.specs.List.{Contains}
use Rattle.std.proofs.lemmas.Bool.{cases_Bool, cases_eq, cases_lt, eq-eqb, ne_eqb, eqb-true, lt-ltb, and_parts, and_left}
use Rattle.tlsf_class.specs.Rounding.{round}
use Rattle.tlsf_class.proofs.RoundingLaws.{round-Some}
use Rattle.tlsf_heap.specs.declared.refusal.Refusal.{Refusal}
use Rattle.tlsf_heap.specs.declared.refusal.Refusal.TheVariants.{BadPointer}
use Rattle.tlsf_heap.specs.Content.{Block, Pool, Content, blocks_of, is_free, is_at, size_at, used_records}
use Rattle.tlsf_heap.specs.Malloc.{gap, replaced_in, split, malloc, malloc_rounded}
use Rattle.tlsf_heap.specs.Memalign.{size_asked, split_in_three, memalign}
use Rattle.tlsf_heap.specs.Free.{is_live, after_free, free_next, without_block}
use Rattle.tlsf_heap.specs.Realloc.{size_with_next, fits_in_place, resized, moved, realloc_sized, realloc_rounded, realloc}
use Rattle.tlsf_heap.specs.Good.{IsGood}
use Rattle.tlsf_heap.proofs.Counts.{one_if, count-cons, count-append}
use Rattle.tlsf_heap.proofs.Content.Given.{malloc_gave}
use Rattle.tlsf_heap.proofs.Content.MemalignCases.{IsPicked, split_aligned_of, memalign_given}
use Rattle.tlsf_heap.proofs.Content.ReallocCases.{sized_same, sized_in_place, sized_kept, sized_moved, realloc_freed, realloc_resized}
use Rattle.tlsf_heap.proofs.Content.Replacing.{blocks_of-replaced}
use Rattle.tlsf_heap.proofs.Good.LiveBlocks.{stands_first, stands_later, stands_first_or_later, gap_is_free, size_here, live_from_after_free, elsewhere_or_other}
use Rattle.tlsf_heap.proofs.Good.MallocIsGood.{picked}
use Rattle.tlsf_heap.proofs.Good.StaysLive.{is_free_at, picked_stands, given_replaced}
use Rattle.tlsf_heap.proofs.Meaning.AlignedIsGood.{memalign_is_good}

module _ {A : Type 0} where
  -- n bytes, rounded up, are the block's
  abbrev pub IsRounded : ℕ → Block A → Type 0
  IsRounded n b = (m : ℕ) × (round n ≡ Some m) × (b.size ≡ m)

  -- each live block at the place has the bytes asked for
  abbrev pub AreRounded : ℕ → ℕ → Content A → Type 0
  AreRounded n place content = (b : Block A) → Contains (blocks_of content.pools) b → is_free b ≡ false → b.place ≡ place → IsRounded n b

  abbrev is_sized : ℕ → ℕ → Block A → Bool
  is_sized place m b = is_at place b && (b.size == m)

  pub found_counted : (test : Block A → Bool) (blocks : List (Block A)) → 1 ≤ count_by test blocks → (b : Block A) × Contains blocks b × (test b ≡ true)
  found_counted test [] some = absurd (omega (arith, some))
  found_counted test (block ∷ blocks) some = elim (cases_Bool (test block)) [
    | inl passes ↦ (block, stands_first block blocks, passes)
    | inr fails ↦
        let rest = found_counted test blocks (omega (arith, some, count-cons test block blocks, ap one_if fails)) in
        (rest.0, stands_later block rest.0 blocks rest.1, rest.2)
  ]

  -- of a split in three, one has the place and the bytes
  three_sized : (owner : A) (start m place size : ℕ) → 1 ≤ count_by (is_sized start m) (split_in_three owner start m place size)
  three_sized owner start m place size =
      let block : Block A = record { place = start; size = m; owner = Some owner } in
      let left : ℕ = size - (start - place) in
      let passes : is_sized start m block ≡ true = rw (eq-eqb start start refl, eq-eqb m m refl) refl in
      omega (
        arith,
        count-append (is_sized start m) (gap place (start - place)) (split owner start m left),
        count-cons (is_sized start m) block (gap (start + m) (left - m)),
        ap one_if passes,
      )

  -- of a split in two, the live one has
  two_sized : (owner : A) (place m size n : ℕ) (b : Block A) → round n ≡ Some m → Contains (split owner place m size) b → is_free b ≡ false → IsRounded n b
  two_sized owner place m size n b rounds has live =
      let block : Block A = record { place = place; size = m; owner = Some owner } in
      elim (stands_first_or_later block b (gap (place + m) (size - m)) has) [
        | inl same ↦ (m, rounds, ap (λ (x : Block A). x.size) (sym same))
        | inr behind ↦ absurd (let e : true ≡ false = sym (gap_is_free (place + m) (size - m) b behind) ∙ live in cc)
      ]

  pub replaced_sized : (owner : A) (place m size n : ℕ) (pools : List (Pool A)) (b : Block A) → round n ≡ Some m → Contains (blocks_of (map (replaced_in place (split owner place m size)) pools)) b → is_free b ≡ false → b.place ≡ place → IsRounded n b
  replaced_sized owner place m size n pools b rounds has live at =
      elim (elsewhere_or_other place (split owner place m size) (blocks_of pools) b (subst (λ (xs : List (Block A)). Contains xs b) (blocks_of-replaced place (split owner place m size) pools) has)) [
        | inl away ↦ absurd (away at)
        | inr came ↦ two_sized owner place m size n b rounds came live
      ]

  -- what malloc and memalign give
  pub malloc_sized : (owner : A) (n : ℕ) (content : Content A) (given : ℕ × Content A) → malloc owner n content ≡ Ok given → AreRounded n given.0 given.1
  malloc_sized owner n content given served =
      let gave = malloc_gave owner content n given served in
      subst (λ (g : ℕ × Content A). AreRounded n g.0 g.1) gave.4 (λ b has live at. replaced_sized owner gave.1 gave.0 (size_at gave.1 (blocks_of content.pools)) n content.pools b gave.2 has live at)

  pub memalign_sized : (owner : A) (align n : ℕ) (content : Content A) (given : ℕ × Content A) → IsGood content → memalign owner align n content ≡ Ok given → AreRounded n given.0 given.1
  memalign_sized owner align n content given good served =
      let gave = memalign_given owner align n content given served in
      let p : IsPicked owner align n content = gave.0 in
      let start : ℕ = next_multiple_of p.place align in
      let others : List (Block A) = split_in_three owner start p.asked p.place (size_at p.place (blocks_of content.pools)) in
      let test : Block A → Bool = is_sized start p.asked in
      let counted : 1 ≤ count_by test (blocks_of (map (replaced_in p.place others) content.pools)) = omega (
        arith,
        ap (count_by test) (blocks_of-replaced p.place others content.pools),
        given_replaced test (is_free_at p.place) p.place others (blocks_of content.pools) (λ block. and_left (is_at p.place block) (is_free block)) (picked_stands (size_asked align p.asked) p.place content (picked (size_asked align p.asked) p.place content good p.found)),
        three_sized owner start p.asked p.place (size_at p.place (blocks_of content.pools)),
      ) in
      let now : Content A = split_aligned_of owner align n content p in
      subst (λ (g : ℕ × Content A). IsGood g.1 → AreRounded n g.0 g.1) gave.1 (λ good_now b has live at. (
      let found = found_counted test (blocks_of now.pools) counted in
      let parts = and_parts (is_at start found.0) (found.0.size == p.asked) found.2 in
      let own : b.size ≡ size_at start (blocks_of now.pools) = size_here start now b good_now has at in
      let one : found.0.size ≡ size_at start (blocks_of now.pools) = size_here start now found.0 good_now found.1 (eqb-true found.0.place start parts.0) in
      (p.asked, p.rounds, omega (arith, own, one, eqb-true found.0.size p.asked parts.1))))
      (memalign_is_good owner align n content given good served)

  -- what realloc gives: what holds of a block of the bytes asked for, and of one that stays though it could get smaller
  module _ (P : Block A → Type 0) (same : A → A → Bool) (owner known : A) (place n : ℕ) (content : Content A) (good : IsGood content) where
    abbrev pub IsMoved : Option (ℕ × A) × Content A → Type 0
    IsMoved given = (q : ℕ) (o : A) → given.0 ≡ Some (q, o) → (b : Block A) → Contains (blocks_of given.1.pools) b → is_free b ≡ false → b.place ≡ q → P b

    module _ (of_rounded : (b : Block A) → IsRounded n b → P b)
        (stays : (m : ℕ) → round n ≡ Some m → m < size_at place (blocks_of content.pools) → fits_in_place place m content ≡ false → (b : Block A) → Contains (blocks_of content.pools) b → b.place ≡ place → P b) where
      moved_to : (q : ℕ) (o : A) (now : Content A) → ((b : Block A) → Contains (blocks_of now.pools) b → is_free b ≡ false → b.place ≡ q → P b) → IsMoved (Some (q, o), now)
      moved_to q o now sized p other is =
          let at : q ≡ p = (let pair : (q, o) ≡ (p, other) = cc in ap (λ (pointer : ℕ × A). pointer.0) pair) in
          subst (λ r. (b : Block A) → Contains (blocks_of now.pools) b → is_free b ≡ false → b.place ≡ r → P b) at sized

      anew : (given : Option (ℕ × A) × Content A) (served : Result (ℕ × Content A) Refusal) → malloc owner n content ≡ served → moved owner place served ≡ Ok given → IsMoved given
      anew given (Err why) is e = absurd (cc)
      anew given (Ok new) is e =
          let there : (Some (new.0, owner), after_free place new.1) ≡ given = cc in
          subst IsMoved there (moved_to new.0 owner (after_free place new.1) (λ b has live at. of_rounded b (malloc_sized owner n content new is b (live_from_after_free place new.1 b has live) live at)))

      rounded_moved : (m : ℕ) (given : Option (ℕ × A) × Content A) → n ≢ 0 → round n ≡ Some m → realloc_sized owner place known m content ≡ Ok given → IsMoved given
      rounded_moved m given some rounds e = elim (cases_eq m (size_at place (blocks_of content.pools))) [
        | inl kept ↦
            let way = sized_same owner known place m content kept in
            let there : (Some (place, known), content) ≡ given = cc in
            subst IsMoved there (moved_to place known content (λ b has live at. of_rounded b (m, rounds, size_here place content b good has at ∙ sym kept)))
        | inr other ↦ elim (cases_Bool (fits_in_place place m content)) [
          | inl fits ↦
              let way = sized_in_place owner known place m content other fits in
              let there : (Some (place, known), resized known place m content) ≡ given = cc in
              subst IsMoved there
              (moved_to place known (resized known place m content) (λ b has live at. of_rounded b (replaced_sized known place m (size_with_next place content) n (without_block (free_next place content) content.pools) b rounds has live at)))
          | inr beyond ↦ elim (cases_lt m (size_at place (blocks_of content.pools))) [
            | inl less ↦
                let way = sized_kept owner known place m content less beyond in
                let there : (Some (place, known), content) ≡ given = cc in
                subst IsMoved there (moved_to place known content (λ b has live at. stays m rounds less beyond b has at))
            | inr most ↦
                let more : size_at place (blocks_of content.pools) < m = grind (arith, most, other) in
                let asked : malloc owner n content ≡ malloc_rounded owner (round n) content = rw (ne_eqb n 0 some) refl in
                anew given (malloc_rounded owner (Some m) content) (asked ∙ ap (λ r. malloc_rounded owner r content) rounds) (sym (sized_moved owner known place m content more beyond) ∙ e)
          ]
        ]
      ]

      pub moved_by : (given : Option (ℕ × A) × Content A) → realloc same owner (Some (place, known)) n content ≡ Ok given → IsMoved given
      moved_by given e = elim (cases_Bool (is_live (λ other. same other known) place (blocks_of content.pools))) [
        | inr stale ↦ let refused : realloc same owner (Some (place, known)) n content ≡ Err BadPointer = rw stale refl in absurd (cc)
        | inl live ↦ elim (cases_eq n 0) [
          | inl nothing ↦
              let freed = realloc_freed same owner known place n content live nothing in
              let there : (None, after_free place content) ≡ given = cc in
              subst IsMoved there (λ q o is. absurd (cc))
          | inr some ↦ of (round n) refl live some
        ]
      ]
        where
          of : (m : Option ℕ) → round n ≡ m → is_live (λ other. same other known) place (blocks_of content.pools) ≡ true → n ≢ 0 → IsMoved given
          of None rounds live some =
              let refused : realloc same owner (Some (place, known)) n content ≡ realloc_rounded owner place known (round n) content = rw (live, ne_eqb n 0 some) refl in
              let none = ap (λ r. realloc_rounded owner place known r content) rounds in
              absurd (cc)
          of (Some m) rounds live some = rounded_moved m given some rounds (sym (realloc_resized same owner known place n m content live some rounds) ∙ e)

  module _ (same : A → A → Bool) (owner known : A) (place n : ℕ) (content : Content A) (good : IsGood content) where
    -- the block has the bytes asked for, rounded up, where a record is left for the rest of one that gets smaller
    pub moved_sized : used_records content < content.records → (given : Option (ℕ × A) × Content A) → realloc same owner (Some (place, known)) n content ≡ Ok given → IsMoved (IsRounded n) same owner known place n content good given
    moved_sized room = moved_by (IsRounded n) same owner known place n content good (λ b is. is)
        (λ m rounds less beyond. absurd (let f : true ≡ false = sym (smaller_fits m less) ∙ beyond in cc))
      where
        smaller_fits : (m : ℕ) → m < size_at place (blocks_of content.pools) → fits_in_place place m content ≡ true
        smaller_fits m less = elim (cases_Bool (is_some (free_next place content))) [
          | inl some ↦ rw (lt-ltb m (size_at place (blocks_of content.pools)) less, some) refl
          | inr none ↦ rw (lt-ltb m (size_at place (blocks_of content.pools)) less, none, lt-ltb (used_records content) content.records room) refl
        ]

    -- in any case it has at least these
    pub moved_holds : (given : Option (ℕ × A) × Content A) → realloc same owner (Some (place, known)) n content ≡ Ok given → IsMoved (λ b. n ≤ b.size) same owner known place n content good given
    moved_holds = moved_by (λ b. n ≤ b.size) same owner known place n content good
        (λ b is. omega (arith, (round-Some n is.0 is.1).least, is.2))
        (λ m rounds less beyond b has at. omega (arith, (round-Some n m rounds).least, less, size_here place content b good has at))
