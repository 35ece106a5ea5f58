-- What malloc, free and realloc gave, where they weren't refused.
use Rattle.std.proofs.Common.{◌≡◌, ◌≢◌, ℕ, Bool, true, refl, sym, ap, ◌∙◌, subst, Option, Some, None, Result, Ok, Err, inl, inr}
use Rattle.std.specs.Prelude.{◌==◌, nat_lt}
use Rattle.std.proofs.lemmas.Bool.{cases_Bool, eqb-true, eqb-false}
use Rattle.tlsf_class.specs.Rounding.{round}
use Rattle.tlsf_heap.specs.declared.refusal.Refusal.{Refusal}
use Rattle.tlsf_heap.specs.declared.refusal.Refusal.TheVariants.{NoFit, BadPointer}
use Rattle.tlsf_heap.specs.Content.{Content, blocks_of, size_at}
use Rattle.tlsf_heap.specs.Lists.{pick}
use Rattle.tlsf_heap.specs.Malloc.{malloc_rounded, malloc}
use Rattle.tlsf_heap.specs.Free.{is_live, after_free, free}
use Rattle.tlsf_heap.proofs.Content.MallocCases.{split_there, rounded_cases, malloc_cases}
use Rattle.tlsf_heap.specs.Realloc.{fits_in_place, resized, moved, realloc_sized, realloc_rounded, realloc}

module _ {A : Type 0} (owner : A) (content : Content A) where
  -- the block that was picked, split
  pub rounded_gave : (m : Option ℕ) (given : ℕ × Content A) → malloc_rounded owner m content ≡ Ok given → (asked place : ℕ) × (m ≡ Some asked) × (pick asked content.lists ≡ Some place) × (split_there owner content asked place ≡ given)
  rounded_gave m given =
      rounded_cases owner content (λ r. r ≡ Ok given → (asked place : ℕ) × (m ≡ Some asked) × (pick asked content.lists ≡ Some place) × (split_there owner content asked place ≡ given)) m
      (λ none e. absurd (cc)) (λ p full e. absurd (cc)) (λ p e. (p.asked, p.place, p.rounds, p.found, cc))

  -- malloc gave the block that it picked, split
  pub malloc_gave : (n : ℕ) (given : ℕ × Content A) → malloc owner n content ≡ Ok given → (asked place : ℕ) × (round n ≡ Some asked) × (pick asked content.lists ≡ Some place) × (split_there owner content asked place ≡ given)
  malloc_gave n given =
      malloc_cases owner content n (λ r. r ≡ Ok given → (asked place : ℕ) × (round n ≡ Some asked) × (pick asked content.lists ≡ Some place) × (split_there owner content asked place ≡ given))
      (λ nothing e. absurd (cc)) (λ some none e. absurd (cc)) (λ p full e. absurd (cc)) (λ p e. (p.asked, p.place, p.rounds, p.found, cc))

-- free was of a live block
pub free_gave : {A : Type 0} (is_meant : A → Bool) (place : ℕ) (content new : Content A) → free is_meant place content ≡ Ok new → (is_live is_meant place (blocks_of content.pools) ≡ true) × (after_free place content ≡ new)
free_gave is_meant place content new e = elim (cases_Bool (is_live is_meant place (blocks_of content.pools))) [
  | inl live ↦ let is : free is_meant place content ≡ Ok (after_free place content) = rw live refl in (live, cc)
  | inr stale ↦ let refused : free is_meant place content ≡ Err BadPointer = rw stale refl in absurd (cc)
]

-- realloc of a live block: what is known of all that it can give is known of what it gave
module _ {A : Type 0} (same : A → A → Bool) (owner known : A) (place n : ℕ) (content : Content A) where
  abbrev IsLiveThere : Type 0
  IsLiveThere = is_live (λ other. same other known) place (blocks_of content.pools) ≡ true

  -- these are the bytes asked for, others than the block has, and it can have them in its place
  pub record IsInPlace (m : ℕ) : Type 0 where
    pub rounds : round n ≡ Some m
    pub fits : fits_in_place place m content ≡ true
    pub other : m ≢ size_at place (blocks_of content.pools)

  -- each of its answers
  pub realloc_cases : (P : Result (Option (ℕ × A) × Content A) Refusal → Type 0)
      → P (Err BadPointer)
      → (IsLiveThere → n ≡ 0 → P (Ok (None, after_free place content)))
      → (IsLiveThere → n ≢ 0 → round n ≡ None → P (Err NoFit))
      → (IsLiveThere → n ≢ 0 → P (Ok (Some (place, known), content)))
      → ((m : ℕ) → IsLiveThere → n ≢ 0 → IsInPlace m → P (Ok (Some (place, known), resized known place m content)))
      → (IsLiveThere → n ≢ 0 → P (moved owner place (malloc owner n content)))
      → P (realloc same owner (Some (place, known)) n content)
  realloc_cases P stale freed large kept in_place elsewhere = elim (cases_Bool (is_live (λ other. same other known) place (blocks_of content.pools))) [
    | inr none ↦ let is : realloc same owner (Some (place, known)) n content ≡ Err BadPointer = rw none refl in subst P (sym is) stale
    | inl live ↦ elim (cases_Bool (n == 0)) [
      | inl nothing ↦ let is : realloc same owner (Some (place, known)) n content ≡ Ok (None, after_free place content) = rw (live, nothing) refl in subst P (sym is) (freed live (eqb-true n 0 nothing))
      | inr some ↦
          let is : realloc same owner (Some (place, known)) n content ≡ realloc_rounded owner place known (round n) content = rw (live, some) refl in
          let asked : malloc owner n content ≡ malloc_rounded owner (round n) content = rw some refl in
          subst P (sym is) (rounded live (eqb-false n 0 some) (round n) refl asked)
    ]
  ]
    where
      rounded : IsLiveThere → n ≢ 0 → (m : Option ℕ) → round n ≡ m → malloc owner n content ≡ malloc_rounded owner m content → P (realloc_rounded owner place known m content)
      rounded live some None rounds asked = large live some rounds
      rounded live some (Some m) rounds asked = elim (cases_Bool (m == size_at place (blocks_of content.pools))) [
        | inl equal ↦ let is : realloc_sized owner place known m content ≡ Ok (Some (place, known), content) = rw equal refl in subst P (sym is) (kept live some)
        | inr other ↦ elim (cases_Bool (fits_in_place place m content)) [
          | inl fits ↦
              let is : realloc_sized owner place known m content ≡ Ok (Some (place, known), resized known place m content) = rw (other, fits) refl in
              subst P (sym is) (in_place m live some (record { rounds = rounds; fits = fits; other = eqb-false m (size_at place (blocks_of content.pools)) other }))
          | inr beyond ↦ elim (cases_Bool (nat_lt m (size_at place (blocks_of content.pools)))) [
            | inl less ↦ let is : realloc_sized owner place known m content ≡ Ok (Some (place, known), content) = rw (other, beyond, less) refl in subst P (sym is) (kept live some)
            | inr more ↦
                let is : realloc_sized owner place known m content ≡ moved owner place (malloc_rounded owner (Some m) content) = rw (other, beyond, more) refl in
                subst P (sym (is ∙ ap (moved owner place) (sym asked))) (elsewhere live some)
          ]
        ]
      ]

  pub realloc_left : (P : Option (ℕ × A) × Content A → Type 0)
      → (IsLiveThere → n ≡ 0 → P (None, after_free place content))
      → (IsLiveThere → n ≢ 0 → P (Some (place, known), content))
      → ((m : ℕ) → IsLiveThere → n ≢ 0 → IsInPlace m → P (Some (place, known), resized known place m content))
      → ((given : ℕ × Content A) → IsLiveThere → n ≢ 0 → malloc owner n content ≡ Ok given → P (Some (given.0, owner), after_free place given.1))
      → (answer : Option (ℕ × A) × Content A) → realloc same owner (Some (place, known)) n content ≡ Ok answer → P answer
  realloc_left P freed kept in_place elsewhere answer =
      realloc_cases (λ r. r ≡ Ok answer → P answer)
      (λ e. absurd (cc))
      (λ live nothing. left (None, after_free place content) (freed live nothing))
      (λ live some none e. absurd (cc))
      (λ live some. left (Some (place, known), content) (kept live some))
      (λ m live some is. left (Some (place, known), resized known place m content) (in_place m live some is))
      (λ live some. moved_left live some (malloc owner n content) refl)
    where
      left : (there : Option (ℕ × A) × Content A) → P there → ◌≡◌ {A = Result (Option (ℕ × A) × Content A) Refusal} (Ok there) (Ok answer) → P answer
      left there holds e = let is : there ≡ answer = cc in subst P is holds

      moved_left : IsLiveThere → n ≢ 0 → (served : Result (ℕ × Content A) Refusal) → malloc owner n content ≡ served → moved owner place served ≡ Ok answer → P answer
      moved_left live some (Err why) is e = absurd (cc)
      moved_left live some (Ok given) is e = left (Some (given.0, owner), after_free place given.1) (elsewhere given live some is) e

  -- the same, whatever bytes it has in its place
  pub realloc_gave : (P : Option (ℕ × A) × Content A → Type 0)
      → (IsLiveThere → n ≡ 0 → P (None, after_free place content))
      → (IsLiveThere → n ≢ 0 → P (Some (place, known), content))
      → ((m : ℕ) → IsLiveThere → n ≢ 0 → P (Some (place, known), resized known place m content))
      → ((given : ℕ × Content A) → IsLiveThere → n ≢ 0 → malloc owner n content ≡ Ok given → P (Some (given.0, owner), after_free place given.1))
      → (answer : Option (ℕ × A) × Content A) → realloc same owner (Some (place, known)) n content ≡ Ok answer → P answer
  realloc_gave P freed kept in_place elsewhere = realloc_left P freed kept (λ m live some is. in_place m live some) elsewhere
