-- What realloc gives a live block, case by case.
use Rattle.std.proofs.Common.{◌≡◌, ◌≢◌, ℕ, ◌<◌, refl, arith, Bool, true, false, Option, Some, Ok, None, ap, cond, ◌∙◌, Result, Err, inl, inr}
use Rattle.std.specs.Prelude.{◌==◌, ◌⊎◌}
use Rattle.std.proofs.lemmas.Bool.{eq-eqb, ne_eqb, lt-ltb, le-ltb}
use Rattle.tlsf_heap.specs.Content.{Content, blocks_of, size_at}
use Rattle.tlsf_heap.specs.Malloc.{malloc_rounded, malloc}
use Rattle.tlsf_heap.specs.Realloc.{fits_in_place, resized, moved, realloc_sized, realloc_rounded, realloc, given_anew}
use Rattle.tlsf_class.specs.Rounding.{round}
use Rattle.tlsf_heap.specs.Free.{is_live, after_free}
use Rattle.tlsf_heap.specs.declared.refusal.Refusal.{Refusal}
use Rattle.tlsf_heap.specs.declared.refusal.Refusal.TheVariants.{NoFit, BadPointer}
use Rattle.tlsf_heap.proofs.Content.Given.{realloc_cases}

module _ {A : Type 0} (owner known : A) (place m : ℕ) (content : Content A) where
  abbrev size : ℕ
  size = size_at place (blocks_of content.pools)

  -- the same size
  pub sized_same : m ≡ size_at place (blocks_of content.pools) → realloc_sized owner place known m content ≡ Ok (Some (place, known), content)
  sized_same same = rw (eq-eqb m size same) refl

  -- in its place
  pub sized_in_place : m ≢ size_at place (blocks_of content.pools) → fits_in_place place m content ≡ true → realloc_sized owner place known m content ≡ Ok (Some (place, known), resized known place m content)
  sized_in_place other fits = rw (ne_eqb m size other, fits) refl

  -- smaller, and yet it stays
  pub sized_kept : m < size_at place (blocks_of content.pools) → fits_in_place place m content ≡ false → realloc_sized owner place known m content ≡ Ok (Some (place, known), content)
  sized_kept less beyond = rw (ne_eqb m size (λ e. absurd (omega (arith, e, less))), beyond, lt-ltb m size less) refl

  -- moved
  pub sized_moved : size_at place (blocks_of content.pools) < m → fits_in_place place m content ≡ false → realloc_sized owner place known m content ≡ moved owner place (malloc_rounded owner (Some m) content)
  sized_moved more beyond = rw (ne_eqb m size (λ e. absurd (omega (arith, e, more))), beyond, le-ltb m size (omega (arith, more))) refl

-- of a live block
module _ {A : Type 0} (same : A → A → Bool) (owner known : A) (place n : ℕ) where
  pub realloc_freed : (content : Content A) → is_live (λ other. same other known) place (blocks_of content.pools) ≡ true → n ≡ 0 → realloc same owner (Some (place, known)) n content ≡ Ok (None, after_free place content)
  realloc_freed content live nothing = rw (live, eq-eqb n 0 nothing) refl

  pub realloc_resized : (m : ℕ) (content : Content A) → is_live (λ other. same other known) place (blocks_of content.pools) ≡ true → n ≢ 0 → round n ≡ Some m → realloc same owner (Some (place, known)) n content ≡ realloc_sized owner place known m content
  realloc_resized m content live some rounded =
      let asked : realloc same owner (Some (place, known)) n content ≡ cond (n == 0) (Ok (None, after_free place content)) (realloc_rounded owner place known (round n) content) = rw live refl in
      asked ∙ ap (λ b. cond b (Ok (None, after_free place content)) (realloc_rounded owner place known (round n) content)) (ne_eqb n 0 some) ∙ ap (λ r. realloc_rounded owner place known r content) rounded

-- why it is refused: as malloc, or for its own reasons
module _ {A : Type 0} (owner : A) (refusal : Refusal) where
  moved_refused : (old : ℕ) (answer : Result (ℕ × Content A) Refusal) → moved owner old answer ≡ Err refusal → answer ≡ Err refusal
  moved_refused old (Err why) e = ap (λ r. Err r) (cc)
  moved_refused old (Ok given) e = absurd (cc)

  pub realloc_refused : (same : A → A → Bool) (pointer : Option (ℕ × A)) (n : ℕ) (content : Content A) → realloc same owner pointer n content ≡ Err refusal → (malloc owner n content ≡ Err refusal) ⊎ (((refusal ≡ NoFit) × (n ≢ 0) × (round n ≡ None)) ⊎ (refusal ≡ BadPointer))
  realloc_refused same None n content e = inl (of (malloc owner n content) e)
    where
      of : (answer : Result (ℕ × Content A) Refusal) → given_anew owner answer ≡ Err refusal → answer ≡ Err refusal
      of (Err why) e = ap (λ r. Err r) (cc)
      of (Ok given) e = absurd (cc)
  realloc_refused same (Some (place, known)) n content e =
      realloc_cases same owner known place n content (λ r. r ≡ Err refusal → (malloc owner n content ≡ Err refusal) ⊎ (((refusal ≡ NoFit) × (n ≢ 0) × (round n ≡ None)) ⊎ (refusal ≡ BadPointer)))
      (λ bad. inr (inr (cc)))
      (λ live nothing freed. absurd (cc))
      (λ live some none large. inr (inl (cc, some, none)))
      (λ live some kept. absurd (cc))
      (λ m live some is grown. absurd (cc))
      (λ live some why. inl (moved_refused place (malloc owner n content) why))
      e

  -- where the bytes can be rounded up, as malloc or for the pointer
  pub realloc_reasons : (same : A → A → Bool) (pointer : Option (ℕ × A)) (n : ℕ) (content : Content A) → (n ≢ 0 → (m : ℕ) × (round n ≡ Some m))
      → realloc same owner pointer n content ≡ Err refusal → (malloc owner n content ≡ Err refusal) ⊎ (refusal ≡ BadPointer)
  realloc_reasons same pointer n content rounds e = elim (realloc_refused same pointer n content e) [
    | inl asked ↦ inl asked
    | inr (inl (fit, some, none)) ↦ let m = rounds some in absurd (cc)
    | inr (inr bad) ↦ inr bad
  ]
