-- malloc by its cases, whatever live blocks are known by.
use Rattle.std.proofs.Common.{◌≡◌, ◌≢◌, ℕ, ◌≤◌, refl, sym, ap, ◌∙◌, subst, ◌⊎◌, inl, inr, Option, Some, None, Result}
use Rattle.std.specs.Prelude.{◌&&◌, nat_lt, nat_le, Ok, Err}
use Rattle.std.proofs.lemmas.Bool.{cases_Bool, cases_eq, eq-eqb, ne_eqb, leb-true, and_parts}
use Rattle.tlsf_class.specs.Rounding.{round}
use Rattle.tlsf_heap.specs.declared.refusal.Refusal.{Refusal}
use Rattle.tlsf_heap.specs.declared.refusal.Refusal.TheVariants.{ZeroSize, NoFit, TableFull, OutOfMemory}
use Rattle.tlsf_heap.specs.Content.{Content, blocks_of, size_at, used_records}
use Rattle.tlsf_heap.specs.Lists.{pick}
use Rattle.tlsf_heap.specs.Malloc.{allocated, malloc_picked, malloc_rounded, malloc}

module _ {A : Type 0} (owner : A) (content : Content A) where
  -- nothing is picked for the bytes asked
  abbrev pub NonePicked : Option ℕ → Type 0
  NonePicked m = (asked : ℕ) → m ≡ Some asked → pick asked content.lists ≡ None

  -- a block is picked for them
  pub record IsPicked (m : Option ℕ) : Type 0 where
    pub asked : ℕ
    pub place : ℕ
    pub rounds : m ≡ Some asked
    pub found : pick asked content.lists ≡ Some place

  -- what malloc leaves, where it picked the block at the place
  abbrev pub split_there : ℕ → ℕ → ℕ × Content A
  split_there asked place = (place, allocated owner place asked (size_at place (blocks_of content.pools)) content)

  -- each of its answers
  pub rounded_cases : (P : Result (ℕ × Content A) Refusal → Type 0) (m : Option ℕ)
      → (NonePicked m → P (Err NoFit))
      → (IsPicked m → content.records ≤ used_records content → P (Err TableFull))
      → ((p : IsPicked m) → P (Ok (split_there p.asked p.place)))
      → P (malloc_rounded owner m content)
  rounded_cases P None none full given = none (λ asked e. absurd (cc))
  rounded_cases P (Some m) none full given = of (pick m content.lists) refl
    where
      of : (place : Option ℕ) → pick m content.lists ≡ place → P (malloc_picked owner m place content)
      of None found = none (λ asked e. let same : m ≡ asked = cc in ap (λ a. pick a content.lists) (sym same) ∙ found)
      of (Some place) found =
          let p : IsPicked (Some m) = record { asked = m; place = place; rounds = refl; found = found } in
          elim (cases_Bool (nat_lt m (size_at place (blocks_of content.pools)) && nat_le content.records (used_records content))) [
            | inl none_left ↦ let is : malloc_picked owner m (Some place) content ≡ Err TableFull = rw none_left refl in subst P (sym is) (full p (leb-true _ _ (and_parts _ _ none_left).1))
            | inr room ↦ let is : malloc_picked owner m (Some place) content ≡ Ok (split_there m place) = rw room refl in subst P (sym is) (given p)
          ]

  pub malloc_cases : (n : ℕ) (P : Result (ℕ × Content A) Refusal → Type 0)
      → (n ≡ 0 → P (Err ZeroSize))
      → (n ≢ 0 → NonePicked (round n) → P (Err NoFit))
      → (IsPicked (round n) → content.records ≤ used_records content → P (Err TableFull))
      → ((p : IsPicked (round n)) → P (Ok (split_there p.asked p.place)))
      → P (malloc owner n content)
  malloc_cases n P zero_size none full given = elim (cases_eq n 0) [
    | inl nothing ↦ let is : malloc owner n content ≡ Err ZeroSize = rw (eq-eqb n 0 nothing) refl in subst P (sym is) (zero_size nothing)
    | inr some ↦ let is : malloc owner n content ≡ malloc_rounded owner (round n) content = rw (ne_eqb n 0 some) refl in subst P (sym is) (rounded_cases P (round n) (none some) full given)
  ]

module _ {A : Type 0} (owner : A) (n : ℕ) (content : Content A) where
  -- it is never refused for want of memory
  pub malloc_lacks_none : malloc owner n content ≢ Err OutOfMemory
  malloc_lacks_none = malloc_cases owner content n (λ r. r ≢ Err OutOfMemory) (λ nothing e. cc) (λ some none e. cc) (λ p full e. cc) (λ p e. cc)

  -- why it can be refused
  pub malloc_reasons : (refusal : Refusal) → malloc owner n content ≡ Err refusal → (n ≡ 0) ⊎ ((refusal ≡ NoFit) ⊎ (refusal ≡ TableFull))
  malloc_reasons refusal =
      malloc_cases owner content n (λ r. r ≡ Err refusal → (n ≡ 0) ⊎ ((refusal ≡ NoFit) ⊎ (refusal ≡ TableFull)))
      (λ nothing e. inl nothing)
      (λ some none e. inr (inl (cc)))
      (λ p full e. inr (inr (cc)))
      (λ p e. absurd (cc))
