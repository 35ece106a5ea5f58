-- malloc that may take a block of the bytes' own class: where malloc gives a block it is that one, and memory never lacks.
use Rattle.std.proofs.Common.{◌≡◌, ◌≢◌, ℕ, refl, ◌∙◌, sym, inl, inr, Option, Some, None}
use Rattle.std.specs.Prelude.{◌==◌, ◌&&◌, nat_lt, nat_le, Ok, Err}
use Rattle.std.proofs.lemmas.Bool.{cases_Bool}
use Rattle.tlsf_class.specs.Rounding.{round}
use Rattle.tlsf_heap.specs.declared.refusal.Refusal.TheVariants.{ZeroSize, TableFull, OutOfMemory}
use Rattle.tlsf_heap.specs.Content.{Content, blocks_of, size_at, used_records}
use Rattle.tlsf_heap.specs.Lists.{pick}
use Rattle.tlsf_heap.specs.Malloc.{allocated, malloc_picked, malloc_rounded, malloc}
use Rattle.tlsf_heap.specs.OwnClass.{picked_or_own, malloc_or_own_rounded, malloc_or_own}

module _ {A : Type 0} (owner : A) (content : Content A) where
  picked_as : (m : ℕ) (place : Option ℕ) (new : ℕ × Content A) → malloc_picked owner m place content ≡ Ok new → malloc_picked owner m (picked_or_own m content place) content ≡ Ok new
  picked_as m None new e = absurd (cc)
  picked_as m (Some place) new e = e

  rounded_as : (m : Option ℕ) (new : ℕ × Content A) → malloc_rounded owner m content ≡ Ok new → malloc_or_own_rounded owner m content ≡ Ok new
  rounded_as None new e = absurd (cc)
  rounded_as (Some m) new e = picked_as m (pick m content.lists) new e

  -- where malloc gives a block it is that one
  pub as_malloc : (n : ℕ) (new : ℕ × Content A) → malloc owner n content ≡ Ok new → malloc_or_own owner n content ≡ Ok new
  as_malloc n new e = elim (cases_Bool (n == 0)) [
    | inl nothing ↦ let refused : malloc owner n content ≡ Err ZeroSize = rw nothing refl in absurd (cc)
    | inr some ↦
        let asked : malloc owner n content ≡ malloc_rounded owner (round n) content = rw some refl in
        let same : malloc_or_own owner n content ≡ malloc_or_own_rounded owner (round n) content = rw some refl in
        same ∙ rounded_as (round n) new (sym asked ∙ e)
  ]

  picked_lacks_none : (m : ℕ) (place : Option ℕ) → malloc_picked owner m place content ≢ Err OutOfMemory
  picked_lacks_none m None e = cc
  picked_lacks_none m (Some place) e = elim (cases_Bool (nat_lt m (size_at place (blocks_of content.pools)) && nat_le content.records (used_records content))) [
    | inl full ↦ let is : malloc_picked owner m (Some place) content ≡ Err TableFull = rw full refl in absurd (cc)
    | inr room ↦ let is : malloc_picked owner m (Some place) content ≡ Ok (place, allocated owner place m (size_at place (blocks_of content.pools)) content) = rw room refl in absurd (cc)
  ]

  rounded_lacks_none : (m : Option ℕ) → malloc_or_own_rounded owner m content ≢ Err OutOfMemory
  rounded_lacks_none None e = cc
  rounded_lacks_none (Some m) e = picked_lacks_none m (picked_or_own m content (pick m content.lists)) e

  pub or_own_lacks_none : (n : ℕ) → malloc_or_own owner n content ≢ Err OutOfMemory
  or_own_lacks_none n e = elim (cases_Bool (n == 0)) [
    | inl nothing ↦ let is : malloc_or_own owner n content ≡ Err ZeroSize = rw nothing refl in absurd (cc)
    | inr some ↦ let is : malloc_or_own owner n content ≡ malloc_or_own_rounded owner (round n) content = rw some refl in rounded_lacks_none (round n) (sym is ∙ e)
  ]
