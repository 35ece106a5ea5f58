-- Links that are followed one slot further.
use Rattle.std.proofs.Common.{◌≡◌, ℕ, zero, suc, Bool, true, false, ◌&&◌, [], Option, Some, None, refl, inl, inr}
use Rattle.std.proofs.lemmas.Bool.{and_parts, and_cases, and_right}
use Rattle.std.specs.Option.{option_eq}
use Rattle.std.specs.Prelude.{nat_eq}
use Rattle.tlsf_heap.specs.Images.Links.{follow, ends_within, is_linked}

module _ (test : ℕ → Bool) (next back : ℕ → Option ℕ) (n : ℕ) (before : Option ℕ) (slot : ℕ) where
  -- one slot further
  pub linked_on : (test slot && option_eq nat_eq (back slot) before) ≡ true → is_linked test next back (suc n) before (Some slot) ≡ is_linked test next back n (Some slot) (next slot)
  linked_on on = let both = and_parts (test slot) (option_eq nat_eq (back slot) before) on in rw (both.0, both.1) refl

  pub linked_not_on : (test slot && option_eq nat_eq (back slot) before) ≡ false → is_linked test next back (suc n) before (Some slot) ≡ false
  linked_not_on fails = elim (and_cases (test slot) (option_eq nat_eq (back slot) before) fails) [
    | inl e ↦ rw e (and_right (ends_within n next (next slot)) _ refl)
    | inr e ↦ rw e (and_right (ends_within n next (next slot)) _ (and_right _ _ refl))
  ]

-- nothing is left to follow
pub linked_end : (test : ℕ → Bool) (next back : ℕ → Option ℕ) (n : ℕ) (before : Option ℕ) → is_linked test next back n before None ≡ true
linked_end test next back zero before = refl
linked_end test next back (suc n) before = refl

pub follow_none : (n : ℕ) (next : ℕ → Option ℕ) → follow n next None ≡ []
follow_none zero next = refl
follow_none (suc n) next = refl
