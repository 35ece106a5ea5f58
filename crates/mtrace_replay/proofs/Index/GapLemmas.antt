-- A gap between keys that moves: each step writes over it the key next to it.
use Rattle.std.proofs.Common.{◌≡◌, ◌≢◌, ◌⊎◌, inl, inr, ℕ, zero, suc, ◌+◌, ◌<◌, ◌≤◌, List, [], ◌∷◌, length, get_or, set, arith, refl, sym, ap, subst}
use Rattle.std.specs.List.{insert, remove}
use Rattle.std.proofs.lemmas.Bool.{cases_lt}

module _ {X : Type 0} where
  up : (xs : List X) (hole : ℕ) (x d : X) → x ≡ get_or xs (suc hole) d → suc hole < length xs → remove (set xs hole x) (suc hole) ≡ remove xs hole
  up [] hole x d is within = absurd (omega (arith, within))
  up (y ∷ []) zero x d is within = absurd (omega (arith, within))
  up (y ∷ z ∷ xs) zero x d is within = ap (λ first. first ∷ xs) is
  up (y ∷ xs) (suc hole) x d is within = ap (λ rest. y ∷ rest) (up xs hole x d is (omega (arith, within)))

  down : (xs : List X) (hole : ℕ) (x d : X) → x ≡ get_or xs hole d → suc hole < length xs → remove (set xs (suc hole) x) hole ≡ remove xs (suc hole)
  down [] hole x d is within = absurd (omega (arith, within))
  down (y ∷ []) zero x d is within = absurd (omega (arith, within))
  down (y ∷ z ∷ xs) zero x d is within = ap (λ first. first ∷ xs) is
  down (y ∷ xs) (suc hole) x d is within = ap (λ rest. y ∷ rest) (down xs hole x d is (omega (arith, within)))

  pub gap_moves : (xs : List X) (hole at next : ℕ) (x : X) → hole ≢ at → hole < length xs → at < length xs → (hole < at → next ≡ hole + 1) → (at < hole → next + 1 ≡ hole) → x ≡ get_or xs next x
      → remove (set xs hole x) next ≡ remove xs hole
  gap_moves xs hole at next x other within there higher lower is = by_side (cases_lt hole at)
    where
      by_side : (hole < at) ⊎ (at ≤ hole) → remove (set xs hole x) next ≡ remove xs hole
      by_side (inl less) =
          let one : suc hole ≡ next = omega (arith, higher less) in
          subst (λ n. x ≡ get_or xs n x → remove (set xs hole x) n ≡ remove xs hole) one (λ is. up xs hole x x is (omega (arith, less, there))) is
      by_side (inr more) =
          let one : suc next ≡ hole = omega (arith, lower (omega (arith, more, other))) in
          subst (λ n. n < length xs → remove (set xs n x) next ≡ remove xs n) one (λ inside. down xs next x x is inside) within

  -- one that is written is put where the old one was removed
  pub set_is_put : (xs : List X) (at : ℕ) (x : X) → at < length xs → set xs at x ≡ insert (remove xs at) at x
  set_is_put [] at x within = absurd (omega (arith, within))
  set_is_put (y ∷ xs) zero x within = refl
  set_is_put (y ∷ xs) (suc at) x within = ap (λ rest. y ∷ rest) (set_is_put xs at x (omega (arith, within)))

  -- one that is removed and put back
  pub put_back : (xs : List X) (at : ℕ) (x : X) → at < length xs → x ≡ get_or xs at x → xs ≡ insert (remove xs at) at x
  put_back [] at x within is = absurd (omega (arith, within))
  put_back (y ∷ xs) zero x within is = ap (λ first. first ∷ xs) (sym is)
  put_back (y ∷ xs) (suc at) x within is = ap (λ rest. y ∷ rest) (put_back xs at x (omega (arith, within)) is)
