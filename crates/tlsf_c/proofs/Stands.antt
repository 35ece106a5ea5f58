-- What stands in a list with an item in front.
use Rattle.std.proofs.Common.{◌≡◌, List, [], ◌∷◌, arith, inl, inr, ◌⊎◌}
use Rattle.std.specs.List.{Contains}
use Rattle.std.proofs.lemmas.List.Elements.{Contains-append_cases, Contains-append_left, Contains-append_right, Contains-push, Contains-push_cases}

pub never_stands : {X Y : Type 0} (x : X) → Contains [] x → Y
never_stands x has = absurd (omega (arith, has.1))

pub stands_first_or_later : {X : Type 0} (first x : X) (rest : List X) → Contains (first ∷ rest) x → (first ≡ x) ⊎ Contains rest x
stands_first_or_later first x rest has = elim (Contains-append_cases (first ∷ []) rest x has) [
  | inl one ↦ elim (Contains-push_cases [] first x one) [
    | inl none ↦ never_stands x none
    | inr same ↦ inl same
  ]
  | inr later ↦ inr later
]

pub stands_first : {X : Type 0} (first : X) (rest : List X) → Contains (first ∷ rest) first
stands_first first rest = Contains-append_left (first ∷ []) rest first (Contains-push [] first)

pub stands_later : {X : Type 0} (first x : X) (rest : List X) → Contains rest x → Contains (first ∷ rest) x
stands_later first x rest has = Contains-append_right (first ∷ []) rest x has
