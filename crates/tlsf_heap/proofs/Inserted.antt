-- An item that stands in front of the first one whose key is greater.
use Rattle.std.proofs.Common.{◌≡◌, ℕ, not, List, [], ◌∷◌, length, map, refl, ap, ◌∙◌, arith, one-add, inl, inr}
use Rattle.std.specs.Prelude.{nat_lt, position, unwrap_or, insert}
use Rattle.std.specs.List.{position_or_len}
use Rattle.std.proofs.lemmas.Bool.{cases_Bool, ltb-false}
use Rattle.std.proofs.lemmas.List.Sums.{prefix_len-le-length}
use Rattle.tlsf_heap.specs.Pools.{inserted}

-- an item in its place, seen through a function that keeps the keys
pub map-inserted : {A B : Type 0} (f : A → B) (key : A → ℕ) (new_key : B → ℕ) → ((a : A) → new_key (f a) ≡ key a) → (item : A) (items : List A) → map f (inserted key item items) ≡ inserted new_key (f item) (map f items)
map-inserted f key new_key same item [] = refl
map-inserted f key new_key same item (other ∷ items) =
    let tests : nat_lt (new_key (f item)) (new_key (f other)) ≡ nat_lt (key item) (key other) = ap (λ n. nat_lt n (new_key (f other))) (same item) ∙ ap (nat_lt (key item)) (same other) in
    elim (cases_Bool (nat_lt (key item) (key other))) [
      | inl before ↦ rw (before, tests, before) refl
      | inr after ↦ rw (after, tests, after) (ap (λ xs. f other ∷ xs) (map-inserted f key new_key same item items))
    ]

-- it was put in front of that one, or behind all
pub insert_is : {A : Type 0} (key : A → ℕ) (item : A) (items : List A) → insert items (unwrap_or (position (λ other. nat_lt (key item) (key other)) items) (length items)) item ≡ inserted key item items
insert_is {A = A} key item items = ap (λ n. insert items n item) place ∙ in_place items
  where
    place : unwrap_or (position (λ other. nat_lt (key item) (key other)) items) (length items) ≡ position_or_len (λ other. nat_lt (key item) (key other)) items
    place = elim (cases_Bool (nat_lt (position_or_len (λ other. nat_lt (key item) (key other)) items) (length items))) [
      | inl below ↦ rw below refl
      | inr beyond ↦ rw beyond (omega (arith, ltb-false _ (length items) beyond, prefix_len-le-length (λ (other : A). not (nat_lt (key item) (key other))) items))
    ]

    in_place : (others : List A) → insert others (position_or_len (λ other. nat_lt (key item) (key other)) others) item ≡ inserted key item others
    in_place [] = refl
    in_place (other ∷ others) = elim (cases_Bool (nat_lt (key item) (key other))) [
      | inl before ↦ rw before refl
      | inr after ↦ rw (after, one-add) (ap (λ xs. other ∷ xs) (in_place others))
    ]
