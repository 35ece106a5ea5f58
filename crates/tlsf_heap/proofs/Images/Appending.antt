-- Texts that are appended, one for each member of a list.
use Rattle.std.proofs.Common.{◌≡◌, ℕ, ◌+◌, ◌<◌, ◌≤◌, List, ◌++◌, length, sym, ap, ◌∙◌, append_assoc, drop}
use Rattle.std.specs.Prelude.{slice_index_or}
use Rattle.std.specs.List.{flat_map}
use Rattle.std.proofs.lemmas.List.{append-nil, at_drop_more, at_drop_all}

-- the text of the next member
pub appended : {X : Type 0} (f : X → List ℕ) (xs : List X) (d : X) (k : ℕ) (now all : List ℕ) → k < length xs → now ++ flat_map f (drop k xs) ≡ all
    → (now ++ f (slice_index_or xs k d)) ++ flat_map f (drop (k + 1) xs) ≡ all
appended f xs d k now all within so_far =
    append_assoc now (f (slice_index_or xs k d)) (flat_map f (drop (k + 1) xs)) ∙ ap (λ text. now ++ text) (sym (at_drop_more (flat_map f) xs k d within)) ∙ so_far

-- a text to which the next member's was pushed, and those that are left
pub pushed : {X : Type 0} (f : X → List ℕ) (xs : List X) (d : X) (k : ℕ) (now next all : List ℕ) (x : X) → k < length xs → x ≡ slice_index_or xs k d → next ≡ now ++ f x → now ++ flat_map f (drop k xs) ≡ all
    → next ++ flat_map f (drop (k + 1) xs) ≡ all
pushed f xs d k now next all x within read is so_far =
    ap (λ text. text ++ flat_map f (drop (k + 1) xs)) (is ∙ ap (λ r. now ++ f r) read) ∙ appended f xs d k now all within so_far

-- no member is left
pub appended_all : {X : Type 0} (f : X → List ℕ) (xs : List X) (k : ℕ) (now all : List ℕ) → length xs ≤ k → now ++ flat_map f (drop k xs) ≡ all → now ≡ all
appended_all f xs k now all past so_far = sym (append-nil now) ∙ ap (λ text. now ++ text) (sym (at_drop_all (flat_map f) xs k past)) ∙ so_far

-- a text behind another
pub then_text : (old now later one other : List ℕ) → now ≡ old ++ one → later ≡ now ++ other → later ≡ old ++ (one ++ other)
then_text old now later one other first second = second ∙ ap (λ text. text ++ other) first ∙ append_assoc old one other
