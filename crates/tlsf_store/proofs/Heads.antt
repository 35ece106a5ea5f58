-- The heads of the class lists as a store keeps them: words of links.
use Rattle.std.proofs.Common.{◌≡◌, ℕ, ◌<◌, ◌≤◌, List, take, length, set, map, slice_index_or, Option, None, All, ◌∙◌, sym, ap, subst, arith}
use Rattle.std.proofs.lemmas.List.{length-map, map-set, get_or-map, take_all}
use Rattle.std.proofs.lemmas.List.Elements.{All-set}
use Rattle.tlsf_store.specs.Records.{IsBelow}
use Rattle.tlsf_store.specs.Slots.{link_of}

-- the link of each word is below the count
pub head_below : (count : ℕ) (words : List ℕ) → All (IsBelow count) (map link_of words) → (k d : ℕ) → k < length words →
    IsBelow count (link_of (slice_index_or words k d))
head_below count words below k d within =
    let inside : k < length (map link_of words) = omega (arith, length-map words link_of) in
    subst (λ link. IsBelow count link) (get_or-map link_of words k d None within) (below k None inside)

-- a word written is a link written
pub heads_set : (words : List ℕ) (k word : ℕ) (link : Option ℕ) → link_of word ≡ link →
    map link_of (set words k word) ≡ set (map link_of words) k link
heads_set words k word link is = map-set link_of words k word ∙ ap (λ v. set (map link_of words) k v) is

pub heads_set_below : (count : ℕ) (words : List ℕ) → All (IsBelow count) (map link_of words) → (k word : ℕ) (link : Option ℕ) →
    link_of word ≡ link → IsBelow count link → All (IsBelow count) (map link_of (set words k word))
heads_set_below count words below k word link is one =
    subst (λ heads. All (IsBelow count) heads) (sym (heads_set words k word link is)) (All-set (IsBelow count) (map link_of words) k link one below)

-- what all elements up to the end are, all are
pub all_taken : {X : Type 0} (P : X → Type 0) (xs : List X) (i : ℕ) → length xs ≤ i → All P (take i xs) → All P xs
all_taken P xs i end all = subst (λ v. All P v) (take_all i xs end) all
