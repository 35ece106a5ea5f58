-- The keys of a map, put in order, are the addresses of its entries.
use Rattle.std.proofs.Common.{cond, Bool, true, false, ◌≡◌, ℕ, suc, ◌<◌, ◌≤◌, List, [], ◌∷◌, length, map, slice_index_or, ◌⊎◌, inl, inr, refl, sym, ap, ◌∙◌, subst, arith, Less}
use Rattle.std.specs.Prelude.{nat_lt, nat_eq}
use Rattle.std.specs.List.{AllByRecursion, IsDistinct}
use Rattle.std.specs.List.Sorted.{IsPermutation, IsSorted, IsNonDecreasing, IsStrictlySortedBy}
use Rattle.std.specs.Ordering.{nat_cmp}
use Rattle.std.specs.Map.{keys_of}
use Rattle.std.proofs.lemmas.Bool.{cases_eq, eq-eqb, ne_eqb}
use Rattle.std.proofs.lemmas.Bool.Decides.{nat_tests}
use Rattle.std.proofs.lemmas.List.Sorted.{IsPermutation-refl, IsPermutation-cons, IsPermutation-trans, IsPermutation-sym, IsPermutation-map, IsPermutation-middle, Contains-permutation, IsNonDecreasingBy-from_sort}
use Rattle.std.proofs.lemmas.Map.Keys.{IsDistinct-IsPermutation, sorted_from_strictly_increasing}
use Rattle.mtrace_replay.specs.Entry.{Entry}
use Rattle.mtrace_replay.specs.declared.ledger.ledger.Kept.{Kept}
use Rattle.mtrace_replay.specs.Ledger.{entry_of, put_in_order, in_order}
use Rattle.mtrace_replay.proofs.History.SortedLemmas.{same_lists}
use Rattle.mtrace_replay.proofs.OnLedger.LedgerLemmas.{all_in_order, addresses_of, ordered}

-- an entry that was put in order is one more
put_moves : (e : Entry) (es : List Entry) → IsPermutation (e ∷ es) (put_in_order e es)
put_moves e [] = IsPermutation-refl (e ∷ [])
put_moves e (f ∷ fs) = by_order (put_moves e fs) (nat_lt f.addr e.addr)
  where
    by_order : IsPermutation (e ∷ fs) (put_in_order e fs) → (b : Bool) → IsPermutation (e ∷ (f ∷ fs)) (cond b (f ∷ put_in_order e fs) (e ∷ (f ∷ fs)))
    by_order later false = IsPermutation-refl (e ∷ (f ∷ fs))
    by_order later true =
        IsPermutation-trans (e ∷ (f ∷ fs)) (f ∷ (e ∷ fs)) (f ∷ put_in_order e fs)
        (IsPermutation-sym (f ∷ (e ∷ fs)) (e ∷ (f ∷ fs)) (IsPermutation-middle (f ∷ []) e fs))
        (IsPermutation-cons f (e ∷ fs) (put_in_order e fs) later)

in_order_moves : (es : List Entry) → IsPermutation es (in_order es)
in_order_moves [] = IsPermutation-refl []
in_order_moves (e ∷ es) =
    IsPermutation-trans (e ∷ es) (e ∷ in_order es) (put_in_order e (in_order es)) (IsPermutation-cons e es (in_order es) (in_order_moves es)) (put_moves e (in_order es))

addresses-keys : (locations : List (List ℕ)) (held : List (ℕ × Kept)) → addresses_of (map (entry_of locations) held) ≡ keys_of held
addresses-keys locations [] = refl
addresses-keys locations (one ∷ rest) = ap (λ all. one.0 ∷ all) (addresses-keys locations rest)

-- numbers that don't fall, of which none comes twice, rise
all_less : (x : ℕ) (xs : List ℕ) → ((k d : ℕ) → k < length xs → x ≤ slice_index_or xs k d) → AllByRecursion (λ (y : ℕ). nat_eq x y ≡ false) xs → AllByRecursion (λ (y : ℕ). nat_cmp x y ≡ Less) xs
all_less x [] least apart = tt
all_less x (y ∷ ys) least apart = (by_first (least 0 y (omega arith)) apart.0, all_less x ys (λ k d within. least (suc k) d (omega (arith, within))) apart.1)
  where
    by_first : x ≤ y → nat_eq x y ≡ false → nat_cmp x y ≡ Less
    by_first up other = grind (arith, nat_tests)

rises : (xs : List ℕ) → IsNonDecreasing xs → IsDistinct nat_eq xs → IsStrictlySortedBy nat_cmp xs
unfolding IsStrictlySortedBy IsDistinct
rises [] up distinct = tt
rises (x ∷ xs) up distinct = (
  all_less x xs (λ k d within. up 0 (suc k) d (omega arith) (omega (arith, within))) distinct.0,
  rises xs (λ i j d below within. up (suc i) (suc j) d (omega (arith, below)) (omega (arith, within))) distinct.1,
)

flips : (x y : ℕ) → nat_eq x y ≡ nat_eq y x
flips x y = by (cases_eq x y)
  where
    by : (x ≡ y) ⊎ (x ≡ y → ⊥) → nat_eq x y ≡ nat_eq y x
    by (inl same) = eq-eqb x y same ∙ sym (eq-eqb y x (sym same))
    by (inr other) = ne_eqb x y other ∙ sym (ne_eqb y x (λ same. other (sym same)))

map_same : (xs : List ℕ) → map (λ (x : ℕ). x) xs ≡ xs
map_same [] = refl
map_same (x ∷ xs) = ap (λ rest. x ∷ rest) (map_same xs)

-- the keys in order are the addresses
pub keys_in_order : (locations : List (List ℕ)) (held : List (ℕ × Kept)) → IsDistinct nat_eq (keys_of held) → (items : List ℕ) → IsPermutation (keys_of held) items → IsSorted nat_cmp items
    → items ≡ addresses_of (all_in_order locations held)
keys_in_order locations held distinct items moved sorted =
    let all = addresses_of (all_in_order locations held) in
    let same : IsPermutation (keys_of held) all =
    subst (λ (keys : List ℕ). IsPermutation keys all) (addresses-keys locations held)
    (IsPermutation-map (λ (entry : Entry). entry.addr) (map (entry_of locations) held) (all_in_order locations held) (in_order_moves (map (entry_of locations) held))) in
    let up = IsNonDecreasingBy-from_sort (λ (x : ℕ). x) items sorted in
    let first : IsStrictlySortedBy nat_cmp items = rises items up (IsDistinct-IsPermutation nat_eq flips (keys_of held) items moved distinct) in
    let other : IsStrictlySortedBy nat_cmp all = sorted_from_strictly_increasing all (ordered locations held distinct) in
    same_lists (λ (x : ℕ). x) items all
    (subst (IsStrictlySortedBy nat_cmp) (sym (map_same items)) first) (subst (IsStrictlySortedBy nat_cmp) (sym (map_same all)) other)
    (λ x has. Contains-permutation (keys_of held) all x same (Contains-permutation items (keys_of held) x (IsPermutation-sym (keys_of held) items moved) has))
    (λ x has. Contains-permutation (keys_of held) items x moved (Contains-permutation all (keys_of held) x (IsPermutation-sym (keys_of held) all same) has))
