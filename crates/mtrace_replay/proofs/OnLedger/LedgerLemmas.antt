-- A ledger's entries in order of address, against its map.
use Rattle.std.proofs.Common.{cond, Bool, true, false, Option, Some, None, is_some, ◌≡◌, ℕ, suc, ◌+◌, ◌*◌, ◌^◌, ◌<◌, ◌≤◌, List, [], ◌∷◌, length, map, slice_index_or, sum_by, ◌⊎◌, inl, inr, refl, sym, ap, ◌∙◌, subst, arith, Less}
use Rattle.std.specs.Prelude.{◌==◌, nat_lt, nat_eq, slice_get, option_map, Result, Ok, Err, OnErr}
use Rattle.std.specs.Option.{IsSome, IfSome}
use Rattle.std.specs.List.{All}
use Rattle.std.specs.List.{AllByRecursion}
use Rattle.std.specs.List.Sorted.{IsPermutation, IsStrictlySortedBy, IsStrictlyIncreasing}
use Rattle.std.specs.Ordering.{nat_cmp}
use Rattle.std.proofs.lemmas.Map.Keys.{IsStrictlyIncreasing-from_sorted}
use Rattle.std.specs.List.{IsDistinct}
use Rattle.std.specs.Option.{unwrap_or}
use Rattle.std.specs.Map.{lookup, remove_entry, keys_of, values_of}
use Rattle.std.proofs.lemmas.List.Sums.{sum_by-cons}
use Rattle.std.proofs.lemmas.Map.Entries.{sum_by_values_permutation, sum_by-remove_entry}
use Rattle.std.proofs.lemmas.Map.Views.{All-map-IsPermutation, All-map-remove_entry, IfSome-lookup_from_All}
use Rattle.std.proofs.lemmas.Bool.{cases_eq, false≢true, cond-false, eq-eqb, ne_eqb}
use Rattle.std.proofs.lemmas.Bool.Decides.{nat_tests}
use Rattle.mtrace_replay.specs.Entry.{Entry}
use Rattle.mtrace_replay.specs.Texts.{total_size}
use Rattle.mtrace_replay.specs.declared.ledger.ledger.Kept.{Kept}
use Rattle.mtrace_replay.specs.Locations.{Extends, location_of}
use Rattle.mtrace_replay.specs.Ledger.{entry_of, put_in_order, in_order, entry_under, IsKept, IsLedger}
use Rattle.mtrace_replay.proofs.History.HeldCounts.{all_above}

-- a look-up after one more entry was put in order
entry_under-put : (e : Entry) (es : List Entry) (a : ℕ) → entry_under (put_in_order e es) a ≡ cond (e.addr == a) (Some e) (entry_under es a)
entry_under-put e [] a = refl
entry_under-put e (f ∷ fs) a = by_order (entry_under-put e fs a) (nat_lt f.addr e.addr) refl
  where
    by_first : (entry_under (put_in_order e fs) a ≡ cond (e.addr == a) (Some e) (entry_under fs a)) → f.addr < e.addr → (b : Bool) → (f.addr == a) ≡ b → cond b (Some f) (entry_under (put_in_order e fs) a) ≡ cond (e.addr == a) (Some e) (cond b (Some f) (entry_under fs a))
    by_first later lower false is = later
    by_first later lower true is = let other : (e.addr == a) ≡ false = grind (arith, nat_tests) in sym (cond-false (e.addr == a) (Some e) (Some f) other)

    by_order : (entry_under (put_in_order e fs) a ≡ cond (e.addr == a) (Some e) (entry_under fs a)) → (b : Bool) → nat_lt f.addr e.addr ≡ b → entry_under (cond b (f ∷ put_in_order e fs) (e ∷ (f ∷ fs))) a ≡ cond (e.addr == a) (Some e) (entry_under (f ∷ fs) a)
    by_order later false is = refl
    by_order later true is = by_first later (grind (arith, nat_tests)) (f.addr == a) refl

-- the order doesn't matter to a look-up
pub entry_under-in_order : (es : List Entry) (a : ℕ) → entry_under (in_order es) a ≡ entry_under es a
entry_under-in_order [] a = refl
entry_under-in_order (e ∷ es) a = entry_under-put e (in_order es) a ∙ ap (cond (e.addr == a) (Some e)) (entry_under-in_order es a)

-- one more entry
length-put : (e : Entry) (es : List Entry) → length (put_in_order e es) ≡ suc (length es)
length-put e [] = refl
length-put e (f ∷ fs) = by_order (length-put e fs) (nat_lt f.addr e.addr)
  where
    by_order : length (put_in_order e fs) ≡ suc (length fs) → (b : Bool) → length (cond b (f ∷ put_in_order e fs) (e ∷ (f ∷ fs))) ≡ suc (suc (length fs))
    by_order more false = refl
    by_order more true = ap suc more

total-cons : (e : Entry) (es : List Entry) → total_size (e ∷ es) ≡ e.size + total_size es
total-cons e es = sum_by-cons (λ (entry : Entry). entry.size) e es

total-put : (e : Entry) (es : List Entry) → total_size (put_in_order e es) ≡ e.size + total_size es
total-put e [] = total-cons e []
total-put e (f ∷ fs) = by_order (total-put e fs) (nat_lt f.addr e.addr)
  where
    by_order : total_size (put_in_order e fs) ≡ e.size + total_size fs → (b : Bool) → total_size (cond b (f ∷ put_in_order e fs) (e ∷ (f ∷ fs))) ≡ e.size + total_size (f ∷ fs)
    by_order later false = total-cons e (f ∷ fs)
    by_order later true = let first = total-cons f (put_in_order e fs) in let rest = total-cons f fs in omega (arith, later, first, rest)

-- the sum of the sizes of a map's values
abbrev sizes : List (ℕ × Kept) → ℕ
sizes held = sum_by (λ (one : Kept). one.size) (values_of held)

sizes-cons : (one : ℕ × Kept) (held : List (ℕ × Kept)) → sizes (one ∷ held) ≡ one.1.size + sizes held
sizes-cons one held = sum_by-cons (λ (one : Kept). one.size) one.1 (values_of held)

module _ (locations : List (List ℕ)) where
  -- the entries of a map
  abbrev pub all_in_order : List (ℕ × Kept) → List Entry
  all_in_order held = in_order (map (entry_of locations) held)

  -- a look-up among the entries of a map
  entry_under-lookup : (held : List (ℕ × Kept)) (a : ℕ) → entry_under (map (entry_of locations) held) a ≡ option_map (λ h. entry_of locations (a, h)) (lookup (nat_eq a) held)
  entry_under-lookup [] a = refl
  entry_under-lookup ((k, h) ∷ more) a = by_key (entry_under-lookup more a) (cases_eq k a)
    where
      by_key : entry_under (map (entry_of locations) more) a ≡ option_map (λ h. entry_of locations (a, h)) (lookup (nat_eq a) more) → (k ≡ a) ⊎ (k ≡ a → ⊥) → entry_under (map (entry_of locations) ((k, h) ∷ more)) a ≡ option_map (λ h. entry_of locations (a, h)) (lookup (nat_eq a) ((k, h) ∷ more))
      by_key later (inl same) =
          ap (λ b. cond b (Some (entry_of locations (k, h))) (entry_under (map (entry_of locations) more) a)) (eq-eqb k a same)
          ∙ ap (λ q. Some (entry_of locations (q, h))) same
          ∙ sym (ap (λ b. option_map (λ h. entry_of locations (a, h)) (cond b (Some h) (lookup (nat_eq a) more))) (eq-eqb a k (sym same)))
      by_key later (inr other) =
          ap (λ b. cond b (Some (entry_of locations (k, h))) (entry_under (map (entry_of locations) more) a)) (ne_eqb k a other)
          ∙ later
          ∙ sym (ap (λ b. option_map (λ h. entry_of locations (a, h)) (cond b (Some h) (lookup (nat_eq a) more))) (ne_eqb a k (λ same. other (sym same))))

  pub found : (held : List (ℕ × Kept)) (a : ℕ) → entry_under (all_in_order held) a ≡ option_map (λ h. entry_of locations (a, h)) (lookup (nat_eq a) held)
  found held a = entry_under-in_order (map (entry_of locations) held) a ∙ entry_under-lookup held a

  pub is_found : (held : List (ℕ × Kept)) (a : ℕ) → is_some (entry_under (all_in_order held) a) ≡ is_some (lookup (nat_eq a) held)
  is_found held a = ap is_some (found held a) ∙ some_map (lookup (nat_eq a) held)
    where
      some_map : (o : Option Kept) → is_some (option_map (λ h. entry_of locations (a, h)) o) ≡ is_some o
      some_map None = refl
      some_map (Some h) = refl

  pub length_all : (held : List (ℕ × Kept)) → length (all_in_order held) ≡ length held
  length_all [] = refl
  length_all (one ∷ more) = length-put (entry_of locations one) (all_in_order more) ∙ ap suc (length_all more)

  pub total_all : (held : List (ℕ × Kept)) → total_size (all_in_order held) ≡ sum_by (λ (one : Kept). one.size) (values_of held)
  total_all [] = refl
  total_all (one ∷ more) = total-put (entry_of locations one) (all_in_order more) ∙ ap (λ n. one.1.size + n) (total_all more) ∙ sym (sizes-cons one more)

-- the location of what is kept stays
same_location : (locations new : List (List ℕ)) → Extends locations new → (h : Kept) → IsKept locations h → location_of new h.location ≡ location_of locations h.location
same_location locations new extends h kept = by_location h.location refl
  where
    by_bytes : (number : ℕ) (bytes : Option (List ℕ)) → slice_get locations number ≡ bytes → is_some bytes ≡ true → slice_get new number ≡ slice_get locations number
    by_bytes number None is some = absurd (false≢true some)
    by_bytes number (Some bytes) is some = extends number bytes is ∙ sym is

    by_location : (p : Option ℕ) → h.location ≡ p → location_of new p ≡ location_of locations p
    by_location None is = refl
    by_location (Some number) is = by_bytes number (slice_get locations number) refl (kept.location number is)

pub same_entries : (locations new : List (List ℕ)) → Extends locations new → (held : List (ℕ × Kept)) → All (IsKept locations) (values_of held) → map (entry_of new) held ≡ map (entry_of locations) held
same_entries locations new extends [] all = refl
same_entries locations new extends (one ∷ more) all =
    ap (λ at. record { addr = one.0; size = one.1.size; line = one.1.line; at = at } ∷ map (entry_of new) more) (same_location locations new extends one.1 (all 0 one.1 (omega arith)))
    ∙ ap (λ rest. entry_of locations one ∷ rest) (same_entries locations new extends more (λ k d within. all (suc k) d (omega (arith, within))))

pub still_kept : (locations new : List (List ℕ)) → Extends locations new → (h : Kept) → IsKept locations h → IsKept new h
still_kept locations new extends h kept = record {
  size = kept.size;
  location = λ number is. by_bytes number (slice_get locations number) refl (kept.location number is);
}
  where
    by_bytes : (number : ℕ) (bytes : Option (List ℕ)) → slice_get locations number ≡ bytes → is_some bytes ≡ true → IsSome (slice_get new number)
    by_bytes number None is some = absurd (false≢true some)
    by_bytes number (Some bytes) is some = ap is_some (extends number bytes is)

module _ (locations : List (List ℕ)) where
  -- the map changes at one key, and so do the entries
  pub changes_at : (old new : List (ℕ × Kept)) (now : List Entry) → all_in_order locations old ≡ now → (key address : ℕ) → key ≡ address → (w : Option Kept)
      → ((q : ℕ) → lookup (nat_eq q) new ≡ cond (nat_eq key q) w (lookup (nat_eq q) old))
      → (q : ℕ) → entry_under (all_in_order locations new) q ≡ cond (address == q) (option_map (λ h. entry_of locations (address, h)) w) (entry_under now q)
  changes_at old new now view key address same w updates q =
      found locations new q ∙ ap (option_map (λ h. entry_of locations (q, h))) (updates q) ∙ by_key (cases_eq key q)
    where
      by_key : (key ≡ q) ⊎ (key ≡ q → ⊥) → option_map (λ h. entry_of locations (q, h)) (cond (nat_eq key q) w (lookup (nat_eq q) old)) ≡ cond (address == q) (option_map (λ h. entry_of locations (address, h)) w) (entry_under now q)
      by_key (inl is) =
          ap (λ b. option_map (λ h. entry_of locations (q, h)) (cond b w (lookup (nat_eq q) old))) (eq-eqb key q is)
          ∙ ap (λ a. option_map (λ h. entry_of locations (a, h)) w) (sym is ∙ same)
          ∙ sym (ap (λ b. cond b (option_map (λ h. entry_of locations (address, h)) w) (entry_under now q)) (eq-eqb address q (sym same ∙ is)))
      by_key (inr other) =
          ap (λ b. option_map (λ h. entry_of locations (q, h)) (cond b w (lookup (nat_eq q) old))) (ne_eqb key q other)
          ∙ sym (found locations old q)
          ∙ ap (λ all. entry_under all q) view
          ∙ sym (ap (λ b. cond b (option_map (λ h. entry_of locations (address, h)) w) (entry_under now q)) (ne_eqb address q (λ is. other (same ∙ is))))

  -- what a look-up in the map tells
  pub tells_what : (old : List (ℕ × Kept)) (now : List Entry) → all_in_order locations old ≡ now → (key address : ℕ) → key ≡ address → (o : Option Kept) → o ≡ lookup (nat_eq key) old
      → option_map (λ h. entry_of locations (address, h)) o ≡ entry_under now address
  tells_what old now view key address same o is =
      ap (option_map (λ h. entry_of locations (address, h))) (is ∙ ap (λ a. lookup (nat_eq a) old) same) ∙ sym (found locations old address) ∙ ap (λ all. entry_under all address) view

  pub tells : (old : List (ℕ × Kept)) (now : List Entry) → all_in_order locations old ≡ now → (key address : ℕ) → key ≡ address → (o : Option Kept) → o ≡ lookup (nat_eq key) old
      → is_some o ≡ is_some (entry_under now address)
  tells old now view key address same o is =
      ap is_some is ∙ ap (λ a. is_some (lookup (nat_eq a) old)) same ∙ sym (is_found locations old address) ∙ ap (λ all. is_some (entry_under all address)) view

  -- the map without what was found there
  pub is_within : (old : List (ℕ × Kept)) (bytes : ℕ) → IsLedger locations old bytes → (test : ℕ → Bool) (h : Kept) → lookup test old ≡ Some h
      → sum_by (λ (one : Kept). one.size) (values_of (remove_entry test old)) + h.size ≡ bytes
  is_within old bytes keeps test h is =
      let whole = sum_by-remove_entry (λ (one : Kept). one.size) test old in
      let its : unwrap_or (option_map (λ (one : Kept). one.size) (lookup test old)) 0 ≡ h.size = ap (λ o. unwrap_or (option_map (λ (one : Kept). one.size) o) 0) is in
      omega (arith, whole, its, keeps.bytes_are)

  pub less : (old new : List (ℕ × Kept)) (bytes left : ℕ) → IsLedger locations old bytes → (test : ℕ → Bool) (h : Kept) → lookup test old ≡ Some h
      → IsPermutation (remove_entry test old) new → IsDistinct nat_eq (keys_of new) → left + h.size ≡ bytes → IsLedger locations new left
  less old new bytes left keeps test h is moved distinct rest = record {
    distinct = distinct;
    bytes_are =
        let within = is_within old bytes keeps test h is in
        let same = sum_by_values_permutation (λ (one : Kept). one.size) (remove_entry test old) new moved in
        omega (arith, within, same, rest);
    kept = All-map-IsPermutation (λ e. e.1) (IsKept locations) (remove_entry test old) new moved (All-map-remove_entry test (λ e. e.1) (IsKept locations) old keeps.kept);
  }

  -- the sum is small
  sum_small : (held : List (ℕ × Kept)) → All (IsKept locations) (values_of held) → sum_by (λ (one : Kept). one.size) (values_of held) ≤ length held * 2 ^ 64
  sum_small [] all = omega arith
  sum_small (one ∷ rest) all =
      let first = (all 0 one.1 (omega arith)).size in
      let later = sum_small rest (λ k d within. all (suc k) d (omega (arith, within))) in
      let whole = sizes-cons one rest in
      omega (arith, first, later, whole)

  pub is_small : (held : List (ℕ × Kept)) (bytes : ℕ) → IsLedger locations held bytes → length held < 2 ^ 63 → bytes < 2 ^ 127
  is_small held bytes keeps few = let most = sum_small held keeps.kept in omega (arith, most, few, keeps.bytes_are)

-- what a look-up finds is kept
pub kept_there : (locations : List (List ℕ)) (held : List (ℕ × Kept)) (test : ℕ → Bool) (h : Kept) → lookup test held ≡ Some h → All (IsKept locations) (values_of held) → IsKept locations h
kept_there locations held test h is all = subst (λ o. IfSome o (IsKept locations)) is (IfSome-lookup_from_All (IsKept locations) test held all)

-- with more locations
pub still_keeps : (locations new : List (List ℕ)) → Extends locations new → (held : List (ℕ × Kept)) (bytes : ℕ) → IsLedger locations held bytes → IsLedger new held bytes
still_keeps locations new extends held bytes keeps = record {
  distinct = keeps.distinct;
  bytes_are = keeps.bytes_are;
  kept = λ k d within. still_kept locations new extends (slice_index_or (values_of held) k d) (keeps.kept k d within);
}

pub same_view : (locations new : List (List ℕ)) → Extends locations new → (held : List (ℕ × Kept)) (bytes : ℕ) → IsLedger locations held bytes → all_in_order new held ≡ all_in_order locations held
same_view locations new extends held bytes keeps = ap in_order (same_entries locations new extends held keeps.kept)

-- what holds holds where there is an error
pub on_err : {T E : Type 0} (result : Result T E) (P : Type 0) → P → OnErr result P
on_err (Ok value) P p = tt
on_err (Err fault) P p = p

-- the addresses of entries
abbrev pub addresses_of : List Entry → List ℕ
addresses_of es = map (λ (entry : Entry). entry.addr) es

all-put : (P : ℕ → Type 0) (e : Entry) (es : List Entry) → P e.addr → AllByRecursion P (addresses_of es) → AllByRecursion P (addresses_of (put_in_order e es))
all-put P e [] its all = (its, all)
all-put P e (f ∷ fs) its all = by_order (all-put P e fs its all.1) (nat_lt f.addr e.addr)
  where
    by_order : AllByRecursion P (addresses_of (put_in_order e fs)) → (b : Bool) → AllByRecursion P (addresses_of (cond b (f ∷ put_in_order e fs) (e ∷ (f ∷ fs))))
    by_order later false = (its, all)
    by_order later true = (all.0, later)

sorted-put : (e : Entry) (es : List Entry) → IsStrictlySortedBy nat_cmp (addresses_of es) → AllByRecursion (λ (a : ℕ). nat_eq e.addr a ≡ false) (addresses_of es)
    → IsStrictlySortedBy nat_cmp (addresses_of (put_in_order e es))
unfolding IsStrictlySortedBy
sorted-put e [] sorted apart = (tt, tt)
sorted-put e (f ∷ fs) sorted apart = by_order (sorted-put e fs sorted.1 apart.1) (nat_lt f.addr e.addr) refl
  where
    by_order : IsStrictlySortedBy nat_cmp (addresses_of (put_in_order e fs)) → (b : Bool) → nat_lt f.addr e.addr ≡ b
        → IsStrictlySortedBy nat_cmp (addresses_of (cond b (f ∷ put_in_order e fs) (e ∷ (f ∷ fs))))
    by_order later true is = (all-put (λ (a : ℕ). nat_cmp f.addr a ≡ Less) e fs (grind (arith, nat_tests)) sorted.0, later)
    by_order later false is =
        let other = apart.0 in
        let less : e.addr < f.addr = grind (arith, nat_tests) in
        ((grind (arith, nat_tests), all_above e.addr f.addr less (addresses_of fs) sorted.0), sorted)

apart_in_order : (locations : List (List ℕ)) (address : ℕ) (held : List (ℕ × Kept)) → AllByRecursion (λ (a : ℕ). nat_eq address a ≡ false) (keys_of held)
    → AllByRecursion (λ (a : ℕ). nat_eq address a ≡ false) (addresses_of (all_in_order locations held))
apart_in_order locations address [] apart = tt
apart_in_order locations address (one ∷ more) apart =
    all-put (λ (a : ℕ). nat_eq address a ≡ false) (entry_of locations one) (all_in_order locations more) apart.0 (apart_in_order locations address more apart.1)

sorted_all : (locations : List (List ℕ)) (held : List (ℕ × Kept)) → IsDistinct nat_eq (keys_of held) → IsStrictlySortedBy nat_cmp (addresses_of (all_in_order locations held))
unfolding IsStrictlySortedBy IsDistinct
sorted_all locations [] distinct = tt
sorted_all locations (one ∷ more) distinct =
    sorted-put (entry_of locations one) (all_in_order locations more) (sorted_all locations more distinct.1) (apart_in_order locations one.0 more distinct.0)

-- the addresses rise
pub ordered : (locations : List (List ℕ)) (held : List (ℕ × Kept)) → IsDistinct nat_eq (keys_of held) → IsStrictlyIncreasing (addresses_of (all_in_order locations held))
ordered locations held distinct = IsStrictlyIncreasing-from_sorted (addresses_of (all_in_order locations held)) (sorted_all locations held distinct)
