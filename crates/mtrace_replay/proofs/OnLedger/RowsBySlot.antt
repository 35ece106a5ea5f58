-- Rows of locations by their slots: a row for each location, unless there is nothing of it.
use Rattle.std.proofs.Common.{cond, Bool, true, false, Option, Some, None, is_some, ◌≡◌, ℕ, zero, suc, ◌+◌, ◌<◌, ◌≤◌, List, [], ◌∷◌, length, map, drop, sum_by, refl, sym, ap, ◌∙◌, subst, arith, drop-cons}
use Rattle.std.specs.Prelude.{◌==◌, nat_eq, slice_get, if◌then◌else◌}
use Rattle.std.specs.Option.{IsSome}
use Rattle.std.specs.List.{AllByRecursion, IsDistinct}
use Rattle.std.specs.Ordering.{is_eq}
use Rattle.std.specs.Cmp.Lexicographic.{pointwise}
use Rattle.std.proofs.lemmas.List.Sums.{sum_by-cons}
use Rattle.std.proofs.lemmas.Bool.{false≢true, eq-eqb, ne_eqb}
use Rattle.std.proofs.lemmas.Option.{slice_get-get_or}
use Rattle.std.proofs.lemmas.Bool.Decides.{Decides-eqb}
use Rattle.std.proofs.lemmas.Slice.Eq.{slice_eq-Decides}
use Rattle.mtrace_replay.specs.Sites.{Origin, origin_cmp, weigh}
use Rattle.mtrace_replay.specs.Locations.{Extends, location_of, HasLocation}
use Rattle.mtrace_replay.specs.Shares.{origins, with_row, rows_by}
use Rattle.mtrace_replay.specs.Ledger.{slot_of}
use Rattle.mtrace_replay.proofs.Told.SiteLemmas.Origins.{origin_same, is_eq-Equal, weigh-add}

-- what is gathered from the last row on: how few are left, and what all are
pub record Gathers (few all : Type 0) : Type 0 where
  pub within : few
  pub gathered : all

-- a number that isn't 0 is above it
pub above_zero : (n : ℕ) → (n == 0) ≡ false → 0 < n
above_zero zero none = absurd (false≢true (sym none))
above_zero (suc n) none = omega arith

-- ---- the list stays where the slots have what they had

module _ {C R : Type 0} (is_nothing : C → Bool) (row : Origin → C → R) where
  pub rows_by-same : (f g : ℕ → C) → ((slot : ℕ) → f slot ≡ g slot) → (all : List Origin) (slot : ℕ) → rows_by is_nothing row f all slot ≡ rows_by is_nothing row g all slot
  rows_by-same f g same [] slot = refl
  rows_by-same f g same (at ∷ rest) slot =
      ap (λ c. with_row is_nothing row at c (rows_by is_nothing row f rest (suc slot))) (same slot)
      ∙ ap (with_row is_nothing row at (g slot)) (rows_by-same f g same rest (suc slot))

  rows_by-none : (f : ℕ → C) (all : List Origin) (slot : ℕ) → ((s : ℕ) → slot ≤ s → is_nothing (f s) ≡ true) → rows_by is_nothing row f all slot ≡ []
  rows_by-none f [] slot none = refl
  rows_by-none f (at ∷ rest) slot none =
      ap (λ b. cond b (rows_by is_nothing row f rest (suc slot)) (row at (f slot) ∷ rows_by is_nothing row f rest (suc slot))) (none slot (omega arith))
      ∙ rows_by-none f rest (suc slot) (λ s above. none s (omega (arith, above)))

  rows_by-longer : (f : ℕ → C) (old new : List (List ℕ)) (slot : ℕ) → Extends old new → ((s : ℕ) → slot + length old ≤ s → is_nothing (f s) ≡ true)
      → rows_by is_nothing row f (map Some new) slot ≡ rows_by is_nothing row f (map Some old) slot
  rows_by-longer f [] new slot extends none = rows_by-none f (map Some new) slot (λ s above. none s (omega (arith, above)))
  rows_by-longer f (first ∷ old) [] slot extends none = absurd (false≢true (ap is_some (extends 0 first refl)))
  rows_by-longer f (first ∷ old) (other ∷ new) slot extends none =
      ap (λ at. with_row is_nothing row at (f slot) (rows_by is_nothing row f (map Some new) (suc slot))) (extends 0 first refl)
      ∙ ap (with_row is_nothing row (Some first) (f slot)) (rows_by-longer f old new (suc slot) (λ number bytes is. extends (suc number) bytes is) (λ s above. none s (omega (arith, above))))

  -- with more locations, of which none had anything
  pub rows_of-longer : (f : ℕ → C) (old new : List (List ℕ)) → Extends old new → ((slot : ℕ) → length old < slot → is_nothing (f slot) ≡ true)
      → rows_by is_nothing row f (origins new) 0 ≡ rows_by is_nothing row f (origins old) 0
  rows_of-longer f old new extends none = ap (with_row is_nothing row None (f 0)) (rows_by-longer f old new 1 extends (λ s above. none s (omega (arith, above))))

  -- the row of the location before those that are passed
  pub one_before : (f : ℕ → C) (all : List (List ℕ)) (number left : ℕ) (at : Origin) → number < length all → suc number ≡ left → at ≡ slice_get all number
      → with_row is_nothing row at (f left) (rows_by is_nothing row f (map Some (drop left all)) (suc left)) ≡ rows_by is_nothing row f (map Some (drop number all)) (suc number)
  one_before f all number left at within is found =
      subst (λ n. with_row is_nothing row at (f n) (rows_by is_nothing row f (map Some (drop n all)) (suc n)) ≡ rows_by is_nothing row f (map Some (drop number all)) (suc number)) is
      (ap (λ o. with_row is_nothing row o (f (suc number)) (rows_by is_nothing row f (map Some (drop (suc number) all)) (suc (suc number)))) (found ∙ slice_get-get_or all number [] within)
      ∙ ap (λ rest. rows_by is_nothing row f (map Some rest) (suc number)) (sym (drop-cons all number [] within)))

  -- each row has something
  pub rows_by-some : (measure : R → ℕ) → ((at : Origin) (c : C) → is_nothing c ≡ false → 0 < measure (row at c)) → (f : ℕ → C) (all : List Origin) (slot : ℕ)
      → AllByRecursion (λ r. 0 < measure r) (rows_by is_nothing row f all slot)
  rows_by-some measure some f [] slot = tt
  rows_by-some measure some f (at ∷ rest) slot = by (is_nothing (f slot)) refl (rows_by-some measure some f rest (suc slot))
    where
      by : (b : Bool) → is_nothing (f slot) ≡ b → AllByRecursion (λ r. 0 < measure r) (rows_by is_nothing row f rest (suc slot))
          → AllByRecursion (λ r. 0 < measure r) (cond b (rows_by is_nothing row f rest (suc slot)) (row at (f slot) ∷ rows_by is_nothing row f rest (suc slot)))
      by true is later = later
      by false is later = (some at (f slot) is, later)

-- ---- what is at an origin, in sum

pub weigh-none : (p q : Origin) → weigh p q 0 ≡ 0
weigh-none p q = by (is_eq (origin_cmp p q))
  where
    by : (b : Bool) → cond {A = ℕ} b 0 0 ≡ 0
    by true = refl
    by false = refl

unfoldable pub weighed : Origin → List Origin → ℕ → (ℕ → ℕ) → ℕ
weighed p [] slot g = 0
weighed p (q ∷ qs) slot g = weigh p q (g slot) + weighed p qs (suc slot) g

pub weighed-same : (p : Origin) (qs : List Origin) (slot : ℕ) (g h : ℕ → ℕ) → ((s : ℕ) → g s ≡ h s) → weighed p qs slot g ≡ weighed p qs slot h
unfolding weighed
weighed-same p [] slot g h same = refl
weighed-same p (q ∷ qs) slot g h same = omega (arith, ap (weigh p q) (same slot), weighed-same p qs (suc slot) g h same)

pub weighed-none : (p : Origin) (qs : List Origin) (slot : ℕ) (g : ℕ → ℕ) → ((s : ℕ) → slot ≤ s → g s ≡ 0) → weighed p qs slot g ≡ 0
unfolding weighed
weighed-none p [] slot g none = refl
weighed-none p (q ∷ qs) slot g none =
    omega (arith, ap (weigh p q) (none slot (omega arith)), weigh-none p q, weighed-none p qs (suc slot) g (λ s above. none s (omega (arith, above))))

pub weighed-add : (p : Origin) (qs : List Origin) (slot : ℕ) (g h : ℕ → ℕ) → weighed p qs slot (λ s. g s + h s) ≡ weighed p qs slot g + weighed p qs slot h
unfolding weighed
weighed-add p [] slot g h = refl
weighed-add p (q ∷ qs) slot g h = omega (arith, weigh-add p q (g slot) (h slot), weighed-add p qs (suc slot) g h)

-- one slot alone has something
unfoldable pub one_slot : (m c : ℕ) → ℕ → ℕ
one_slot m c s = if m == s then c else 0

pub one_slot-here : (m c : ℕ) → one_slot m c m ≡ c
unfolding one_slot
one_slot-here m c = ap (λ b. cond b c 0) (eq-eqb m m refl)

pub one_slot-other : (m c s : ℕ) → (m ≡ s → ⊥) → one_slot m c s ≡ 0
unfolding one_slot
one_slot-other m c s other = ap (λ b. cond b c 0) (ne_eqb m s other)

weighed-at : (p : Origin) (all : List (List ℕ)) (slot number m c : ℕ) → m ≡ slot + number → IsSome (slice_get all number) → weighed p (map Some all) slot (one_slot m c) ≡ weigh p (slice_get all number) c
unfolding weighed
weighed-at p [] slot number m c is some = absurd (false≢true some)
weighed-at p (first ∷ rest) slot zero m c is some =
    let here : one_slot m c slot ≡ c = ap (λ s. one_slot m c s) (omega (arith, is)) ∙ one_slot-here m c in
    let later = weighed-none p (map Some rest) (suc slot) (one_slot m c) (λ s above. one_slot-other m c s (λ same. omega (arith, same, is, above))) in
    omega (arith, ap (weigh p (Some first)) here, later)
weighed-at p (first ∷ rest) slot (suc number) m c is some =
    let here : one_slot m c slot ≡ 0 = one_slot-other m c slot (λ same. omega (arith, same, is)) in
    omega (arith, ap (weigh p (Some first)) here, weigh-none p (Some first), weighed-at p rest (suc slot) number m c (omega (arith, is)) some)

pub weighed-its : (p : Origin) (locations : List (List ℕ)) (location : Option ℕ) (c : ℕ) → HasLocation locations location
    → weighed p (origins locations) 0 (one_slot (slot_of location) c) ≡ weigh p (location_of locations location) c
unfolding weighed
weighed-its p locations None c there =
    omega (arith, ap (weigh p None) (one_slot-here 0 c), weighed-none p (map Some locations) 1 (one_slot 0 c) (λ s above. one_slot-other 0 c s (λ same. omega (arith, same, above))))
weighed-its p locations (Some number) c there =
    omega (arith, ap (weigh p None) (one_slot-other (suc number) c 0 (λ same. omega (arith, same))), weigh-none p None, weighed-at p locations 1 number (suc number) c (omega arith) (there number refl))

-- the rows of origins, in sum
module _ (p : Origin) {C R : Type 0} (is_nothing : C → Bool) (row : Origin → C → R) (at_of : R → Origin) (its : (at : Origin) (c : C) → at_of (row at c) ≡ at) (f : ℕ → C) where
  module _ (get : C → ℕ) (of : R → ℕ) (same : (at : Origin) (c : C) → is_nothing c ≡ false → of (row at c) ≡ get c) (empty : (slot : ℕ) → is_nothing (f slot) ≡ true → get (f slot) ≡ 0) where
    pub rows_weigh : (all : List Origin) (slot : ℕ) → sum_by (λ r. weigh p (at_of r) (of r)) (rows_by is_nothing row f all slot) ≡ weighed p all slot (λ s. get (f s))
    unfolding weighed
    rows_weigh [] slot = refl
    rows_weigh (at ∷ rest) slot = by (is_nothing (f slot)) refl (rows_weigh rest (suc slot))
      where
        by : (b : Bool) → is_nothing (f slot) ≡ b → sum_by (λ r. weigh p (at_of r) (of r)) (rows_by is_nothing row f rest (suc slot)) ≡ weighed p rest (suc slot) (λ s. get (f s))
            → sum_by (λ r. weigh p (at_of r) (of r)) (cond b (rows_by is_nothing row f rest (suc slot)) (row at (f slot) ∷ rows_by is_nothing row f rest (suc slot)))
            ≡ weigh p at (get (f slot)) + weighed p rest (suc slot) (λ s. get (f s))
        by true is later = omega (arith, later, ap (weigh p at) (empty slot is), weigh-none p at)
        by false is later =
            let here : weigh p (at_of (row at (f slot))) (of (row at (f slot))) ≡ weigh p at (get (f slot)) =
            ap (λ o. weigh p o (of (row at (f slot)))) (its at (f slot)) ∙ ap (weigh p at) (same at (f slot) is) in
            omega (arith, later, sum_by-cons (λ (r : R). weigh p (at_of r) (of r)) (row at (f slot)) (rows_by is_nothing row f rest (suc slot)), here)

  -- no origin has two
  at_most : (all : List Origin) (slot : ℕ) → sum_by (λ r. weigh p (at_of r) 1) (rows_by is_nothing row f all slot) ≤ weighed p all slot (λ s. 1)
  unfolding weighed
  at_most [] slot = omega arith
  at_most (at ∷ rest) slot = by (is_nothing (f slot)) (at_most rest (suc slot))
    where
      by : (b : Bool) → sum_by (λ r. weigh p (at_of r) 1) (rows_by is_nothing row f rest (suc slot)) ≤ weighed p rest (suc slot) (λ s. 1)
          → sum_by (λ r. weigh p (at_of r) 1) (cond b (rows_by is_nothing row f rest (suc slot)) (row at (f slot) ∷ rows_by is_nothing row f rest (suc slot)))
          ≤ weigh p at 1 + weighed p rest (suc slot) (λ s. 1)
      by true later = omega (arith, later)
      by false later =
          let here : weigh p (at_of (row at (f slot))) 1 ≡ weigh p at 1 = ap (λ o. weigh p o 1) (its at (f slot)) in
          omega (arith, later, sum_by-cons (λ (r : R). weigh p (at_of r) 1) (row at (f slot)) (rows_by is_nothing row f rest (suc slot)), here)

weigh-apart : (p q : Origin) (n : ℕ) → (p ≡ q → ⊥) → weigh p q n ≡ 0
weigh-apart p q n apart = by (is_eq (origin_cmp p q)) refl
  where
    by : (b : Bool) → is_eq (origin_cmp p q) ≡ b → cond b n 0 ≡ 0
    by true is = absurd (apart (origin_same p q (is_eq-Equal (origin_cmp p q) is)))
    by false is = refl

some_bytes : (x y : List ℕ) → Some x ≡ Some y → x ≡ y
some_bytes x y is = ap (λ o. bytes_or o) is
  where
    bytes_or : Option (List ℕ) → List ℕ
    bytes_or None = x
    bytes_or (Some bytes) = bytes

apart_bytes : (x y : List ℕ) → pointwise nat_eq x y ≡ false → Some x ≡ Some y → ⊥
apart_bytes x y other is = false≢true (sym other ∙ (slice_eq-Decides Decides-eqb x y (pointwise nat_eq x y) refl).1 (some_bytes x y is))

absent : (p : Origin) (all : List (List ℕ)) (slot : ℕ) → AllByRecursion (λ bytes. p ≡ Some bytes → ⊥) all → weighed p (map Some all) slot (λ s. 1) ≡ 0
unfolding weighed
absent p [] slot apart = refl
absent p (first ∷ rest) slot apart = omega (arith, weigh-apart p (Some first) 1 apart.0, absent p rest (suc slot) apart.1)

weigh-one : (p q : Origin) → weigh p q 1 ≤ 1
weigh-one p q = by (is_eq (origin_cmp p q))
  where
    by : (b : Bool) → cond b 1 0 ≤ 1
    by true = omega arith
    by false = omega arith

one_some : (p : Origin) (all : List (List ℕ)) (slot : ℕ) → IsDistinct (pointwise nat_eq) all → weighed p (map Some all) slot (λ s. 1) ≤ 1
unfolding weighed IsDistinct
one_some p [] slot distinct = omega arith
one_some p (first ∷ rest) slot distinct = by (is_eq (origin_cmp p (Some first))) refl (one_some p rest (suc slot) distinct.1)
  where
    others : p ≡ Some first → (all : List (List ℕ)) → AllByRecursion (λ bytes. pointwise nat_eq first bytes ≡ false) all → AllByRecursion (λ bytes. p ≡ Some bytes → ⊥) all
    others same [] apart = tt
    others same (bytes ∷ more) apart = (λ is. apart_bytes first bytes apart.0 (sym same ∙ is), others same more apart.1)

    by : (b : Bool) → is_eq (origin_cmp p (Some first)) ≡ b → weighed p (map Some rest) (suc slot) (λ s. 1) ≤ 1 → weigh p (Some first) 1 + weighed p (map Some rest) (suc slot) (λ s. 1) ≤ 1
    by true is later =
        let same = origin_same p (Some first) (is_eq-Equal (origin_cmp p (Some first)) is) in
        omega (arith, weigh-one p (Some first), absent p rest (suc slot) (others same rest distinct.0))
    by false is later = omega (arith, later, ap (λ b. cond {A = ℕ} b 1 0) is)

pub one_origin : (p : Origin) (locations : List (List ℕ)) → IsDistinct (pointwise nat_eq) locations → weighed p (origins locations) 0 (λ s. 1) ≤ 1
unfolding weighed
one_origin None locations distinct = omega (arith, weigh-one None None, absent None locations 1 (none locations))
  where
    none : (all : List (List ℕ)) → AllByRecursion (λ bytes. None ≡ Some bytes → ⊥) all
    none [] = tt
    none (bytes ∷ more) = (λ is. false≢true (ap is_some is), none more)
one_origin (Some bytes) locations distinct = omega (arith, weigh-apart (Some bytes) None 1 (λ is. false≢true (sym (ap is_some is))), one_some (Some bytes) locations 1 distinct)

-- no origin has two rows
pub one_row : (p : Origin) {C R : Type 0} (is_nothing : C → Bool) (row : Origin → C → R) (at_of : R → Origin) → ((at : Origin) (c : C) → at_of (row at c) ≡ at) → (f : ℕ → C)
    (locations : List (List ℕ)) → IsDistinct (pointwise nat_eq) locations → sum_by (λ r. weigh p (at_of r) 1) (rows_by is_nothing row f (origins locations) 0) ≤ 1
one_row p is_nothing row at_of its f locations distinct = omega (arith, at_most p is_nothing row at_of its f (origins locations) 0, one_origin p locations distinct)
