-- The order of keys.
use Rattle.std.proofs.Common.{◌≡◌, ℕ, zero, suc, ◌+◌, ◌<◌, ◌≤◌, List, [], ◌∷◌, take, drop, length, slice_index_or, arith, subst}
use Rattle.std.specs.List.{insert, remove, AllByRecursion}
use Rattle.mtrace_replay.specs.declared.heap.key.Key.{Key}
use Rattle.mtrace_replay.specs.Key.{least_behind, RiseFrom, AreBelow, AreAbove}
use Rattle.mtrace_replay.specs.Search.{StandsAt, FitsAt}

-- what is behind a key is not below its address
pub not_lower : (key : Key) → key.address ≤ least_behind key
not_lower key = grind arith

-- the address after that of a key may be behind it
pub not_higher : (key : Key) → least_behind key ≤ suc (key.address)
not_higher key = grind arith

-- a key of a list that rises is not below the bound
pub not_below : (default : Key) (bound : ℕ) (keys : List Key) (k : ℕ) → RiseFrom bound keys → k < length keys → bound ≤ (slice_index_or keys k default).address
not_below default bound [] k rise within = absurd (omega (arith, within))
not_below default bound (key ∷ keys) zero rise within = rise.0
not_below default bound (key ∷ keys) (suc k) rise within =
    let later = not_below default (least_behind key) keys k rise.1 (omega (arith, within)) in
    omega (arith, rise.0, later, not_lower key)

-- nor below one that stands before it
pub not_below_one_before : (default : Key) (bound : ℕ) (keys : List Key) (one other : ℕ) → RiseFrom bound keys → one ≤ other → other < length keys
    → (slice_index_or keys one default).address ≤ (slice_index_or keys other default).address
not_below_one_before default bound [] one other rise before within = absurd (omega (arith, within))
not_below_one_before default bound (key ∷ keys) zero zero rise before within = omega arith
not_below_one_before default bound (key ∷ keys) zero (suc other) rise before within =
    let later = not_below default (least_behind key) keys other rise.1 (omega (arith, within)) in
    omega (arith, later, not_lower key)
not_below_one_before default bound (key ∷ keys) (suc one) zero rise before within = absurd (omega (arith, before))
not_below_one_before default bound (key ∷ keys) (suc one) (suc other) rise before within =
    not_below_one_before default (least_behind key) keys one other rise.1 (omega (arith, before)) (omega (arith, within))

-- what stands up to a key below the address is below it
pub below_up_to : (default : Key) (address bound : ℕ) (keys : List Key) (k : ℕ) → RiseFrom bound keys → k < length keys
    → least_behind (slice_index_or keys k default) ≤ address → AreBelow address (take (suc k) keys)
below_up_to default address bound [] k rise within is = absurd (omega (arith, within))
below_up_to default address bound (key ∷ keys) zero rise within is = (is, tt)
below_up_to default address bound (key ∷ keys) (suc k) rise within is =
    let later = not_below default (least_behind key) keys k rise.1 (omega (arith, within)) in
    (omega (arith, later, is, not_lower (slice_index_or keys k default)), below_up_to default address (least_behind key) keys k rise.1 (omega (arith, within)) is)

-- a list that rises from above the address is above it
pub above_all : (address bound : ℕ) (keys : List Key) → RiseFrom bound keys → address < bound → AreAbove address keys
above_all address bound [] rise is = tt
above_all address bound (key ∷ keys) rise is =
    (omega (arith, rise.0, is), above_all address (least_behind key) keys rise.1 (omega (arith, rise.0, is, not_lower key)))

-- what stands from a key above the address on is above it
pub above_from : (default : Key) (address bound : ℕ) (keys : List Key) (k : ℕ) → RiseFrom bound keys → k < length keys
    → address < (slice_index_or keys k default).address → AreAbove address (drop k keys)
above_from default address bound [] k rise within is = absurd (omega (arith, within))
above_from default address bound (key ∷ keys) zero rise within is =
    (is, above_all address (least_behind key) keys rise.1 (omega (arith, is, not_lower key)))
above_from default address bound (key ∷ keys) (suc k) rise within is =
    above_from default address (least_behind key) keys k rise.1 (omega (arith, within)) is

-- what is behind a key is above what may not stand behind it
pub above_behind : (default : Key) (address bound : ℕ) (keys : List Key) (k : ℕ) → RiseFrom bound keys → k < length keys → address < least_behind (slice_index_or keys k default) → AreAbove address (drop (suc k) keys)
above_behind default address bound [] k rise within is = absurd (omega (arith, within))
above_behind default address bound (key ∷ keys) zero rise within is = above_all address (least_behind key) keys rise.1 is
above_behind default address bound (key ∷ keys) (suc k) rise within is = above_behind default address (least_behind key) keys k rise.1 (omega (arith, within)) is

-- what stands before a key is below it
pub below_before : (default : Key) (bound : ℕ) (keys : List Key) (k : ℕ) → RiseFrom bound keys → k < length keys → AreBelow (slice_index_or keys k default).address (take k keys)
below_before default bound [] k rise within = absurd (omega (arith, within))
below_before default bound (key ∷ keys) zero rise within = tt
below_before default bound (key ∷ keys) (suc k) rise within =
    (not_below default (least_behind key) keys k rise.1 (omega (arith, within)), below_before default (least_behind key) keys k rise.1 (omega (arith, within)))

-- a list that rises from a bound rises from a lower one
pub rise_lower : (bound lower : ℕ) (keys : List Key) → lower ≤ bound → RiseFrom bound keys → RiseFrom lower keys
rise_lower bound lower [] less rise = tt
rise_lower bound lower (key ∷ keys) less rise = (omega (arith, less, rise.0), rise.1)

-- one that is above an address rises from there
rise_above : (address bound : ℕ) (keys : List Key) → RiseFrom bound keys → AreAbove address keys → RiseFrom (suc address) keys
rise_above address bound [] rise above = tt
rise_above address bound (key ∷ keys) rise above = (above.0, rise.1)

-- a key leaves
pub rise_remove : (bound : ℕ) (keys : List Key) (at : ℕ) → RiseFrom bound keys → RiseFrom bound (remove keys at)
rise_remove bound [] zero rise = tt
rise_remove bound [] (suc at) rise = tt
rise_remove bound (key ∷ keys) zero rise = rise_lower (least_behind key) bound keys (omega (arith, rise.0, not_lower key)) rise.1
rise_remove bound (key ∷ keys) (suc at) rise = (rise.0, rise_remove (least_behind key) keys at rise.1)

-- a key enters where its address fits
pub rise_insert : (bound : ℕ) (keys : List Key) (at : ℕ) (key : Key) → RiseFrom bound keys → FitsAt keys key.address at → bound ≤ key.address → RiseFrom bound (insert keys at key)
rise_insert bound keys zero key rise fits least =
    (least, rise_lower (suc key.address) (least_behind key) keys (not_higher key) (rise_above key.address bound keys rise fits.2))
rise_insert bound [] (suc at) key rise fits least = absurd (omega (arith, fits.0))
rise_insert bound (first ∷ keys) (suc at) key rise fits least = (rise.0, rise_insert (least_behind first) keys at key rise.1 (omega (arith, fits.0), fits.1.1, fits.2) fits.1.0)

module _ {X : Type 0} (P : X → Type 0) where
  pub all_remove : (xs : List X) (at : ℕ) → AllByRecursion P xs → AllByRecursion P (remove xs at)
  all_remove [] zero all = tt
  all_remove [] (suc at) all = tt
  all_remove (x ∷ xs) zero all = all.1
  all_remove (x ∷ xs) (suc at) all = (all.0, all_remove xs at all.1)

  pub all_insert : (xs : List X) (at : ℕ) (x : X) → at ≤ length xs → P x → AllByRecursion P xs → AllByRecursion P (insert xs at x)
  all_insert xs zero x within is all = (is, all)
  all_insert [] (suc at) x within is all = absurd (omega (arith, within))
  all_insert (y ∷ xs) (suc at) x within is all = (all.0, all_insert xs at x (omega (arith, within)) is all.1)

  pub all_there : (xs : List X) (at : ℕ) (default : X) → at < length xs → AllByRecursion P xs → P (slice_index_or xs at default)
  all_there [] at default within all = absurd (omega (arith, within))
  all_there (x ∷ xs) zero default within all = all.0
  all_there (x ∷ xs) (suc at) default within all = all_there xs at default (omega (arith, within)) all.1

module _ (address : ℕ) where
  -- without one key behind it or before it, an address fits, too
  pub fits_above : (keys : List Key) (gap at : ℕ) → at ≤ gap → gap < length keys → FitsAt keys address at → FitsAt (remove keys gap) address at
  fits_above [] gap at order within fits = absurd (omega (arith, within))
  fits_above (key ∷ keys) gap zero order within fits = (omega arith, tt, all_remove (λ (k : Key). address < k.address) (key ∷ keys) gap fits.2)
  fits_above (key ∷ keys) zero (suc at) order within fits = absurd (omega (arith, order))
  fits_above (key ∷ keys) (suc gap) (suc at) order within fits =
      let rest = fits_above keys gap at (omega (arith, order)) (omega (arith, within)) (omega (arith, fits.0), fits.1.1, fits.2) in
      (omega (arith, rest.0), (fits.1.0, rest.1), rest.2)

  pub fits_below : (keys : List Key) (gap to : ℕ) → gap ≤ to → FitsAt keys address (suc to) → FitsAt (remove keys gap) address to
  fits_below [] gap to order fits = absurd (omega (arith, fits.0))
  fits_below (key ∷ keys) zero to order fits = (omega (arith, fits.0), fits.1.1, fits.2)
  fits_below (key ∷ keys) (suc gap) zero order fits = absurd (omega (arith, order))
  fits_below (key ∷ keys) (suc gap) (suc to) order fits =
      let rest = fits_below keys gap to (omega (arith, order)) (omega (arith, fits.0), fits.1.1, fits.2) in
      (omega (arith, rest.0), (fits.1.0, rest.1), rest.2)

  -- where it stands, it fits without that key
  fits_between : (keys : List Key) (at : ℕ) → at < length keys → AreBelow address (take at keys) → AreAbove address (drop (suc at) keys) → FitsAt (remove keys at) address at
  fits_between [] at within below above = absurd (omega (arith, within))
  fits_between (key ∷ keys) zero within below above = (omega arith, tt, above)
  fits_between (key ∷ keys) (suc at) within below above =
      let rest = fits_between keys at (omega (arith, within)) below.1 above in
      (omega (arith, rest.0), (below.0, rest.1), rest.2)

  pub fits_there : (keys : List Key) (at : ℕ) (default : Key) → RiseFrom 0 keys → StandsAt keys address at → FitsAt (remove keys at) address at
  fits_there keys at default rise stands =
      fits_between keys at stands.0 (subst (λ a. AreBelow a (take at keys)) (stands.1 default) (below_before default 0 keys at rise stands.0))
      (let next : at + 1 ≡ suc at = omega arith in subst (λ k. AreAbove address (drop k keys)) next stands.2)
