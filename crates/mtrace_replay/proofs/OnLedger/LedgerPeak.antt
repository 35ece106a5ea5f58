-- What a ledger held at the mark stays, whatever is held later.
use Rattle.std.proofs.Common.{◌≡◌, ℕ, zero, suc, ◌+◌, ◌^◌, ◌<◌, ◌≤◌, List, [], ◌∷◌, length, sum_by, Option, None, Some, nat_eq, refl, sym, ap, ◌∙◌, subst, arith}
use Rattle.std.specs.Prelude.{option_map}
use Rattle.std.specs.Option.{unwrap_or, MatchOption, IfSome}
use Rattle.std.specs.List.{All, IsDistinct}
use Rattle.std.specs.List.Sorted.{IsPermutation}
use Rattle.std.specs.Map.{lookup, remove_entry, set_value, keys_of, values_of}
use Rattle.std.proofs.lemmas.List.Sums.{sum_by-cons}
use Rattle.std.proofs.lemmas.List.Sorted.{IsPermutation-refl}
use Rattle.std.proofs.lemmas.Map.Entries.{sum_by_values_permutation, sum_by-remove_entry, sum_by-set_value}
use Rattle.std.proofs.lemmas.Bool.{eq-eqb}
use Rattle.std.proofs.lemmas.Map.Views.{All-map-IsPermutation, All-values-set_value}
use Rattle.mtrace_replay.specs.declared.ledger.ledger.Kept.{Kept}
use Rattle.mtrace_replay.specs.Locations.{Extends}
use Rattle.mtrace_replay.specs.Calls.{has_no_call, caller_of}
use Rattle.mtrace_replay.specs.Shares.{ByLocation, nothing, amount_more, amount_less, now_at, marked_at, count_at, origins, has_no_block, site_at, sites_of, callers_of, Changes, KeepsShares, KeepsCounts}
use Rattle.mtrace_replay.specs.Ledger.{LedgerState, slot_of, AreShared, AreCalled, IsKept, IsLedger, IsCounted, Forgets}
use Rattle.mtrace_replay.proofs.OnLedger.LedgerLemmas.{all_in_order, same_view, still_keeps, is_within, is_small}
use Rattle.mtrace_replay.proofs.OnLedger.SharesLemmas.{shared-longer, called-kept, called-longer, shared-kept, some_there, slot_there, shared-added, shared-less, in_slot-most}
use Rattle.mtrace_replay.proofs.OnLedger.RowsBySlot.{rows_by-same, rows_of-longer}

abbrev pub ledger_state : List (List ℕ) → ByLocation → List (ℕ × Kept) → LedgerState
ledger_state locations shares held = record {
  all = all_in_order locations held;
  at_peak = sites_of (marked_at shares) locations;
  mark = shares.mark;
  called = record { callers = callers_of (count_at shares) locations; total = shares.total };
}

-- the sites at the mark, with more locations
pub peak_stays : (locations new : List (List ℕ)) → Extends locations new → (before after : ByLocation) → ((slot : ℕ) → length locations < slot → marked_at before slot ≡ nothing)
    → ((slot : ℕ) → marked_at after slot ≡ marked_at before slot) → sites_of (marked_at after) new ≡ sites_of (marked_at before) locations
peak_stays locations new extends before after beyond same =
    rows_by-same has_no_block site_at (marked_at after) (marked_at before) same (origins new) 0
    ∙ rows_of-longer has_no_block site_at (marked_at before) locations new extends (λ slot above. ap has_no_block (beyond slot above))

-- the callers, with more locations
pub callers_stay : (locations new : List (List ℕ)) → Extends locations new → (before after : ByLocation) → ((slot : ℕ) → length locations < slot → (count_at before slot).calls ≡ 0)
    → ((slot : ℕ) → count_at after slot ≡ count_at before slot) → callers_of (count_at after) new ≡ callers_of (count_at before) locations
callers_stay locations new extends before after beyond same =
    rows_by-same has_no_call caller_of (count_at after) (count_at before) same (origins new) 0
    ∙ rows_of-longer has_no_call caller_of (count_at before) locations new extends (λ slot above. eq-eqb (count_at before slot).calls 0 (beyond slot above))

-- where nothing more is held, all is as it was
pub same_state : (locations new : List (List ℕ)) → Extends locations new → (before after : ByLocation) (held : List (ℕ × Kept)) (bytes : ℕ)
    → IsLedger locations held bytes × AreShared locations before (values_of held) × AreCalled locations before (length held)
    → KeepsShares before after → ledger_state new after held ≡ ledger_state locations before held
same_state locations new extends before after held bytes keeps kept =
    let all = same_view locations new extends held bytes keeps.0 in
    let at_peak = peak_stays locations new extends before after keeps.1.beyond kept.marked in
    let callers = callers_stay locations new extends before after keeps.2.beyond kept.counts.now in
    (λ i. record { all = all i; at_peak = at_peak i; mark = kept.mark i; called = record { callers = callers i; total = kept.counts.total i } })

-- with the locations of one line more, and their slots
module _ (locations new : List (List ℕ)) (others : Extends locations new) (old : List (ℕ × Kept)) (bytes : ℕ) (shares covered : ByLocation)
    (kept : KeepsShares shares covered) (invariant : IsLedger locations old bytes × AreShared locations shares (values_of old) × AreCalled locations shares (length old)) where
  pub keeps_now : IsLedger new old bytes
  keeps_now = still_keeps locations new others old bytes invariant.0

  pub shared_now : AreShared new covered (values_of old)
  shared_now = shared-kept new (values_of old) shares covered (shared-longer locations new others (values_of old) shares invariant.1) kept

  pub called_now : AreCalled new covered (length old)
  called_now = called-kept new (length old) shares covered (called-longer locations new others (length old) shares invariant.2) kept.now kept.counts

-- A map has one value more, or another one, at a key. Until that is counted, the shares and the bytes are those of the rest.
pub record IsRest (locations : List (List ℕ)) (old new : List (ℕ × Kept)) (h : Kept) (before shares : ByLocation) (bytes : ℕ) : Type 0 where
  pub rest : List Kept
  pub shared : AreShared locations shares rest
  pub summed : bytes ≡ sum_by (λ (kept : Kept). kept.size) rest
  pub more : (measure : Kept → ℕ) → sum_by measure (values_of new) ≡ measure h + sum_by measure rest
  pub fewer : (measure : Kept → ℕ) → sum_by measure rest ≤ sum_by measure (values_of old)
  pub kept : All (IsKept locations) (values_of new)
  pub marked : (slot : ℕ) → marked_at shares slot ≡ marked_at before slot
  pub mark : shares.mark ≡ before.mark
  pub slots : length shares.all ≡ length before.all
  pub counts : KeepsCounts before shares

module _ (locations : List (List ℕ)) (old new : List (ℕ × Kept)) (bytes : ℕ) (keeps : IsLedger locations old bytes) (before : ByLocation) (shared : AreShared locations before (values_of old))
    (key : ℕ) (h : Kept) (its : IsKept locations h) where
  -- nothing was there
  pub rest_none : IsPermutation ((key, h) ∷ old) new → IsRest locations old new h before before bytes
  rest_none moved = record {
    rest = values_of old;
    shared = shared;
    summed = keeps.bytes_are;
    more = λ measure. sum_by_values_permutation measure ((key, h) ∷ old) new moved ∙ sum_by-cons measure h (values_of old);
    fewer = λ measure. omega arith;
    kept = All-map-IsPermutation (λ e. e.1) (IsKept locations) ((key, h) ∷ old) new moved (all_more keeps.kept);
    marked = λ slot. refl;
    mark = refl;
    slots = refl;
    counts = record { now = λ slot. refl; total = refl };
  }
    where
      all_more : All (IsKept locations) (values_of old) → All (IsKept locations) (h ∷ values_of old)
      all_more all zero d within = its
      all_more all (suc k) d within = all k d (omega (arith, within))

  -- another was there
  pub rest_some : (was : Kept) → lookup (nat_eq key) old ≡ Some was → new ≡ set_value (nat_eq key) old h → (middle : ByLocation)
      → Changes (slot_of was.location) (amount_less (now_at before (slot_of was.location)) was.size) before middle → (left : ℕ) → left + was.size ≡ bytes → KeepsCounts before middle → IsRest locations old new h before middle left
  rest_some was there set middle changes left is counts =
      let rest = remove_entry (nat_eq key) old in
      let one : (measure : Kept → ℕ) → sum_by measure (values_of rest) + measure was ≡ sum_by measure (values_of old) = (λ measure.
      omega (arith, sum_by-remove_entry measure (nat_eq key) old, ap (λ o. unwrap_or (option_map measure o) 0) there)) in
      record {
        rest = values_of rest;
        shared = shared-less locations old rest (nat_eq key) was there (IsPermutation-refl rest) before middle shared changes;
        summed = let whole = one (λ kept. kept.size) in omega (arith, whole, is, keeps.bytes_are);
        more = λ measure.
            let whole = sum_by-set_value measure (nat_eq key) old was h there in
            omega (arith, whole, one measure, ap (λ held. sum_by measure (values_of held)) set);
        fewer = λ measure. let whole = one measure in omega (arith, whole);
        kept = subst (λ (held : List (ℕ × Kept)). All (IsKept locations) (values_of held)) (sym set) (All-values-set_value (nat_eq key) (IsKept locations) old h keeps.kept its);
        marked = changes.marked;
        mark = changes.mark;
        slots = changes.slots;
        counts = counts;
      }

  -- by what the map answered
  pub rest_of : (was : Option Kept) → was ≡ lookup (nat_eq key) old → MatchOption was (IsPermutation ((key, h) ∷ old) new) (λ value. new ≡ set_value (nat_eq key) old h)
      → (shares : ByLocation) (left : ℕ) → Forgets was before shares bytes left → IsRest locations old new h before shares left
  rest_of None is moved shares left forgets =
      subst (λ (s : ByLocation). IsRest locations old new h before s left) (sym forgets.0) (subst (λ (n : ℕ). IsRest locations old new h before before n) (sym forgets.1) (rest_none moved))
  rest_of (Some was) is set shares left forgets = rest_some was (sym is) set shares forgets.0 left forgets.1 forgets.2

  -- what was there is counted
  pub counted_there : (was : Option Kept) → was ≡ lookup (nat_eq key) old → IfSome was (λ kept. IsCounted kept before bytes)
  counted_there None is = tt
  counted_there (Some was) is =
      let some = some_there locations old (nat_eq key) was (sym is) before shared in
      let within = is_within locations old bytes keeps (nat_eq key) was (sym is) in
      record { slot = slot_there before (slot_of was.location) some.0; blocks = some.0; bytes = some.1; size = omega (arith, within) }

count_all : (held : List (ℕ × Kept)) → sum_by (λ (kept : Kept). 1) (values_of held) ≡ length held
count_all [] = refl
count_all (one ∷ more) = omega (arith, sum_by-cons (λ (kept : Kept). 1) one.1 (values_of more), count_all more)

module _ (locations : List (List ℕ)) (old new : List (ℕ × Kept)) (h : Kept) (before shares : ByLocation) (bytes : ℕ) (rest : IsRest locations old new h before shares bytes) where
  -- the one more was counted
  pub counted : IsDistinct nat_eq (keys_of new) → (after : ByLocation) → Changes (slot_of h.location) (amount_more (now_at shares (slot_of h.location)) h.size) shares after
      → IsLedger locations new (bytes + h.size) × AreShared locations after (values_of new)
  counted distinct after changes = (
    record { distinct = distinct; bytes_are = omega (arith, rest.summed, rest.more (λ kept. kept.size)); kept = rest.kept },
    shared-added locations rest.rest (values_of new) h rest.more shares after rest.shared changes,
  )

  -- at most one more
  pub few_more : length new ≤ suc (length old)
  few_more = omega (arith, count_all new, count_all old, rest.more (λ kept. 1), rest.fewer (λ kept. 1))

  -- there are few
  pub few_blocks : length old < 2 ^ 63 → (now_at shares (slot_of h.location)).blocks < 2 ^ 63
  few_blocks few =
      let one : sum_by (λ (kept : Kept). 1) (values_of old) ≡ length old = count_all old in
      omega (arith, rest.shared.blocks (slot_of h.location), in_slot-most locations (λ kept. 1) (slot_of h.location) rest.rest, rest.fewer (λ kept. 1), one, few)

  pub few_bytes : (whole : ℕ) → IsLedger locations old whole → length old < 2 ^ 63 → (bytes < 2 ^ 127) × ((now_at shares (slot_of h.location)).bytes < 2 ^ 127)
  few_bytes whole keeps few =
      let small = is_small locations old whole keeps few in
      let fewer = rest.fewer (λ kept. kept.size) in (
        omega (arith, rest.summed, fewer, keeps.bytes_are, small),
        omega (arith, rest.shared.bytes (slot_of h.location), in_slot-most locations (λ kept. kept.size) (slot_of h.location) rest.rest, fewer, keeps.bytes_are, small),
      )
