-- The entries once one of them was written: they are placed, apart, and those of the pools.
use Rattle.std.proofs.Common.{◌≡◌, ◌≢◌, ℕ, ◌+◌, ◌<◌, List, length, slice_index_or, slice_set, refl, sym, ap, ◌∙◌, subst, arith, inl, inr}
use Rattle.std.specs.List.{AllPairs, Contains}
use Rattle.std.proofs.lemmas.Bool.{cases_eq, cases_order}
use Rattle.std.proofs.lemmas.List.{get_or_default, get_or-set_same, get_or-set_other, length-set}
use Rattle.std.proofs.lemmas.List.Elements.{All-contains, All-contains_itself}
use Rattle.tlsf_c.specs.declared.placed_pool.PlacedPool.{PlacedPool}
use Rattle.tlsf_c.specs.Fronts.{front}
use Rattle.tlsf_c.specs.PlacedPools.{AreApart, IsEntered, IsEntryOf, AreEntriesOf, placed_range}
use Rattle.tlsf_c.specs.RangeMoves.{IsRangeAdded, IsRangeRemoved}

-- an entry that holds no pool
abbrev pub vacant : PlacedPool
vacant = record { first = 0; reach = 0; place = 0; number = 0; owner = 0 }

-- what is known of the entry at an index, by whatever default
pub at_index : (P : PlacedPool → Type 0) (pools : List PlacedPool) (k index : ℕ) (d : PlacedPool) → k ≡ index → index < length pools → P (slice_index_or pools index vacant) → P (slice_index_or pools k d)
at_index P pools k index d here within is = subst P (get_or_default pools index vacant d within ∙ ap (λ (n : ℕ). slice_index_or pools n d) (sym here)) is

module _ (pools : List PlacedPool) (k : ℕ) (new : PlacedPool) (within : k < length pools) where
  abbrev written : List PlacedPool
  written = slice_set pools k new

  there : (i : ℕ) (d : PlacedPool) → i ≡ k → slice_index_or written i d ≡ new
  there i d same = ap (λ (n : ℕ). slice_index_or written n d) same ∙ get_or-set_same pools k new d within

  elsewhere : (i : ℕ) (d : PlacedPool) → i ≢ k → slice_index_or written i d ≡ slice_index_or pools i d
  elsewhere i d apart = get_or-set_other pools k i new d apart

  still_within : (i : ℕ) → i < length written → i < length pools
  still_within i h = omega (arith, h, length-set pools k new)

  pub apart_after : AllPairs AreApart pools → ((i : ℕ) (d : PlacedPool) → i ≢ k → i < length pools → AreApart (slice_index_or pools i d) new × AreApart new (slice_index_or pools i d)) → AllPairs AreApart written
  apart_after apart clear i j d below h =
      elim (cases_eq i k) [
        | inl at ↦
            let other : j ≢ k = λ e. (omega (arith, at, e, below)) in
            subst (λ (p : PlacedPool). AreApart p (slice_index_or written j d)) (sym (there i d at)) (subst (λ (p : PlacedPool). AreApart new p) (sym (elsewhere j d other)) (clear j d other (still_within j h)).1)
        | inr away ↦ elim (cases_eq j k) [
          | inl at ↦
              subst (λ (p : PlacedPool). AreApart p (slice_index_or written j d)) (sym (elsewhere i d away)) (subst (λ (p : PlacedPool). AreApart (slice_index_or pools i d) p) (sym (there j d at)) (clear i d away (omega (arith, below, still_within j h))).0)
          | inr far ↦
              subst (λ (p : PlacedPool). AreApart p (slice_index_or written j d)) (sym (elsewhere i d away)) (subst (λ (p : PlacedPool). AreApart (slice_index_or pools i d) p) (sym (elsewhere j d far)) (apart i j d below (still_within j h)))
        ]
      ]

  -- one that holds no pool is apart from all
  pub apart_without : new.reach ≡ 0 → AllPairs AreApart pools → AllPairs AreApart written
  apart_without none apart = apart_after apart (λ i d away h. (
    record { addresses = λ some other. absurd (omega (arith, other, none)); places = λ some other. absurd (omega (arith, other, none)) },
    record { addresses = λ some. absurd (omega (arith, some, none)); places = λ some. absurd (omega (arith, some, none)) },
  ))

  -- one that stood elsewhere than where another was written stands there
  pub stands_still : (x : PlacedPool) (has : Contains pools x) → has.0 ≢ k → Contains written x
  stands_still x has apart = (has.0, omega (arith, has.1, length-set pools k new), elsewhere has.0 x apart ∙ has.2)

  stands_new : Contains written new
  stands_new = (k, omega (arith, within, length-set pools k new), there k new refl)

  -- a pool was added, in an entry that held none
  pub entries_added : (place bytes : ℕ) (old_ranges ranges : List (ℕ × ℕ)) → ((d : PlacedPool) → (slice_index_or pools k d).reach ≡ 0) → IsRangeAdded place bytes old_ranges ranges → new.place ≡ place → new.reach + front ≡ bytes
      → AreEntriesOf old_ranges pools → AreEntriesOf ranges written
  entries_added place bytes old_ranges ranges vacant added place_is bytes_are are =
      let range_is : placed_range new ≡ (place, bytes) = (λ i. (place_is i, bytes_are i)) in
      let enters : (range : ℕ × ℕ) → Contains ranges range → IsEntered written range = λ range has. elim (added.alone range has) [
        | inl same ↦ (new, stands_new, omega (arith, bytes_are, added.long), range_is ∙ same)
        | inr old ↦
            let one : IsEntered pools range = All-contains (IsEntered pools) old_ranges range are.entered old in
            let apart : one.1.0 ≢ k = λ at. (
            let is : slice_index_or pools k one.0 ≡ one.0 = ap (λ (n : ℕ). slice_index_or pools n one.0) (sym at) ∙ one.1.2 in
            let none : one.0.reach ≡ 0 = ap (λ (p : PlacedPool). p.reach) (sym is) ∙ vacant one.0 in
            omega (arith, none, one.2)) in
            (one.0, stands_still one.0 one.1 apart, one.2, one.3)
      ] in
      record {
        entered = λ n d h. enters (slice_index_or ranges n d) (All-contains_itself ranges n d h);
        of_ranges = λ n d h. elim (cases_eq n k) [
          | inl at ↦ subst (IsEntryOf ranges) (sym (there n d at)) (λ some. subst (Contains ranges) (sym range_is) added.has)
          | inr away ↦ subst (IsEntryOf ranges) (sym (elsewhere n d away)) (λ some. added.keeps _ (are.of_ranges n d (still_within n h) some))
        ];
      }

  -- a pool was removed, and its entry holds none
  pub entries_removed : (old_ranges ranges : List (ℕ × ℕ)) (gone : PlacedPool) → AllPairs AreApart pools → slice_index_or pools k gone ≡ gone → 0 < gone.reach → IsRangeRemoved gone.place old_ranges ranges → new.reach ≡ 0
      → AreEntriesOf old_ranges pools → AreEntriesOf ranges written
  entries_removed old_ranges ranges gone apart is some removed none are =
      let enters : (range : ℕ × ℕ) → Contains ranges range → IsEntered written range = λ range has. (
      let before = removed.alone range has in
      let one : IsEntered pools range = All-contains (IsEntered pools) old_ranges range are.entered before.0 in
      let away : one.1.0 ≢ k = λ at. (
      let same : gone ≡ one.0 = sym is ∙ get_or_default pools k gone one.0 within ∙ ap (λ (n : ℕ). slice_index_or pools n one.0) (sym at) ∙ one.1.2 in
      before.1 (sym (ap (λ (r : ℕ × ℕ). r.0) one.3) ∙ ap (λ (p : PlacedPool). p.place) (sym same))) in
      (one.0, stands_still one.0 one.1 away, one.2, one.3)) in
      let begins_elsewhere : (n : ℕ) (d : PlacedPool) → n ≢ k → n < length pools → 0 < (slice_index_or pools n d).reach → (slice_index_or pools n d).place ≢ gone.place = λ n d away h positive.
      let is_gone : slice_index_or pools k d ≡ gone = get_or_default pools k d gone within ∙ is in
      elim (cases_order n k) [
        | inl at ↦ absurd (away at)
        | inr apart_by ↦ elim apart_by [
          | inl below ↦ (subst (λ (p : PlacedPool). AreApart (slice_index_or pools n d) p) is_gone (apart n k d below within)).places positive some
          | inr above ↦ λ e. (subst (λ (p : PlacedPool). AreApart p (slice_index_or pools n d)) is_gone (apart k n d above h)).places some positive (sym e)
        ]
      ] in
      record {
        entered = λ n d h. enters (slice_index_or ranges n d) (All-contains_itself ranges n d h);
        of_ranges = λ n d h. elim (cases_eq n k) [
          | inl at ↦ subst (IsEntryOf ranges) (sym (there n d at)) (λ positive. absurd (omega (arith, positive, none)))
          | inr away ↦ subst (IsEntryOf ranges) (sym (elsewhere n d away)) (λ positive. removed.keeps _ (are.of_ranges n d (still_within n h) positive) (begins_elsewhere n d away (still_within n h) positive))
        ];
      }
