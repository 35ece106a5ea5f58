-- What the sizes tell with one size more.
use Rattle.std.proofs.Common.{◌≡◌, ℕ, zero, suc, ◌+◌, ◌-◌, ◌*◌, ◌/◌, ◌%◌, ◌^◌, ◌<◌, ◌≤◌, Bool, true, false, cond, not, option_map, List, [], ◌∷◌, ◌++◌, map, length, length-append, reverse, Option, Some, None, inl, inr, refl, sym, subst, ap, ◌∙◌, arith}
use Rattle.std.specs.Prelude.{◌&&◌, nat_lt}
use Rattle.std.specs.List.{find, list_all, range_with_len}
use Rattle.std.specs.Option.{option_or}
use Rattle.std.proofs.lemmas.List.{append_assoc, map-append}
use Rattle.std.proofs.lemmas.List.Folds.{find-append, list_all-append}
use Rattle.std.proofs.lemmas.List.Sums.{sum_by-append}
use Rattle.mtrace_replay.specs.Fit.{Verdict, least_size, safe_size, refused_sizes, fitted, one_pool, greatest_settings, enough_records, step_of, first_number, last_number, doubled, range}
use Rattle.std.proofs.lemmas.List.FromFn.{map-range_with_len_more}
use Rattle.std.proofs.lemmas.Bool.{eq-eqb, le-ltb, ltb-true, cases_lt}
use Rattle.std.proofs.lemmas.Nat.{mul-mod_second, div-add-mod'}
use Rattle.std.proofs.Math.Nat.{div-eq_of_lt, mul-le-mul_right, mul_assoc, mul_comm, pow-suc}
use Rattle.mtrace_log.proofs.TextLemmas.{AllByRecursion-append}
use Rattle.tlsf_class.specs.Classes.{unit, greatest_size}
use Rattle.tlsf_heap.specs.Pools.{most_records, end_of_places}
use Rattle.mtrace_replay.specs.Settings.{are_bad}
use Rattle.mtrace_log.specs.Shown.{Bytes}
use Rattle.mtrace_replay.specs.RunFit.{IsTried, AreVerdicts, TriesRanges, TellsSizes, TellsFit}
use Rattle.tlsf_heap.specs.Sizing.{sure_pool}
use Rattle.mtrace_replay.specs.Started.{started}
use Rattle.mtrace_replay.specs.Asked.{greatest_class}
use Rattle.mtrace_replay.specs.Moment.{ReadLine}
use Rattle.mtrace_replay.specs.declared.runs.needs.Needs.{Needs}
use Rattle.mtrace_replay.specs.declared.heap.totals.Totals.{Totals}
use Rattle.mtrace_replay.specs.Totals.{AreTotals}
use Rattle.mtrace_replay.specs.History.{history}
use Rattle.mtrace_replay.specs.Needs.{AreNeeds}
use Rattle.mtrace_replay.specs.Texts.{greatest_line, most_line, fitted_lines, untried_lines, refused_line}

abbrev serving : ℕ → Bool → List Verdict
serving size serves = record { size = size; serves = serves } ∷ []

and_true : (b : Bool) → (b && true) ≡ b
and_true true = refl
and_true false = refl

and_false : (b : Bool) → (b && false) ≡ false
and_false true = refl
and_false false = refl

size_or : (first : Option Verdict) (last : Verdict) → option_map (λ (v : Verdict). v.size) (option_or first (Some last)) ≡ option_or (option_map (λ (v : Verdict). v.size) first) (Some last.size)
size_or None last = refl
size_or (Some first) last = refl

or_none : (first : Option Verdict) → option_or first None ≡ first
or_none None = refl
or_none (Some first) = refl

least-yes : (verdicts : List Verdict) (size : ℕ) → least_size (verdicts ++ serving size true) ≡ option_or (least_size verdicts) (Some size)
least-yes verdicts size =
    ap (option_map (λ (v : Verdict). v.size)) (find-append (λ (v : Verdict). v.serves) verdicts (serving size true))
    ∙ size_or (find (λ (v : Verdict). v.serves) verdicts) (record { size = size; serves = true })

least-no : (verdicts : List Verdict) (size : ℕ) → least_size (verdicts ++ serving size false) ≡ least_size verdicts
least-no verdicts size =
    ap (option_map (λ (v : Verdict). v.size)) (find-append (λ (v : Verdict). v.serves) verdicts (serving size false) ∙ or_none (find (λ (v : Verdict). v.serves) verdicts))

safe-by : (b : Bool) (one size : ℕ) (rest before : Option ℕ) → rest ≡ option_or before (Some size)
    → cond b (Some one) rest ≡ option_or (cond b (Some one) before) (Some size)
safe-by true one size rest before is = refl
safe-by false one size rest before is = is

safe-yes : (verdicts : List Verdict) (size : ℕ) → safe_size (verdicts ++ serving size true) ≡ option_or (safe_size verdicts) (Some size)
safe-yes [] size = refl
safe-yes (verdict ∷ verdicts) size =
    let rest = safe_size (verdicts ++ serving size true) in
    ap (λ b. cond b (Some verdict.size) rest) (list_all-append (λ (v : Verdict). v.serves) (verdict ∷ verdicts) (serving size true) ∙ and_true (list_all (λ (v : Verdict). v.serves) (verdict ∷ verdicts)))
    ∙ safe-by (list_all (λ (v : Verdict). v.serves) (verdict ∷ verdicts)) verdict.size size rest (safe_size verdicts) (safe-yes verdicts size)

safe-no : (verdicts : List Verdict) (size : ℕ) → safe_size (verdicts ++ serving size false) ≡ None
safe-no [] size = refl
safe-no (verdict ∷ verdicts) size =
    ap (λ b. cond b (Some verdict.size) (safe_size (verdicts ++ serving size false)))
    (list_all-append (λ (v : Verdict). v.serves) (verdict ∷ verdicts) (serving size false) ∙ and_false (list_all (λ (v : Verdict). v.serves) (verdict ∷ verdicts)))
    ∙ safe-no verdicts size

refused-yes : (verdicts : List Verdict) (size : ℕ) → refused_sizes (verdicts ++ serving size true) ≡ refused_sizes verdicts
refused-yes verdicts size = sum_by-append (λ (v : Verdict). cond (not v.serves) 1 0) verdicts (serving size true) ∙ omega arith

refused-no : (verdicts : List Verdict) (size : ℕ) → refused_sizes (verdicts ++ serving size false) ≡ refused_sizes verdicts + 1
refused-no verdicts size = sum_by-append (λ (v : Verdict). cond (not v.serves) 1 0) verdicts (serving size false)

-- one more size that serves
pub fitted-yes : (verdicts : List Verdict) (size : ℕ)
    → fitted (verdicts ++ serving size true)
    ≡ record { least = option_or (least_size verdicts) (Some size); safe = option_or (safe_size verdicts) (Some size); tried = length verdicts + 1; refused = refused_sizes verdicts }
fitted-yes verdicts size =
    rw (least-yes verdicts size, safe-yes verdicts size, refused-yes verdicts size, length-append verdicts (serving size true)) refl

-- one more size that doesn't
pub fitted-no : (verdicts : List Verdict) (size : ℕ)
    → fitted (verdicts ++ serving size false)
    ≡ record { least = least_size verdicts; safe = None; tried = length verdicts + 1; refused = refused_sizes verdicts + 1 }
fitted-no verdicts size =
    rw (least-no verdicts size, safe-no verdicts size, refused-no verdicts size, length-append verdicts (serving size false)) refl

-- one size more
pub one_tried : (front records many : ℕ) (whole : Bytes) (step first number count : ℕ) (verdicts : List Verdict) (verdict : Verdict) → first + count ≡ number
    → AreVerdicts front records many whole (map (λ i. i * step) (range_with_len first count)) verdicts
    → verdict.size ≡ number * step → (left : Bytes) × IsTried front (one_pool verdict.size records) many verdict.serves whole left
    → AreVerdicts front records many whole (map (λ i. i * step) (range_with_len first (count + 1))) (verdicts ++ verdict ∷ [])
one_tried front records many whole step first number count verdicts verdict sum are size tried = record {
  sizes_are = map-append (λ (v : Verdict). v.size) verdicts (verdict ∷ [])
      ∙ ap (λ sizes. sizes ++ verdict.size ∷ []) are.sizes_are
      ∙ ap (λ n. map (λ i. i * step) (range_with_len first count) ++ n ∷ []) size
      ∙ sym (map-range_with_len_more (λ i. i * step) first count number sum);
  each = AllByRecursion-append (λ (v : Verdict). (left : Bytes) × IsTried front (one_pool v.size records) many v.serves whole left) verdicts (verdict ∷ []) are.each (tried, tt);
}

-- one pool of a whole number of units, and enough records, are no bad settings
pub one_pool-good : (size records : ℕ) → size % unit ≡ 0 → unit ≤ size → size ≤ greatest_size → 0 < records → records ≤ most_records → are_bad (one_pool size records) ≡ false
one_pool-good size records in_units some within few most =
    rw (
      eq-eqb _ _ in_units,
      le-ltb size unit some,
      le-ltb greatest_size size within,
      le-ltb records 1 (omega (arith, few)),
      le-ltb most_records records most,
      le-ltb end_of_places (size * 1) (omega (arith, within)),
    ) refl

-- a multiple of a step of whole units is one
pub units_times : (number step : ℕ) → step % unit ≡ 0 → (number * step) % unit ≡ 0
units_times number step in_units =
    sym (mul-mod_second number step unit) ∙ ap (λ rest. (number * rest) % unit) in_units ∙ omega arith

-- as many steps as the greatest size has are within it, and one step is some units
pub within_greatest : (number step : ℕ) → number ≤ greatest_size / step → number * step ≤ greatest_size
within_greatest number step few =
    omega (arith, mul-le-mul_right step few, div-add-mod' greatest_size step)

pub some_units : (number step : ℕ) → 0 < number → unit ≤ step → unit ≤ number * step
some_units number step some units = omega (arith, units, mul-le-mul_right step some)

-- the verdicts of sizes, and of others behind them
pub more_verdicts : (front records many : ℕ) (whole : Bytes) (tried more : List ℕ) (verdicts others : List Verdict) → AreVerdicts front records many whole tried verdicts → AreVerdicts front records many whole more others
    → AreVerdicts front records many whole (tried ++ more) (verdicts ++ others)
more_verdicts front records many whole tried more verdicts others are too = record {
  sizes_are = map-append (λ (v : Verdict). v.size) verdicts others ∙ ap (λ sizes. sizes ++ map (λ (v : Verdict). v.size) others) are.sizes_are ∙ ap (λ sizes. tried ++ sizes) too.sizes_are;
  each = AllByRecursion-append (λ (v : Verdict). (left : Bytes) × IsTried front (one_pool v.size records) many v.serves whole left) verdicts others are.each too.each;
}

none_mapped : (found : Option Verdict) → option_map (λ (v : Verdict). v.size) found ≡ None → found ≡ None
none_mapped None is = refl
none_mapped (Some verdict) is = absurd (cc)

-- where none serves, the first that serves is one behind
pub least_behind : (before last : List Verdict) → least_size before ≡ None → least_size (before ++ last) ≡ least_size last
least_behind before last none =
    ap (option_map (λ (v : Verdict). v.size)) (find-append (λ (v : Verdict). v.serves) before last
    ∙ ap (λ first. option_or first (find (λ (v : Verdict). v.serves) last)) (none_mapped (find (λ (v : Verdict). v.serves) before) none))

-- a step twice as large
pub doubled_more : (step now times : ℕ) → now ≡ doubled step times → now * 2 ≡ doubled step (suc times)
doubled_more step now times is = ap (λ n. n * 2) is ∙ mul_assoc step (2 ^ times) 2 ∙ ap (λ n. step * n) (sym (pow-suc 2 times))

-- no range is left where the step, doubled, leaves no number above the first
pub no_range : (step now first times : ℕ) → now ≡ doubled step times → greatest_size / (2 * now) ≤ first → range step first (suc times) ≡ []
no_range step now first times is few =
    let same : 2 * now ≡ doubled step (suc times) = mul_comm 2 now ∙ doubled_more step now times is in
    let last : last_number (doubled step (suc times)) first ≤ first = omega (arith, few, ap (λ n. greatest_size / n) same) in
    let none : suc (last_number (doubled step (suc times)) first) - suc first ≡ 0 = omega (arith, last) in
    ap (λ count. map (λ number. number * doubled step (suc times)) (range_with_len (suc first) count)) none

-- where a range is left, twice the step is within the greatest size
pub range_left : (step first : ℕ) → nat_lt first (greatest_size / (2 * step)) ≡ true → 2 * step ≤ greatest_size
range_left step first left = elim (cases_lt greatest_size (2 * step)) [
  | inl more ↦ absurd (omega (arith, ltb-true first (greatest_size / (2 * step)) left, div-eq_of_lt more))
  | inr within ↦ within
]

-- the pool that is always enough, by what a log needs
abbrev pub sure_of : Needs → Option ℕ
sure_of needs = sure_pool needs.most needs.most_rounded needs.class_size

module _ (front : ℕ) (step : Option ℕ) (lines : List ReadLine) (whole : Bytes) (totals : Totals) (summed : AreTotals (started greatest_settings) (history greatest_settings lines) totals)
    (needs : Needs) (are : AreNeeds (started greatest_settings) (reverse lines) needs) where
  -- what is told of the sizes, by how many lines the greatest pool refuses
  abbrev Tells : (refused times : ℕ) → List ℕ → Type 0
  Tells refused times text = TellsSizes front refused (step_of step totals.peak_bytes) totals.peak_bytes needs.most totals.lines
      (sure_pool needs.most needs.most_rounded (greatest_class (started greatest_settings) (reverse lines))) whole times text

  told : (times : ℕ) (rest : List ℕ) → Tells totals.refused times rest → TellsFit front step lines whole times (greatest_line totals ++ most_line needs.most ++ rest)
  told times rest tells = record {
    totals = totals;
    summed = summed;
    most = needs.most;
    is_most = are.most;
    rounded = needs.most_rounded;
    is_rounded = are.most_rounded;
    rest = rest;
    tells = tells;
    text_is = refl;
  }

  -- the text of a log that the greatest pool doesn't serve
  pub tells_untried : 0 < totals.refused → TellsFit front step lines whole 0 (greatest_line totals ++ most_line needs.most ++ untried_lines ++ refused_line totals.refused)
  tells_untried some = subst (TellsFit front step lines whole 0) (sym (append_assoc (greatest_line totals ++ most_line needs.most) untried_lines (refused_line totals.refused)))
      (told 0 (untried_lines ++ refused_line totals.refused) (by_refused totals.refused some))
    where
      by_refused : (refused : ℕ) → 0 < refused → Tells refused 0 (untried_lines ++ refused_line refused)
      by_refused zero some = absurd (omega (arith, some))
      by_refused (suc more) some = (refl, refl)

  -- the text of a log that it serves
  pub tells_fitted : totals.refused ≡ 0 → (verdicts : List Verdict)
      → TriesRanges front (enough_records needs.most) totals.lines (step_of step totals.peak_bytes) (first_number (step_of step totals.peak_bytes) totals.peak_bytes) whole verdicts
      → TellsFit front step lines whole (length verdicts) (greatest_line totals ++ most_line needs.most ++ fitted_lines (enough_records needs.most) (fitted verdicts) (sure_of needs))
  tells_fitted none verdicts tries =
      let text : Option ℕ → List ℕ = fitted_lines (enough_records needs.most) (fitted verdicts) in
      told (length verdicts) (text (sure_of needs)) (subst (λ refused. Tells refused (length verdicts) (text (sure_of needs))) (sym none)
      (verdicts, tries, refl, ap (λ class. text (sure_pool needs.most needs.most_rounded class)) are.class))
