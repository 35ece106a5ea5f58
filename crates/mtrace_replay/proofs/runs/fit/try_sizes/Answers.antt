use Rattle.std.proofs.Common.{◌≡◌, ◌≤◌, ◌+◌, ◌*◌, ◌/◌, ◌%◌, ◌++◌, ℕ, suc, List, [], Option, Some, None, refl, sym, ap, ◌∙◌, subst, arith, inl, inr, true, false, not, rules}
use Rattle.std.proofs.lemmas.Result.{err_from_is_err_and}
use Rattle.std.specs.Int.{div_ceil}
use Rattle.std.specs.Prelude.{max, IsSome, is_some, ◌⊎◌}
use Rattle.std.proofs.lemmas.Bool.{ltb-false}
use Rattle.std.proofs.Math.Nat.{div-le_self}
use Rattle.tlsf_class.specs.Classes.{greatest_size}
use Rattle.mtrace_replay.specs.declared.runs.fitted.Fitted.{Fitted}
use Rattle.mtrace_replay.specs.Fit.{Verdict, doubled, first_number, last_number, multiples, range, ranges, least_size, fitted}
use Rattle.mtrace_log.specs.Shown.{Bytes}
use Rattle.mtrace_replay.specs.RunFit.{AreVerdicts, TriesRanges}
use Rattle.mtrace_replay.proofs.Running.FitLemmas.{more_verdicts, least_behind, doubled_more, no_range, range_left}
use Rattle.mtrace_replay.proofs.Running.TriedLemmas.{begun-then, nothing_begun}
use Rattle.mtrace_replay.proofs.runs.fit.try_sizes.Goals as goal

some_is : {A : Type 0} (found : Option A) → is_some found ≡ true → IsSome found
some_is None is = absurd (cc)
some_is (Some x) is = search rules

none_is : {A : Type 0} (found : Option A) → is_some found ≡ false → found ≡ None
none_is None is = refl
none_is (Some x) is = absurd (cc)

none_tried : (none : Fitted) → (none.least ≡ None) × ((none.safe ≡ None) × ((none.tried ≡ 0) × (none.refused ≡ 0))) → none ≡ fitted []
none_tried none is = λ i. record { least = is.0 i; safe = is.1.0 i; tried = is.1.1.0 i; refused = is.1.1.1 i }

pub loop-trial-init : goal.loop-trial-init
loop-trial-init g c =
    let reads = g.R.Source.shown in
    let tells = c.in_ok-fitted.ensures.tried.tells.1.1 in
    let some : 16 ≤ c.args.step = omega (arith, c.bytes.ensures.value, c.bytes.ensures.some) in
    let V : Bytes → ℕ → Type 0 = λ text last. AreVerdicts c.args.trial.front c.args.trial.records c.args.trial.many text (multiples c.args.step c.max-first.result last) tells.0 in
    record {
      so_far = (
        0,
        [],
        tells.0,
        omega arith,
        record { sizes_are = refl; each = tt },
        subst (V (reads c.try_range.new.reader).whole) c.last_number-last.ensures.value (subst (λ text. V text c.last_number-last.result) (sym c.in_ok-fitted.ensures.whole) tells.1),
        refl,
        tells.2 [] (none_tried _ c.default.ensures),
      );
      tried = omega (arith, c.in_ok-fitted.ensures.few, c.default.ensures.1.1.0, c.last_number-last.ensures.within, some);
      refused = c.in_ok-fitted.ensures.refused;
      some = some;
      in_units = subst (λ n. n % 16 ≡ 0) c.bytes.ensures.value c.bytes.ensures.in_units;
      whole = refl;
      begun = (0, omega arith, nothing_begun (reads c.try_range.new.reader).calls);
      records = c.in_ok-fitted.ensures.within;
    }

pub returns-in_err-fitted-2 : goal.returns-in_err-fitted-2
returns-in_err-fitted-2 g c =
    let reads = g.R.Source.shown in
    let kept = c.loop-trial.invariant in
    let later = c.in_err-fitted-2.ensures.tried.read in
    let first = c.in_ok-fitted.ensures.tried.tells in
    let so_far = begun-then first.0 kept.begun.0 (reads c.args.reader.now).calls (reads c.try_range.new.reader).calls (reads c.loop-trial.reader).calls first.2 kept.begun.2 in
    let p = err_from_is_err_and c.from_residual-in_err-fitted-2.result c.from_residual-in_err-fitted-2.ensures.1 in
    rw p.1 (record {
      tells = tt;
      read = record {
        reader_middle = later.reader_middle;
        whole = later.whole ∙ kept.whole ∙ c.in_ok-fitted.ensures.whole;
        times = (first.0 + kept.begun.0) + later.times;
        begun = begun-then (first.0 + kept.begun.0) later.times (reads c.args.reader.now).calls (reads c.loop-trial.reader).calls later.reader_middle.calls so_far later.begun;
        fails = later.fails;
      };
    })

pub loop-trial-preserved : goal.loop-trial-preserved
loop-trial-preserved g c =
    let reads = g.R.Source.shown in
    let kept = c.loop-trial.invariant in
    let so_far = kept.so_far in
    let first : ℕ = c.max-first.result in
    let told = c.in_ok-fitted-2.ensures.tried.tells in
    let tells = told.1.1 in
    let front : ℕ = c.args.trial.front in
    let records : ℕ = c.args.trial.records in
    let many : ℕ = c.args.trial.many in
    let start : Bytes = (reads c.try_range.new.reader).whole in
    let twice = doubled_more c.args.step c.loop-trial.step so_far.0 so_far.3 in
    let next : first + 1 ≡ suc first = omega arith in
    let A : Bytes → ℕ → ℕ → ℕ → Type 0 = λ text step from last. AreVerdicts front records many text (multiples step from last) tells.0 in
    let step : ℕ = doubled c.args.step (suc so_far.0) in
    let are : A start step (suc first) (last_number step first) =
    subst (λ n. A start n (suc first) (last_number n first)) twice
    (subst (λ last. A start (c.loop-trial.step * 2) (suc first) last) (c.last_number-last-in-loop-trial.ensures.value ∙ ap (λ n. last_number n first) c.twice-step.ensures)
    (subst (λ from. A start (c.loop-trial.step * 2) from c.last_number-last-in-loop-trial.result) next
    (subst (λ text. A text (c.loop-trial.step * 2) (first + 1) c.last_number-last-in-loop-trial.result) kept.whole
    (subst (λ n. A (reads c.loop-trial.reader).whole n (first + 1) c.last_number-last-in-loop-trial.result) c.twice-step.ensures tells.1)))) in
    let none : c.loop-trial.fitted.least ≡ None = none_is c.loop-trial.fitted.least (c.is_none.ensures ∙ ap not c.loop-trial-test.true) in
    record {
      so_far = (
        suc so_far.0,
        so_far.1 ++ so_far.2,
        tells.0,
        c.twice-step.ensures ∙ twice,
        more_verdicts front records many start (ranges c.args.step first so_far.0) (range c.args.step first so_far.0) so_far.1 so_far.2 so_far.4 so_far.5,
        are,
        sym (ap (λ (f : Fitted). f.least) so_far.7) ∙ none,
        tells.2 (so_far.1 ++ so_far.2) so_far.7,
      );
      tried = omega (arith, c.in_ok-fitted-2.ensures.few, kept.tried, kept.some, c.twice-step.ensures, c.last_number-last-in-loop-trial.ensures.within, div-le_self greatest_size c.twice-step.result);
      refused = c.in_ok-fitted-2.ensures.refused;
      some = omega (arith, c.twice-step.ensures, kept.some);
      in_units = omega (arith, c.twice-step.ensures, kept.in_units);
      whole = c.in_ok-fitted-2.ensures.whole ∙ kept.whole;
      begun = (
        kept.begun.0 + told.0,
        omega (arith, kept.begun.1, told.1.0),
        begun-then kept.begun.0 told.0 (reads c.try_range.new.reader).calls (reads c.loop-trial.reader).calls (reads c.try_range-in-loop-trial.new.reader).calls kept.begun.2 told.2,
      );
      records = c.in_ok-fitted-2.ensures.within;
    }

pub try_range-requires-in-loop-trial-clause-tried : goal.try_range-requires-in-loop-trial-clause-tried
try_range-requires-in-loop-trial-clause-tried g c =
    let left = range_left c.loop-trial.step c.max-first.result (sym c.has_range_behind.ensures ∙ c.if-has_range_behind.true) in
    omega (arith, c.loop-trial.invariant.tried, left)

pub loop-trial-smaller : goal.loop-trial-smaller
loop-trial-smaller g c =
    let left = range_left c.loop-trial.step c.max-first.result (sym c.has_range_behind.ensures ∙ c.if-has_range_behind.true) in
    omega (arith, c.loop-trial.invariant.some, c.twice-step.ensures, left)

-- the ranges that were tried are all where the last has a size that serves, or none is left
ended : (front records many step first peak times : ℕ) (start whole : Bytes) (before last : List Verdict) (told : Fitted) → start ≡ whole → first ≡ first_number step peak
    → AreVerdicts front records many start (ranges step first times) before → AreVerdicts front records many start (range step first times) last → least_size before ≡ None
    → told ≡ fitted (before ++ last) → IsSome told.least ⊎ (range step first (suc times) ≡ [])
    → (verdicts : List Verdict) × TriesRanges front records many step (first_number step peak) whole verdicts × (told ≡ fitted verdicts)
ended front records many step first peak times start whole before last told same from before_are last_are none fitted_is ends = (
  before ++ last,
  subst (λ n. TriesRanges front records many step n whole (before ++ last)) from (subst (λ text. TriesRanges front records many step first text (before ++ last)) same (record {
    times = times;
    before = before;
    last = last;
    all = refl;
    before_are = before_are;
    last_are = last_are;
    none_before = none;
    ended = elim ends [
      | inl some ↦ inl (subst IsSome (ap (λ (f : Fitted). f.least) fitted_is ∙ least_behind before last none) some)
      | inr none_left ↦ inr none_left
    ];
  })),
  fitted_is,
)

pub returns-else-has_range_behind : goal.returns-else-has_range_behind
returns-else-has_range_behind g c =
    let reads = g.R.Source.shown in
    let kept = c.loop-trial.invariant in
    let so_far = kept.so_far in
    let first = c.in_ok-fitted.ensures.tried.tells in
    let few : greatest_size / (2 * c.loop-trial.step) ≤ c.max-first.result = ltb-false c.max-first.result (greatest_size / (2 * c.loop-trial.step)) (sym c.has_range_behind.ensures ∙ c.if-has_range_behind.false) in
    record {
      tells = (
        first.0 + kept.begun.0,
        (
          omega (arith, kept.begun.1, first.1.0, c.default.ensures.1.1.0),
          ended c.args.trial.front c.args.trial.records c.args.trial.many c.args.step c.max-first.result c.args.peak so_far.0 (reads c.try_range.new.reader).whole (reads c.args.reader.now).whole so_far.1 so_far.2 c.loop-trial.fitted
              c.in_ok-fitted.ensures.whole (c.max-first.ensures ∙ ap (λ n. max n 1) (c.div_ceil.ensures ∙ ap (div_ceil c.args.peak) c.bytes.ensures.value)) so_far.4 so_far.5 so_far.6 so_far.7 (inr (no_range c.args.step c.loop-trial.step c.max-first.result so_far.0 so_far.3 few)),
        ),
        begun-then first.0 kept.begun.0 (reads c.args.reader.now).calls (reads c.try_range.new.reader).calls (reads c.loop-trial.reader).calls first.2 kept.begun.2,
      );
      read = tt;
    }

pub returns-after-loop-trial : goal.returns-after-loop-trial
returns-after-loop-trial g c =
    let reads = g.R.Source.shown in
    let kept = c.loop-trial.invariant in
    let so_far = kept.so_far in
    let first = c.in_ok-fitted.ensures.tried.tells in
    record {
      tells = (
        first.0 + kept.begun.0,
        (
          omega (arith, kept.begun.1, first.1.0, c.default.ensures.1.1.0),
          ended c.args.trial.front c.args.trial.records c.args.trial.many c.args.step c.max-first.result c.args.peak so_far.0 (reads c.try_range.new.reader).whole (reads c.args.reader.now).whole so_far.1 so_far.2 c.loop-trial.fitted
              c.in_ok-fitted.ensures.whole (c.max-first.ensures ∙ ap (λ n. max n 1) (c.div_ceil.ensures ∙ ap (div_ceil c.args.peak) c.bytes.ensures.value)) so_far.4 so_far.5 so_far.6 so_far.7 (inl (some_is c.loop-trial.fitted.least (c.is_none.ensures ∙ ap not c.loop-trial-test.false))),
        ),
        begun-then first.0 kept.begun.0 (reads c.args.reader.now).calls (reads c.try_range.new.reader).calls (reads c.loop-trial.reader).calls first.2 kept.begun.2,
      );
      read = tt;
    }
