-- One size's verdict more in each turn.
use Rattle.std.proofs.Common.{◌≡◌, ◌+◌, ◌-◌, ◌*◌, ◌/◌, ◌<◌, ◌≤◌, ℕ, [], ◌∷◌, ◌++◌, map, refl, sym, ap, ◌∙◌, subst, arith, append_assoc}
use Rattle.std.specs.List.{range_with_len}
use Rattle.tlsf_class.specs.Classes.{greatest_size}
use Rattle.std.proofs.lemmas.List.{append-nil}
use Rattle.mtrace_replay.specs.Fit.{one_pool, fitted, Verdict}
use Rattle.mtrace_replay.specs.RunFit.{AreVerdicts, IsTried}
use Rattle.mtrace_log.specs.Shown.{Bytes}
use Rattle.mtrace_replay.proofs.Running.FitLemmas.{one_tried, one_pool-good, units_times, within_greatest, some_units}
use Rattle.mtrace_replay.proofs.Running.TriedLemmas.{begun-then, nothing_begun}
use Rattle.mtrace_replay.proofs.runs.fit.try_range.Goals as goal

pub try_size-requires-clause-good : goal.try_size-requires-clause-good
try_size-requires-clause-good g c =
    let number = c.loop-number.number in
    let below : number < c.args.last + 1 = c.loop-number-test.true in
    let some : 0 < number = omega (arith, c.requires.some_number, c.loop-number.auto.number) in
    let bytes = c.bytes-bytes.result in
    let within = subst (λ step. c.args.last ≤ greatest_size / step) (sym c.bytes-bytes.ensures.value) c.requires.last_within in
    one_pool-good (number * bytes) c.args.trial.records (units_times number bytes c.bytes-bytes.ensures.in_units) (some_units number bytes some c.bytes-bytes.ensures.some)
    (within_greatest number bytes (omega (arith, below, within))) c.requires.some_records c.requires.few

pub loop-number-init : goal.loop-number-init
loop-number-init g c =
    let reads = g.R.Source.shown in
    let first = c.args.first in
    let none : 0 ≡ first - first = omega arith in
    let V : ℕ → Type 0 = λ count. AreVerdicts c.args.trial.front c.args.trial.records c.args.trial.many (reads c.args.reader.now).whole (map (λ i. i * c.bytes-bytes.result) (range_with_len first count)) [] in
    record {
      so_far = ([], subst V none (record { sizes_are = refl; each = tt }), λ before is. is ∙ ap fitted (sym (append-nil before)));
      tried = omega arith;
      refused = c.requires.refused;
      whole = refl;
      begun = (0, omega arith, nothing_begun (reads c.args.reader.now).calls);
      records = c.requires.within;
      within = omega arith;
    }

pub loop-number-preserved : goal.loop-number-preserved
loop-number-preserved g c =
    let reads = g.R.Source.shown in
    let number = c.loop-number.number in
    let first = c.args.first in
    let step = c.bytes-bytes.result in
    let whole = (g.R.Source.shown c.args.reader.now).whole in
    let so_far = c.loop-number.invariant.so_far in
    let verdict : Verdict = record { size = number * step; serves = c.in_ok-serves.serves } in
    let more : number + 1 - first ≡ number - first + 1 = omega (arith, c.loop-number.auto.number) in
    let V : ℕ → Type 0 = λ count. AreVerdicts c.args.trial.front c.args.trial.records c.args.trial.many whole (map (λ i. i * step) (range_with_len first count)) (so_far.0 ++ verdict ∷ []) in
    let T : Bytes → Type 0 = λ text. IsTried c.args.trial.front (one_pool (number * step) c.args.trial.records) c.args.trial.many c.in_ok-serves.serves text (g.R.Source.shown c.try_size.new.reader).left in
    let are = one_tried c.args.trial.front c.args.trial.records c.args.trial.many whole step first number (number - first) so_far.0 verdict (omega (arith, c.loop-number.auto.number)) so_far.1 refl
    ((g.R.Source.shown c.try_size.new.reader).left, subst T c.loop-number.invariant.whole c.in_ok-serves.ensures.tried) in
    let below : number < c.args.last + 1 = c.loop-number-test.true in
    record {
      so_far = (so_far.0 ++ verdict ∷ [], subst V (sym more) are, λ before is. c.with-fitted.ensures.fitted (before ++ so_far.0) (so_far.2 before is) ∙ ap fitted (append_assoc before so_far.0 (verdict ∷ [])));
      tried = omega (arith, c.with-fitted.ensures.tried, c.loop-number.invariant.tried, c.loop-number.auto.number);
      refused = omega (arith, c.with-fitted.ensures.tried, c.with-fitted.ensures.refused, c.loop-number.invariant.refused);
      whole = c.try_size.ensures.whole ∙ c.loop-number.invariant.whole;
      begun =
          let begun = c.loop-number.invariant.begun in
          (begun.0 + 1, omega (arith, begun.1, c.with-fitted.ensures.tried), begun-then begun.0 1 (reads c.args.reader.now).calls (reads c.loop-number.reader).calls (reads c.try_size.new.reader).calls begun.2 c.in_ok-serves.ensures.begun);
      records = omega (arith, c.try_size.ensures.records);
      within = omega (arith, below);
    }
