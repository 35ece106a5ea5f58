-- One cut more in each turn, from the last range on.
use Rattle.std.proofs.Common.{ℕ, ◌<◌, List, length, slice_index_or, Option, sym, subst, arith}
use Rattle.std.specs.List.{All}
use Rattle.std.proofs.lemmas.List.Elements.{All-push}
use Rattle.mtrace_replay.specs.declared.parts.cut.Cut.{Cut}
use Rattle.mtrace_replay.specs.Cuts.{IsSmall, IsBest}
use Rattle.mtrace_replay.proofs.BySize.CutLemmas.{pushed}
use Rattle.mtrace_replay.proofs.parts.cut.first_row.Goals as goal

pub loop-first-preserved : goal.loop-first-preserved
loop-first-preserved c =
    let kept = c.loop-first.invariant in
    let items = c.loop-first.row.items in
    let one = c.empty_from.result in
    let more = sym c.in_ok-push.ensures.items in
    record {
      best = λ part in_spans.
          subst (λ (all : List (Option Cut)). (first : ℕ) (d : Option Cut) → first < length all → IsBest part 0 first (slice_index_or all first d)) more
          (pushed (IsBest part 0) items one (kept.best part in_spans) (subst (λ first. IsBest part 0 first one) (sym kept.len) (c.empty_from.ensures.best part in_spans)));
      small = subst (All (IsSmall 0)) more (All-push (IsSmall 0) items one kept.small c.empty_from.ensures.small);
      len = omega (arith, c.in_ok-push.ensures.len, kept.len);
    }

pub returns-clause-best : goal.returns-clause-best
returns-clause-best c part in_spans =
    let kept = c.loop-first.invariant in
    record { each = kept.best part in_spans; all = omega (arith, kept.len, c.loop-first-test.false, c.loop-first.auto.first-end) }
