-- One cut more in each turn, from the last range on.
use Rattle.std.proofs.Common.{ℕ, suc, ◌<◌, List, length, slice_index_or, Option, sym, subst, arith}
use Rattle.std.specs.List.{All}
use Rattle.std.proofs.lemmas.List.Elements.{All-push}
use Rattle.mtrace_replay.specs.declared.parts.cut.Cut.{Cut}
use Rattle.mtrace_replay.specs.Cuts.{IsSmall, IsBest}
use Rattle.mtrace_replay.proofs.BySize.CutLemmas.{pushed}
use Rattle.mtrace_replay.proofs.parts.cut.next_row.Goals as goal

pub loop-first-preserved : goal.loop-first-preserved
loop-first-preserved c =
    let kept = c.loop-first.invariant in
    let items = c.loop-first.row.items in
    let one = c.best_from.result in
    let more = sym c.in_ok-push.ensures.items in
    record {
      best = λ part most in_spans best_rests.
          subst (λ (all : List (Option Cut)). (first : ℕ) (d : Option Cut) → first < length all → IsBest part (suc most) first (slice_index_or all first d)) more
          (pushed (IsBest part (suc most)) items one (kept.best part most in_spans best_rests) (subst (λ first. IsBest part (suc most) first one) (sym kept.len) (c.best_from.ensures.best part most in_spans best_rests)));
      small = λ most small. subst (All (IsSmall (suc most))) more (All-push (IsSmall (suc most)) items one (kept.small most small) (c.best_from.ensures.small most small));
      len = omega (arith, c.in_ok-push.ensures.len, kept.len);
    }

pub returns-clause-best : goal.returns-clause-best
returns-clause-best c part most in_spans best_rests =
    let kept = c.loop-first.invariant in
    record { each = kept.best part most in_spans best_rests; all = omega (arith, kept.len, c.loop-first-test.false, c.loop-first.auto.first-end) }
