-- One part more in each turn gives no greater cut.
use Rattle.std.proofs.Common.{◌≡◌, suc, ◌≤◌, ◌+◌, Some, None, sym, subst, arith}
use Rattle.std.specs.List.{All}
use Rattle.mtrace_replay.specs.Cuts.{IsSmall, IsBest, AreBest}
use Rattle.mtrace_replay.proofs.BySize.CutLemmas.{some_cut, smaller}
use Rattle.mtrace_replay.proofs.parts.cut.least_cut.Goals as goal

pub next_row-requires : goal.next_row-requires
next_row-requires c =
    let few : c.loop-fewer._fewer ≤ 7 = omega (arith, c.loop-fewer-test.true, c.requires.few) in
    let small = subst (All (IsSmall c.loop-fewer._fewer)) (sym c.as_slice.ensures.value) c.loop-fewer.invariant.small in
    record { small = λ k d within. smaller c.loop-fewer._fewer 7 few _ (small k d within) }

pub unreachable-requires : goal.unreachable-requires
unreachable-requires c =
    let parts = c.requires.parts in
    let same : c.loop-fewer._fewer ≡ c.args.most = omega (arith, c.loop-fewer-test.false, c.loop-fewer.auto._fewer-end) in
    let best = c.loop-fewer.invariant.best parts.0 parts.1 in
    let none = subst (IsBest parts.0 c.loop-fewer._fewer 0) (sym c.in-None.ensures.value) (best.each 0 None (omega (arith, best.all))) in
    some_cut parts.0 c.loop-fewer._fewer (omega (arith, same, c.requires.some)) none

pub returns : goal.returns
returns c = record {
  least = λ part in_spans.
      let same : c.loop-fewer._fewer ≡ c.args.most = omega (arith, c.loop-fewer-test.false, c.loop-fewer.auto._fewer-end) in
      let best = c.loop-fewer.invariant.best part in_spans in
      let its = subst (IsBest part c.loop-fewer._fewer 0) (sym c.in-Some.ensures.value) (best.each 0 (Some c.in-Some.cut) (omega (arith, best.all))) in
      (subst (λ most. IsBest part most 0 (Some c.in-Some.cut)) same its).0;
}

pub loop-fewer-preserved : goal.loop-fewer-preserved
loop-fewer-preserved c =
    let kept = c.loop-fewer.invariant in
    let next : suc c.loop-fewer._fewer ≡ c.loop-fewer._fewer + 1 = omega arith in
    let rests = sym c.as_slice.ensures.value in
    let row = c.in_ok-row-2.ensures in
    record {
      best = λ part in_spans.
          subst (λ most. AreBest part most c.in_ok-row-2.row.items) next
          (row.best part c.loop-fewer._fewer in_spans (subst (AreBest part c.loop-fewer._fewer) rests (kept.best part in_spans)));
      small = subst (λ most. All (IsSmall most) c.in_ok-row-2.row.items) next (row.small c.loop-fewer._fewer (subst (All (IsSmall c.loop-fewer._fewer)) rests kept.small));
      len = row.len;
    }
