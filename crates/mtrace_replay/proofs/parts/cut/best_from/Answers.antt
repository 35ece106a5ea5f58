-- Each end of the first part is tried, and the lesser of two cuts kept.
use Rattle.std.proofs.Common.{◌≡◌, suc, ◌+◌, ◌<◌, ◌≤◌, length, None, slice_index_or, sym, ap, ◌∙◌, subst, arith}
use Rattle.mtrace_replay.specs.declared.parts.span.Span.{Span}
use Rattle.mtrace_replay.specs.Cuts.{IsSmall, IsBest}
use Rattle.std.proofs.lemmas.Bool.{ltb-true}
use Rattle.std.proofs.lemmas.List.{get_or_default}
use Rattle.mtrace_replay.proofs.Index.MappedLemmas.{no_span}
use Rattle.mtrace_replay.proofs.BySize.CutLemmas.{IsBestSoFar, none_so_far, some_so_far, passed_over, tried, all_tried, small_joined, small_lesser}
use Rattle.mtrace_replay.proofs.parts.cut.best_from.Goals.{then-is_unused_from, else-is_unused_from}
use Rattle.mtrace_replay.proofs.parts.cut.best_from.Goals as goal

pub loop-span-init : goal.loop-span-init
loop-span-init c = elim c.if-is_unused_from.branch [
  | then-is_unused_from w ↦ record {
    best = λ part most in_spans best_rests.
        subst (λ best. IsBestSoFar part most c.args.rests.now c.args.spans.now c.args.first 0 best) (sym w.best-is)
        (none_so_far part most c.args.rests.now c.args.spans.now c.args.first in_spans best_rests w.no_parts.result w.no_parts.ensures.ends w.no_parts.ensures.bytes w.no_parts.ensures.unbuilt
        (c.is_unused_from.ensures.unused w.if-is_unused_from.true));
    small = λ most small.
        subst (IsSmall (suc most)) (sym w.best-is) (subst (λ ends. length ends ≤ suc most) (sym w.no_parts.ensures.ends) (omega arith), omega (arith, w.no_parts.ensures.bytes), omega (arith, w.no_parts.ensures.unbuilt));
  }
  | else-is_unused_from w ↦ record {
    best = λ part most in_spans best_rests.
        let used = c.is_unused_from.ensures.used w.if-is_unused_from.false in
        subst (λ best. IsBestSoFar part most c.args.rests.now c.args.spans.now c.args.first 0 best) (sym w.best-is)
        (some_so_far part most c.args.rests.now c.args.spans.now c.args.first in_spans best_rests used.0 used.1 used.2);
    small = λ most small. subst (IsSmall (suc most)) (sym w.best-is) tt;
  }
]

pub loop-span-preserved-then-span-first : goal.loop-span-preserved-then-span-first
loop-span-preserved-then-span-first c =
    let kept = c.loop-span.invariant in
    record {
      best = λ part most in_spans best_rests.
          passed_over part most c.args.rests.now c.args.spans.now c.args.first in_spans best_rests c.loop-span.span-index c.loop-span.best (kept.best part most in_spans best_rests) (λ d is. c.if-span-first.true (ap (λ (span : Span). span.first) (get_or_default c.args.spans.now c.loop-span.span-index no_span d c.loop-span-test.true) ∙ is));
      small = kept.small;
    }

pub loop-span-preserved : goal.loop-span-preserved
loop-span-preserved c =
    let kept = c.loop-span.invariant in
    let rests = c.args.rests.now in
    let rest = c.in-Some.rest.now in
    let span : Span = slice_index_or c.args.spans.now c.loop-span.span-index no_span in
    let looked = c.in-Some.ensures.lookup in
    let next : c.from.result + 1 ≡ suc span.last = omega (arith, c.from.ensures) in
    let within : suc span.last < length rests = (let less = ltb-true _ _ (sym looked.0) in omega (arith, less, next)) in
    let rest_is : slice_index_or rests (suc span.last) None ≡ rest =
    get_or_default rests (suc span.last) None rest within ∙ ap (λ n. slice_index_or rests n rest) (sym next) ∙ sym looked.1 in
    record {
      best = λ part most in_spans best_rests.
          tried part most rests c.args.spans.now c.args.first in_spans best_rests c.loop-span.span-index c.loop-span.best c.joined.result c.lesser-best.result span
          (λ d. get_or_default c.args.spans.now c.loop-span.span-index d no_span c.loop-span-test.true) c.loop-span-test.true c.if-span-first.false
          (kept.best part most in_spans best_rests) rest (subst (IsBest part most (suc span.last)) rest_is (best_rests.each (suc span.last) None within)) rest_is c.joined.ensures.is c.lesser-best.ensures;
      small = λ most small.
          small_lesser (suc most) c.loop-span.best c.joined.result c.lesser-best.result c.lesser-best.ensures (kept.small most small)
          (small_joined most span c.joined.ensures.bytes rest c.joined.result (subst (IsSmall most) rest_is (small (suc span.last) None within)) c.joined.ensures.is);
    }

pub returns-clause-best : goal.returns-clause-best
returns-clause-best c part most in_spans best_rests =
    let end : c.loop-span.span-index ≡ length c.args.spans.now = omega (arith, c.loop-span-test.false, c.loop-span.auto.span-index-end) in
    let so_far = c.loop-span.invariant.best part most in_spans best_rests in
    all_tried part most c.args.rests.now c.args.spans.now c.args.first in_spans best_rests c.loop-span.best
    (subst (λ index. IsBestSoFar part most c.args.rests.now c.args.spans.now c.args.first index c.loop-span.best) end so_far)
