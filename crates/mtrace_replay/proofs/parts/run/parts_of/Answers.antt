-- One part more in each turn, from the last on.
use Rattle.std.proofs.Common.{◌≡◌, suc, ◌+◌, ◌<◌, ◌∷◌, drop, get_or, ap, ◌∙◌, arith}
use Rattle.std.proofs.Math.Seq.{drop-cons}
use Rattle.mtrace_replay.specs.Parts.{size_ranges}
use Rattle.mtrace_replay.proofs.BySize.PartsTextLemmas.{part_more, cut_more}
use Rattle.mtrace_replay.proofs.parts.run.parts_of.Goals as goal

pub loop-last-preserved : goal.loop-last-preserved
loop-last-preserved c =
    let kept = c.loop-last.invariant in
    let ends = c.args.ends.now in
    let i = c.loop-last.last-index in
    let last = get_or ends i 0 in
    let next : suc i ≡ i + 1 = omega arith in
    let rest = drop (i + 1) ends in
    let here : drop i ends ≡ last ∷ rest = drop-cons ends i 0 c.loop-last-test.true ∙ ap (λ n. last ∷ drop n ends) next in
    let first_is : last < size_ranges → c.saturating_add-first.result ≡ suc last = λ few. omega (arith, few, c.saturating_add-first.ensures) in
    record {
      cut = λ part is. cut_more part ends rest i c.loop-last.first last c.saturating_add-first.result here first_is (kept.cut part is);
      so_far = λ part in_spans is.
          part_more part ends rest i c.loop-last.first last c.saturating_add-first.result c.loop-last.parts.items c.push.new.self.items c.part_at.result _ here (kept.cut part is)
          (c.part_at.ensures part in_spans) first_is c.push.ensures.items (kept.so_far part in_spans is);
      count = omega (arith, kept.count, c.push.ensures.len);
    }
