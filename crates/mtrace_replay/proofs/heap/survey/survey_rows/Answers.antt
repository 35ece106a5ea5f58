-- Each row adds to the survey of those before it.
use Rattle.std.proofs.Common.{List, [], ◌∷◌, ◌++◌, length, sym, ap, ◌∙◌, append_assoc, arith}
use Rattle.tlsf_heap.specs.declared.row.Row.{Row}
use Rattle.mtrace_replay.proofs.heap.survey.survey_rows.Goals as goal

pub loop-next-preserved : goal.loop-next-preserved
loop-next-preserved g c =
    let kept = c.loop-next.invariant in
    let some = c.in-Some.ensures.given.some in
    let count = ap (λ (rows : List Row). length rows) some in
    let row : List Row = c.in-Some.next.0 ∷ [] in
    record {
      stands = c.in-Some.ensures.given.next_stands;
      past = kept.past ++ row;
      survey = c.joined-survey.ensures.joined kept.past row kept.survey c.survey_row.ensures.survey_is;
      all = append_assoc kept.past row (g.H.Heaped.rest c.row.new.self c.in-Some.next.1) ∙ ap (λ rows. kept.past ++ rows) (sym some) ∙ kept.all;
      few_blocks = omega (arith, kept.few_blocks, count, c.joined-survey.ensures.blocks, c.survey_row.ensures.blocks);
      few_bytes = omega (arith, kept.few_bytes, count, c.joined-survey.ensures.bytes, c.survey_row.ensures.bytes);
      same = c.in-Some.ensures.unchanged.content ∙ kept.same;
    }
