-- The survey of the pools so far, joined with that of the next.
use Rattle.std.proofs.Common.{ℕ, ◌+◌, ◌≤◌, List, ◌++◌, length, map, drop, flat_map, sym, subst, ap, ◌∙◌, arith, append_assoc}
use Rattle.std.proofs.Math.ListN.{get_or}
use Rattle.std.proofs.lemmas.List.{append-nil, drop_all}
use Rattle.tlsf_heap.specs.Content.{Content}
use Rattle.tlsf_heap.specs.Counted.{range_of}
use Rattle.mtrace_replay.specs.Rows.{pool_rows}
use Rattle.mtrace_replay.specs.Survey.{SurveysRows}
use Rattle.mtrace_replay.proofs.OnHeap.RowLemmas.{by_base, just_rows, next_of, survey_is}
use Rattle.mtrace_replay.proofs.heap.survey.survey_heap.Goals as goal

pub loop-range-preserved : goal.loop-range-preserved
loop-range-preserved g c =
    let kept = c.loop-range.invariant in
    let pools = (g.H.Heaped.content c.args.heap.now).pools in
    let all = map range_of pools in
    let items = c.as_slice-range-items.result.now in
    let index = c.loop-range.range-index in
    let item = get_or items index (0, 0) in
    let f = by_base just_rows pools in
    let P : Content ℕ → Type 0 = λ content. SurveysRows (pool_rows content.pools item.0) c.survey_pool.result in
    let next = next_of f items all index (0, 0) (c.as_slice-range-items.ensures.value ∙ c.pools-pools.ensures.value) c.loop-range-test.true in
    record {
      past = kept.past ++ f item;
      survey = c.joined-survey.ensures.joined kept.past (f item) kept.survey (subst P kept.same c.survey_pool.ensures.few.survey_is);
      all = append_assoc kept.past (f item) (flat_map f (drop (index + 1) all)) ∙ ap (λ rows. kept.past ++ rows) (sym next) ∙ kept.all;
      blocks = omega (arith, kept.blocks, c.joined-survey.ensures.blocks, c.survey_pool.ensures.few.blocks);
      bytes = omega (arith, kept.bytes, c.joined-survey.ensures.bytes, c.survey_pool.ensures.few.bytes);
      same = c.survey_pool.ensures.unchanged ∙ kept.same;
    }

pub returns-clause-survey : goal.returns-clause-survey
returns-clause-survey g c =
    let kept = c.loop-range.invariant in
    let content = g.H.Heaped.content c.args.heap.now in
    let all = map range_of content.pools in
    let index = c.loop-range.range-index in
    let f = by_base just_rows content.pools in
    let many = ap (λ (ones : List (ℕ × ℕ)). length ones) (c.as_slice-range-items.ensures.value ∙ c.pools-pools.ensures.value) in
    let past : length all ≤ index = omega (arith, many, c.loop-range-test.false) in
    survey_is content c.loop-range.survey kept.past c.keeps_good.ensures.good
    (sym (append-nil kept.past) ∙ ap (λ ones. kept.past ++ flat_map f ones) (sym (drop_all index all past)) ∙ kept.all) kept.survey
