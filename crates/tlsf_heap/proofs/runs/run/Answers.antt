-- One request's answer more in each turn.
use Rattle.std.proofs.Common.{◌∷◌, [], ◌++◌, ◌∙◌, sym, ap, arith, take}
use Rattle.std.proofs.lemmas.List.{take_more}
use Rattle.tlsf_heap.proofs.RunSteps.{run-more, run_lacks_none}
use Rattle.tlsf_heap.proofs.runs.run.Goals as goal

pub loop-request-preserved : goal.loop-request-preserved
loop-request-preserved g c =
    let asked = c.request-item.result in
    let longer = take_more c.args.requests.now c.loop-request.request-index asked c.loop-request-test.true
    ∙ ap (λ r. take c.loop-request.request-index c.args.requests.now ++ r ∷ []) (sym c.request-item.is) in
    record {
      count = omega (arith, c.push_reserved.ensures.len, c.loop-request.invariant.count);
      room = c.push_reserved.ensures.capacity ∙ c.loop-request.invariant.room;
      answered = rw (longer, c.push_reserved.ensures.items)
          (run-more _ _ c.loop-request.answers.items asked c.answer-given.result _ _ _ _ _ _ c.loop-request.invariant.answered
          c.answer-given.ensures.step c.answer-given.ensures.bound.floor c.answer-given.ensures.bound.bound);
    }

pub returns-clause-memory : goal.returns-clause-memory
returns-clause-memory g c = λ none. run_lacks_none _ none _ c.loop-request.answers.items _ _ _ _ c.loop-request.invariant.answered
