-- A refused memalign is a step.
use Rattle.std.proofs.Common.{refl}
use Rattle.tlsf_heap.proofs.runs.answer.Goals as goal

pub returns-in-Err-memalign-clause-step : goal.returns-in-Err-memalign-clause-step
returns-in-Err-memalign-clause-step g c =
    let refused = c.in-Err-memalign.ensures.refused in
    rw c.in-Memalign.is (refused.unchanged.content, refused.refused, λ is. (refused.memory is, refl))
