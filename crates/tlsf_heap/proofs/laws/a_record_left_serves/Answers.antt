-- By cases on what the lists have.
use Rattle.std.proofs.Common.{◌≢◌, refl, arith}
use Rattle.std.specs.Prelude.{Err, IsOk}
use Rattle.tlsf_heap.specs.declared.refusal.Refusal.TheVariants.{NoFit}
use Rattle.tlsf_heap.proofs.Content.MallocCases.{malloc_cases}
use Rattle.tlsf_heap.proofs.laws.a_record_left_serves.Goals as goal

pub returns : goal.returns
returns c = λ slot n content some left. malloc_cases slot content n (λ r. r ≢ Err NoFit → IsOk r)
    (λ nothing fits. absurd (some nothing)) (λ bytes none fits. absurd (fits refl)) (λ p full fits. absurd (omega (arith, left, full))) (λ p fits. refl)
