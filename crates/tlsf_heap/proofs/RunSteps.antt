-- A run of requests: one request longer, and one where no memory may be lacking.
use Rattle.std.proofs.Common.{◌≢◌, ℕ, ◌+◌, ◌≤◌, List, [], ◌∷◌, ◌++◌, All, refl, subst, arith}
use Rattle.std.proofs.lemmas.List.Elements.{All-cons}
use Rattle.tlsf_heap.specs.declared.request.Request.{Request}
use Rattle.tlsf_heap.specs.declared.answer.Answer.{Answer}
use Rattle.tlsf_heap.specs.declared.answer.Answer.TheVariants.{Refused}
use Rattle.tlsf_heap.specs.declared.refusal.Refusal.TheVariants.{OutOfMemory}
use Rattle.tlsf_heap.specs.Content.{Content}
use Rattle.tlsf_heap.specs.Run.{Step, Run, most_touches}

-- one request more at the end
pub run-more : (lacks : Type 0) (requests : List Request) (answers : List Answer) (request : Request) (answer : Answer) (old mid new : Content ℕ) (before count after : ℕ)
    → Run lacks requests answers old mid before count → Step lacks request answer mid new → count ≤ after → after ≤ count + most_touches request
    → Run lacks (requests ++ request ∷ []) (answers ++ answer ∷ []) old new before after
run-more lacks [] [] request answer old mid new before count after run step floor bound =
    subst (λ c. Run lacks (request ∷ []) (answer ∷ []) c new before after) run.0
    (subst (λ t. Run lacks (request ∷ []) (answer ∷ []) mid new t after) run.1 (new, after, step, floor, bound, (refl, refl)))
run-more lacks [] (first ∷ answers) request answer old mid new before count after run step floor bound = absurd run
run-more lacks (first ∷ requests) [] request answer old mid new before count after run step floor bound = absurd run
run-more lacks (first ∷ requests) (given ∷ answers) request answer old mid new before count after run step floor bound =
    (run.0, run.1, run.2, run.3, run.4, run-more lacks requests answers request answer run.0 mid new run.1 count after run.5 step floor bound)

-- where no memory may be lacking, no answer is want of memory
step_lacks_none : (lacks : Type 0) → (lacks → ⊥) → (request : Request) (answer : Answer) (old new : Content ℕ) → Step lacks request answer old new → answer ≢ Refused OutOfMemory
step_lacks_none lacks none request answer old new step is =
    let P : Answer → Type 0 = λ answer. Step lacks request answer old new in
    none ((subst P is step).2 refl).0

pub run_lacks_none : (lacks : Type 0) → (lacks → ⊥) → (requests : List Request) (answers : List Answer) (old new : Content ℕ) (before after : ℕ)
    → Run lacks requests answers old new before after → All (λ answer. answer ≢ Refused OutOfMemory) answers
run_lacks_none lacks none [] [] old new before after run = λ k d within. absurd (omega (arith, within))
run_lacks_none lacks none [] (answer ∷ answers) old new before after run = absurd run
run_lacks_none lacks none (request ∷ requests) [] old new before after run = absurd run
run_lacks_none lacks none (request ∷ requests) (answer ∷ answers) old new before after run =
    All-cons (λ answer. answer ≢ Refused OutOfMemory) answer answers (step_lacks_none lacks none request answer old run.0 run.2)
    (run_lacks_none lacks none requests answers run.0 new run.1 after run.5)
