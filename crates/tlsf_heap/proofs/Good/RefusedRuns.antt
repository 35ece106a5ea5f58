-- Runs within bounds that end by a refusal for want of a block, request by request.
use Rattle.std.proofs.Common.{◌≡◌, ℕ, suc, List, [], ◌∷◌, Err, refl, arith}
use Rattle.std.specs.Prelude.{Contains}
use Rattle.tlsf_heap.specs.declared.request.Request.{Request}
use Rattle.tlsf_heap.specs.declared.request.Request.TheVariants.{Malloc}
use Rattle.tlsf_heap.specs.declared.answer.Answer.{Answer}
use Rattle.tlsf_heap.specs.declared.answer.Answer.TheVariants.{Refused}
use Rattle.tlsf_heap.specs.declared.refusal.Refusal.TheVariants.{NoFit}
use Rattle.tlsf_heap.specs.Content.{Content}
use Rattle.tlsf_heap.specs.Malloc.{malloc}
use Rattle.tlsf_heap.specs.Run.{Step, Run}
use Rattle.tlsf_heap.specs.Within.{TakesWithin, IsWithin, StaysWithin}
use Rattle.tlsf_heap.specs.Least.{IsRefusedWithin}

module _ (blocks bytes size : ℕ) (lacks : Type 0) where
  -- some requests have a run from the content on that stays within the bounds, where one is refused; the touches are left out
  pub record IsRefusedFrom (old : Content ℕ) : Type 0 where
    pub requests : List Request
    pub answers : List Answer
    pub new : Content ℕ
    pub run : Run lacks requests answers old new 0 0
    pub within : StaysWithin blocks bytes size lacks requests answers old new 0 0 run
    pub refused : Contains answers (Refused NoFit)

  -- one request in front
  pub refused_behind : (request : Request) (answer : Answer) (old mid : Content ℕ) → Step lacks request answer old mid → IsWithin blocks bytes size request old → IsRefusedFrom mid → IsRefusedFrom old
  refused_behind request answer old mid step within then = record {
    requests = request ∷ then.requests;
    answers = answer ∷ then.answers;
    new = then.new;
    run = (mid, 0, step, omega arith, omega arith, then.run);
    within = (within, then.within);
    refused = (suc then.refused.0, omega (arith, then.refused.1), then.refused.2);
  }

  -- the request that is refused
  pub refused_here : (n : ℕ) (content : Content ℕ) → ((slot : ℕ) → malloc slot n content ≡ Err NoFit) → TakesWithin blocks bytes size (λ m. m) n content → IsRefusedFrom content
  refused_here n content refused takes = record {
    requests = Malloc n ∷ [];
    answers = Refused NoFit ∷ [];
    new = content;
    run = (content, 0, (refl, λ other slot. refused slot, λ memory. absurd (cc)), omega arith, omega arith, (refl, refl));
    within = (λ nonzero. takes, tt);
    refused = (0, omega arith, refl);
  }

  pub refused_within : (old : Content ℕ) → IsRefusedFrom old → IsRefusedWithin blocks bytes size lacks old
  refused_within old is = record { requests = is.requests; answers = is.answers; new = is.new; before = 0; after = 0; run = is.run; within = is.within; refused = is.refused }
