-- What shows that fewer bytes aren't enough: requests within bounds of which one is refused for want of a block.
use Rattle.std.specs.Prelude.{ℕ, List, Contains}
use Rattle.tlsf_heap.specs.declared.request.Request.{Request}
use Rattle.tlsf_heap.specs.declared.answer.Answer.{Answer}
use Rattle.tlsf_heap.specs.declared.answer.Answer.TheVariants.{Refused}
use Rattle.tlsf_heap.specs.declared.refusal.Refusal.TheVariants.{NoFit}
use Rattle.tlsf_heap.specs.Content.{Content}
use Rattle.tlsf_heap.specs.Run.{Run}
use Rattle.tlsf_heap.specs.Within.{StaysWithin}

-- some requests have a run from the content on that stays within the bounds, and of which an answer is that no block fits
pub record IsRefusedWithin (blocks bytes size : ℕ) (lacks : Type 0) (old : Content ℕ) : Type 0 where
  pub requests : List Request
  pub answers : List Answer
  pub new : Content ℕ
  pub before : ℕ
  pub after : ℕ
  pub run : Run lacks requests answers old new before after
  pub within : StaysWithin blocks bytes size lacks requests answers old new before after run
  pub refused : Contains answers (Refused NoFit)
