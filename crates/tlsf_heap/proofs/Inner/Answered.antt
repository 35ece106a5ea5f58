-- What is answered over cells that were read is answered over the cells before, and by a call that is equal there.
use Rattle.std.proofs.Common.{◌≡◌, ℕ, ◌+◌, ◌∙◌, subst, arith, Result, Err}
use Rattle.std.proofs.lemmas.Result.{IfOk-weaker, IfErr-weaker, on_err_weaker}
use Rattle.tlsf_store.specs.Cells.{Cells}
use Rattle.tlsf_store.specs.CountedCells.{CountedCells}
use Rattle.tlsf_heap.specs.declared.refusal.Refusal.{Refusal}
use Rattle.tlsf_heap.specs.Touches.{AtMost}
use Rattle.tlsf_heap.specs.Pointer.{Pointer}
use Rattle.tlsf_heap.specs.Content.{Content}
use Rattle.tlsf_heap.specs.Served.{IsServed}
use Rattle.tlsf_heap.specs.Inner.Following.{content_of}
use Rattle.tlsf_heap.specs.Inner.Answers.{AnswersOver}
use Rattle.tlsf_heap.proofs.Content.ServedCalls.{served_as}

-- what a call answers: the block that it gives, or why it is refused
abbrev pub IsAnswered : (call : ℕ → Content ℕ → Result (ℕ × Content ℕ) Refusal) (result : Result Pointer Refusal) (n : ℕ) (old new : CountedCells) → Type 0
IsAnswered call result n old new = AnswersOver result (IsServed call) (λ refusal content. (slot : ℕ) → call slot content ≡ Err refusal) n old new

pub answered_as : (call other : ℕ → Content ℕ → Result (ℕ × Content ℕ) Refusal) (result : Result Pointer Refusal) (n more : ℕ) (old before new : CountedCells) → ((slot : ℕ) → call slot (content_of old.cells) ≡ other slot (content_of old.cells)) → before.cells ≡ old.cells → AtMost more old.touches before.touches
    → IsAnswered other result n before new → IsAnswered call result (more + n) old new
answered_as call other result n more old before new same read touched is = record {
  stands = is.stands;
  ok = IfOk-weaker result (λ given. IsServed other given (content_of before.cells) (content_of new.cells)) (λ given. IsServed call given (content_of old.cells) (content_of new.cells))
      (λ given served. served_as call other (content_of old.cells) (content_of new.cells) same given (subst (λ (cells : Cells). IsServed other given (content_of cells) (content_of new.cells)) read served)) is.ok;
  refused = IfErr-weaker result (λ refusal. (slot : ℕ) → other slot (content_of before.cells) ≡ Err refusal) (λ refusal. (slot : ℕ) → call slot (content_of old.cells) ≡ Err refusal)
      (λ refusal refused slot. same slot ∙ subst (λ (cells : Cells). other slot (content_of cells) ≡ Err refusal) read (refused slot)) is.refused;
  cells = on_err_weaker result (λ left. left ∙ read) is.cells;
  touches = record { floor = omega (arith, touched.floor, is.touches.floor); bound = omega (arith, touched.bound, is.touches.bound) };
}
