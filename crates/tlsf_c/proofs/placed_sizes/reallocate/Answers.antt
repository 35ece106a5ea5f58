use Rattle.std.proofs.Common.{◌≡◌, ℕ, Some, inl, ap, ◌∙◌, subst}
use Rattle.tlsf_heap.specs.Pointer.{Pointer, realloc_ptr}
use Rattle.tlsf_c.specs.Answers.{pointer_of}
use Rattle.tlsf_c.specs.Status.{status_of}
use Rattle.tlsf_c.specs.declared.block.Block.{Block}
use Rattle.tlsf_c.proofs.ResizedBlock.{refused_as}
use Rattle.tlsf_c.proofs.placed_sizes.reallocate.Goals as goal

-- where it is refused `given` stays, and so has the slot of the block
pub returns-else-status-eq-SERVED-clause-refused : goal.returns-else-status-eq-SERVED-clause-refused
returns-else-status-eq-SERVED-clause-refused c =
    let call = c.tlsf_heap_realloc-status in
    let content = c.args.handle.now.value.content in
    let some = c.if-status-eq-SERVED.false in
    let slot_is : call.new.out.slot ≡ c.args.ptr.slot = ap (λ (b : Block). b.slot) (call.ensures.out (inl some)) ∙ ap (λ (p : Pointer). p.slot) c.of-given.ensures in
    let status = subst (λ (slot : ℕ). status_of (realloc_ptr (Some (pointer_of c.of.result)) c.args.bytes slot content) ≡ call.result) slot_is call.ensures.status in
    refused_as (realloc_ptr (Some c.args.ptr) c.args.bytes c.args.ptr.slot content) call.result (subst (λ (p : Pointer). status_of (realloc_ptr (Some p) c.args.bytes c.args.ptr.slot content) ≡ call.result) c.of.ensures status) some
