-- The heap gives no block only for 0 bytes, so the status tells the rest.
use Rattle.std.proofs.Common.{◌≡◌, Ok, Err, Option, Some, None, cond, ap, ◌∙◌, subst, sym}
use Rattle.std.specs.Prelude.{◌==◌}
use Rattle.tlsf_heap.specs.Counted.{Counted}
use Rattle.tlsf_heap.specs.Pointer.{Pointer, place_and_slot, slot_of}
use Rattle.tlsf_heap.specs.Realloc.{realloc as reallocated}
use Rattle.tlsf_c.specs.Status.{status_of}
use Rattle.tlsf_c.proofs.ReallocGives.{gives_none}
use Rattle.tlsf_c.proofs.blocks.tlsf_heap_realloc.Goals as goal

pub returns-in-Ok-None-clause-status : goal.returns-in-Ok-None-clause-status
returns-in-Ok-None-clause-status c =
    let block = c.args.block in let content = c.args.handle.now.value.content in let new = c.realloc.new.self.content in
    let told : reallocated (λ a b. a == b) 0 (Some (block.place, block.slot)) c.args.bytes content ≡ Ok (None, new) =
    subst (λ (p : Pointer). reallocated (λ a b. a == b) 0 (Some (p.place, p.slot)) c.args.bytes content ≡ Ok (None, new)) c.ptr.ensures
    (subst (λ (h : Counted). reallocated (λ a b. a == b) 0 (Some (c.ptr.result.place, c.ptr.result.slot)) c.args.bytes h.content ≡ Ok (None, new)) c.heap.ensures.value
    (subst (λ (given : Option Pointer). reallocated (λ a b. a == b) (slot_of given) (Some (c.ptr.result.place, c.ptr.result.slot)) c.args.bytes (c.heap.result.now).content ≡ Ok (place_and_slot given, new)) c.in-Ok-None.field-0-is c.in-Ok-None.ensures.ok.ok)) in
    ap status_of (gives_none new 0 block.place block.slot c.args.bytes content c.args.out.now.slot told).1

pub returns-in-Ok-None-clause-ok : goal.returns-in-Ok-None-clause-ok
returns-in-Ok-None-clause-ok c = λ _.
    let block = c.args.block in let content = c.args.handle.now.value.content in let new = c.realloc.new.self.content in
    let told : reallocated (λ a b. a == b) 0 (Some (block.place, block.slot)) c.args.bytes content ≡ Ok (None, new) =
    subst (λ (p : Pointer). reallocated (λ a b. a == b) 0 (Some (p.place, p.slot)) c.args.bytes content ≡ Ok (None, new)) c.ptr.ensures
    (subst (λ (h : Counted). reallocated (λ a b. a == b) 0 (Some (c.ptr.result.place, c.ptr.result.slot)) c.args.bytes h.content ≡ Ok (None, new)) c.heap.ensures.value
    (subst (λ (given : Option Pointer). reallocated (λ a b. a == b) (slot_of given) (Some (c.ptr.result.place, c.ptr.result.slot)) c.args.bytes (c.heap.result.now).content ≡ Ok (place_and_slot given, new)) c.in-Ok-None.field-0-is c.in-Ok-None.ensures.ok.ok)) in
    let gives = gives_none new 0 block.place block.slot c.args.bytes content c.args.out.now.slot told in
    gives.1 ∙ ap (λ none. Ok (cond none None (Some (c.args.out.now.place, c.args.out.now.slot)), new)) (sym gives.0)

pub returns-in-Err-clause-status : goal.returns-in-Err-clause-status
returns-in-Err-clause-status c =
    let block = c.args.block in let content = c.args.handle.now.value.content in let slot = c.args.out.now.slot in let why = c.in-Err.refusal in
    let told : reallocated (λ a b. a == b) slot (Some (block.place, block.slot)) c.args.bytes content ≡ Err why =
    subst (λ (p : Pointer). reallocated (λ a b. a == b) slot (Some (p.place, p.slot)) c.args.bytes content ≡ Err why) c.ptr.ensures
    (subst (λ (h : Counted). reallocated (λ a b. a == b) slot (Some (c.ptr.result.place, c.ptr.result.slot)) c.args.bytes h.content ≡ Err why) c.heap.ensures.value (c.in-Err.ensures.refused.refused slot)) in
    ap status_of told ∙ sym c.number.ensures.value
