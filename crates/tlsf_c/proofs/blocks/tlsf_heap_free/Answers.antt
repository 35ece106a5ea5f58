use Rattle.std.proofs.Common.{rules, ◌≡◌, ◌==◌, Ok, subst}
use Rattle.tlsf_heap.specs.Counted.{Counted}
use Rattle.tlsf_heap.specs.Free.{free as freed}
use Rattle.tlsf_heap.specs.Pointer.{Pointer}
use Rattle.tlsf_c.proofs.blocks.tlsf_heap_free.Goals as goal

-- the pointer freed is the block's, and the heap is the handle's
pub returns-in-Ok-clause-answer : goal.returns-in-Ok-clause-answer
returns-in-Ok-clause-answer c = record {
  status = search rules;
  ok = λ _. subst (λ (p : Pointer). freed (λ slot. slot == p.slot) p.place c.args.handle.now.value.content ≡ Ok c.free.new.self.content) c.ptr.ensures
      (subst (λ (h : Counted). freed (λ slot. slot == c.ptr.result.slot) c.ptr.result.place h.content ≡ Ok c.free.new.self.content) c.heap.ensures.value
      c.in-Ok.ensures.ok);
  unchanged = search rules;
}
