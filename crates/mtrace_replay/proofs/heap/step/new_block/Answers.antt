-- A block that was given is live.
use Rattle.std.proofs.Common.{refl}
use Rattle.std.specs.Prelude.{◌==◌}
use Rattle.std.proofs.lemmas.Bool.{eq-eqb}
use Rattle.mtrace_replay.proofs.OnHeap.AskedBlock.{live_asked}
use Rattle.mtrace_replay.proofs.heap.step.new_block.Goals as goal

pub end_of_block-end-requires : goal.end_of_block-end-requires
end_of_block-end-requires g c = record {
  live = live_asked (λ slot. slot == c.in_ok-ptr.ptr.slot) c.in_ok-ptr.ptr.slot c.args.align c.args.n c.in_ok-ptr.ptr.place (g.H.Heaped.content c.args.heap.now) (g.H.Heaped.content c.ask_block.new.heap)
      c.keeps_good.ensures.good c.in_ok-ptr.ensures.asks.ok (eq-eqb c.in_ok-ptr.ptr.slot c.in_ok-ptr.ptr.slot refl);
}
