-- The block is live, so the heap frees it.
use Rattle.std.proofs.Common.{rules, ◌≡◌, true, sym, subst}
use Rattle.std.specs.Prelude.{◌==◌, Ok}
use Rattle.tlsf_heap.specs.Content.{blocks_of}
use Rattle.tlsf_heap.specs.Free.{free, is_live}
use Rattle.tlsf_heap.specs.Pointer.{Pointer}
use Rattle.tlsf_heap.proofs.Good.StaysLive.{free_of_live}
use Rattle.mtrace_replay.proofs.OnHeap.HeapSteps.{bare_freed}
use Rattle.mtrace_replay.proofs.OnHeap.HeldStayLive.{live_after_free}
use Rattle.mtrace_replay.proofs.heap.step.take.Goals as goal

pub unreachable-requires : goal.unreachable-requires
unreachable-requires g c =
    let content = g.H.Heaped.content c.args.holder.now.heap in
    let under = c.requires.held in
    let P : Pointer → Type 0 = λ ptr. is_live (λ slot. slot == ptr.slot) ptr.place (blocks_of content.pools) ≡ true in
    let live = subst P under.2 (c.requires.live.live c.args.found.now.address under.0 under.1) in
    let refused = c.in-Err.ensures.refused.refused (search rules) in
    let served = free_of_live (λ slot. slot == c.args.ptr.slot) c.args.ptr.place content live in
    cc

pub returns-in-Ok : goal.returns-in-Ok
returns-in-Ok g c =
    let content = g.H.Heaped.content c.args.holder.now.heap in
    let after = g.H.Heaped.content c.free.new.self in
    let under = c.requires.held in
    let P : Pointer → Type 0 = λ ptr. is_live (λ slot. slot == ptr.slot) ptr.place (blocks_of content.pools) ≡ true in
    let Q : Pointer → Type 0 = λ ptr. free (λ slot. slot == ptr.slot) ptr.place content ≡ Ok after in
    let live = subst P under.2 (c.requires.live.live c.args.found.now.address under.0 under.1) in
    record {
      content = bare_freed content after c.args.ptr.place c.args.ptr.slot live c.in-Ok.ensures.ok;
      held = search rules;
      live = live_after_free c.args.holder.now.held.all _ content after c.keeps_good.ensures.good c.requires.live c.args.found.now.address under.0 under.1
          (subst Q (sym under.2) c.in-Ok.ensures.ok) (search rules);
      memory = tt;
      unchanged = tt;
      records = search rules;
      looked = search rules;
      bound = search rules;
    }
