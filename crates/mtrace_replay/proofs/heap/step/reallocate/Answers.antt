-- The block is moved and held at its new address, or the heap refuses and it is freed.
use Rattle.std.proofs.Common.{arith, is_some, [], ◌+◌, rules, ◌≡◌, ℕ, true, List, Option, Some, None, sym, subst, ap, ◌∙◌}
use Rattle.std.specs.Prelude.{◌==◌, Ok}
use Rattle.tlsf_heap.specs.Bare.{bare}
use Rattle.tlsf_heap.specs.Content.{Content, blocks_of}
use Rattle.tlsf_heap.proofs.Content.BareSteps.{size_at-renamed}
use Rattle.tlsf_heap.specs.Free.{is_live}
use Rattle.tlsf_heap.specs.Pointer.{Pointer}
use Rattle.tlsf_heap.specs.Realloc.{realloc}
use Rattle.mtrace_replay.specs.declared.held.diagnostic.Diagnostic.{Diagnostic}
use Rattle.mtrace_replay.specs.Moment.{move, doing, carried_out, without}
use Rattle.mtrace_replay.specs.Step.{all_given, Comes}
use Rattle.mtrace_replay.proofs.OnHeap.HeapSteps.{bare_moved, bare_not_moved}
use Rattle.mtrace_replay.proofs.OnHeap.HeldStayLive.{live_after_realloc}
use Rattle.mtrace_replay.proofs.OnHeap.SlotLemmas.{moved_slot}
use Rattle.mtrace_replay.proofs.OnHeap.FreeAndRealloc.{moved_small, moved_records}
use Rattle.mtrace_replay.proofs.Index.LookLemmas.{looks_up_fewer}
use Rattle.mtrace_replay.proofs.OnHeap.HeldFew.{held_few, held_fits}
use Rattle.mtrace_replay.proofs.OnHeap.StepLemmas.{asked_least, comes_moved, comes_not_moved}
use Rattle.mtrace_replay.proofs.heap.step.reallocate.Goals as goal

pub replace-requires : goal.replace-requires
replace-requires g c =
    let old = g.H.Heaped.content c.args.holder.now.heap in
    let asked = asked_least c.args.entry.now.size in
    let most = moved_small (λ a b. a == b) c.in-Ok.block.ptr.slot c.args.ptr.slot c.args.ptr.place c.asked_size.result old (Some (c.in-Ok.block.ptr.place, c.in-Ok.block.ptr.slot), g.H.Heaped.content c.realloc_block.new.heap) (λ none. omega (arith, asked, c.asked_size.ensures, none)) c.in-Ok.ensures.asks.ok in
    let fits = held_fits c.args.holder.now.held.all old c.keeps_order.ensures c.keeps_good.ensures.good c.requires.live in
    let few = held_few c.args.holder.now.held.all old c.keeps_order.ensures c.keeps_good.ensures.good c.requires.live in
    let under = c.requires.held in
    record {
      found = search rules;
      bytes = omega (arith, most, fits, asked, c.asked_size.ensures);
      held = ap is_some under.1;
      free = c.requires.free;
      room = omega (arith, few, c.requires.room);
      slot = omega (arith, c.in-Ok.ensures.asks.slot_below, c.requires.room);
      new = moved_slot c.args.holder.now.held.all old c.requires.live c.args.ptr c.in-Ok.block.ptr.slot c.args.old.now.address c.keeps_good.ensures.slots under c.in-Ok.ensures.asks.slot_new;
    }

pub returns-in-Ok : goal.returns-in-Ok
returns-in-Ok g c =
    let old = g.H.Heaped.content c.args.holder.now.heap in
    let new = g.H.Heaped.content c.realloc_block.new.heap in
    let held = c.args.holder.now.held.all in
    let after = c.replace.new.self.all in
    let entry = c.args.entry.now in
    let ptr = c.args.ptr in
    let given = c.in-Ok.block.ptr in
    let under = c.requires.held in
    let P : Pointer → Type 0 = λ p. is_live (λ slot. slot == p.slot) p.place (blocks_of old.pools) ≡ true in
    let live = subst P under.2 (c.requires.live.live c.args.old.now.address under.0 under.1) in
    let served = bare_moved old new ptr.place ptr.slot live given.slot c.asked_size.result given.place given.slot c.in-Ok.ensures.asks.ok in
    let moment = carried_out (doing (move c.args.old.now.address ptr.place entry)) (bare old) in
    let Q : List Diagnostic → Option ℕ → Type 0 = λ diagnostics end. Comes (bare old) (bare new) (all_given held) (all_given after) diagnostics end moment in
    let end = ap (λ (n : ℕ). Some n) (c.in-Ok.ensures.end ∙ ap (λ (n : ℕ). given.place + n) (sym (size_at-renamed (λ owner. tt) given.place new.pools))) in
    let asked = asked_least entry.size in
    let R : Pointer → Type 0 = λ p. realloc (λ a b. a == b) given.slot (Some (p.place, p.slot)) c.asked_size.result old ≡ Ok (Some (given.place, given.slot), new) in
    record {
      comes = subst (λ diagnostics. Q diagnostics (Some c.in-Ok.block.end)) (sym c.requires.none) (subst (Q []) (sym end)
          (comes_moved held after (bare old) (bare new) c.args.old.now.address ptr.place (record { entry = entry; ptr = given })
          (ap (λ n. realloc (λ one other. true) tt (Some (ptr.place, tt)) n (bare old)) (sym c.asked_size.ensures) ∙ served) c.replace.ensures.held));
      live = live_after_realloc held after old new c.keeps_good.ensures.good c.requires.live c.args.old.now.address under.0 under.1 (record { entry = entry; ptr = given }) c.asked_size.result
          (subst R (sym under.2) c.in-Ok.ensures.asks.ok) (omega (arith, asked, c.asked_size.ensures)) (omega (arith, asked, c.asked_size.ensures)) c.replace.ensures.held;
      memory = tt;
      unchanged = tt;
      records = moved_records (λ a b. a == b) given.slot ptr.slot ptr.place c.asked_size.result old (Some (given.place, given.slot), new) c.in-Ok.ensures.asks.ok;
      looked = c.replace.ensures.looked;
      bound = record { floor = omega (arith, c.realloc_block.ensures.bound.floor); bound = omega (arith, c.realloc_block.ensures.bound.bound) };
      idle = λ idle. absurd (cc);
    }

pub returns-in_ok-take-in-Err : goal.returns-in_ok-take-in-Err
returns-in_ok-take-in-Err g c =
    let old = g.H.Heaped.content c.args.holder.now.heap in
    let middle = g.H.Heaped.content c.realloc_block.new.heap in
    let last = g.H.Heaped.content c.take.new.holder.heap in
    let new = bare last in
    let held = c.args.holder.now.held.all in
    let after = c.take.new.holder.held.all in
    let entry = c.args.entry.now in
    let ptr = c.args.ptr in
    let under = c.requires.held in
    let P : Pointer → Type 0 = λ p. is_live (λ slot. slot == p.slot) p.place (blocks_of old.pools) ≡ true in
    let live = subst P under.2 (c.requires.live.live c.args.old.now.address under.0 under.1) in
    let refused = bare_not_moved old middle ptr.place ptr.slot live 0 c.asked_size.result c.in-Err.refusal (c.in-Err.ensures.asks.refused (search rules) 0) in
    let freed : new ≡ without ptr.place (bare old) = c.in_ok-take-in-Err.ensures.content ∙ ap (λ content. without ptr.place (bare content)) c.in-Err.ensures.asks.unchanged in
    let moment = carried_out (doing (move c.args.old.now.address ptr.place entry)) (bare old) in
    let Q : List Diagnostic → Type 0 = λ diagnostics. Comes (bare old) new (all_given held) (all_given after) diagnostics None moment in
    record {
      comes = subst Q (sym c.set_one.ensures) (comes_not_moved held after (bare old) new c.args.old.now.address ptr.place entry c.in-Err.refusal
          (ap (λ n. realloc (λ one other. true) tt (Some (ptr.place, tt)) n (bare old)) (sym c.asked_size.ensures) ∙ refused) freed c.in_ok-take-in-Err.ensures.held);
      live = c.in_ok-take-in-Err.ensures.live;
      memory = tt;
      unchanged = tt;
      looked = looks_up_fewer 0 1 c.args.holder.now.held c.take.new.holder.held c.take.ensures.looked;
      records = c.take.ensures.records ∙ ap (λ (content : Content ℕ). content.records) c.in-Err.ensures.asks.unchanged;
      bound = record { floor = omega (arith, c.take.ensures.bound.floor, c.realloc_block.ensures.bound.floor); bound = omega (arith, c.take.ensures.bound.bound, c.realloc_block.ensures.bound.bound) };
      idle = λ idle. absurd (cc);
    }
