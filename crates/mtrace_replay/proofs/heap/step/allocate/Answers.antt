-- The address is held already, or a block is given and held, or the heap refuses.
use Rattle.std.proofs.Common.{ℕ, arith, [], ◌∷◌, ◌+◌, None, Some, Option, cond, length, rules, List, refl, sym, subst, ap, ◌∙◌}
use Rattle.std.specs.Prelude.{◌==◌}
use Rattle.tlsf_heap.specs.Bare.{bare}
use Rattle.tlsf_heap.specs.Content.{Content}
use Rattle.tlsf_heap.proofs.Content.BareSteps.{size_at-renamed}
use Rattle.mtrace_replay.specs.declared.held.diagnostic.Diagnostic.{Diagnostic}
use Rattle.mtrace_replay.specs.declared.held.diagnostic.Kind.TheVariants.{AlreadyHeld, Refused}
use Rattle.mtrace_replay.specs.Holding.{Holding}
use Rattle.mtrace_replay.specs.Moment.{give, none_for, doing, carried_out, one_diagnostic, asked_block}
use Rattle.mtrace_replay.specs.Index.{AreInOrder, IsNewSlot, held_at, held_bytes}
use Rattle.mtrace_replay.specs.Step.{all_given, Comes, AreLive}
use Rattle.mtrace_replay.proofs.OnHeap.HeapSteps.{bare_served, bare_refused}
use Rattle.mtrace_replay.proofs.OnHeap.AskedBlock.{asked_small, asked_records}
use Rattle.mtrace_replay.proofs.OnHeap.HeldStayLive.{live_after_asked}
use Rattle.mtrace_replay.proofs.OnHeap.SlotLemmas.{new_slot}
use Rattle.mtrace_replay.proofs.OnHeap.HeldFew.{held_fits, held_room}
use Rattle.mtrace_replay.proofs.Index.LookLemmas.{look_on}
use Rattle.mtrace_replay.proofs.OnHeap.StepLemmas.{asked_least, none_is, seen_held, replays_as, allocation_held, allocation_free, comes_unserved, comes_served, comes_refused}
use Rattle.mtrace_replay.proofs.heap.step.allocate.Goals as goal

pub insert-requires : goal.insert-requires
insert-requires g c =
    let old = g.H.Heaped.content c.args.holder.now.heap in
    let new = g.H.Heaped.content c.new_block.new.heap in
    let held = c.args.holder.now.held.all in
    let same = c.find_again-found.ensures.unchanged in
    let ordered = subst AreInOrder same c.keeps_order.ensures in
    let most = asked_small c.in-Ok.block.ptr.slot c.args.align c.asked_size.result old (c.in-Ok.block.ptr.place, new) c.in-Ok.ensures.asks.ok in
    let fits = held_fits held old ordered c.keeps_good.ensures.good c.requires.live in
    let asked = asked_least c.args.entry.now.size in
    let is = c.asked_size.ensures in
    let more : Holding = record { entry = c.args.entry.now; ptr = c.in-Ok.block.ptr } in
    let live = live_after_asked held (more ∷ held) old new c.keeps_good.ensures.good c.requires.live more c.args.align c.asked_size.result c.in-Ok.ensures.asks.ok (omega (arith, asked, is)) (λ other. refl) in
    let records = asked_records c.in-Ok.block.ptr.slot c.args.align c.asked_size.result old (c.in-Ok.block.ptr.place, new) c.in-Ok.ensures.asks.ok in
    let absent = none_is (held_at held c.args.entry.now.addr) (sym (seen_held c.find_again-found.new.self.all c.args.holder.now.held.all c.find_again-found.result.address c.args.entry.now.addr c.is_held.result c.is_held.ensures.value c.find_again-found.ensures.unchanged c.find_again-found.ensures.address) ∙ c.if-is_held.false) in
    let room = held_room held new ordered c.keeps_good-in-Ok.ensures.good more absent live in
    record {
      found = search rules;
      address = c.find_again-found.ensures.address;
      free = ap (λ all. held_at all c.args.entry.now.addr) same ∙ absent;
      bytes = omega (arith, most, fits, asked, is, ap held_bytes same);
      room = omega (arith, room, records, c.requires.room, c.find_again-found.ensures.looked.room, ap (length {A = Holding}) same);
      slot = omega (arith, c.in-Ok.ensures.asks.slot_below, c.requires.room, c.find_again-found.ensures.looked.room);
      new = subst (IsNewSlot c.in-Ok.block.ptr.slot c.args.entry.now.addr) (sym same) (new_slot held old c.requires.live c.in-Ok.block.ptr.slot c.args.entry.now.addr (c.in-Ok.ensures.asks.slot_new (λ old. old)));
    }

pub returns-then-is_held : goal.returns-then-is_held
returns-then-is_held g c =
    let heap = g.H.Heaped.content c.args.holder.now.heap in
    let content = bare heap in
    let held = c.args.holder.now.held.all in
    let entry = c.args.entry.now in
    let planned = none_for entry.line (AlreadyHeld entry.addr) in
    let moment = carried_out planned content in
    let P : List Diagnostic → Type 0 = λ diagnostics. Comes content content (all_given held) (all_given held) diagnostics None moment in
    let Q : List Diagnostic → List Holding → Type 0 = λ diagnostics all. Comes content content (all_given held) (all_given all) diagnostics None moment in
    replays_as (allocation_held held entry c.args.align (sym (seen_held c.find_again-found.new.self.all c.args.holder.now.held.all c.find_again-found.result.address c.args.entry.now.addr c.is_held.result c.is_held.ensures.value c.find_again-found.ensures.unchanged c.find_again-found.ensures.address) ∙ c.if-is_held.true)) (record {
      comes = subst (Q c.set_one.new.self) (sym c.find_again-found.ensures.unchanged)
          (subst P (sym c.set_one.ensures) (comes_unserved content (all_given held) entry.line (AlreadyHeld entry.addr)));
      live = subst (λ all. AreLive all heap) (sym c.find_again-found.ensures.unchanged) c.requires.live;
      memory = tt;
      unchanged = tt;
      records = refl;
      looked = c.find_again-found.ensures.looked;
      bound = omega arith;
      idle = λ idle. refl;
    })

pub returns-in-Ok : goal.returns-in-Ok
returns-in-Ok g c =
    let old = g.H.Heaped.content c.args.holder.now.heap in
    let new = g.H.Heaped.content c.new_block.new.heap in
    let held = c.args.holder.now.held.all in
    let after = c.insert.new.self.all in
    let entry = c.args.entry.now in
    let ptr = c.in-Ok.block.ptr in
    let more : Holding = record { entry = entry; ptr = ptr } in
    let moment = carried_out (doing (give entry c.args.align)) (bare old) in
    let P : List Diagnostic → Option ℕ → Type 0 = λ diagnostics end. Comes (bare old) (bare new) (all_given held) (all_given after) diagnostics end moment in
    let absent = sym (seen_held c.find_again-found.new.self.all c.args.holder.now.held.all c.find_again-found.result.address c.args.entry.now.addr c.is_held.result c.is_held.ensures.value c.find_again-found.ensures.unchanged c.find_again-found.ensures.address) ∙ c.if-is_held.false in
    let served = bare_served old new ptr.slot c.args.align c.asked_size.result ptr.place c.in-Ok.ensures.asks.ok in
    let end = ap (λ (n : ℕ). Some n) (c.in-Ok.ensures.end ∙ ap (λ (n : ℕ). ptr.place + n) (sym (size_at-renamed (λ owner. tt) ptr.place new.pools))) in
    let changed = (λ (other : ℕ). c.insert.ensures.held other ∙ ap (λ all. cond (entry.addr == other) (Some more) (held_at all other)) c.find_again-found.ensures.unchanged) in
    let asked = asked_least entry.size in
    replays_as (allocation_free held entry c.args.align absent) (record {
      comes = subst (λ diagnostics. P diagnostics (Some c.in-Ok.block.end)) (sym c.requires.none) (subst (P []) (sym end)
          (comes_served held after (bare old) (bare new) more c.args.align (ap (λ n. asked_block tt c.args.align n (bare old)) (sym c.asked_size.ensures) ∙ served) changed));
      live = live_after_asked held after old new c.keeps_good.ensures.good c.requires.live more c.args.align c.asked_size.result c.in-Ok.ensures.asks.ok (omega (arith, asked, c.asked_size.ensures)) changed;
      memory = tt;
      unchanged = tt;
      records = asked_records ptr.slot c.args.align c.asked_size.result old (ptr.place, new) c.in-Ok.ensures.asks.ok;
      looked = look_on 2 0 c.args.holder.now.held c.find_again-found.new.self c.insert.new.self c.find_again-found.ensures.looked c.insert.ensures.looked;
      bound = record { floor = omega (arith, c.new_block.ensures.bound.floor); bound = omega (arith, c.new_block.ensures.bound.bound) };
      idle = λ idle. absurd (cc);
    })

pub returns-in-Err-OutOfMemory : goal.returns-in-Err-OutOfMemory
returns-in-Err-OutOfMemory g c = replays_as (allocation_free c.args.holder.now.held.all c.args.entry.now c.args.align (sym (seen_held c.find_again-found.new.self.all c.args.holder.now.held.all c.find_again-found.result.address c.args.entry.now.addr c.is_held.result c.is_held.ensures.value c.find_again-found.ensures.unchanged c.find_again-found.ensures.address) ∙ c.if-is_held.false)) (record {
  comes = tt;
  live = tt;
  memory = search rules;
  unchanged = c.find_again-found.ensures.unchanged;
  records = search rules;
  looked = c.find_again-found.ensures.looked;
  bound = record { floor = omega (arith, c.new_block.ensures.bound.floor); bound = omega (arith, c.new_block.ensures.bound.bound) };
  idle = λ idle. absurd (cc);
})

pub returns-in-Err : goal.returns-in-Err
returns-in-Err g c =
    let old = g.H.Heaped.content c.args.holder.now.heap in
    let new = g.H.Heaped.content c.new_block.new.heap in
    let held = c.args.holder.now.held.all in
    let entry = c.args.entry.now in
    let moment = carried_out (doing (give entry c.args.align)) (bare old) in
    let P : List Diagnostic → Type 0 = λ diagnostics. Comes (bare old) (bare old) (all_given held) (all_given held) diagnostics None moment in
    let Q : List Diagnostic → Content ℕ → List Holding → Type 0 = λ diagnostics content all. Comes (bare old) (bare content) (all_given held) (all_given all) diagnostics None moment in
    let refused = bare_refused old new 0 c.args.align c.asked_size.result c.in-Err.refusal (c.in-Err.ensures.asks.refused (search rules) 0) in
    let same = c.in-Err.ensures.asks.unchanged in
    let told : P (one_diagnostic entry.line (Refused entry.addr c.in-Err.refusal)) =
    comes_refused held held (bare old) (bare new) entry c.args.align c.in-Err.refusal (ap (λ n. asked_block tt c.args.align n (bare old)) (sym c.asked_size.ensures) ∙ refused) in
    replays_as (allocation_free held entry c.args.align (sym (seen_held c.find_again-found.new.self.all c.args.holder.now.held.all c.find_again-found.result.address c.args.entry.now.addr c.is_held.result c.is_held.ensures.value c.find_again-found.ensures.unchanged c.find_again-found.ensures.address) ∙ c.if-is_held.false)) (record {
      comes = subst (Q c.set_one-in-Err.new.self new) (sym c.find_again-found.ensures.unchanged)
          (subst (λ content. Q c.set_one-in-Err.new.self content held) (sym same) (subst P (sym c.set_one-in-Err.ensures) told));
      live = subst (λ all. AreLive all new) (sym c.find_again-found.ensures.unchanged) (subst (AreLive held) (sym same) c.requires.live);
      memory = tt;
      unchanged = tt;
      records = ap (λ (content : Content ℕ). content.records) same;
      looked = c.find_again-found.ensures.looked;
      bound = record { floor = omega (arith, c.in-Err.ensures.bound.floor); bound = omega (arith, c.in-Err.ensures.bound.bound) };
      idle = λ idle. absurd (cc);
    })
