-- A stray line, one of an address that isn't held, one of another that is, or a reallocation.
use Rattle.std.proofs.Common.{ℕ, None, true, false, not, is_some, List, IfOk, refl, sym, subst, ap, ◌∙◌, arith}
use Rattle.std.specs.Prelude.{◌==◌, ◌&&◌}
use Rattle.tlsf_heap.specs.Bare.{bare}
use Rattle.mtrace_replay.specs.declared.held.diagnostic.Diagnostic.{Diagnostic}
use Rattle.mtrace_replay.specs.Holding.{Holding}
use Rattle.mtrace_replay.specs.declared.held.diagnostic.Kind.TheVariants.{NotHeld, AlreadyHeld}
use Rattle.mtrace_replay.specs.Moment.{Plan, move, none_for, doing, allocation, preceded, acts, carried_out}
use Rattle.mtrace_replay.specs.Index.{held_at}
use Rattle.mtrace_replay.specs.Step.{all_given, held_given, Comes, AreLive}
use Rattle.std.proofs.lemmas.Result.{on_err_weaker}
use Rattle.mtrace_replay.proofs.Index.LookLemmas.{look_on, looks_up_fewer}
use Rattle.mtrace_replay.proofs.OnHeap.StepLemmas.{replays_as, comes_unserved, comes_after_diagnostic, under_none, under_some, seen_block, renewal_allocates, renewal_under}
use Rattle.mtrace_replay.proofs.heap.step.renew.Goals as goal

pub returns-in_default-block : goal.returns-in_default-block
returns-in_default-block g c =
    let content = bare (g.H.Heaped.content c.args.holder.now.heap) in
    let after = bare (g.H.Heaped.content c.allocate.new.holder.heap) in
    let held = c.args.holder.now.held.all in
    let new = c.allocate.new.holder.held.all in
    let entry = c.args.entry.now in
    let old = c.in-Some.old in
    let none = under_none (held_at held old) (sym (seen_block c.find-found.new.self.all c.args.holder.now.held.all c.find-found.result.address c.in-Some.old c.block.result c.block.ensures.value c.find-found.ensures.unchanged c.find-found.ensures.address) ∙ c.in_default-block.is) in
    let by : List Holding → Plan = λ all. allocation entry None (held_given (all_given all) entry.addr) in
    let C : List Holding → Type 0 = λ all. Comes content after (all_given all) (all_given new) c.allocate.new.findings c.in_ok-end.end (carried_out (by all) content) in
    let P : List Diagnostic → Type 0 = λ diagnostics. Comes content after (all_given held) (all_given new) diagnostics c.in_ok-end.end (carried_out (preceded (NotHeld old) entry.line (by held)) content) in
    replays_as (renewal_allocates held entry c.args.pending old c.in-Some.is none) (record {
      comes = subst P (sym c.put_first.ensures)
          (comes_after_diagnostic content after (all_given held) (all_given new) (NotHeld old) entry.line c.allocate.new.findings c.in_ok-end.end (by held) (subst C c.find-found.ensures.unchanged c.in_ok-end.ensures.comes));
      live = c.in_ok-end.ensures.live;
      memory = tt;
      unchanged = tt;
      records = c.allocate.ensures.records;
      looked = look_on 1 2 c.args.holder.now.held c.find-found.new.self c.allocate.new.holder.held c.find-found.ensures.looked c.allocate.ensures.looked;
      bound = record { floor = omega (arith, c.allocate.ensures.bound.floor); bound = omega (arith, c.allocate.ensures.bound.bound) };
      idle = λ idle. c.allocate.ensures.idle (ap (λ all. acts (by all).act) c.find-found.ensures.unchanged ∙ idle);
    })

pub returns-then-is_held_too : goal.returns-then-is_held_too
returns-then-is_held_too g c =
    let content = bare (g.H.Heaped.content c.args.holder.now.heap) in
    let held = c.args.holder.now.held.all in
    let entry = c.args.entry.now in
    let old = c.in-Some.old in
    let under = under_some (held_at held old) c.in-Some-block.ptr (sym (seen_block c.find-found.new.self.all c.args.holder.now.held.all c.find-found.result.address c.in-Some.old c.block.result c.block.ensures.value c.find-found.ensures.unchanged c.find-found.ensures.address) ∙ c.in-Some-block.is) in
    let value = c.is_held_too.ensures.value ∙ ap (λ all. not (entry.addr == old) && is_some (held_at all entry.addr)) c.find-found.ensures.unchanged in
    let same = c.is_held_too.ensures.unchanged ∙ c.find-found.ensures.unchanged in
    let P : List Diagnostic → List Holding → Type 0 = λ ns all. Comes content content (all_given held) (all_given all) ns None (carried_out (none_for entry.line (AlreadyHeld entry.addr)) content) in
    replays_as (renewal_under held entry c.args.pending old c.in-Some.is c.in-Some-block.ptr true under (sym value ∙ c.if-is_held_too.true)) (record {
      comes = subst (P c.set_one-then-is_held_too.new.self) (sym same) (subst (λ ns. P ns held) (sym c.set_one-then-is_held_too.ensures) (comes_unserved content (all_given held) entry.line (AlreadyHeld entry.addr)));
      live = subst (λ all. AreLive all (g.H.Heaped.content c.args.holder.now.heap)) (sym same) c.requires.live;
      memory = tt;
      unchanged = tt;
      records = refl;
      looked = looks_up_fewer 2 1 c.args.holder.now.held c.is_held_too.new.held (look_on 1 1 c.args.holder.now.held c.find-found.new.self c.is_held_too.new.held c.find-found.ensures.looked c.is_held_too.ensures.looked);
      bound = omega arith;
      idle = λ idle. refl;
    })

pub returns : goal.returns
returns g c =
    let content = bare (g.H.Heaped.content c.args.holder.now.heap) in
    let after = bare (g.H.Heaped.content c.reallocate.new.holder.heap) in
    let held = c.args.holder.now.held.all in
    let new = c.reallocate.new.holder.held.all in
    let entry = c.args.entry.now in
    let old = c.in-Some.old in
    let under = under_some (held_at held old) c.in-Some-block.ptr (sym (seen_block c.find-found.new.self.all c.args.holder.now.held.all c.find-found.result.address c.in-Some.old c.block.result c.block.ensures.value c.find-found.ensures.unchanged c.find-found.ensures.address) ∙ c.in-Some-block.is) in
    let value = c.is_held_too.ensures.value ∙ ap (λ all. not (entry.addr == old) && is_some (held_at all entry.addr)) c.find-found.ensures.unchanged in
    let same = c.is_held_too.ensures.unchanged ∙ c.find-found.ensures.unchanged in
    let P : ℕ → List Holding → Type 0 = λ (a : ℕ) all. IfOk c.reallocate.result (λ end. Comes content after (all_given all) (all_given new) c.reallocate.new.findings end (carried_out (doing (move a c.in-Some-block.ptr.place entry)) content)) in
    replays_as (renewal_under held entry c.args.pending old c.in-Some.is c.in-Some-block.ptr false under (sym value ∙ c.if-is_held_too.false)) (record {
      comes = subst (λ (a : ℕ). P a held) c.find-found.ensures.address (subst (P c.find-found.result.address) same c.reallocate.ensures.comes);
      live = c.reallocate.ensures.live;
      memory = c.reallocate.ensures.memory;
      unchanged = on_err_weaker c.reallocate.result (λ unchanged. unchanged ∙ same) c.reallocate.ensures.unchanged;
      records = c.reallocate.ensures.records;
      looked = look_on 2 1 c.args.holder.now.held c.is_held_too.new.held c.reallocate.new.holder.held
          (look_on 1 1 c.args.holder.now.held c.find-found.new.self c.is_held_too.new.held c.find-found.ensures.looked c.is_held_too.ensures.looked) c.reallocate.ensures.looked;
      bound = c.reallocate.ensures.bound;
      idle = λ idle. absurd (cc);
    })
