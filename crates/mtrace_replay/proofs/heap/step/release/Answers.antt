-- The address isn't held, or its block is freed and no more held.
use Rattle.std.proofs.Common.{ℕ, None, List, cond, refl, sym, subst, ap, ◌∙◌, arith, rules}
use Rattle.std.specs.Prelude.{◌==◌}
use Rattle.tlsf_heap.specs.Bare.{bare}
use Rattle.mtrace_replay.specs.declared.held.diagnostic.Diagnostic.{Diagnostic}
use Rattle.mtrace_replay.specs.declared.held.diagnostic.Kind.TheVariants.{NotHeld}
use Rattle.mtrace_replay.specs.Holding.{Holding}
use Rattle.mtrace_replay.specs.Moment.{take, none_for, doing, carried_out}
use Rattle.mtrace_replay.specs.Index.{held_at}
use Rattle.mtrace_replay.specs.Step.{all_given, Comes, AreLive}
use Rattle.mtrace_replay.proofs.Index.LookLemmas.{look_on}
use Rattle.mtrace_replay.proofs.OnHeap.StepLemmas.{replays_as, release_none, release_under, comes_unserved, comes_released, under_none, under_some, seen_block}
use Rattle.mtrace_replay.proofs.heap.step.release.Goals as goal

pub returns-in_default : goal.returns-in_default
returns-in_default g c =
    let heap = g.H.Heaped.content c.args.holder.now.heap in
    let content = bare heap in
    let held = c.args.holder.now.held.all in
    let none = under_none (held_at held c.args.address) (sym (seen_block c.find_again-found.new.self.all c.args.holder.now.held.all c.find_again-found.result.address c.args.address c.block.result c.block.ensures.value c.find_again-found.ensures.unchanged c.find_again-found.ensures.address) ∙ c.in_default.is) in
    let P : List Diagnostic → List Holding → Type 0 = λ diagnostics all. Comes content content (all_given held) (all_given all) diagnostics None (carried_out (none_for c.args.number (NotHeld c.args.address)) content) in
    replays_as (release_none held c.args.number c.args.address none) (record {
      comes = subst (P c.set_one.new.self) (sym c.find_again-found.ensures.unchanged)
          (subst (λ diagnostics. P diagnostics held) (sym c.set_one.ensures) (comes_unserved content (all_given held) c.args.number (NotHeld c.args.address)));
      live = subst (λ all. AreLive all heap) (sym c.find_again-found.ensures.unchanged) c.requires.live;
      memory = tt;
      unchanged = tt;
      records = refl;
      looked = c.find_again-found.ensures.looked;
      bound = omega arith;
      idle = λ idle. refl;
    })

pub returns-in_err-take : goal.returns-in_err-take
returns-in_err-take g c =
    let held = c.args.holder.now.held.all in
    let under = under_some (held_at held c.args.address) c.in-Some.ptr (sym (seen_block c.find_again-found.new.self.all c.args.holder.now.held.all c.find_again-found.result.address c.args.address c.block.result c.block.ensures.value c.find_again-found.ensures.unchanged c.find_again-found.ensures.address) ∙ c.in-Some.is) in
    replays_as (release_under held c.args.number c.args.address c.in-Some.ptr under) (record {
      comes = search rules;
      live = search rules;
      memory = search rules;
      unchanged = search rules;
      records = c.take.ensures.records;
      looked = look_on 2 0 c.args.holder.now.held c.find_again-found.new.self c.take.new.holder.held c.find_again-found.ensures.looked c.take.ensures.looked;
      bound = c.take.ensures.bound;
      idle = λ idle. absurd (cc);
    })

pub returns : goal.returns
returns g c =
    let content = bare (g.H.Heaped.content c.args.holder.now.heap) in
    let after = bare (g.H.Heaped.content c.take.new.holder.heap) in
    let held = c.args.holder.now.held.all in
    let new = c.take.new.holder.held.all in
    let under = under_some (held_at held c.args.address) c.in-Some.ptr (sym (seen_block c.find_again-found.new.self.all c.args.holder.now.held.all c.find_again-found.result.address c.args.address c.block.result c.block.ensures.value c.find_again-found.ensures.unchanged c.find_again-found.ensures.address) ∙ c.in-Some.is) in
    let P : List Diagnostic → Type 0 = λ diagnostics. Comes content after (all_given held) (all_given new) diagnostics None (carried_out (doing (take c.args.address c.in-Some.ptr.place)) content) in
    replays_as (release_under held c.args.number c.args.address c.in-Some.ptr under) (record {
      comes = subst P (sym c.requires.none) (comes_released held new content after c.args.address c.in-Some.ptr.place c.in_ok-take.ensures.content
          (λ other. c.in_ok-take.ensures.held other ∙ ap (λ all. cond (c.find_again-found.result.address == other) None (held_at all other)) c.find_again-found.ensures.unchanged
          ∙ ap (λ (a : ℕ). cond (a == other) None (held_at held other)) c.find_again-found.ensures.address));
      live = c.in_ok-take.ensures.live;
      memory = tt;
      unchanged = tt;
      records = c.take.ensures.records;
      looked = look_on 2 0 c.args.holder.now.held c.find_again-found.new.self c.take.new.holder.held c.find_again-found.ensures.looked c.take.ensures.looked;
      bound = c.take.ensures.bound;
      idle = λ idle. absurd (cc);
    })
