-- Keys that are arranged anew hold what they held.
use Rattle.std.proofs.Common.{sym, ap, subst, ◌∙◌}
use Rattle.mtrace_replay.specs.Keys.{Kept}
use Rattle.mtrace_replay.specs.Key.{all_held}
use Rattle.mtrace_replay.specs.Index.{Indexed, IsIndex}
use Rattle.mtrace_replay.proofs.Index.IndexLemmas.{arranged_held, arranged_keeps}
use Rattle.mtrace_replay.proofs.heap.index.Index.settle.Goals as goal

pub invariant_of-self-then-moved-keys-2 : goal.invariant_of-self-then-moved-keys-2
invariant_of-self-then-moved-keys-2 c =
    let index = subst (λ (kept : Kept). IsIndex kept c.self.inside.blocks c.self.inside.bytes) (sym c.set_hint.ensures) c.self.invariant in
    arranged_keeps c.set_hint.new.self c.arrange.new.keys index.rows c.arrange.ensures.held c.arrange.ensures.rows c.self.inside.blocks c.self.inside.bytes index
    c.arrange.ensures.rise c.arrange.ensures.within c.arrange.ensures.rows.room

pub returns-then-moved-keys-2-clause-unchanged : goal.returns-then-moved-keys-2-clause-unchanged
returns-then-moved-keys-2-clause-unchanged c =
    let index = subst (λ (kept : Kept). IsIndex kept c.self.inside.blocks c.self.inside.bytes) (sym c.set_hint.ensures) c.self.invariant in
    arranged_held c.set_hint.new.self c.arrange.new.keys index.rows c.arrange.ensures.held c.arrange.ensures.rows
    ∙ ap (λ (kept : Kept). all_held kept.rows kept.keys) c.set_hint.ensures ∙ ap (λ (index : Indexed). index.all) c.self.view_is
