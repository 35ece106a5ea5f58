-- Shared room keeps the order of the keys, and what is held.
use Rattle.std.proofs.Common.{◌∙◌, sym, ap, subst, arith}
use Rattle.std.proofs.lemmas.List.{take_all}
use Rattle.mtrace_replay.specs.Key.{RiseFrom}
use Rattle.mtrace_replay.specs.Arrange.{held_keys}
use Rattle.mtrace_replay.proofs.Index.ArrangeLemmas.{alone_rise, alone_alone}
use Rattle.mtrace_replay.proofs.heap.arrange.arrange.Goals as goal

pub space_out-requires-clause-rise : goal.space_out-requires-clause-rise
space_out-requires-clause-rise c =
    let first = c.resize.ensures.first c.len-held.result (omega arith) (omega (arith, c.len-held.ensures.len)) ∙ take_all c.len-held.result c.leave_held.new.keys.keys (omega (arith, c.len-held.ensures.len)) ∙ c.leave_held.ensures.keys in
    subst (RiseFrom 0) (sym first) (alone_rise 0 c.args.keys.now.keys c.requires.rise)

pub returns-clause-held : goal.returns-clause-held
returns-clause-held c =
    let first = c.resize.ensures.first c.len-held.result (omega arith) (omega (arith, c.len-held.ensures.len)) ∙ take_all c.len-held.result c.leave_held.new.keys.keys (omega (arith, c.len-held.ensures.len)) ∙ c.leave_held.ensures.keys in
    c.space_out.ensures.held ∙ ap held_keys first ∙ alone_alone c.args.keys.now.keys
