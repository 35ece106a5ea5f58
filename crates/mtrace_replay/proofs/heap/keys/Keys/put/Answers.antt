-- A gap that moved and was written is the key put at its position.
use Rattle.std.proofs.Common.{arith, ap, length, ◌∙◌}
use Rattle.std.specs.List.{insert, remove}
use Rattle.mtrace_replay.specs.declared.heap.key.Key.{Key}
use Rattle.mtrace_replay.proofs.Index.GapLemmas.{set_is_put}
use Rattle.mtrace_replay.proofs.heap.keys.Keys.put.Goals as goal

pub returns-clause-keys : goal.returns-clause-keys
returns-clause-keys c =
    c.set_key.ensures.keys
    ∙ set_is_put c.move_gap.new.self.keys c.args.at c.new.result (omega (arith, c.move_gap.ensures.len, ap (length {A = Key}) c.set_row.ensures.keys, c.requires.at))
    ∙ ap (λ others. insert others c.args.at c.new.result) (c.move_gap.ensures.others ∙ ap (λ keys. remove keys c.args.gap) c.set_row.ensures.keys)
    ∙ ap (insert (remove c.args.self.now.keys c.args.gap) c.args.at) c.new.ensures
