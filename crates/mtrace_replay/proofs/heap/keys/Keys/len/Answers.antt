-- The length is kept beside the chunks.
use Rattle.std.proofs.Common.{length, sym, ap, ◌∙◌}
use Rattle.mtrace_replay.specs.Keys.{Kept}
use Rattle.mtrace_replay.proofs.Index.KeysLemmas.{keys_length}
use Rattle.mtrace_replay.proofs.heap.keys.Keys.len.Goals as goal

pub returns-clause-len : goal.returns-clause-len
returns-clause-len c = sym (keys_length c.self.inside.chunks.items c.self.invariant.whole c.self.inside.len c.self.invariant.used) ∙ ap (λ (k : Kept). length k.keys) c.self.view_is
