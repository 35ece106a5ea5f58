-- A position is in one chunk, at one position of it.
use Rattle.mtrace_replay.proofs.Index.KeysLemmas.{key_read}
use Rattle.mtrace_replay.proofs.heap.keys.Keys.key.Goals as goal

pub returns : goal.returns
returns c default =
    key_read c.self.inside c.self.invariant c.args.self.now c.self.view_is c.args.at c.index.result.now default _ c.requires c.index.ensures
