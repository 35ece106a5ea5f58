-- One key changes, and no row.
use Rattle.std.proofs.Common.{◌/◌, refl, arith}
use Rattle.mtrace_replay.proofs.Index.KeysLemmas.{key_written, rows_stay, len_is}
use Rattle.mtrace_replay.proofs.heap.keys.Keys.set_key.Goals as goal

pub returns-clause-keys : goal.returns-clause-keys
returns-clause-keys c =
    key_written c.self.inside c.self.invariant c.args.self.now c.self.view_is c.args.at c.index_mut.result.now c.args.key.now c.requires c.index_mut.ensures.value

pub returns-clause-rows : goal.returns-clause-rows
returns-clause-rows c =
    let len = len_is c.self.inside c.self.invariant c.args.self.now c.self.view_is in
    rows_stay c.self.inside c.self.invariant c.args.self.now c.self.view_is (c.args.at / 64) c.index_mut.result.now _ (omega (arith, len, c.requires, c.self.invariant.used)) c.index_mut.ensures.value refl
