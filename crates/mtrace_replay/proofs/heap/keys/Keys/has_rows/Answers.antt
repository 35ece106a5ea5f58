-- As many rows are there as the chunks hold.
use Rattle.std.proofs.Common.{arith}
use Rattle.std.proofs.lemmas.Bool.Decides.{nat_tests}
use Rattle.mtrace_replay.proofs.Index.KeysLemmas.{covers}
use Rattle.mtrace_replay.proofs.heap.keys.Keys.has_rows.Goals as goal

pub returns-clause-has : goal.returns-clause-has
returns-clause-has c told =
    (covers c.self.inside c.self.invariant c.args.self.now c.self.view_is c.args.count c.len.result (omega (arith, c.len.ensures))).0 (grind (arith, nat_tests, c.div_ceil.ensures, told))

pub returns-clause-lacks : goal.returns-clause-lacks
returns-clause-lacks c told =
    (covers c.self.inside c.self.invariant c.args.self.now c.self.view_is c.args.count c.len.result (omega (arith, c.len.ensures))).1 (grind (arith, nat_tests, c.div_ceil.ensures, told))
