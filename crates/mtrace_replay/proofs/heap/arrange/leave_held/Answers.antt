-- The held keys move to the front one by one, in their order.
use Rattle.std.proofs.Common.{◌∙◌, sym, arith, is_some}
use Rattle.mtrace_replay.proofs.Index.ArrangeLemmas.{is_not, is_so, leaves_held, leaves_vacant}
use Rattle.mtrace_replay.proofs.heap.arrange.leave_held.Goals as goal

pub loop-at-preserved-then-is_vacant : goal.loop-at-preserved-then-is_vacant
loop-at-preserved-then-is_vacant c =
    let has = c.loop-at.invariant.leaves in
    record {
      leaves = leaves_vacant c.args.keys.now.keys c.loop-at.keys.keys c.loop-at.at c.loop-at.held (omega (arith, c.loop-at-test.true, c.len-at-end.ensures.len)) has c.key-key.result (c.key-key.ensures c.key-key.result)
          (is_not (is_some c.key-key.result.block) (sym c.is_vacant.ensures ∙ c.if-is_vacant.true));
      rows = c.loop-at.invariant.rows;
    }

pub loop-at-preserved : goal.loop-at-preserved
loop-at-preserved c =
    let has = c.loop-at.invariant.leaves in
    record {
      leaves = leaves_held c.args.keys.now.keys c.loop-at.keys.keys c.loop-at.at c.loop-at.held (omega (arith, c.loop-at-test.true, c.len-at-end.ensures.len)) has c.key-key.result (c.key-key.ensures c.key-key.result)
          (is_so (is_some c.key-key.result.block) (sym c.is_vacant.ensures ∙ c.if-is_vacant.false)) c.set_key.new.self.keys c.set_key.ensures.keys;
      rows = c.set_key.ensures.rows ∙ c.loop-at.invariant.rows;
    }
