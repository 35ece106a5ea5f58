-- From the last position down each key that moves keeps its order, and the positions between are vacant.
use Rattle.std.proofs.Common.{arith, ap, ◌∙◌}
use Rattle.mtrace_replay.specs.declared.heap.key.Key.{Key}
use Rattle.mtrace_replay.proofs.Index.ArrangeLemmas.{spreads_held, spreads_vacant}
use Rattle.mtrace_replay.proofs.heap.arrange.space_out.Goals as goal

pub loop-end-preserved-then-is_its_position : goal.loop-end-preserved-then-is_its_position
loop-end-preserved-then-is_its_position c =
    record {
      spreads = spreads_held c.args.keys.now.keys c.loop-end.keys.keys c.set_key.new.self.keys c.args.held c.loop-end.left c.loop-end.end c.key-key.result c.loop-end-test.true c.loop-end.invariant.spreads
          c.set_key.ensures.keys (c.is_its_position.ensures.some_left c.if-is_its_position.true) (c.key-key.ensures c.key-key.result);
      rows = c.set_key.ensures.rows ∙ c.loop-end.invariant.rows;
    }

pub loop-end-preserved : goal.loop-end-preserved
loop-end-preserved c =
    let has = c.loop-end.invariant.spreads in
    let vacant = c.is_its_position.ensures.vacant c.if-is_its_position.false in
    let before = c.is_its_position.ensures.before c.if-is_its_position.false in
    record {
      spreads = spreads_vacant c.args.keys.now.keys c.loop-end.keys.keys c.set_key-in-loop-end.new.self.keys c.args.held c.loop-end.left c.loop-end.end c.vacated-key.result c.loop-end-test.true has
          c.set_key-in-loop-end.ensures.keys (omega (arith, has.order, vacant)) (omega (arith, has.within, has.len, before, c.len-all.ensures.len)) c.key.result (c.key.ensures c.key.result)
          (ap (λ (k : Key). k.address) c.vacated-key.ensures) (ap (λ (k : Key). k.block) c.vacated-key.ensures);
      rows = c.set_key-in-loop-end.ensures.rows ∙ c.loop-end.invariant.rows;
    }
