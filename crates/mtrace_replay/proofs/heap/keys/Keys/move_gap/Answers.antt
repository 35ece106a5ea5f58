-- The keys between the gap and its new position move by one.
use Rattle.std.proofs.Common.{◌<◌, length, arith, ap, ◌∙◌}
use Rattle.std.proofs.lemmas.List.{length-set}
use Rattle.std.specs.List.{remove}
use Rattle.mtrace_replay.specs.declared.heap.key.Key.{Key}
use Rattle.mtrace_replay.proofs.Index.GapLemmas.{gap_moves}
use Rattle.mtrace_replay.proofs.heap.keys.Keys.move_gap.Goals as goal

pub loop-hole-preserved : goal.loop-hole-preserved
loop-hole-preserved c =
    let keys = c.loop-hole.self.keys in
    let next = c.next_position-next.result in
    let there : c.args.at < length keys = omega (arith, c.loop-hole.invariant.len, c.requires.at) in
    let as_many = ap (length {A = Key}) c.set_key.ensures.keys ∙ length-set keys c.loop-hole.hole c.key-key.result in
    record {
      others = ap (λ new. remove new next) c.set_key.ensures.keys
          ∙ gap_moves keys c.loop-hole.hole c.args.at next c.key-key.result c.loop-hole-test.true c.loop-hole.invariant.within there c.next_position-next.ensures.up c.next_position-next.ensures.down
          (c.key-key.ensures c.key-key.result) ∙ c.loop-hole.invariant.others;
      len = as_many ∙ c.loop-hole.invariant.len;
      rows = c.set_key.ensures.rows ∙ c.loop-hole.invariant.rows;
      within = grind (arith, as_many, there, c.loop-hole.invariant.within, c.loop-hole-test.true, c.next_position-next.ensures.up, c.next_position-next.ensures.down);
    }
