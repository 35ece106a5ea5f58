-- The next entry is that of the next held key: vacant keys are passed over.
use Rattle.std.proofs.Common.{rules, arith, ◌+◌, ◌<◌, ◌∷◌, map, drop, length, subst, sym, ap, ap₂, ◌∙◌}
use Rattle.mtrace_replay.specs.Holding.{Holding}
use Rattle.mtrace_replay.specs.Keys.{Kept, HasRow, row_at}
use Rattle.mtrace_replay.specs.Key.{all_held}
use Rattle.mtrace_replay.proofs.Index.HoldingLemmas.{slot_there, next_held, next_vacant}
use Rattle.mtrace_replay.proofs.heap.index.EntriesIterator.next.Goals as goal

pub row-requires : goal.row-requires
row-requires c =
    let keys = c.self.inside.keys.now in
    let within : c.loop-self.self-inside.at < length keys.keys = omega (arith, c.len.ensures.len, c.loop-self-test.true) in
    let row = slot_there keys.rows keys.keys c.loop-self.self-inside.at c.key-key.result c.in-Some.ptr c.loop-self.invariant.rows within (c.key-key.ensures c.key-key.result) (sym c.block.ensures ∙ c.in-Some.is) in
    subst (HasRow keys.rows) (sym c.slot.ensures) row.0

pub returns-in-Some-clause-steps : goal.returns-in-Some-clause-steps
returns-in-Some-clause-steps c =
    let keys = c.self.inside.keys.now in
    let at = c.loop-self.self-inside.at in
    let within : at < length keys.keys = omega (arith, c.len.ensures.len, c.loop-self-test.true) in
    sym c.loop-self.invariant.left
    ∙ next_held keys.rows keys.keys at c.key-key.result c.in-Some.ptr c.row.result.now c.loop-self.invariant.rows within (c.key-key.ensures c.key-key.result) (sym c.block.ensures ∙ c.in-Some.is)
    ∙ ap₂ (λ first rest. first ∷ rest) (ap (λ slot. row_at keys.rows slot c.row.result.now) (sym c.slot.ensures) ∙ sym (c.row.ensures c.row.result.now))
    (ap (λ (k : Kept). map (λ (holding : Holding). holding.entry) (all_held k.rows (drop (at + 1) k.keys))) (sym c.loop-self.invariant.same))

pub returns-in-Some-clause-goes : goal.returns-in-Some-clause-goes
returns-in-Some-clause-goes c =
    let steps = returns-in-Some-clause-steps c in
    let more = ap length steps in
    search (rules, arith, more)

pub loop-self-preserved : goal.loop-self-preserved
loop-self-preserved c =
    let keys = c.self.inside.keys.now in
    let at = c.loop-self.self-inside.at in
    let within : at < length keys.keys = omega (arith, c.len.ensures.len, c.loop-self-test.true) in
    record {
      left = sym (next_vacant keys.rows keys.keys at c.key-key.result within (c.key-key.ensures c.key-key.result) (sym c.block.ensures ∙ c.in_default.is)) ∙ c.loop-self.invariant.left;
      rows = c.loop-self.invariant.rows;
      same = c.loop-self.invariant.same;
    }
