-- A new chunk is blank, so the keys stay and have blank ones behind.
use Rattle.std.proofs.Common.{arith, rules, ap}
use Rattle.mtrace_replay.specs.Keys.{Kept}
use Rattle.mtrace_replay.proofs.Index.KeysLemmas.{rows_are, added_has, added_keys}
use Rattle.mtrace_replay.proofs.heap.keys.Keys.add_chunk.Goals as goal

pub push_reserved-requires : goal.push_reserved-requires
push_reserved-requires c =
    let rows = rows_are c.self.inside c.self.invariant c.args.self.now c.self.view_is in
    let room = ap (λ (k : Kept). k.rows.room) c.self.view_is in
    omega (arith, rows, room, c.requires, c.self.invariant.fits, c.self.invariant.reserved)

pub invariant_of-self : goal.invariant_of-self
invariant_of-self c =
    rw (c.push_reserved.ensures.items, c.push_reserved.ensures.capacity) (added_has c.self.inside c.self.invariant c.args.self.now c.self.view_is _ (record { keys = search rules; rows = search rules }))

pub returns-clause-keys : goal.returns-clause-keys
returns-clause-keys c =
    rw c.push_reserved.ensures.items (added_keys c.self.inside c.self.invariant c.args.self.now c.self.view_is _)
