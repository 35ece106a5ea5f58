-- Rows stay where the number of keys changes.
use Rattle.std.proofs.Common.{arith, ap, ◌∙◌}
use Rattle.mtrace_replay.specs.Keys.{Kept}
use Rattle.mtrace_replay.proofs.Index.KeysLemmas.{rows_are, keys_length}
use Rattle.mtrace_replay.proofs.heap.keys.Keys.resize.Goals as goal

pub invariant_of-self : goal.invariant_of-self
invariant_of-self c =
    let rows = rows_are c.self.inside c.self.invariant c.cover.new.self c.self.view_is in
    let room = ap (λ (k : Kept). k.rows.room) c.self.view_is ∙ c.cover.ensures.rows.room in
    record {
      whole = c.self.invariant.whole;
      used = omega (arith, rows, c.cover.ensures.covered);
      within = omega (arith, room, c.requires);
      fits = c.self.invariant.fits;
      reserved = c.self.invariant.reserved;
      few = c.self.invariant.few;
    }

pub returns-clause-len : goal.returns-clause-len
returns-clause-len c =
    let rows = rows_are c.self.inside c.self.invariant c.cover.new.self c.self.view_is in
    keys_length c.self.inside.chunks.items c.self.invariant.whole c.args.len (omega (arith, rows, c.cover.ensures.covered))
