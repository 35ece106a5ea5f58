-- One row changes, and no key.
use Rattle.std.proofs.Common.{◌<◌, ◌/◌, length, set, refl, arith, ap, ◌∙◌}
use Rattle.mtrace_replay.specs.Keys.{Kept}
use Rattle.mtrace_replay.proofs.Index.KeysLemmas.{rows_are, row_written, keys_stay, sets_row}
use Rattle.mtrace_replay.proofs.heap.keys.Keys.set_row.Goals as goal

pub index_mut-requires : goal.index_mut-requires
index_mut-requires c =
    let rows = rows_are c.self.inside c.self.invariant c.cover.new.self c.self.view_is in
    omega (arith, rows, c.cover.ensures.covered)

pub returns-clause-keys : goal.returns-clause-keys
returns-clause-keys c =
    let rows = rows_are c.self.inside c.self.invariant c.cover.new.self c.self.view_is in
    keys_stay c.self.inside c.self.invariant c.cover.new.self c.self.view_is (c.number-number.result / 64) c.index_mut.result.now _
    (omega (arith, rows, c.cover.ensures.covered)) c.index_mut.ensures.value refl ∙ c.cover.ensures.keys

pub returns-clause-rows : goal.returns-clause-rows
returns-clause-rows c =
    let number = c.number-number.result in
    let there : number < length c.cover.new.self.rows.entries = omega (arith, c.cover.ensures.covered) in
    sets_row c.args.slot number c.args.entry.now c.args.self.now.rows c.cover.new.self.rows _ c.cover.ensures.rows (omega (arith, c.requires, c.cover.ensures.rows.room)) (omega (arith, c.number-number.ensures.number, c.cover.ensures.rows.room)) there
    (ap (λ (k : Kept). k.rows.room) c.self.view_is)
    (row_written c.self.inside c.self.invariant c.cover.new.self c.self.view_is number c.index_mut.result.now _ there c.index_mut.ensures.value ∙ ap (set c.cover.new.self.rows.entries number) c.set.ensures)
