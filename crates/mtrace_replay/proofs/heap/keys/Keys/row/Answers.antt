-- A slot is in one chunk, at one position of it.
use Rattle.std.proofs.Common.{arith, slice_index_or, ap, sym, ◌∙◌}
use Rattle.mtrace_replay.proofs.Index.KeysLemmas.{row_read, rows_are}
use Rattle.mtrace_replay.proofs.heap.keys.Keys.row.Goals as goal

pub index-requires : goal.index-requires
index-requires c =
    let rows = rows_are c.self.inside c.self.invariant c.args.self.now c.self.view_is in
    omega (arith, rows, c.requires.1, c.number-number.ensures.number)

pub returns : goal.returns
returns c default =
    sym c.index-index-number.is ∙
    row_read c.self.inside c.self.invariant c.args.self.now c.self.view_is c.number-number.result c.index.result.now c.index-index-number.result default
    (omega (arith, c.requires.1, c.number-number.ensures.number)) c.index.ensures c.index-index-number.is
    ∙ ap (λ n. slice_index_or c.args.self.now.rows.entries n default) c.number-number.ensures.number
