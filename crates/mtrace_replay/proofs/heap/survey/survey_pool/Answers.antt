-- A pool has no more rows than the heap has records.
use Rattle.std.proofs.Common.{List, length, ap, arith}
use Rattle.tlsf_heap.specs.declared.row.Row.{Row}
use Rattle.mtrace_replay.specs.Rows.{or_none}
use Rattle.mtrace_replay.proofs.OnHeap.RowLemmas.{rows_few}
use Rattle.mtrace_replay.proofs.heap.survey.survey_pool.Goals as goal

pub survey_rows-requires-clause-few : goal.survey_rows-requires-clause-few
survey_rows-requires-clause-few g c =
    let same = ap (λ (rows : List Row). length rows) (ap or_none c.in-Ok.ensures.found.ok) in
    omega (arith, same, rows_few (g.H.Heaped.content c.args.heap.now).pools c.args.base, c.requires.few)
