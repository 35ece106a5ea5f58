-- Sums and greatest of both parts are those of the whole.
use Rattle.mtrace_replay.proofs.OnHeap.RowLemmas.{rows_joined}
use Rattle.mtrace_replay.proofs.heap.survey.Survey.joined.Goals as goal

pub returns-clause-joined : goal.returns-clause-joined
returns-clause-joined c = λ first second own others. rows_joined c.args.self c.args.more c.max.result c.max-2.result first second c.max.ensures c.max-2.ensures own others
