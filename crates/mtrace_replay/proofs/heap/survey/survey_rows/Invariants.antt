use Rattle.std.proofs.Common.{◌≡◌, ◌+◌, ◌*◌, ◌^◌, ◌≤◌, List, ◌++◌, length}
use Rattle.tlsf_heap.specs.declared.row.Row.{Row}
use Rattle.tlsf_heap.specs.Pools.{most_records}
use Rattle.mtrace_replay.specs.Survey.{SurveysRows}
use Rattle.mtrace_replay.proofs.heap.survey.survey_rows.Given as goal

-- the rows so far, and those that are left, are all
abbrev pub invariant-loop-next : goal.invariant-loop-next
invariant-loop-next g l = record {
  stands : g.H.Heaped.stands l.heap l.here;
  past : List Row;
  survey : SurveysRows past l.survey;
  all : past ++ g.H.Heaped.rest l.heap l.here ≡ g.H.Heaped.rest l.initial.heap l.fn.cursor;
  few_blocks : l.survey.free_blocks + length (g.H.Heaped.rest l.heap l.here) ≤ most_records;
  few_bytes : l.survey.free_bytes + 2 ^ 32 * length (g.H.Heaped.rest l.heap l.here) ≤ 2 ^ 32 * most_records;
  same : g.H.Heaped.content l.heap ≡ g.H.Heaped.content l.initial.heap;
}

-- how many rows are left
abbrev pub decreases-loop-next : goal.decreases-loop-next
decreases-loop-next g l = length (g.H.Heaped.rest l.heap l.here)
