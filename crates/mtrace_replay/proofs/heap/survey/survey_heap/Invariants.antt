use Rattle.std.proofs.Common.{◌≡◌, ◌*◌, ◌^◌, ◌≤◌, List, ◌++◌, flat_map, map, drop}
use Rattle.tlsf_heap.specs.declared.row.Row.{Row}
use Rattle.tlsf_heap.specs.Pools.{most_records}
use Rattle.tlsf_heap.specs.Counted.{range_of}
use Rattle.mtrace_replay.specs.Survey.{SurveysRows}
use Rattle.mtrace_replay.proofs.OnHeap.RowLemmas.{by_base, just_rows}
use Rattle.mtrace_replay.proofs.heap.survey.survey_heap.Given as goal

-- the rows of the pools so far, and of the rest, are all
abbrev pub invariant-loop-range : goal.invariant-loop-range
invariant-loop-range g l =
    let pools = (g.H.Heaped.content l.fn.heap).pools in
    record {
      past : List Row;
      survey : SurveysRows past l.survey;
      all : past ++ flat_map (by_base just_rows pools) (drop l.range-index (map range_of pools)) ≡ flat_map (by_base just_rows pools) (map range_of pools);
      blocks : l.survey.free_blocks ≤ most_records * l.range-index;
      bytes : l.survey.free_bytes ≤ 2 ^ 32 * most_records * l.range-index;
      same : g.H.Heaped.content l.heap ≡ g.H.Heaped.content l.fn.heap;
    }
