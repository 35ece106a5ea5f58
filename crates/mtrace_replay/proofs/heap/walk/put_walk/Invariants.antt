use Rattle.std.proofs.Common.{◌≡◌, flat_map, map, drop}
use Rattle.mtrace_log.proofs.Writing.{IsPutting}
use Rattle.tlsf_heap.specs.Counted.{range_of}
use Rattle.mtrace_replay.specs.Texts.{rows_text}
use Rattle.mtrace_replay.proofs.OnHeap.RowLemmas.{by_base}
use Rattle.mtrace_replay.proofs.heap.walk.put_walk.Given as goal

-- the pools so far are put, and those of the rest are left
abbrev pub invariant-loop-range : goal.invariant-loop-range
invariant-loop-range g l =
    let pools = (g.H.Heaped.content l.fn.heap).pools in
    record {
      put : IsPutting (flat_map (by_base rows_text pools) (map range_of pools))
          (flat_map (by_base rows_text pools) (drop l.range-index (map range_of pools))) (g.W.Sink.shown l.initial.writer) (g.W.Sink.shown l.writer);
      same : g.H.Heaped.content l.heap ≡ g.H.Heaped.content l.fn.heap;
    }
