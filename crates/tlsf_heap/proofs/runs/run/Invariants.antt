-- The answers so far are those of a run.
use Rattle.std.proofs.Common.{◌≡◌, length, take, vec_len, vec_capacity}
use Rattle.tlsf_heap.specs.Run.{Run}
use Rattle.tlsf_heap.proofs.runs.run.Given as goal

abbrev pub invariant-loop-request : goal.invariant-loop-request
invariant-loop-request g l = record {
  count : vec_len l.answers ≡ l.request-index;
  room : vec_capacity l.answers ≡ length l.requests;
  answered : Run g.H.Heaped.lacks (take l.request-index l.requests) l.answers.items (g.H.Heaped.content l.initial.heap) (g.H.Heaped.content l.heap) (g.H.Heaped.touches l.initial.heap) (g.H.Heaped.touches l.heap);
}
