-- The rows so far are those wanted.
use Rattle.tlsf_region.proofs.tests.heap.rows.has_rows.Given as goal

abbrev pub invariant-loop-place : goal.invariant-loop-place
invariant-loop-place g l = g.H.Heaped.stands l.heap l.cursor
