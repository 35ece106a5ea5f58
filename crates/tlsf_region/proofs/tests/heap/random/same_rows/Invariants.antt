-- The rows so far are equal.
use Rattle.tlsf_region.proofs.tests.heap.random.same_rows.Given as goal

abbrev pub invariant-loop-row : goal.invariant-loop-row
invariant-loop-row g l = g.A.Heaped.stands l.tlsf l.one × g.B.Heaped.stands l.plain l.other
