-- Each entry so far is below the count.
use Rattle.std.proofs.Common.{All, take}
use Rattle.tlsf_store.specs.Cells.{IsPoolBelow}
use Rattle.tlsf_store.proofs.words.are_pools_below.Given as goal

abbrev pub invariant-loop-entry : goal.invariant-loop-entry
invariant-loop-entry l = All (IsPoolBelow l.count) (take l.entry-index l.entries)
