use Rattle.std.proofs.Common.{◌≡◌, ◌++◌, take}
use Rattle.tlsf_heap.proofs.entries.push_all.Given as goal

-- the entries so far are appended
abbrev pub invariant-loop-entry : goal.invariant-loop-entry
invariant-loop-entry l = l.entries.items ≡ l.initial.entries.items ++ take l.entry-index l.more
