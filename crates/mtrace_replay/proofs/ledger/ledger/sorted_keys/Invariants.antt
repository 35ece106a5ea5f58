-- The keys so far, and those to come, are all.
use Rattle.std.proofs.Common.{◌≡◌, ◌++◌}
use Rattle.std.specs.HashMap.{keys}
use Rattle.mtrace_replay.proofs.ledger.ledger.sorted_keys.Given as goal

abbrev pub invariant-loop-address : goal.invariant-loop-address
invariant-loop-address l = l.all.items ++ l.address-iterator ≡ keys l.held
