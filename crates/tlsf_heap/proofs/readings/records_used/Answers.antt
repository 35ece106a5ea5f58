-- Records are vacant or a block's.
use Rattle.std.proofs.Common.{arith}
use Rattle.tlsf_heap.proofs.Inner.Standing.{used_are}
use Rattle.tlsf_heap.proofs.readings.records_used.Goals as goal

pub returns-clause-value : goal.returns-clause-value
returns-clause-value c = omega (arith, used_are c.args.store.now.cells c.requires, c.vacant.ensures.value, c.records.ensures.value)
