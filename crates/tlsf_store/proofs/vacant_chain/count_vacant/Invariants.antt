-- The count is that of the records so far.
use Rattle.std.proofs.Common.{◌≡◌, ◌+◌, take}
use Rattle.tlsf_store.specs.Records.{vacant_count}
use Rattle.tlsf_store.proofs.vacant_chain.count_vacant.Given as goal

abbrev pub invariant-loop-item : goal.invariant-loop-item
invariant-loop-item l =
    record {
      vacant : l.vacant ≡ vacant_count (take l.item-index l.records);
      touched : l.touches.count ≡ l.fn.touches.count + l.item-index;
    }
