-- Each record so far is kept.
use Rattle.std.proofs.Common.{◌≡◌, ◌+◌, All, length, take}
use Rattle.tlsf_store.specs.Records.{IsKept}
use Rattle.tlsf_store.proofs.words.are_kept.Given as goal

abbrev pub invariant-loop-item : goal.invariant-loop-item
invariant-loop-item l =
    record {
      kept : All (IsKept (length l.records)) (take l.item-index l.records);
      touched : l.touches.count ≡ l.fn.touches.count + l.item-index;
    }
