-- The bytes so far are 0.
use Rattle.std.proofs.Common.{◌≡◌, replicate, vec_capacity}
use Rattle.tlsf_region.proofs.region.Region.create.Given as goal

abbrev pub invariant-loop-done : goal.invariant-loop-done
invariant-loop-done l =
    record {
      zeros : l.bytes.items ≡ replicate l._done 0;
      room : vec_capacity l.bytes ≡ l.len;
    }
