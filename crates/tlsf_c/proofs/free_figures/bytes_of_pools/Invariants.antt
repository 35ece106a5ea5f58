use Rattle.std.proofs.Common.{◌≡◌, ◌*◌, ◌^◌, ◌≤◌, take}
use Rattle.std.specs.Prelude.{sum_by}
use Rattle.tlsf_c.specs.FreeFigures.{entry_bytes}
use Rattle.tlsf_c.proofs.free_figures.bytes_of_pools.Given as goal

-- the bytes of the entries so far
abbrev pub invariant-loop-pool : goal.invariant-loop-pool
invariant-loop-pool l = record {
  pools : l.pools ≡ l.fn.pools;
  bytes : l.bytes ≡ sum_by entry_bytes (take l.pool-index l.pools);
  few : l.bytes ≤ 2 ^ 33 * l.pool-index;
}
