use Rattle.std.proofs.Common.{◌≡◌, ◌≤◌, map, take}
use Rattle.tlsf_heap.specs.Content.{blocks_of}
use Rattle.tlsf_heap.specs.Counted.{IsUnchanged, range_of}
use Rattle.tlsf_heap.specs.Room.{live_bytes}
use Rattle.tlsf_c.proofs.LivePools.{live_in}
use Rattle.tlsf_c.proofs.live_count.count_live.Given as goal

-- what is live in the pools so far was counted
abbrev pub invariant-loop-range : goal.invariant-loop-range
invariant-loop-range l =
    record {
      ranges : l.ranges ≡ map range_of l.fn.heap.content.pools;
      blocks : l.blocks ≡ live_in (blocks_of (take l.range-index l.fn.heap.content.pools));
      bytes : l.bytes ≡ live_bytes (blocks_of (take l.range-index l.fn.heap.content.pools));
      unchanged : IsUnchanged l.fn.heap l.heap;
      floor : l.fn.heap.touches ≤ l.heap.touches;
    }
