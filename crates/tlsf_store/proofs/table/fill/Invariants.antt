-- The records so far are the chain's.
use Rattle.std.proofs.Common.{◌≡◌, vec_capacity}
use Rattle.tlsf_store.specs.Slots.{link_of}
use Rattle.tlsf_store.proofs.TableMaking.{IsBegun}
use Rattle.tlsf_store.proofs.table.fill.Given as goal

abbrev pub invariant-loop-number : goal.invariant-loop-number
invariant-loop-number l =
    record {
      room : vec_capacity l.items ≡ vec_capacity l.fn.items;
      begun : IsBegun l.count l.items.items (link_of l.first) l.number;
    }
