use Rattle.std.proofs.Common.{◌≡◌, ◌+◌, ◌-◌, ◌≤◌, length}
use Rattle.tlsf_store.specs.Records.{IsBelow}
use Rattle.tlsf_heap.specs.Images.Findings.{chain_found, OnlyReads}
use Rattle.tlsf_heap.proofs.Images.ChainLemmas.{rest_found}
use Rattle.tlsf_heap.proofs.image.chains.look_at_chain.Given as goal

-- what is found of the blocks up to here and those that are left is what is found of the chain
abbrev pub invariant-loop-next : goal.invariant-loop-next
invariant-loop-next g l =
    let sections = g.T.HasSections.sections l.fn.table in
    record {
      read : OnlyReads g.T.HasSections.sections g.T.HasSections.cells g.T.HasSections.touches l.fn.table l.table;
      below : IsBelow (length sections.records) l.next;
      few : l.tally.blocks ≤ length sections.records;
      told : rest_found sections (l.fn.pool.base + l.fn.pool.bytes) l.tally l.front l.next ≡ chain_found sections l.fn.pool;
    }

abbrev pub decreases-loop-next : goal.decreases-loop-next
decreases-loop-next g l = length (g.T.HasSections.sections l.fn.table).records - l.tally.blocks
