-- The invariant's layout is good.
use Rattle.tlsf_heap.proofs.Inner.Standing.{content_is_good, slots_are_good}
use Rattle.tlsf_heap.proofs.Good.Implied.{has_aligned_blocks, has_disjoint_blocks, lists_free_blocks, lists_nothing_else}
use Rattle.tlsf_heap.proofs.heap.Heap.keeps_good.Goals as goal

pub returns-clause-good : goal.returns-clause-good
returns-clause-good c = rw (← c.self.view_is) (content_is_good c.self.inside.store.cells c.self.invariant)

pub returns-clause-slots : goal.returns-clause-slots
returns-clause-slots c = rw (← c.self.view_is) (slots_are_good c.self.inside.store.cells c.self.invariant)

pub returns-clause-laid_out : goal.returns-clause-laid_out
returns-clause-laid_out c =
    let good = content_is_good c.self.inside.store.cells c.self.invariant in
    record {
      aligned = rw (← c.self.view_is) (has_aligned_blocks _ good);
      disjoint = rw (← c.self.view_is) (has_disjoint_blocks _ good);
      listed_once = rw (← c.self.view_is) (lists_free_blocks _ good);
      listed_alone = rw (← c.self.view_is) (lists_nothing_else _ good);
    }
