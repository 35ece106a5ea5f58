-- The pool's one block leaves its list, then the pool leaves.
use Rattle.std.proofs.Common.{refl, ap, ◌∙◌, length, arith}
use Rattle.tlsf_store.specs.Cells.{Cells}
use Rattle.tlsf_heap.specs.Inner.Nodes.{Listed, Loose}
use Rattle.tlsf_heap.specs.Inner.At.{At, StandsAt, at_unlisted}
use Rattle.tlsf_heap.proofs.Inner.Steps.{slot_used}
use Rattle.tlsf_heap.proofs.Inner.Allotted.{listed_read, read_leaves}
use Rattle.tlsf_heap.proofs.Inner.Removed.{pools_stay, area_leaves}
use Rattle.tlsf_heap.proofs.remove_pool.drop_pool.Goals as goal
use Rattle.tlsf_heap.proofs.remove_pool.drop_pool.Goals.{After-unlink}

pub unlink-requires-clause-some : goal.unlink-requires-clause-some
unlink-requires-clause-some c = omega (arith, (listed_read c.args.store.now.cells c.args.slot c.args.block.now c.requires.stands.0 c.requires.stands.1 c.requires.read).some)

pub unlink-requires-clause-whole : goal.unlink-requires-clause-whole
unlink-requires-clause-whole c = (listed_read c.args.store.now.cells c.args.slot c.args.block.now c.requires.stands.0 c.requires.stands.1 c.requires.read).whole

pub unlink-requires-clause-most : goal.unlink-requires-clause-most
unlink-requires-clause-most c = (listed_read c.args.store.now.cells c.args.slot c.args.block.now c.requires.stands.0 c.requires.stands.1 c.requires.read).most

pub unlink-requires-clause-prev_used : goal.unlink-requires-clause-prev_used
unlink-requires-clause-prev_used c = (listed_read c.args.store.now.cells c.args.slot c.args.block.now c.requires.stands.0 c.requires.stands.1 c.requires.read).prev_used

pub unlink-requires-clause-next_used : goal.unlink-requires-clause-next_used
unlink-requires-clause-next_used c = (listed_read c.args.store.now.cells c.args.slot c.args.block.now c.requires.stands.0 c.requires.stands.1 c.requires.read).next_used

-- the block once it left its list
unlisted : (c : After-unlink) (at : At) → StandsAt c.args.slot Listed c.args.store.now.cells at → StandsAt c.args.slot Loose c.unlink.new.store.cells (at_unlisted at)
unlisted c at stands = read_leaves c.args.store.now.cells c.unlink.new.store.cells c.args.slot _ c.args.block.now at stands c.requires.read refl c.unlink.ensures.cells

pub give_vacant-requires-clause-within : goal.give_vacant-requires-clause-within
give_vacant-requires-clause-within c =
    (slot_used c.unlink.new.store.cells c.args.slot Loose (at_unlisted c.requires.stands.0) (unlisted (goal.at.give_vacant-requires-clause-within c).After-unlink c.requires.stands.0 c.requires.stands.1)).0

pub give_vacant-requires-clause-used : goal.give_vacant-requires-clause-used
give_vacant-requires-clause-used c =
    (slot_used c.unlink.new.store.cells c.args.slot Loose (at_unlisted c.requires.stands.0) (unlisted (goal.at.give_vacant-requires-clause-used c).After-unlink c.requires.stands.0 c.requires.stands.1)).1

pub set_entries-requires-clause-count : goal.set_entries-requires-clause-count
set_entries-requires-clause-count c =
    let left = unlisted (goal.at.set_entries-requires-clause-count c).After-unlink c.requires.stands.0 c.requires.stands.1 in
    ap (λ (s : Cells). length s.pools) c.give_vacant.ensures.left.cells ∙ ap length (pools_stay c.args.store.now.cells c.unlink.new.store.cells c.args.slot c.requires.stands.0 c.requires.stands.1 left).0 ∙ c.requires.count

pub returns-clause-leads : goal.returns-clause-leads
returns-clause-leads c at stands none_before none_behind entries_are =
    rw (c.set_entries.ensures.cells, c.give_vacant.ensures.left.cells, entries_are) (area_leaves c.unlink.new.store.cells c.args.slot at (unlisted (goal.at.returns-clause-leads c).After-unlink at stands) none_before none_behind)
