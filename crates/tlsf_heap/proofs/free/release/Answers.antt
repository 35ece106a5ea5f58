-- The block is merged with those beside it, and what is left enters its list.
use Rattle.std.proofs.Common.{refl}
use Rattle.tlsf_heap.specs.Inner.At.{previous_merged, next_merged}
use Rattle.tlsf_heap.proofs.free.release.Goals as goal

pub merge_previous-merged-requires-clause-stands : goal.merge_previous-merged-requires-clause-stands
merge_previous-merged-requires-clause-stands c = rw c.of.ensures (c.requires.stands.0, c.requires.stands.1)

pub merge_next-all-requires-clause-stands : goal.merge_next-all-requires-clause-stands
merge_next-all-requires-clause-stands c = (previous_merged c.requires.stands.0, c.merge_previous-merged.ensures.leads c.requires.stands.0 (rw c.of.ensures c.requires.stands.1))

pub enter-requires-clause-stands : goal.enter-requires-clause-stands
enter-requires-clause-stands c =
    (next_merged (previous_merged c.requires.stands.0), rw c.merge_next-all.ensures.slot (c.merge_next-all.ensures.leads (previous_merged c.requires.stands.0) (c.merge_previous-merged.ensures.leads c.requires.stands.0 (rw c.of.ensures c.requires.stands.1))))

pub returns-clause-leads : goal.returns-clause-leads
returns-clause-leads c at stands =
    let end = c.enter.ensures.leads (next_merged (previous_merged at)) (rw c.merge_next-all.ensures.slot (c.merge_next-all.ensures.leads (previous_merged at) (c.merge_previous-merged.ensures.leads at (rw c.of.ensures stands)))) in
    (end.0, record { slot_is = refl; node_state_is = refl; others_settled = end.1.others_settled; covered = end.1.covered })
