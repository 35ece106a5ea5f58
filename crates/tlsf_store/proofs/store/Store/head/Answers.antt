-- A head's link is below the number of records.
use Rattle.std.proofs.Common.{ap, subst, length, slice_index_or, arith}
use Rattle.tlsf_store.specs.Records.{IsBelow}
use Rattle.tlsf_store.specs.Slots.{link_of}
use Rattle.tlsf_store.proofs.Heads.{head_below}
use Rattle.tlsf_store.proofs.store.Store.head.Goals as goal

pub returns-clause-below : goal.returns-clause-below
returns-clause-below c =
    let heads = c.self.inside.heads in
    let number = c.number.result in
    rw c.link_of.ensures
    (subst (λ n. IsBelow n (link_of (slice_index_or heads number 0))) (ap (λ v. length v.cells.records) c.self.view_is)
    (head_below (length c.self.inside.table) heads c.self.invariant.heads_below number 0 (omega (arith, c.number.ensures.below, c.self.told.0))))
