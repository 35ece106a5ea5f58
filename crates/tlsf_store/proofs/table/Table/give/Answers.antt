-- The record enters the vacant chain in front.
use Rattle.std.proofs.Common.{◌≡◌, Some, arith}
use Rattle.std.proofs.lemmas.List.{length-set}
use Rattle.tlsf_store.specs.Slots.{link_of}
use Rattle.tlsf_store.proofs.RecordLaws.{link_of-slot}
use Rattle.tlsf_store.proofs.TableViews.{give_changes, shown_length}
use Rattle.tlsf_store.proofs.table.Table.give.Goals as goal

pub invariant_of-self : goal.invariant_of-self
invariant_of-self c =
    let link : link_of c.args.slot ≡ Some c.args.slot =
    link_of-slot c.args.slot (λ is. omega (arith, is, c.requires.within, c.self.invariant.table.few, shown_length c.self.inside.items.items c.args.self.now c.self.view_is)) in
    rw (c.index.ensures, c.slot.view_is, link)
    (record {
      exact = c.self.invariant.exact;
      fits = omega (arith, c.self.invariant.fits, length-set c.self.inside.items.items c.args.slot c.vacant.result);
      table = (give_changes _ c.args.self.now _ _ c.self.invariant.table c.self.view_is c.args.slot c.vacant.result c.requires.within c.requires.used c.vacant.ensures).table;
    })

pub returns : goal.returns
returns c =
    rw c.index.ensures
    (give_changes _ c.args.self.now _ _ c.self.invariant.table c.self.view_is c.args.slot c.vacant.result c.requires.within c.requires.used c.vacant.ensures).view
