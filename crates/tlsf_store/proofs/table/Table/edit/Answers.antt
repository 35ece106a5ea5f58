-- One record changes, and the vacant chain stays.
use Rattle.std.proofs.Common.{refl}
use Rattle.std.specs.Fn.{FnOnceReturnsAtMut}
use Rattle.tlsf_store.specs.Records.{record_at}
use Rattle.tlsf_store.proofs.TableViews.{used_at}
use Rattle.tlsf_store.proofs.table.Table.edit.Goals as goal

pub invariant_of-self : goal.invariant_of-self
invariant_of-self g c =
    let r = c.requires in
    let one = used_at _ _ _ c.args.self.now _ _ c.self.invariant c.self.view_is c.args.slot r.within r.used _ (rw c.index.ensures at c.index_mut.ensures.value) in
    let gave : FnOnceReturnsAtMut g.F.FnOnce c.args.change (record_at c.args.self.now c.args.slot) tt c.change.new.arg2 = record { shown = _; shows = one.seen_as; left = _; met = c.change.ensures; leaves = refl } in
    let is = r.kept c.change.new.arg2 gave one.kept in
    rw c.index.ensures (one.stored c.change.new.arg2 is.0 is.1)

pub returns : goal.returns
returns g c =
    let r = c.requires in
    let one = used_at _ _ _ c.args.self.now _ _ c.self.invariant c.self.view_is c.args.slot r.within r.used _ (rw c.index.ensures at c.index_mut.ensures.value) in
    let gave : FnOnceReturnsAtMut g.F.FnOnce c.args.change (record_at c.args.self.now c.args.slot) tt c.change.new.arg2 = record { shown = _; shows = one.seen_as; left = _; met = c.change.ensures; leaves = refl } in
    (c.change.new.arg2, gave, rw c.index.ensures (one.view c.change.new.arg2 (r.kept c.change.new.arg2 gave one.kept).0))
