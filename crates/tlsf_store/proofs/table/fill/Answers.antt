-- One vacant record more in each turn, linked to the one before.
use Rattle.std.proofs.Common.{◌≡◌, ◌∙◌, ◌<◌, Some, subst, arith}
use Rattle.tlsf_store.specs.Slots.{link_of}
use Rattle.tlsf_store.proofs.RecordLaws.{link_of-slot}
use Rattle.tlsf_store.proofs.TableMaking.{IsBegun, begun_vacant, begun_all}
use Rattle.tlsf_store.proofs.table.fill.Goals as goal

pub loop-number-preserved : goal.loop-number-preserved
loop-number-preserved c =
    let e = c.push_reserved.ensures in
    let begun = c.loop-number.invariant.begun in
    let less : c.loop-number.number < c.args.count = c.loop-number-test.true in
    let link : link_of c.loop-number.number ≡ Some c.loop-number.number = link_of-slot c.loop-number.number (λ is. omega (arith, is, less, c.requires.few)) in
    record {
      room = e.capacity ∙ c.loop-number.invariant.room;
      begun = rw (e.items, link) (begun_vacant c.args.count c.loop-number.items.items (link_of c.loop-number.first) c.loop-number.number begun less c.vacant.result c.vacant.ensures);
    }

pub returns-clause-table : goal.returns-clause-table
returns-clause-table c =
    let all : c.loop-number.number ≡ c.args.count = omega arith in
    let begun : IsBegun c.args.count c.loop-number.items.items (link_of c.loop-number.first) c.args.count =
    subst (λ n. IsBegun c.args.count c.loop-number.items.items (link_of c.loop-number.first) n) all c.loop-number.invariant.begun in
    begun_all c.args.count c.loop-number.items.items (link_of c.loop-number.first) begun c.requires.few
