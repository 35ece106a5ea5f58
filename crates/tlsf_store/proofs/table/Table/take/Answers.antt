use Rattle.std.proofs.Common.{◌≡◌, ◌∙◌, ◌<◌, Some, ap, subst, length, arith}
use Rattle.std.proofs.lemmas.List.{get_or_default, length-set}
use Rattle.tlsf_store.specs.declared.records.State.TheVariants.{Free}
use Rattle.tlsf_store.specs.Records.{blank, blank_in, record_at}
use Rattle.tlsf_store.specs.Table.{IsTable}
use Rattle.tlsf_store.proofs.RecordLaws.{link_of-slot}
use Rattle.tlsf_store.proofs.TableViews.{Taken, take_changes, shown_length}
use Rattle.tlsf_store.proofs.table.Table.take.Goals as goal

-- what taking the first slot changes
taking : (c : goal.After-self-3-1) → Taken c.self.inside.items.items c.args.self.now c.self.inside.first c.self.inside.vacant
taking c =
    let items = c.self.inside.items.items in
    let slot = c.self.inside.first in
    let table : IsTable items (Some slot) c.self.inside.vacant = subst (λ v. IsTable items v c.self.inside.vacant) (link_of-slot slot c.if-slot.false) c.self.invariant.table in
    take_changes items c.args.self.now c.self.inside.vacant slot table c.self.view_is

pub invariant_of-self : goal.invariant_of-self
invariant_of-self c =
    let items = c.self.inside.items.items in
    let slot = c.self.inside.first in
    let taken : Taken items c.args.self.now slot c.self.inside.vacant = taking c in
    let within : c.from-index.result < length items = omega (arith, taken.within, shown_length items c.args.self.now c.self.view_is, c.from-index.ensures) in
    let is : c.index.result.now ≡ record_at items slot =
    c.index.ensures ∙ (get_or_default items c.from-index.result c.index.result.now blank within ∙ ap (λ v. record_at items v) c.from-index.ensures) in
    rw (c.from-index.ensures, (c.pack.ensures ∙ c.blank.ensures), c.next_word-self-inside.ensures ∙ ap (λ v. v.next) is)
    (record {
      exact = c.self.invariant.exact;
      fits = omega (arith, c.self.invariant.fits, length-set items slot (blank_in Free));
      table = taken.changed.table;
    })

pub returns : goal.returns
returns c =
    let taken : Taken c.self.inside.items.items c.args.self.now c.self.inside.first c.self.inside.vacant = taking c in
    (taken.within, taken.was, rw (c.from-index.ensures, (c.pack.ensures ∙ c.blank.ensures)) taken.changed.view)
