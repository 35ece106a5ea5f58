use Rattle.std.proofs.Common.{◌≡◌, ◌≢◌, ◌&&◌, ℕ, true, false, nat_eq, refl, sym, ap, ◌∙◌, arith}
use Rattle.std.proofs.lemmas.Bool.{eqb-true, eq-eqb, and_parts, false≢true}
use Rattle.std.proofs.lemmas.List.{get_or_past}
use Rattle.tlsf_store.specs.declared.records.Record.{Record}
use Rattle.tlsf_store.specs.declared.records.State.TheVariants.{Vacant, Live}
use Rattle.tlsf_store.specs.Records.{blank, record_at, is_live_state}
use Rattle.tlsf_store.specs.Cells.{Cells}
use Rattle.tlsf_heap.proofs.Inner.Live.{state_live, not_live, has_live}
use Rattle.tlsf_heap.proofs.free.live.Goals as goal

Vacant≢Live : Vacant ≢ Live
Vacant≢Live = λ e. cc

-- a record that is of a live block at the place, or isn't
is_live_record : (block : Record) (place : ℕ) → (is_live_state block.state && nat_eq block.place place) ≡ true → (block.state ≡ Live) × (block.place ≡ place)
is_live_record block place is =
    let both = and_parts (is_live_state block.state) (nat_eq block.place place) is in
    (state_live block.state both.0, eqb-true block.place place both.1)

live_record_is : (block : Record) (place : ℕ) → block.state ≡ Live → block.place ≡ place → (is_live_state block.state && nat_eq block.place place) ≡ true
live_record_is block place live at = rw (live, eq-eqb block.place place at) refl

pub returns-then-from-records-clause-value : goal.returns-then-from-records-clause-value
returns-then-from-records-clause-value c =
    let old : Cells = c.args.store.now.cells in
    let past : record_at old.records c.args.ptr.slot ≡ blank = get_or_past old.records c.args.ptr.slot blank (omega (arith, c.if-from-records.true, c.records.ensures.value, c.from.ensures, c.slot.ensures)) in
    sym (not_live old c.requires c.args.ptr.place c.args.ptr.slot (λ live. absurd (Vacant≢Live (sym (ap (λ (r : Record). r.state) past) ∙ live))))

pub returns-then-not-is_live_at-clause-value : goal.returns-then-not-is_live_at-clause-value
returns-then-not-is_live_at-clause-value c =
    let old : Cells = c.args.store.now.cells in
    let block : c.read-block.result ≡ record_at old.records c.args.ptr.slot = rw c.slot-2.ensures at c.read-block.ensures.value in
    let isnt : (is_live_state c.read-block.result.state && nat_eq c.read-block.result.place c.place.result) ≡ false = sym c.is_live_at.ensures ∙ c.if-not-is_live_at.true in
    sym (not_live old c.requires c.args.ptr.place c.args.ptr.slot (λ live at.
    absurd (false≢true (sym isnt ∙ live_record_is c.read-block.result c.place.result (ap (λ (r : Record). r.state) block ∙ live) (ap (λ (r : Record). r.place) block ∙ at ∙ sym c.place.ensures)))))

pub returns-clause-value : goal.returns-clause-value
returns-clause-value c =
    let old : Cells = c.args.store.now.cells in
    let block : c.read-block.result ≡ record_at old.records c.args.ptr.slot = rw c.slot-2.ensures at c.read-block.ensures.value in
    let is = is_live_record c.read-block.result c.place.result (sym c.is_live_at.ensures ∙ c.if-not-is_live_at.false) in
    sym (has_live old c.requires c.args.ptr.place c.args.ptr.slot (sym (ap (λ (r : Record). r.state) block) ∙ is.0) (sym (ap (λ (r : Record). r.place) block) ∙ is.1 ∙ c.place.ensures))
