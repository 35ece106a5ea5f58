use Rattle.std.proofs.Common.{◌≡◌, refl, ℕ, ◌%◌, ◌<◌, length, sym, ap, ◌∙◌, subst, arith, Option, Some, None}
use Rattle.tlsf_store.specs.Records.{blank, record_at}
use Rattle.tlsf_store.specs.declared.records.State.TheVariants.{Live}
use Rattle.tlsf_store.specs.Cells.{Cells, with_taken}
use Rattle.tlsf_class.specs.Classes.{unit}
use Rattle.tlsf_heap.specs.declared.span.Span.{Span}
use Rattle.tlsf_heap.specs.Inner.Edits.{IsUsed}
use Rattle.tlsf_heap.specs.Inner.Spans.{IsRead, split_by}
use Rattle.tlsf_heap.specs.Inner.Nodes.{InUse}
use Rattle.tlsf_heap.specs.Inner.At.{At, StandsAt, with_slot, at_turned}
use Rattle.tlsf_heap.proofs.Inner.Steps.{size_read, place_read, whole_at}
use Rattle.tlsf_heap.proofs.Inner.Allotted.{slot_stands, at_front, span_gaps}
use Rattle.tlsf_heap.proofs.Inner.Spans.{read_stays, back_used}
use Rattle.tlsf_heap.proofs.Inner.Gapped.{gapped_stands}
use Rattle.tlsf_heap.proofs.memalign.leave_gap.Goals as goal

-- the block as it is known, once a record was taken
known : (old new : Cells) (span : Span) (rest : ℕ) (at : At) → StandsAt span.slot InUse old at → StandsAt span.slot InUse new (with_slot rest at) → IsRead span old.records → IsRead span new.records
known old new span rest at was stands read = read_stays old new span InUse InUse at (with_slot rest at) was stands refl read

pub split-requires-clause-next_used : goal.split-requires-clause-next_used
split-requires-clause-next_used c =
    let at : At = c.requires.stands.0 in
    let stands = slot_stands c.args.store.now.cells c.take_vacant.new.self.cells c.take_vacant.result c.args.block.now.slot c.in-Some.live InUse at c.requires.stands.1 c.in-Some.is c.take_vacant.ensures.left.cells c.in-Some.ensures.within c.in-Some.ensures.vacant in
    let P : Option ℕ → Type 0 = λ o. IsUsed c.take_vacant.new.self.cells.records o in
    subst P (sym (known c.args.store.now.cells c.take_vacant.new.self.cells c.args.block.now c.in-Some.live at c.requires.stands.1 stands c.requires.read).next) (back_used c.take_vacant.new.self.cells c.args.block.now.slot InUse (with_slot c.in-Some.live at) stands)

pub split-requires-clause-size_in_units : goal.split-requires-clause-size_in_units
split-requires-clause-size_in_units c =
    let whole = whole_at c.args.store.now.cells c.args.block.now.slot InUse c.requires.stands.0 c.requires.stands.1 in
    let size = c.requires.read.size ∙ size_read c.args.store.now.cells c.args.block.now.slot InUse c.requires.stands.0 c.requires.stands.1 in
    ap (λ n. n % unit) size ∙ whole.in_units

pub split-requires-clause-ends : goal.split-requires-clause-ends
split-requires-clause-ends c =
    let old : Cells = c.args.store.now.cells in
    let at : At = c.requires.stands.0 in
    let stands : StandsAt c.args.block.now.slot InUse old at = c.requires.stands.1 in
    omega (arith, (whole_at old c.args.block.now.slot InUse at stands).ends, c.requires.read.size, c.requires.read.place, size_read old c.args.block.now.slot InUse at stands, place_read old c.args.block.now.slot InUse at stands)

-- the front one, once it was split
fronted : (old mid new : Cells) (span : Span) (result : Option ℕ) (live bytes : ℕ) (at : At) → StandsAt span.slot InUse old at → IsRead span old.records → result ≡ Some live → mid ≡ with_taken old result → live < length old.records → record_at old.records live ≡ blank
    → 0 < bytes → bytes < span.size → bytes % unit ≡ 0 → new ≡ split_by span live Live None bytes mid → StandsAt span.slot InUse new (at_front live bytes (at_turned InUse at))
fronted old mid new span result live bytes at stands read is taken within vacant some less whole split_is =
    let now = slot_stands old mid result span.slot live InUse at stands is taken within vacant in
    span_gaps mid new span live bytes at now (known old mid span live at stands now read) some less whole split_is

pub enter-requires-clause-stands : goal.enter-requires-clause-stands
enter-requires-clause-stands c =
    let at : At = c.requires.stands.0 in (
      at_front c.in-Some.live c.args.bytes (at_turned InUse at),
      fronted c.args.store.now.cells c.take_vacant.new.self.cells c.split.new.store.cells c.args.block.now c.take_vacant.result c.in-Some.live c.args.bytes at c.requires.stands.1 c.requires.read c.in-Some.is c.take_vacant.ensures.left.cells c.in-Some.ensures.within c.in-Some.ensures.vacant (grind (arith, c.if-bytes-eq0.false)) c.requires.less c.requires.whole c.split.ensures.cells,
    )

pub enter-requires-clause-size : goal.enter-requires-clause-size
enter-requires-clause-size c =
    let at : At = c.requires.stands.0 in
    sym (size_read c.split.new.store.cells c.args.block.now.slot InUse (at_front c.in-Some.live c.args.bytes (at_turned InUse at))
    (fronted c.args.store.now.cells c.take_vacant.new.self.cells c.split.new.store.cells c.args.block.now c.take_vacant.result c.in-Some.live c.args.bytes at c.requires.stands.1 c.requires.read c.in-Some.is c.take_vacant.ensures.left.cells c.in-Some.ensures.within c.in-Some.ensures.vacant (grind (arith, c.if-bytes-eq0.false)) c.requires.less c.requires.whole c.split.ensures.cells))

pub returns-clause-leads : goal.returns-clause-leads
returns-clause-leads c at stands =
    let some : 0 < c.args.bytes = grind (arith, c.if-bytes-eq0.false) in
    gapped_stands c.args.block.now.slot c.in-Some.live c.args.bytes at c.enter.new.store.cells stands.1.slot_is stands.1.node_state_is some
    (c.enter.ensures.leads (at_front c.in-Some.live c.args.bytes (at_turned InUse at))
    (fronted c.args.store.now.cells c.take_vacant.new.self.cells c.split.new.store.cells c.args.block.now c.take_vacant.result c.in-Some.live c.args.bytes at stands c.requires.read c.in-Some.is c.take_vacant.ensures.left.cells c.in-Some.ensures.within c.in-Some.ensures.vacant some c.requires.less c.requires.whole c.split.ensures.cells))
