use Rattle.std.proofs.Common.{rules, ◌≡◌, ◌≢◌, ℕ, ◌<◌, length, refl, sym, ap, ◌∙◌, subst, arith, Option, Some, Ok}
use Rattle.tlsf_store.specs.declared.records.Record.{Record}
use Rattle.tlsf_store.specs.declared.records.State.TheVariants.{Free}
use Rattle.tlsf_store.specs.Records.{blank, record_at}
use Rattle.tlsf_store.specs.Cells.{Cells, with_taken}
use Rattle.tlsf_store.specs.CountedCells.{CountedCells}
use Rattle.tlsf_heap.specs.Touches.{AtMost}
use Rattle.tlsf_store.proofs.RecordLaws.{record_at-set_other}
use Rattle.tlsf_heap.specs.Malloc.{malloc_picked}
use Rattle.tlsf_heap.specs.Inner.Nodes.{Listed, Loose}
use Rattle.tlsf_heap.specs.Inner.Following.{Stands, content_of}
use Rattle.tlsf_heap.specs.Inner.At.{At, StandsAt, with_slot, at_unlisted}
use Rattle.tlsf_heap.specs.Inner.Spans.{span_of}
use Rattle.tlsf_heap.proofs.Inner.Steps.{size_read}
use Rattle.tlsf_heap.proofs.Inner.Allotted.{slot_stands, listed_read, read_leaves}
use Rattle.tlsf_heap.proofs.Inner.Spans.{read_of, read_stays}
use Rattle.tlsf_heap.proofs.Inner.Live.{free_at}
use Rattle.tlsf_heap.proofs.Inner.TakenBlock.{takeable_picked, room_left, holds, whole_stands, part_stands, full_refused, slot_below, slot_new}
use Rattle.tlsf_heap.proofs.malloc.take.Goals as goal
use Rattle.tlsf_heap.proofs.malloc.take.Goals.{In-Some, After-unlink_first, After-new, then-block-asked, else-block-asked+in-Some}

-- the size that was read is the node's
size_is : (old : Cells) (slot : ℕ) (at : At) (block : Record) → StandsAt slot Listed old at → block ≡ record_at old.records slot → block.size ≡ at.node.size
size_is old slot at block stands read = rw read (size_read old slot Listed at stands)

-- once it was read, and a record was taken
spared : (old before new : Cells) (result : Option ℕ) (slot rest : ℕ) (at : At) → StandsAt slot Listed old at → before ≡ old → result ≡ Some rest → new ≡ with_taken before result → rest < length before.records → record_at before.records rest ≡ blank
    → StandsAt slot Listed new (with_slot rest at)
spared old before new result slot rest at stands same is taken within vacant =
    slot_stands old new result slot rest Listed at stands is (taken ∙ ap (λ (c : Cells). with_taken c result) same) (rw same at within) (rw same at vacant)

-- the record of a free block is as it was read, once another was taken
kept : (old before new : Cells) (result : Option ℕ) (slot rest : ℕ) (block : Record) → (record_at old.records slot).state ≡ Free → before ≡ old → result ≡ Some rest → new ≡ with_taken before result → record_at before.records rest ≡ blank → block ≡ record_at old.records slot
    → block ≡ record_at new.records slot
kept old before new result slot rest block free same is taken vacant read =
    let blank_there : record_at old.records rest ≡ blank = rw same at vacant in
    let apart : slot ≢ rest = λ e. let both : Free ≡ blank.state = sym free ∙ ap (λ q. (record_at old.records q).state) e ∙ ap (λ (r : Record). r.state) blank_there in absurd (cc both) in
    read ∙ sym (ap (λ (c : Cells). record_at c.records slot) (taken ∙ ap (with_taken before) is ∙ ap (λ c. with_taken c (Some rest)) same) ∙ record_at-set_other old.records rest slot _ apart)

pub take_whole-requires-clause-stands : goal.take_whole-requires-clause-stands
take_whole-requires-clause-stands c =
    let by = free_at c.args.store.now.cells c.requires.stands c.args.slot c.requires.takeable.free in (by.at, rw c.read_used-block.ensures.left.cells by.stands)

pub returns-in_default : goal.returns-in_default
returns-in_default c = record {
  stands = search rules;
  ok = search rules;
  refused = λ owner.
      let old : Cells = c.args.store.now.cells in
      let by = free_at old c.requires.stands c.args.slot c.requires.takeable.free in
      let place : ℕ = (record_at old.records c.args.slot).place in
      let none = rw c.read_used-block.ensures.left.cells at c.in_default.ensures.none in
      let size = size_is old c.args.slot by.at c.read_used-block.result by.stands c.read_used-block.ensures.value in
      let least = holds old c.requires.stands place c.args.slot c.args.asked by c.requires.size.positive c.requires.size.in_units (takeable_picked c.args.store.now.cells c.requires.stands c.args.asked c.args.class c.args.slot c.requires.takeable) in
      full_refused old c.requires.stands place c.args.slot c.args.asked by c.requires.size.positive c.requires.size.in_units (takeable_picked c.args.store.now.cells c.requires.stands c.args.asked c.args.class c.args.slot c.requires.takeable) none (omega (arith, least, size, c.if-block-asked.false)) owner;
  cells = search rules;
  touches = search rules;
}

-- the free block as it stands and as it was read, once a record was taken for the rest
ready : (c : In-Some) → StandsAt c.args.slot Listed c.take_vacant.new.self.cells (with_slot c.in-Some.rest (free_at c.args.store.now.cells c.requires.stands c.args.slot c.requires.takeable.free).at) × (c.read_used-block.result ≡ record_at c.take_vacant.new.self.cells.records c.args.slot)
ready c =
    let old : Cells = c.args.store.now.cells in
    let by = free_at old c.requires.stands c.args.slot c.requires.takeable.free in (
      spared old c.read_used-block.new.self.cells c.take_vacant.new.self.cells c.take_vacant.result c.args.slot c.in-Some.rest by.at by.stands c.read_used-block.ensures.left.cells c.in-Some.is c.take_vacant.ensures.left.cells c.in-Some.ensures.within c.in-Some.ensures.vacant,
      kept old c.read_used-block.new.self.cells c.take_vacant.new.self.cells c.take_vacant.result c.args.slot c.in-Some.rest c.read_used-block.result c.requires.takeable.free c.read_used-block.ensures.left.cells c.in-Some.is c.take_vacant.ensures.left.cells c.in-Some.ensures.vacant c.read_used-block.ensures.value,
    )

pub take_whole-requires-clause-first : goal.take_whole-requires-clause-first
take_whole-requires-clause-first c = rw c.read_used-block.ensures.value c.requires.takeable.first

pub unlink_first-requires-clause-first : goal.unlink_first-requires-clause-first
unlink_first-requires-clause-first c = rw c.read_used-block.ensures.value c.requires.takeable.first

pub unlink_first-requires-clause-next_used : goal.unlink_first-requires-clause-next_used
unlink_first-requires-clause-next_used c = let r = ready (goal.at.unlink_first-requires-clause-next_used c).In-Some in (listed_read c.take_vacant.new.self.cells c.args.slot c.read_used-block.result _ r.0 r.1).next_used

-- and once it left its list
unlisted : (c : After-unlink_first) → StandsAt c.args.slot Listed c.take_vacant.new.self.cells (with_slot c.in-Some.rest (free_at c.args.store.now.cells c.requires.stands c.args.slot c.requires.takeable.free).at) × (c.read_used-block.result ≡ record_at c.take_vacant.new.self.cells.records c.args.slot)
    → StandsAt c.args.slot Loose c.unlink_first.new.store.cells (with_slot c.in-Some.rest (at_unlisted (free_at c.args.store.now.cells c.requires.stands c.args.slot c.requires.takeable.free).at))
unlisted c r =
    let by = free_at c.args.store.now.cells c.requires.stands c.args.slot c.requires.takeable.free in
    read_leaves c.take_vacant.new.self.cells c.unlink_first.new.store.cells c.args.slot c.args.class c.read_used-block.result (with_slot c.in-Some.rest by.at) r.0 r.1 (rw c.read_used-block.ensures.value c.requires.takeable.of_class) c.unlink_first.ensures.cells

pub split_off-requires-clause-stands : goal.split_off-requires-clause-stands
split_off-requires-clause-stands c =
    let by = free_at c.args.store.now.cells c.requires.stands c.args.slot c.requires.takeable.free in
    rw c.of.ensures (Loose, at_unlisted by.at, refl, unlisted (goal.at.split_off-requires-clause-stands c).After-unlink_first (ready (goal.at.split_off-requires-clause-stands c).In-Some))

pub split_off-requires-clause-read : goal.split_off-requires-clause-read
split_off-requires-clause-read c =
    let by = free_at c.args.store.now.cells c.requires.stands c.args.slot c.requires.takeable.free in
    let at : At = with_slot c.in-Some.rest by.at in
    let r = ready (goal.at.split_off-requires-clause-read c).In-Some in
    rw c.of.ensures (read_stays c.take_vacant.new.self.cells c.unlink_first.new.store.cells (span_of c.args.slot c.read_used-block.result) Listed Loose at (at_unlisted at) r.0 (unlisted (goal.at.split_off-requires-clause-read c).After-unlink_first r) refl
    (read_of c.take_vacant.new.self.cells.records c.args.slot c.read_used-block.result r.1 c.read_used-block.ensures.kept.place))

pub split_off-requires-clause-less : goal.split_off-requires-clause-less
split_off-requires-clause-less c =
    let old : Cells = c.args.store.now.cells in
    let by = free_at old c.requires.stands c.args.slot c.requires.takeable.free in
    let size = size_is old c.args.slot by.at c.read_used-block.result by.stands c.read_used-block.ensures.value in
    let least = holds old c.requires.stands (record_at old.records c.args.slot).place c.args.slot c.args.asked by c.requires.size.positive c.requires.size.in_units (takeable_picked c.args.store.now.cells c.requires.stands c.args.asked c.args.class c.args.slot c.requires.takeable) in
    rw c.of.ensures (omega (arith, least, size, c.if-block-asked.false))

-- what is left where the block is live, whole or in part
record IsTaken (slot asked : ℕ) (old new : CountedCells) : Type 0 where
  stands : Stands new.cells
  gives : malloc_picked slot asked (Some (record_at old.cells.records slot).place) (content_of old.cells) ≡ Ok ((record_at old.cells.records slot).place, content_of new.cells)
  touches : AtMost 17 old.touches new.touches

taken : (c : After-new) → IsTaken c.args.slot c.args.asked c.args.store.now c.if-block-asked.store
taken c =
    let old : Cells = c.args.store.now.cells in
    let slot : ℕ = c.args.slot in
    let asked : ℕ = c.args.asked in
    let place : ℕ = (record_at old.records slot).place in
    let block : Record = c.read_used-block.result in
    let read = c.read_used-block.ensures in
    let by = free_at old c.requires.stands slot c.requires.takeable.free in
    let size = size_is old slot by.at block by.stands read.value in
    let picked = takeable_picked old c.requires.stands asked c.args.class slot c.requires.takeable in
    let least = holds old c.requires.stands place slot asked by c.requires.size.positive c.requires.size.in_units picked in
    let P : CountedCells → Type 0 = λ new. IsTaken slot asked c.args.store.now new in
    elim c.if-block-asked.branch [
      | then-block-asked w ↦
          let left = whole_stands old c.requires.stands place slot asked by c.requires.size.positive c.requires.size.in_units picked w.take_whole.new.store.cells
          (w.take_whole.ensures.leads by.at (rw read.left.cells by.stands)) (sym w.if-block-asked.true ∙ size) in
          subst P (sym w.store-is) (record {
            stands = left.0;
            gives = left.1;
            touches = record { floor = omega (arith, read.left.touches, w.take_whole.ensures.touches.floor); bound = omega (arith, read.left.touches, w.take_whole.ensures.touches.bound) };
          })
      | else-block-asked+in-Some w ↦
          let rest : ℕ = w.in-Some.rest in
          let before : Cells = c.read_used-block.new.self.cells in
          let mid : Cells = w.take_vacant.new.self.cells in
          let here = spared old before mid w.take_vacant.result slot rest by.at by.stands read.left.cells w.in-Some.is w.take_vacant.ensures.left.cells w.in-Some.ensures.within w.in-Some.ensures.vacant in
          let same = kept old before mid w.take_vacant.result slot rest block c.requires.takeable.free read.left.cells w.in-Some.is w.take_vacant.ensures.left.cells w.in-Some.ensures.vacant read.value in
          let loose : StandsAt slot Loose w.unlink_first.new.store.cells (with_slot rest (at_unlisted by.at)) =
          read_leaves mid w.unlink_first.new.store.cells slot c.args.class block (with_slot rest by.at) here same (rw read.value c.requires.takeable.of_class) w.unlink_first.ensures.cells in
          let room = room_left old c.requires.stands rest (rw read.left.cells at w.in-Some.ensures.within) (rw read.left.cells at w.in-Some.ensures.vacant) in
          let left = part_stands old c.requires.stands place slot asked by c.requires.size.positive c.requires.size.in_units picked w.split_off.new.store.cells rest
          (w.split_off.ensures.leads Loose (at_unlisted by.at) refl (rw w.of.ensures loose)) (omega (arith, least, size, w.if-block-asked.false)) room in
          subst P (sym w.store-is) (record {
            stands = left.0;
            gives = left.1;
            touches = record {
              floor = omega (arith, read.left.touches, w.take_vacant.ensures.left.touches, w.unlink_first.ensures.touches.floor, w.split_off.ensures.touches.floor);
              bound = omega (arith, read.left.touches, w.take_vacant.ensures.left.touches, w.unlink_first.ensures.touches.bound, w.split_off.ensures.touches.bound);
            };
          })
    ]

pub returns : goal.returns
returns c =
    let old : Cells = c.args.store.now.cells in
    let is = taken (goal.at.returns c).After-new in
    let by = free_at old c.requires.stands c.args.slot c.requires.takeable.free in
    record {
      stands = is.stands;
      ok = record {
        ok = rw (c.new.ensures, c.read_used-block.ensures.value, c.slot.view_is) is.gives;
        slot_below = rw (c.new.ensures, c.slot.view_is) (slot_below old c.requires.stands (record_at old.records c.args.slot).place c.args.slot by);
        slot_new = rw (c.new.ensures, c.slot.view_is) (slot_new old c.requires.stands (record_at old.records c.args.slot).place c.args.slot by);
      };
      refused = tt;
      cells = tt;
      touches = is.touches;
    }
