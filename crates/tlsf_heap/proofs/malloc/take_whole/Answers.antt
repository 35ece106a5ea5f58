use Rattle.std.proofs.Common.{◌≡◌, ℕ, ◌%◌, refl}
use Rattle.tlsf_class.specs.Classes.{class, unit}
use Rattle.tlsf_store.specs.declared.records.Record.{Record}
use Rattle.tlsf_store.specs.Records.{record_at}
use Rattle.tlsf_store.specs.Cells.{Cells}
use Rattle.tlsf_heap.specs.Inner.Edits.{unlinked_by}
use Rattle.tlsf_heap.specs.Inner.Nodes.{InUse, Listed, Loose}
use Rattle.tlsf_heap.specs.Inner.At.{At, StandsAt, at_unlisted}
use Rattle.tlsf_heap.specs.Inner.Spans.{span_of, IsRead}
use Rattle.tlsf_heap.proofs.Inner.Steps.{slot_used, turned_stands}
use Rattle.tlsf_heap.proofs.Inner.Allotted.{listed_read, read_leaves}
use Rattle.tlsf_heap.proofs.Inner.Spans.{read_of, read_stays}
use Rattle.tlsf_heap.proofs.malloc.take_whole.Goals as goal

pub unlink_first-requires-clause-next_used : goal.unlink_first-requires-clause-next_used
unlink_first-requires-clause-next_used c = (listed_read c.args.store.now.cells c.args.slot c.args.block.now c.requires.stands.0 c.requires.stands.1 c.requires.read).next_used

-- the block as it is known once it left its list
known : (old new : Cells) (slot number : ℕ) (block : Record) (at : At) → StandsAt slot Listed old at → block ≡ record_at old.records slot → block.place % unit ≡ 0 → number ≡ class block.size → new ≡ unlinked_by number block old → IsRead (span_of slot block) new.records
known old new slot number block at stands read in_units number_is left =
    read_stays old new (span_of slot block) Listed Loose at (at_unlisted at) stands (read_leaves old new slot number block at stands read number_is left) refl (read_of old.records slot block read in_units)

pub turn-requires-clause-used : goal.turn-requires-clause-used
turn-requires-clause-used c =
    let at : At = c.requires.stands.0 in
    rw c.of-whole.ensures (slot_used c.unlink_first.new.store.cells c.args.slot Loose (at_unlisted at) (read_leaves c.args.store.now.cells c.unlink_first.new.store.cells c.args.slot c.args.class c.args.block.now at c.requires.stands.1 c.requires.read c.requires.of_class c.unlink_first.ensures.cells))

pub turn-requires-clause-read : goal.turn-requires-clause-read
turn-requires-clause-read c =
    rw c.of-whole.ensures (known c.args.store.now.cells c.unlink_first.new.store.cells c.args.slot c.args.class c.args.block.now c.requires.stands.0 c.requires.stands.1 c.requires.read c.requires.in_units c.requires.of_class c.unlink_first.ensures.cells)

pub turn-requires-clause-in_units : goal.turn-requires-clause-in_units
turn-requires-clause-in_units c = rw c.of-whole.ensures (listed_read c.args.store.now.cells c.args.slot c.args.block.now c.requires.stands.0 c.requires.stands.1 c.requires.read).whole

pub returns-clause-leads : goal.returns-clause-leads
returns-clause-leads c at stands =
    rw (c.turn.ensures.cells, c.of-whole.ensures)
    (turned_stands c.unlink_first.new.store.cells c.args.slot Loose (at_unlisted at) (read_leaves c.args.store.now.cells c.unlink_first.new.store.cells c.args.slot c.args.class c.args.block.now at stands c.requires.read c.requires.of_class c.unlink_first.ensures.cells) InUse refl refl)
