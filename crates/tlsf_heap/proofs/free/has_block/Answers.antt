-- The pointer's record tells whether its block is live and how large it is.
use Rattle.std.proofs.Common.{◌≡◌, ◌&&◌, ℕ, nat_eq, ◌%◌, ◌<◌, true, cond, refl, sym, ap, ◌∙◌, arith, length, Ok, Err}
use Rattle.std.proofs.lemmas.Bool.{and_parts, eqb-true, eq-eqb}
use Rattle.tlsf_class.specs.Classes.{unit}
use Rattle.tlsf_store.specs.declared.records.Record.{Record}
use Rattle.tlsf_store.specs.declared.records.State.TheVariants.{Live}
use Rattle.tlsf_store.specs.Records.{record_at, is_live_state}
use Rattle.tlsf_store.specs.Cells.{Cells}
use Rattle.tlsf_heap.specs.declared.refusal.Refusal.TheVariants.{BadPointer}
use Rattle.tlsf_heap.specs.Content.{blocks_of, size_at}
use Rattle.tlsf_heap.specs.Pointer.{block_size_ptr}
use Rattle.tlsf_heap.specs.Inner.Following.{Stands, content_of}
use Rattle.tlsf_heap.specs.Inner.Nodes.{InUse}
use Rattle.tlsf_heap.proofs.Inner.Live.{state_live, live_at, has_live}
use Rattle.tlsf_heap.proofs.Inner.Resizing.{size_live, size_known, live_below}
use Rattle.tlsf_heap.proofs.Inner.Steps.{whole_at, size_read, state_read, place_read}
use Rattle.tlsf_heap.proofs.free.has_block.Goals as goal

-- a record that is of a live block with this place and size, or isn't
is_record : (block : Record) (place size : ℕ) → (is_live_state block.state && (nat_eq block.place place && nat_eq block.size size)) ≡ true → (block.state ≡ Live) × (block.place ≡ place) × (block.size ≡ size)
is_record block place size is =
    let parts = and_parts (is_live_state block.state) (nat_eq block.place place && nat_eq block.size size) is in
    let both = and_parts (nat_eq block.place place) (nat_eq block.size size) parts.1 in
    (state_live block.state parts.0, eqb-true block.place place both.0, eqb-true block.size size both.1)

record_is : (block : Record) (place size : ℕ) → block.state ≡ Live → block.place ≡ place → block.size ≡ size → (is_live_state block.state && (nat_eq block.place place && nat_eq block.size size)) ≡ true
record_is block place size live at has = rw (live, eq-eqb block.place place at, eq-eqb block.size size has) refl

module _ (cells : Cells) (stands : Stands cells) (place slot size : ℕ) where
  abbrev read : Record
  read = record_at cells.records slot

  -- what is known where the pointer's block has the size
  record IsOf : Type 0 where
    below : slot < length cells.records
    live : read.state ≡ Live
    begins : read.place ≡ place
    has : read.size ≡ size
    in_units : size % unit ≡ 0

  is_of : block_size_ptr (record { place = place; slot = slot }) (content_of cells) ≡ Ok size → IsOf
  is_of is =
      let live = size_live cells place slot size is in
      let by = live_at cells stands place slot live in
      let whole = whole_at cells slot InUse by.at by.stands in
      let told : Ok (size_at place (blocks_of (content_of cells).pools)) ≡ Ok size = sym (ap (λ b. cond b (Ok (size_at place (blocks_of (content_of cells).pools))) (Err BadPointer)) live) ∙ is in
      let same : read.size ≡ size = size_known cells stands place slot live read refl ∙ (let s : size_at place (blocks_of (content_of cells).pools) ≡ size = cc in s) in
      record {
        below = (live_below cells stands place slot live).0;
        live = state_read cells slot InUse by.at by.stands;
        begins = place_read cells slot InUse by.at by.stands ∙ by.place_is;
        has = same;
        in_units = omega (arith, whole.in_units, same, size_read cells slot InUse by.at by.stands);
      }

  -- and the other way round
  has_size : read.state ≡ Live → read.place ≡ place → read.size ≡ size → block_size_ptr (record { place = place; slot = slot }) (content_of cells) ≡ Ok size
  has_size state at same =
      let live = has_live cells stands place slot state at in
      ap (λ b. cond b (Ok (size_at place (blocks_of (content_of cells).pools))) (Err BadPointer)) live ∙ ap (λ n. Ok n) (sym (size_known cells stands place slot live read refl) ∙ same)

pub returns-then-from-records-clause-value : goal.returns-then-from-records-clause-value
returns-then-from-records-clause-value c =
    let old : Cells = c.args.store.now.cells in (
      λ e. absurd (cc),
      λ is. absurd (omega (arith, (is_of old c.requires c.args.ptr.place c.args.ptr.slot c.args.size is).below, c.if-from-records.true, c.records.ensures.value, c.from.ensures, c.slot.ensures)),
    )

pub returns-then-size-from-ne0-clause-value : goal.returns-then-size-from-ne0-clause-value
returns-then-size-from-ne0-clause-value c =
    let old : Cells = c.args.store.now.cells in (
      λ e. absurd (cc),
      λ is. absurd (omega (arith, (is_of old c.requires c.args.ptr.place c.args.ptr.slot c.args.size is).in_units, (rw c.from-2.ensures at c.if-size-from-ne0.true))),
    )

pub returns-clause-value : goal.returns-clause-value
returns-clause-value c =
    let old : Cells = c.args.store.now.cells in
    let is_live_there = rw (c.slot-2.ensures, c.place.ensures) at c.is_live.ensures.value in (
      λ e. (let is = is_record (record_at old.records c.args.ptr.slot) c.args.ptr.place c.args.size (sym is_live_there ∙ e) in has_size old c.requires c.args.ptr.place c.args.ptr.slot c.args.size is.0 is.1 is.2),
      λ is. (let of = is_of old c.requires c.args.ptr.place c.args.ptr.slot c.args.size is in is_live_there ∙ record_is (record_at old.records c.args.ptr.slot) c.args.ptr.place c.args.size of.live of.begins of.has),
    )
