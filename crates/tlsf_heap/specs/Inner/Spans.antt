-- What is known of a block on its way, by its record and by its node. The edits of a store's cells by what is known.
use Rattle.std.specs.Prelude.{◌≡◌, ℕ, ◌+◌, ◌-◌, ◌%◌, ◌<◌, ◌≤◌, List, length, Option, Some, None}
use Rattle.tlsf_class.specs.Classes.{unit, class, greatest_size}
use Rattle.tlsf_store.specs.declared.records.State.{State}
use Rattle.tlsf_store.specs.declared.records.State.TheVariants.{Live}
use Rattle.tlsf_store.specs.declared.records.Record.{Record}
use Rattle.tlsf_store.specs.Records.{blank, record_at}
use Rattle.tlsf_store.specs.Cells.{Cells, with_record}
use Rattle.tlsf_heap.specs.declared.span.Span.{Span}
use Rattle.tlsf_heap.specs.Pointer.{Pointer}
use Rattle.tlsf_heap.specs.Inner.Edits.{edited, IsUsed, with_prev, unlinked_by}
use Rattle.tlsf_heap.specs.Inner.Nodes.{Node}
use Rattle.tlsf_heap.specs.Inner.Represents.{first_slot}
use Rattle.tlsf_heap.specs.Inner.At.{At}

-- the block of a slot, by its record
abbrev pub span_of : ℕ → Record → Span
span_of slot block = record { slot = slot; place = block.place; size = block.size; next = block.next }

-- what is known of the block is what its record says, and it begins at a multiple of the unit
pub record IsRead (span : Span) (records : List Record) : Type 0 where
  pub place : span.place ≡ (record_at records span.slot).place
  pub size : span.size ≡ (record_at records span.slot).size
  pub next : span.next ≡ (record_at records span.slot).next
  pub in_units : span.place % unit ≡ 0

-- the record that the pointer's slot has, of a block that begins at the pointer's place, a multiple of the unit
pub record IsRecordOf (block : Record) (pointer : Pointer) (records : List Record) : Type 0 where
  pub read : block ≡ record_at records pointer.slot
  pub place : block.place ≡ pointer.place
  pub in_units : block.place % unit ≡ 0

-- the slot of the block that is left behind a gap of some bytes: its own where there are none, else a vacant one
pub record IsLeft (bytes own left : ℕ) (records : List Record) : Type 0 where
  pub same : bytes ≡ 0 → left ≡ own
  pub vacant : 0 < bytes → record_at records left ≡ blank
  pub below : left < length records

-- the class is that of the record's block
abbrev pub IsOfClass : ℕ → Record → Type 0
IsOfClass number block = number ≡ class block.size

-- the block of a node, which has these behind it
abbrev pub node_span : Node → List Node → Span
node_span node nodes = record { slot = node.slot; place = node.place; size = node.size; next = first_slot nodes }

abbrev pub span_at : At → Span
span_at at = node_span at.node at.nodes

-- the slot's block has this size and state, and this one behind it
abbrev pub reshaped : ℕ → ℕ → State → Option ℕ → Cells → Cells
reshaped slot size state next cells = edited (λ r. record r { size = size; state = state; next = next }) (Some slot) cells

-- what is left of the block behind its first bytes, in this state, in front of this one in a list
abbrev pub rest_record : State → Span → Option ℕ → ℕ → Record
rest_record state span second bytes = record { place = span.place + bytes; size = span.size - bytes; state = state; prev = Some span.slot; next = span.next; prev_free = None; next_free = second }

-- the block keeps its first bytes, and is live; the rest is a block of the other slot, behind it, in this state
abbrev pub split_by : Span → ℕ → State → Option ℕ → ℕ → Cells → Cells
split_by span rest back second bytes cells =
    with_prev span.next (Some rest) (reshaped span.slot bytes Live (Some rest) (with_record cells rest (rest_record back span second bytes)))

-- One of two neighbours, of this record, left its list. The first, which is live, is merged with the one behind it, whose slot
-- becomes vacant; the span says what it is then.
abbrev pub merged_by : Span → ℕ → Record → Cells → Cells
merged_by span behind listed cells =
    with_record (with_prev span.next (Some span.slot) (reshaped span.slot span.size Live span.next (unlinked_by (class listed.size) listed cells))) behind blank

-- one of two neighbours, the listed one of this record, can leave its list. The two can then be merged.
-- out: the records once the listed one left
pub record CanMerge (span : Span) (behind : ℕ) (listed : Record) (records out : List Record) : Type 0 where
  pub some : 0 < listed.size
  pub whole : listed.size % unit ≡ 0
  pub most : listed.size ≤ greatest_size
  pub prev_used : IsUsed records listed.prev_free
  pub next_used : IsUsed records listed.next_free
  pub front_used : IsUsed out (Some span.slot)
  pub behind_used : IsUsed out (Some behind)
  pub last_used : IsUsed out span.next
  pub in_units : span.size % unit ≡ 0
