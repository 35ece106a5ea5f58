-- Edits of a store's cells: links, states, heads and bitmap words.
use Rattle.std.specs.Prelude.{◌≢◌, ℕ, ◌<◌, ◌/◌, ◌%◌, ◌^◌, ◌==◌, if◌then◌else◌, List, length, Option, Some, None, slice_index, slice_set}
use Rattle.std.specs.Int.{bit_not, w32}
use Rattle.std.specs.Int.RustNames.{bit_or}
use lib.Bits.{bit_and}
use Rattle.tlsf_class.specs.Classes.{steps}
use Rattle.tlsf_store.specs.declared.records.Record.{Record}
use Rattle.tlsf_store.specs.declared.records.State.{State}
use Rattle.tlsf_store.specs.declared.records.State.TheVariants.{Vacant}
use Rattle.tlsf_store.specs.Records.{record_at}
use Rattle.tlsf_store.specs.Cells.{Cells, with_head, with_level_word, with_step_word, head_at}

-- the record of the slot, if there is one, is edited
abbrev pub edited_in : (Record → Record) → Option ℕ → List Record → List Record
edited_in edit None records = records
edited_in edit (Some slot) records = slice_set records slot (edit (record_at records slot))

-- the cells with that record edited
abbrev pub edited : (Record → Record) → Option ℕ → Cells → Cells
edited edit slot cells = record cells { records = edited_in edit slot cells.records }

-- the cells with another block in front of the slot's in its pool
abbrev pub with_prev : Option ℕ → Option ℕ → Cells → Cells
with_prev slot prev cells = edited (λ r. record r { prev = prev }) slot cells

-- the cells with this state of the slot's block
abbrev pub with_state : ℕ → State → Cells → Cells
with_state slot state cells = edited (λ r. record r { state = state }) (Some slot) cells

-- the cells with another block in front of the slot's in its class's list
abbrev pub with_prev_free : Option ℕ → Option ℕ → Cells → Cells
with_prev_free slot prev cells = edited (λ r. record r { prev_free = prev }) slot cells

-- the cells with other neighbours of the slot's block in its class's list
abbrev pub with_free_links : ℕ → Option ℕ → Option ℕ → Cells → Cells
with_free_links slot prev next cells = edited (λ r. record r { prev_free = prev; next_free = next }) (Some slot) cells

-- the word with this bit set
abbrev pub with_bit : ℕ → ℕ → ℕ
with_bit word bit = bit_or word (2 ^ bit)

-- the word of 32 bits with this bit cleared
abbrev pub without_bit : ℕ → ℕ → ℕ
without_bit word bit = bit_and word (bit_not w32 (2 ^ bit))

-- the class's bit is set, and that of its first level
abbrev pub with_class_bit : ℕ → Cells → Cells
with_class_bit class cells =
    with_level_word (with_step_word cells (class / steps) (with_bit (slice_index cells.step_words (class / steps)) (class % steps))) (with_bit cells.level_word (class / steps))

-- the class's bit is cleared, and that of its first level where no other class of it has a bit
abbrev pub without_class_bit : ℕ → Cells → Cells
without_class_bit class cells =
    let word = without_bit (slice_index cells.step_words (class / steps)) (class % steps) in
    let cleared = with_step_word cells (class / steps) word in
    if word == 0 then with_level_word cleared (without_bit cleared.level_word (class / steps)) else cleared

-- the class's bit is set, and that of its first level, where its list was empty
abbrev pub with_bit_before : Option ℕ → ℕ → Cells → Cells
with_bit_before None class cells = with_class_bit class cells
with_bit_before (Some first) class cells = cells

-- the slot's free block, whose record has its links, stands in front of the class's list, whose first was this one
abbrev pub put_first : ℕ → ℕ → Option ℕ → Cells → Cells
put_first class slot first cells = with_bit_before first class (with_head (with_prev_free first (Some slot) cells) class (Some slot))

-- the slot's free block enters the class's list in front of the others
abbrev pub linked : ℕ → ℕ → Cells → Cells
linked class slot cells =
    let first = head_at cells.heads class in
    put_first class slot first (with_free_links slot None first cells)

-- the slot, if there is one, is of a record that isn't vacant
abbrev pub IsUsed : List Record → Option ℕ → Type 0
IsUsed records None = Unit {0}
IsUsed records (Some slot) = (slot < length records) × ((record_at records slot).state ≢ Vacant)

-- what stands behind the block in front, or first where none is in front; where there is no first the class's bit is cleared
abbrev pub with_behind : ℕ → Option ℕ → Option ℕ → Cells → Cells
with_behind class (Some slot) next cells = edited (λ r. record r { next_free = next }) (Some slot) cells
with_behind class None (Some first) cells = with_head cells class (Some first)
with_behind class None None cells = without_class_bit class (with_head cells class None)

-- the free block of this record leaves its class's list, wherever it stands in it
abbrev pub unlinked_by : ℕ → Record → Cells → Cells
unlinked_by class block cells = with_behind class block.prev_free block.next_free (with_prev_free block.next_free block.prev_free cells)
