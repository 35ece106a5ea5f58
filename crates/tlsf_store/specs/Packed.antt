-- A record in sixteen bytes: its words, and the record that they stand for.
use Rattle.std.specs.Prelude.{ℕ, ◌-◌, ◌%◌, ◌==◌, nat_lt, if◌then◌else◌}
use Rattle.tlsf_class.specs.Classes.{unit}
use Rattle.tlsf_store.specs.declared.records.State.{State}
use Rattle.tlsf_store.specs.declared.records.State.TheVariants.{Vacant, Free, Live}
use Rattle.tlsf_store.specs.declared.records.Record.{Record}
use Rattle.tlsf_store.specs.declared.packed.PackedRecord.TheInside.{Inside}
use Rattle.tlsf_store.specs.Slots.{link_of}

-- the state of a code: 0 is vacant, 1 free, 2 live, and any other code is that of no block
abbrev pub state_of : ℕ → State
state_of code = if code == 1 then Free else (if code == 2 then Live else Vacant)

-- the size of a size word: the word without its code. With any other code it is the word itself, which is no multiple of
-- the unit, so no table keeps it
abbrev pub size_of : ℕ → ℕ
size_of word = if nat_lt (word % unit) 3 then word - word % unit else word

-- the record of its words: a place, a size with the code of the state below the unit, and four links
abbrev pub record_of : ℕ → ℕ → ℕ → ℕ → ℕ → ℕ → Record
record_of place size_word prev next prev_free next_free =
    record {
      place = place;
      size = size_of size_word;
      state = state_of (size_word % unit);
      prev = link_of prev;
      next = link_of next;
      prev_free = link_of prev_free;
      next_free = link_of next_free;
    }

abbrev pub unpacked : Inside → Record
unpacked p = record_of p.place p.size_word p.prev p.next p.prev_free p.next_free
