-- What a clause reads of the reader and the writer over memory.
use Rattle.std.specs.Prelude.{◌≡◌, ◌↔◌, ℕ, zero, suc, List, ◌∷◌, length, min, Bool, Option, Some, None, Result, IsErr, OnErr}
use Rattle.mtrace_log.specs.Shown.{ReaderState}
use Rattle.mtrace_log.specs.declared.call.Call.{Call}
use Rattle.mtrace_log.specs.declared.memory.memory_source.MemorySource.{MemorySource}
use Rattle.mtrace_log.specs.declared.memory.memory_sink.MemorySink.{MemorySink}
use Rattle.mtrace_log.specs.declared.memory.memory_sink.Full.{Full as WhenFull}

-- the bytes left
abbrev pub source_left : MemorySource → List ℕ
source_left source = source.rest.now

-- after how many calls one fails, if one does, after a call
abbrev pub one_call_less : Option ℕ → Option ℕ
one_call_less None = None
one_call_less (Some zero) = None
one_call_less (Some (suc calls)) = Some calls

-- how many bytes a call gives into this much room
abbrev pub source_count : MemorySource → ℕ → ℕ
source_count source room = min (min (length (source_left source)) source.piece) room

-- what it shows: all bytes are known
abbrev pub source_shown : MemorySource → ReaderState
source_shown source = record { left = Some (source_left source); whole = Some source.whole.now; calls = source.trace.calls }

-- the reader with these bytes left and in whole, of this greatest piece; after how many calls one fails, if one does; and its calls
pub record IsSource (rest all : List ℕ) (most : ℕ) (failing : Option ℕ) (past : List Call) (source : MemorySource) : Type 0 where
  pub left : source_left source ≡ rest
  pub whole : source.whole.now ≡ all
  pub piece : source.piece ≡ most
  pub calls : source.calls_before_failure ≡ failing
  pub trace : source.trace.calls ≡ past

-- one call, which fails exactly where it is to; then no byte is lost
pub record IsCalled {T E : Type 0} (call : Call) (result : Result T E) (old new : MemorySource) : Type 0 where
  pub kept : OnErr result ((source_shown new).left ≡ (source_shown old).left)
  pub whole : (source_shown new).whole ≡ (source_shown old).whole
  pub fails : IsErr result ↔ (old.calls_before_failure ≡ Some 0)
  pub calls : new.calls_before_failure ≡ one_call_less old.calls_before_failure
  pub piece : new.piece ≡ old.piece
  pub told : new.trace.calls ≡ call ∷ old.trace.calls

-- the bytes taken
abbrev pub sink_taken : MemorySink → List ℕ
sink_taken sink = sink.bytes.items

-- the greatest piece that a call takes
abbrev pub sink_piece : MemorySink → ℕ
sink_piece sink = sink.piece

-- how many bytes it still takes
abbrev pub sink_room : MemorySink → ℕ
sink_room sink = sink.room

-- what it answers when it is full
abbrev pub sink_full : MemorySink → WhenFull
sink_full sink = sink.full

-- whether its flushes fail
abbrev pub flush_fails : MemorySink → Bool
flush_fails sink = sink.flush_fails

-- the outcomes of its calls, the latest first
abbrev pub sink_trace : MemorySink → List Call
sink_trace sink = sink.trace.calls

-- how many of the bytes offered a call takes
abbrev pub sink_count : MemorySink → ℕ → ℕ
sink_count sink offered = min (min offered (sink_room sink)) (sink_piece sink)

-- the writer that took these bytes, with this greatest piece and this room. Its answer when it is full, whether its
-- flushes fail, and its calls are these
pub record IsSink (bytes : List ℕ) (most left : ℕ) (when_full : WhenFull) (fails : Bool) (past : List Call) (sink : MemorySink) : Type 0 where
  pub taken : sink_taken sink ≡ bytes
  pub piece : sink_piece sink ≡ most
  pub room : sink_room sink ≡ left
  pub full : sink_full sink ≡ when_full
  pub flush : flush_fails sink ≡ fails
  pub trace : sink_trace sink ≡ past
