-- What a clause reads of the adapters of std's readers and writers.
use Rattle.std.specs.Prelude.{◌≡◌, ℕ, ◌-◌, ◌^◌, ◌≤◌, List, length, Option, Result, IfOk, IsErr}
use Rattle.std.specs.Io.KnownBytes.{ReadConsumes}
use Rattle.mtrace_log.specs.declared.call.Call.{Call}
use Rattle.mtrace_log.specs.declared.from_read.FromRead.{FromRead}
use Rattle.mtrace_log.specs.declared.to_write.ToWrite.{ToWrite}

-- the reader of std's
abbrev pub reader_of : {R : Type 0} → FromRead R → R
reader_of source = source.reader

-- how many more calls of it are made
abbrev pub calls_left : {R : Type 0} → FromRead R → ℕ
calls_left source = 2 ^ 64 - 1 - source.calls

-- the outcomes of its calls, the latest first
abbrev pub reader_trace : {R : Type 0} → FromRead R → List Call
reader_trace source = source.trace.calls

-- the writer of std's
abbrev pub writer_of : {W : Type 0} → ToWrite W → W
writer_of sink = sink.writer

-- the outcomes of its calls, the latest first
abbrev pub writer_trace : {W : Type 0} → ToWrite W → List Call
writer_trace sink = sink.trace.calls

-- the adapter of this reader, which makes at most this many more calls of it, and the outcomes of those it made
pub record IsReading {R : Type 0} (inner : R) (most : ℕ) (past : List Call) (source : FromRead R) : Type 0 where
  pub reader : reader_of source ≡ inner
  pub calls : calls_left source ≡ most
  pub trace : reader_trace source ≡ past

-- at most one read, which gave these bytes at the front of a piece, where the reader tells them; none where no call is left
pub record ReadsOnce {R E : Type 0} (remaining : R → Option (List ℕ)) (past : List Call) (result : Result ℕ E) (piece : List ℕ) (old new : FromRead R) : Type 0 where
  pub bound : IfOk result (λ n. n ≤ length piece)
  pub reads : ReadConsumes (remaining (reader_of old)) (remaining (reader_of new)) result piece
  pub counted : calls_left new ≡ calls_left old - 1
  pub exhausted : calls_left old ≡ 0 → IsErr result
  pub told : reader_trace new ≡ past
