-- What a reader and a writer show of themselves to contracts.
use Rattle.std.specs.Prelude.{ℕ, List, Option}
use Rattle.mtrace_log.specs.declared.call.Call.{Call}

-- bytes, where a type tells them
abbrev pub Bytes : Type 0
Bytes = Option (List ℕ)

-- the bytes that a reader has left, those from the first on, and the outcomes of its calls, the latest first
pub record ReaderState : Type 0 where
  pub left : Bytes
  pub whole : Bytes
  pub calls : List Call

-- the bytes that a writer has taken, and the outcomes of its calls, the latest first
pub record WriterState : Type 0 where
  pub taken : Bytes
  pub calls : List Call
