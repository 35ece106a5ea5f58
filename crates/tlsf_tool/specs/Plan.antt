-- What the program does for what it is asked.
use Rattle.std.specs.Prelude.{◌≡◌, ◌⊎◌, ◌&&◌, Bool, true, false, not, List, None, Result, Err, String, IfOk, IfErr, codes, string_bytes, bytes_eq}
use Rattle.std.specs.declared.alloc.Global.{Global}
use Rattle.tlsf_tool.specs.declared.asked.Command.{Command}
use Rattle.tlsf_tool.specs.declared.asked.Command.TheVariants.{Report, Ledger, Parts, Reread, Save}
use Rattle.tlsf_tool.specs.declared.asked.ToolFault.{ToolFault}
use Rattle.tlsf_tool.specs.declared.asked.ToolFault.TheVariants.{ReadsOnce}
use Rattle.tlsf_tool.specs.declared.plan.Plan.{Plan}
use Rattle.tlsf_tool.specs.declared.plan.Streams.{Streams}
use Rattle.tlsf_tool.specs.CommandLine.{AskFor}
use Rattle.tlsf_tool.specs.Asks.{WordsGive}

-- the name is `-`: a log of that name comes from standard input, each other from its file
abbrev pub is_dash : String Global → Bool
is_dash name = bytes_eq (string_bytes name) (codes "-")

-- Standard error is a terminal, and the log isn't typed.
abbrev pub is_told_of : Streams → String Global → Bool
is_told_of streams log = streams.shown && not (streams.typed && is_dash log)

-- It is told how far a run is where a log is read, and no snapshots come meanwhile.
abbrev pub is_told : Streams → Command → Bool
is_told streams (Report name settings log) = is_told_of streams log
is_told streams (Ledger report None log) = is_told_of streams log
is_told streams (Parts front heaps log) = is_told_of streams log
is_told streams (Reread what log) = streams.shown
is_told streams (Save settings log image) = is_told_of streams log
is_told streams _ = false

-- the command reads its log more than once, and that is standard input, which is no file
abbrev pub reads_stream_again : Streams → Command → Bool
reads_stream_again streams (Reread what log) = is_dash log && not streams.again
reads_stream_again streams _ = false

-- The answer is the command that the words ask for, and whether it is told how far it is. A fault is that of the words, or
-- they ask to read more than once a standard input that is no file.
pub record PlansFor (words : List (String Global)) (streams : Streams) (result : Result Plan ToolFault) : Type 0 where
  pub asked : IfOk result (λ plan. AskFor words plan.command)
  pub told : IfOk result (λ plan. plan.notice ≡ is_told streams plan.command)
  pub read_once : IfOk result (λ plan. reads_stream_again streams plan.command ≡ false)
  pub faults : IfErr result (λ fault. WordsGive words (Err fault)
      ⊎ ((asked : Command) × AskFor words asked × (reads_stream_again streams asked ≡ true) × (fault ≡ ReadsOnce)))
