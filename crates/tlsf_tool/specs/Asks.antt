-- What the calls answer that read the words.
use Rattle.std.specs.Prelude.{◌≡◌, ◌⊎◌, List, Option, Result, String, IfOk, IfErr, IfSome, IfNone}
use Rattle.std.specs.declared.alloc.Global.{Global}
use Rattle.clap.specs.Words.{Row, Text}
use Rattle.mtrace_replay.specs.declared.runs.status.RunFault.TheVariants.{OutOfMemory}
use Rattle.tlsf_tool.specs.declared.asked.Command.{Command}
use Rattle.tlsf_tool.specs.declared.asked.ToolFault.{ToolFault}
use Rattle.tlsf_tool.specs.declared.asked.ToolFault.TheVariants.{Run}
use Rattle.tlsf_tool.specs.CommandLine.{AskFor, MatchesAskFor}
use Rattle.tlsf_tool.specs.Faults.{ExplainsWords, IsUsage}

-- one of which this is true, or none where it is true of none
pub record Picks {A : Type 0} (IsIt : A → Type 0) (found : Option A) : Type 0 where
  pub given : IfSome found IsIt
  pub other : IfNone found ((one : A) → IsIt one → ⊥)

-- what was asked for; or memory was refused, or the words are wrong, since this is missing
pub record Asks {A : Type 0} (IsAsked : A → Type 0) (Missing : Type 0) (result : Result A ToolFault) : Type 0 where
  pub asked : IfOk result IsAsked
  pub faults : IfErr result (λ fault. (fault ≡ Run OutOfMemory) ⊎ (IsUsage fault × Missing))

-- the command that the subcommand and its matches ask for, or they ask for none
abbrev pub MatchesGive : Option (Text × List Row) → Result Command ToolFault → Type 0
MatchesGive found result = Asks (MatchesAskFor found) ((command : Command) → MatchesAskFor found command → ⊥) result

-- the command that the words ask for, or what is wrong with them, and then they ask for none
pub record WordsGive (words : List (String Global)) (result : Result Command ToolFault) : Type 0 where
  pub asked : IfOk result (AskFor words)
  pub faults : IfErr result (λ fault. (fault ≡ Run OutOfMemory) ⊎ ExplainsWords words fault)
  pub nothing_asked : IfErr result (λ fault. (fault ≡ Run OutOfMemory) ⊎ ((command : Command) → AskFor words command → ⊥))
