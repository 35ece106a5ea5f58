-- What a fault of the words explains.
use Rattle.std.specs.Prelude.{◌≡◌, ◌≢◌, ◌⊎◌, List, [], String, ⊤}
use Rattle.std.specs.declared.alloc.Global.{Global}
use Rattle.clap.specs.Words.{IsAmong}
use Rattle.clap.specs.declared.error.kind.ErrorKind.{ErrorKind}
use Rattle.clap.specs.declared.error.kind.ErrorKind.TheVariants.{DisplayHelp, DisplayVersion, OutOfMemory}
use Rattle.tlsf_tool.specs.declared.asked.ToolFault.{ToolFault}
use Rattle.tlsf_tool.specs.declared.asked.ToolFault.TheVariants.{Help, Usage}
use Rattle.tlsf_tool.specs.CommandLine.{wrong_with}

abbrev pub IsUsage : ToolFault → Type 0
IsUsage (Usage text) = ⊤
IsUsage _ = ⊥

-- the fault is help for the kinds that show a text, and a wrong use for the others
abbrev pub ExplainsKind : ErrorKind → ToolFault → Type 0
ExplainsKind kind (Help text) = (kind ≡ DisplayHelp) ⊎ (kind ≡ DisplayVersion)
ExplainsKind kind (Usage text) = (kind ≢ DisplayHelp) × (kind ≢ DisplayVersion) × (kind ≢ OutOfMemory)
ExplainsKind kind _ = ⊥

-- the fault explains one of the kinds, or is a wrong use where there is none
abbrev pub ExplainsWords : List (String Global) → ToolFault → Type 0
ExplainsWords words fault = ((kind : ErrorKind) × IsAmong kind (wrong_with words) × ExplainsKind kind fault)
    ⊎ (IsUsage fault × (wrong_with words ≡ []))
