-- Logs that ask for blocks of one size alone.
use Rattle.std.specs.Prelude.{◌≡◌, ℕ, suc, ◌≤◌, List, [], ◌∷◌, length, Some, None, Ok, IsTrue, ⊤}
use Rattle.tlsf_class.specs.Classes.{unit}
use Rattle.tlsf_class.specs.Rounding.{round}
use Rattle.tlsf_heap.specs.Memalign.{is_alignment}
use Rattle.mtrace_log.specs.declared.event.Event.TheVariants.{Alloc, New, Aligned}
use Rattle.mtrace_replay.specs.Moment.{ReadLine, asked_size, Act, give, move, plan}
use Rattle.mtrace_replay.specs.History.{held, pending}
use Rattle.mtrace_replay.specs.LedgerReplay.{ledger_moments}

-- what the line behind these does where no heap is asked
abbrev pub ledger_act : ReadLine → List ReadLine → Act
ledger_act line past = (plan (suc (length past)) line (pending past) (held (ledger_moments past))).act

-- what each line does, the latest first
abbrev pub ledger_acts : List ReadLine → List Act
ledger_acts [] = []
ledger_acts (line ∷ past) = ledger_act line past ∷ ledger_acts past

-- What is asked for is a block of this size. An alignment is at most the unit, which each block has anyway.
abbrev pub AsksForSize : ℕ → Act → Type 0
AsksForSize size (give entry None) = round (asked_size entry.size) ≡ Some size
AsksForSize size (give entry (Some align)) = IsTrue (is_alignment align) × (align ≤ unit) × (round (asked_size entry.size) ≡ Some size)
AsksForSize size (move old place entry) = round (asked_size entry.size) ≡ Some size
AsksForSize size _ = ⊤

-- the line, asking for this many bytes, and for no alignment, where it asks for a block
abbrev pub rounded_up : ℕ → ReadLine → ReadLine
rounded_up size (Ok (Alloc at address bytes)) = Ok (Alloc at address size)
rounded_up size (Ok (Aligned at address align bytes)) = Ok (Alloc at (Some address) size)
rounded_up size (Ok (New at address bytes)) = Ok (New at address size)
rounded_up size line = line
