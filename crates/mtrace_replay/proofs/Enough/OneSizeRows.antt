-- Worked logs of blocks of one size, computed by the definitions.
use Rattle.std.proofs.Common.{◌≡◌, List, [], ◌∷◌, map, reverse, Some, None, Ok, refl}
use Rattle.mtrace_log.specs.declared.event.Event.TheVariants.{Alloc, Free, Old, New, Aligned}
use Rattle.tlsf_class.specs.Classes.{class, need, low}
use Rattle.tlsf_class.specs.Rounding.{rounded}
use Rattle.mtrace_replay.specs.Started.{started}
use Rattle.mtrace_replay.specs.Moment.{ReadLine, idle, give, take, move}
use Rattle.mtrace_replay.specs.History.{moments}
use Rattle.mtrace_replay.specs.LedgerReplay.{ledger_moments}
use Rattle.mtrace_replay.specs.Fit.{one_pool}
use Rattle.mtrace_replay.specs.RunFit.{refusals}
use Rattle.mtrace_replay.specs.OneSize.{rounded_up, ledger_acts}

-- `+ 0x10 0x31`, `+ 0x20 0x40`, `- 0x10`, `* 0x30 0x20 0x1`, `< 0x20`, `> 0x20 0x5`, `- 0x30`: at most two are held
abbrev two : List ReadLine
two =
    Ok (Alloc None (Some 16) 49)
    ∷ Ok (Alloc None (Some 32) 64)
    ∷ Ok (Free None 16)
    ∷ Ok (Aligned None 48 32 1)
    ∷ Ok (Old None 32)
    ∷ Ok (New None 32 5)
    ∷ Ok (Free None 48)
    ∷ []

-- each request is for 64 bytes then, and for no alignment
rounded_up-rows : map (rounded_up 64) two ≡ Ok (Alloc None (Some 16) 64) ∷ Ok (Alloc None (Some 32) 64) ∷ Ok (Free None 16) ∷ Ok (Alloc None (Some 48) 64) ∷ Ok (Old None 32) ∷ Ok (New None 32 64) ∷ Ok (Free None 48) ∷ []
rounded_up-rows = refl

-- the acts of the last lines, the latest first
ledger_acts-rows : ledger_acts (reverse (Ok (Alloc None (Some 16) 64) ∷ Ok (Old None 16) ∷ Ok (New None 32 64) ∷ Ok (Free None 32) ∷ []))
    ≡ take 32 0 ∷ move 16 0 (record { addr = 32; size = 64; line = 3; at = None }) ∷ idle ∷ give (record { addr = 16; size = 64; line = 1; at = None }) None ∷ []
unfolding ledger_moments
ledger_acts-rows = refl

-- two blocks of 64 bytes serve it, with a record for each; 16 bytes less or a record less don't
enough-rows : (refusals (one_pool 128 2) (map (rounded_up 64) two) ≡ 0) × (refusals (one_pool 112 2) (map (rounded_up 64) two) ≡ 2) × (refusals (one_pool 128 1) (map (rounded_up 64) two) ≡ 4)
unfolding started moments class need low rounded
enough-rows = (refl, refl, refl)
