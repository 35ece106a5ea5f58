-- Worked logs of heaps by size, computed by the definitions.
use Rattle.std.proofs.Common.{◌≡◌, ℕ, Bool, List, [], ◌∷◌, reverse, Some, None, Ok, refl}
use Rattle.mtrace_log.specs.declared.event.Event.TheVariants.{Alloc, Free, Old, New, Aligned}
use Rattle.tlsf_class.specs.Classes.{class, need, low}
use Rattle.tlsf_class.specs.Rounding.{rounded}
use Rattle.mtrace_replay.specs.Started.{started}
use Rattle.mtrace_replay.specs.Moment.{ReadLine}
use Rattle.mtrace_replay.specs.History.{moments}
use Rattle.mtrace_replay.specs.LedgerReplay.{ledger_moments}
use Rattle.mtrace_replay.specs.Fit.{one_pool}
use Rattle.mtrace_replay.specs.RunFit.{refusals}
use Rattle.mtrace_replay.specs.Parts.{range_of, class_at}
use Rattle.mtrace_replay.specs.PartLog.{falls_under, part_log}

-- `+ 0x10 0x64`, `* 0x20 0x1000 0x64`, `< 0x10`, `> 0x30 0x400`, `< 0x30`, `> 0x10 0x3c0`, `- 0x20`, `- 0x10`: the first block moves
-- from the heap for at most 128 bytes to that for at most 1,024, and then within it
abbrev lines : List ReadLine
lines =
    Ok (Alloc None (Some 16) 100)
    ∷ Ok (Aligned None 32 4096 100)
    ∷ Ok (Old None 16)
    ∷ Ok (New None 48 1024)
    ∷ Ok (Old None 48)
    ∷ Ok (New None 16 960)
    ∷ Ok (Free None 32)
    ∷ Ok (Free None 16)
    ∷ []

abbrev small : ℕ → Bool
small = falls_under (class_at (reverse lines)) 0 3

abbrev middle : ℕ → Bool
middle = falls_under (class_at (reverse lines)) 4 6

abbrev large : ℕ → Bool
large = falls_under (class_at (reverse lines)) 7 26

-- the log of each, the first line first: an aligned block is asked for with what its alignment adds, at no alignment
logs-rows : (reverse (part_log small 112 (reverse lines)) ≡ Ok (Alloc None (Some 16) 112) ∷ Ok (Free None 16) ∷ [])
    × (reverse (part_log middle 1024 (reverse lines)) ≡ Ok (Alloc None (Some 48) 1024) ∷ Ok (Old None 48) ∷ Ok (New None 16 1024) ∷ Ok (Free None 16) ∷ [])
    × (reverse (part_log large 4224 (reverse lines)) ≡ Ok (Alloc None (Some 32) 4224) ∷ Ok (Free None 32) ∷ [])
unfolding part_log ledger_moments range_of need low rounded
logs-rows = (refl, refl, refl)

-- one block of 1,024 bytes serves the second; without it each line that asks for one is refused
served-rows : (refusals (one_pool 1024 1) (reverse (part_log middle 1024 (reverse lines))) ≡ 0) × (refusals (one_pool 1008 1) (reverse (part_log middle 1024 (reverse lines))) ≡ 2)
unfolding part_log ledger_moments range_of started moments class need low rounded
served-rows = (refl, refl)
