-- The definitions of calls on worked rows.
use Rattle.std.proofs.Common.{◌≡◌, ℕ, List, [], ◌∷◌, ◌++◌, Some, None, Ok, codes, refl}
use Rattle.std.specs.Fmt.{digits}
use Rattle.std.specs.declared.cmp.Ordering.TheVariants.{Less}
use Rattle.mtrace_log.specs.Bytes.{newline}
use Rattle.mtrace_log.specs.declared.event.Event.TheVariants.{Alloc, Free, Old, New}
use Rattle.mtrace_replay.specs.Entry.{Entry}
use Rattle.mtrace_replay.specs.Moment.{ReadLine}
use Rattle.mtrace_replay.specs.Sites.{origin_cmp}
use Rattle.mtrace_replay.specs.Calls.{Caller}
use Rattle.mtrace_replay.specs.Callers.{caller_cmp, calls_in, temporary_in}
use Rattle.mtrace_replay.specs.LedgerReplay.{ledger_moments}
use Rattle.mtrace_replay.specs.Texts.{callers_text}

abbrev caller : (calls bytes temporary : ℕ) → List ℕ → Caller
caller calls bytes temporary location = record { calls = calls; bytes = bytes; temporary = temporary; at = Some location }

-- most calls first, then most bytes, then the bytes of the locations
more_calls : caller_cmp (caller 2 8 0 (codes "b")) (caller 1 100 1 (codes "a")) ≡ Less
unfolding origin_cmp
more_calls = refl

more_bytes : caller_cmp (caller 1 9 0 (codes "b")) (caller 1 8 1 (codes "a")) ≡ Less
unfolding origin_cmp
more_bytes = refl

first_location : caller_cmp (caller 1 8 0 (codes "a")) (caller 1 8 0 (codes "b")) ≡ Less
unfolding origin_cmp
first_location = refl

-- `@ a + 0x10 0x8`, `- 0x10`, `@ b + 0x20 0x1`, `+ 0x30 0x2`, `- 0x20`, the latest first
lines : List ReadLine
lines = Ok (Free None 32) ∷ (Ok (Alloc None (Some 48) 2) ∷ (Ok (Alloc (Some (codes "b")) (Some 32) 1) ∷ (Ok (Free None 16) ∷ (Ok (Alloc (Some (codes "a")) (Some 16) 8) ∷ []))))

abbrev first_call : Entry
first_call = record { addr = 16; size = 8; line = 1; at = Some (codes "a") }

three_calls :
    calls_in (ledger_moments lines)
    ≡ record { addr = 48; size = 2; line = 4; at = None } ∷ (record { addr = 32; size = 1; line = 3; at = Some (codes "b") } ∷ (first_call ∷ []))
unfolding lines ledger_moments
three_calls = refl

-- the first block is released by the very next line, that of b by the second one
one_temporary : temporary_in lines (ledger_moments lines) ≡ first_call ∷ []
unfolding lines ledger_moments
one_temporary = refl

-- `@ a + 0x10 0x8`, `< 0x10`, `@ b > 0x10 0x9`, `- 0x10`: a block that moves isn't released by `-`
moved : List ReadLine
moved = Ok (Free None 16) ∷ (Ok (New (Some (codes "b")) 16 9) ∷ (Ok (Old None 16) ∷ (Ok (Alloc (Some (codes "a")) (Some 16) 8) ∷ [])))

moved_block : temporary_in moved (ledger_moments moved) ≡ record { addr = 16; size = 9; line = 3; at = Some (codes "b") } ∷ []
unfolding moved ledger_moments
moved_block = refl

-- words.log
last_line :
    callers_text (record { calls = 91; bytes = 13288; temporary = 1 }) (caller 1 200 1 (codes "./words:[0x1447]") ∷ [])
    ≡ (codes "Asked over the log: 91 calls, 13288 bytes, 1 temporary." ++ newline ∷ [])
    ++ (codes "200 bytes in 1 calls, 1 temporary at ./words:[0x1447]" ++ newline ∷ [])
unfolding digits
last_line = refl
