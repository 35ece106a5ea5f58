-- When a snapshot is put, by worked logs; the latest line comes first.
use Rattle.std.proofs.Common.{◌≡◌, ℕ, ◌∷◌, [], List, Some, None, Ok, Err, refl, codes}
use Rattle.std.specs.Fmt.{digits}
use Rattle.mtrace_log.specs.declared.event.Event.TheVariants.{Start, Alloc, Free, Failed}
use Rattle.mtrace_log.specs.declared.event.LineFault.TheVariants.{NotALine}
use Rattle.mtrace_replay.specs.Moment.{ReadLine}
use Rattle.mtrace_replay.specs.Marks.{spelled, time_told, asked_now, spans_over, snapshot_time}
use Rattle.mtrace_replay.specs.Snapshots.{snapshot_line}

-- `@ LOCATION ! (nil) 0`
abbrev mark : List ℕ → ReadLine
mark location = Ok (Failed (Some location) None 0)

spelled-rows : (spelled (codes "0") ≡ Some 0) × (spelled (codes "0012") ≡ Some 12) × (spelled (codes "18446744073709551615") ≡ Some 18446744073709551615)
    × (spelled (codes "18446744073709551616") ≡ None) × (spelled [] ≡ None) × (spelled (codes "+1") ≡ None) × (spelled (codes "1a") ≡ None)
spelled-rows = (refl, refl, refl, refl, refl, refl, refl)

marked-rows : (time_told (mark (codes "t1234")) ≡ Some 1234) × (asked_now (mark (codes "t1234")) ≡ None) × (asked_now (mark (codes "n7")) ≡ Some 7) × (time_told (mark (codes "t")) ≡ None)
    × (time_told (Ok (Failed (Some (codes "t5")) (Some 16) 0)) ≡ None) × (time_told (Ok (Failed (Some (codes "t5")) None 8)) ≡ None) × (time_told (Ok (Failed None None 0)) ≡ None)
    × (time_told (Ok (Alloc (Some (codes "t5")) None 0)) ≡ None) × (time_told (Err NotALine) ≡ None) × (time_told (Ok Start) ≡ None)
marked-rows = (refl, refl, refl, refl, refl, refl, refl, refl, refl, refl)

-- the first line to tell that a span is over, not the next of that span, not a time that goes back, and each line that asks
snapshot-rows : (snapshot_time 1000 [] ≡ None) × (snapshot_time 1000 (mark (codes "t999") ∷ []) ≡ None) × (snapshot_time 1000 (mark (codes "t1000") ∷ mark (codes "t999") ∷ []) ≡ Some 1000)
    × (snapshot_time 1000 (mark (codes "t1999") ∷ mark (codes "t1000") ∷ []) ≡ None) × (snapshot_time 1000 (mark (codes "t5001") ∷ mark (codes "t1000") ∷ []) ≡ Some 5001)
    × (snapshot_time 1000 (mark (codes "t4000") ∷ mark (codes "t5001") ∷ []) ≡ None) × (snapshot_time 1000 (mark (codes "n3") ∷ mark (codes "t5001") ∷ []) ≡ Some 3)
    × (snapshot_time 1000 (Ok (Free None 16) ∷ mark (codes "t5001") ∷ []) ≡ None) × (spans_over 1000 (mark (codes "n9000") ∷ mark (codes "t5001") ∷ []) ≡ 5)
snapshot-rows = (refl, refl, refl, refl, refl, refl, refl, refl, refl)

line-row : snapshot_line 4 1000 ≡ codes "At line 4, 1000 ms:\n"
unfolding digits
line-row = refl
