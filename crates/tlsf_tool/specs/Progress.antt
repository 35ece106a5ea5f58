-- How far a run is, as it is told.
use Rattle.std.specs.Prelude.{◌≡◌, ◌==◌, ◌+◌, ◌-◌, ◌^◌, ℕ, List, Option, Some, None, min, max, count_by, length, nat_lt, if◌then◌else◌}
use Rattle.tlsf_tool.specs.declared.progress.Progress.{Progress}
use Rattle.tlsf_tool.specs.declared.progress.Counts.{Counts}

-- what is told after a piece at this second: all lines and bytes read, and the sizes tried, one less than the log was begun again
abbrev pub progress_of : Counts → Progress
progress_of counts = record { lines = counts.lines; bytes = counts.bytes; sizes = counts.begun - 1 }

-- The bytes of a piece are counted, and the lines that end in it. It is told how far the run is where a second began since that was told last.
pub record CountsPiece (piece : List ℕ) (seconds : ℕ) (result : Option Progress) (old new : Counts) : Type 0 where
  pub lines : new.lines ≡ min (old.lines + count_by (λ byte. byte == 10) piece) (2 ^ 64 - 1)
  pub bytes : new.bytes ≡ min (old.bytes + length piece) (2 ^ 64 - 1)
  pub begun : new.begun ≡ old.begun
  pub told : new.told ≡ max old.told seconds
  pub progress : result ≡ (if nat_lt old.told seconds then Some (progress_of new) else None)
