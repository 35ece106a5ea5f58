-- How much memory is always enough for heaps by size, each for blocks that are told beforehand.
use Rattle.std.specs.Prelude.{◌≡◌, ◌≢◌, ◌⊎◌, ◌↔◌, ◌||◌, ◌==◌, ℕ, nat_lt, Bool, not, List, [], ◌∷◌, ◌++◌, length, flat_map, codes, is_some, Option, Some, option_map, option_and_then, Result, Err, IfOk, IfErr, IsErrOf, IsTrue}
use Rattle.mtrace_log.specs.Shown.{WriterState}
use Rattle.tlsf_heap.specs.Sizing.{class_size}
use Rattle.mtrace_replay.specs.declared.runs.size_parts.PartBounds.{PartBounds}
use Rattle.mtrace_replay.specs.declared.runs.status.Status.{Status}
use Rattle.mtrace_replay.specs.declared.runs.status.Status.TheVariants.{Clean}
use Rattle.mtrace_replay.specs.declared.runs.status.RunFault.{RunFault}
use Rattle.mtrace_replay.specs.declared.runs.status.RunFault.TheVariants.{Write, BadSettings}
use Rattle.mtrace_replay.specs.Reporting.{PutsAndFlushes}
use Rattle.mtrace_replay.specs.Texts.{size_line}
use Rattle.mtrace_replay.specs.Fronted.{with_front}
use Rattle.mtrace_replay.specs.Parts.{Part, pool_bytes, records_bytes, sum_over, part_line}

-- the part for requests of at most these bytes and the front: its blocks have the class size; none where there is no such class
abbrev pub part_for : (front : ℕ) → PartBounds → Option Part
part_for front bounds = option_map (λ size. record { blocks = bounds.blocks; size = size }) (class_size 1 (with_front front bounds.largest))

-- the parts for all of them; none where one has none
abbrev pub parts_for : (front : ℕ) → List PartBounds → Option (List Part)
parts_for front [] = Some []
parts_for front (bounds ∷ more) = option_and_then (λ part. option_map (λ parts. part ∷ parts) (parts_for front more)) (part_for front bounds)

-- there are no parts, or more than eight, or one has no class
abbrev pub are_bad_parts : (front : ℕ) → List PartBounds → Bool
are_bad_parts front all = (length all == 0) || (nat_lt 8 (length all) || not (is_some (parts_for front all)))

-- a line for each part, and the sums
abbrev pub sized_parts_text : List Part → List ℕ
sized_parts_text parts = flat_map part_line parts ++ (size_line (codes "sum: ") (sum_over pool_bytes parts) ++ size_line (codes "tables: ") (sum_over records_bytes parts))

-- What a run leaves that tells so. `BadSettings` comes exactly for bad parts, and then nothing is written. Else the text is put and
-- flushed, or a beginning of it is put, and the writer failed.
pub record RunsSizeParts {W : Type 0} (front : ℕ) (all : List PartBounds) (writes : W → WriterState) (result : Result Status RunFault) (writer_old writer_new : W) : Type 0 where
  pub bad_parts : IsErrOf result BadSettings ↔ IsTrue (are_bad_parts front all)
  pub nothing_done : IsErrOf result BadSettings → writer_new ≡ writer_old
  pub faults : IfErr result (λ fault. (fault ≡ BadSettings) ⊎ (fault ≡ Write))
  pub clean : IfOk result (λ status. status ≡ Clean)
  pub told : result ≢ Err BadSettings → (parts : List Part) × (parts_for front all ≡ Some parts) × PutsAndFlushes result (sized_parts_text parts) (writes writer_old) (writes writer_new)
