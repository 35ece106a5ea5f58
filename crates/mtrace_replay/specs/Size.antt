-- How much memory is always enough for a program that keeps to bounds told beforehand.
use Rattle.std.specs.Prelude.{◌≡◌, ◌≢◌, ◌⊎◌, ◌↔◌, ℕ, ◌+◌, ◌*◌, min, ◌==◌, Bool, not, nat_le, List, ◌++◌, Option, Some, None, unwrap_or, option_and_then, Result, Err, IfOk, IfErr, IsErrOf, IsTrue, codes, if◌then◌else◌}
use Rattle.mtrace_log.specs.Shown.{WriterState}
use Rattle.tlsf_class.specs.Classes.{unit}
use Rattle.tlsf_class.specs.Rounding.{round}
use Rattle.tlsf_heap.specs.Memalign.{is_alignment}
use Rattle.tlsf_heap.specs.Sizing.{class_size, sure_records, sure_pool}
use Rattle.mtrace_replay.specs.declared.runs.size.Bounds.{Bounds}
use Rattle.mtrace_replay.specs.declared.runs.status.Status.{Status}
use Rattle.mtrace_replay.specs.declared.runs.status.Status.TheVariants.{Clean}
use Rattle.mtrace_replay.specs.declared.runs.status.RunFault.{RunFault}
use Rattle.mtrace_replay.specs.declared.runs.status.RunFault.TheVariants.{Write, BadSettings}
use Rattle.mtrace_log.specs.Progress.{greatest_number}
use Rattle.mtrace_replay.specs.Moment.{asked_size, rounded_bytes}
use Rattle.mtrace_replay.specs.Fronted.{with_front}
use Rattle.mtrace_replay.specs.Reporting.{PutsAndFlushes}
use Rattle.mtrace_replay.specs.Texts.{record_lines, size_line}
use Rattle.mtrace_replay.specs.Parts.{pool_bytes}

-- the alignment of the requests, 1 where none is told
abbrev pub align_of : Bounds → ℕ
align_of bounds = unwrap_or bounds.align 1

-- the alignment is none that memalign takes
abbrev pub are_bad_bounds : Bounds → Bool
are_bad_bounds bounds = not (is_alignment (align_of bounds))

-- the largest request with its bytes more
abbrev pub largest_of : Bounds → ℕ
largest_of bounds = with_front bounds.front bounds.largest

-- by how many bytes more a block grows at most
abbrev pub front_bytes : ℕ → ℕ
front_bytes front = if front == 0 then 0 else rounded_bytes front

-- The bytes told, rounded up, but as they are above the greatest size, and by how many each block grows, but no more than the greatest
-- number; or else as many blocks as there are, each of the largest size.
abbrev pub blocks_bytes : Bounds → Option ℕ → ℕ
blocks_bytes bounds None = bounds.blocks * rounded_bytes (largest_of bounds)
blocks_bytes bounds (Some bytes) = min (unwrap_or (round (asked_size bytes)) bytes + bounds.blocks * front_bytes bounds.front) greatest_number

-- The one size that blocks have where each request is rounded up to the class size of the largest. None where an alignment above the
-- unit is asked for: a gap may then lie in front of a block.
abbrev pub one_size : Bounds → Option ℕ
one_size bounds = if nat_le (align_of bounds) unit then class_size (align_of bounds) (largest_of bounds) else None

-- The pool that is always enough for blocks of one size: it has as many as are live at once. None where there is no such size, or no
-- pool is so large.
abbrev pub rounded_pool : (blocks : ℕ) → Option ℕ → Option ℕ
rounded_pool blocks size = option_and_then (λ bytes. pool_bytes (record { blocks = blocks; size = bytes })) size

-- the records with their table, the pool that is always enough, and the one for blocks of one size
abbrev pub bounds_text : Bounds → List ℕ
bounds_text bounds =
    record_lines (sure_records bounds.blocks)
    ++ (size_line (codes "sure pool: ") (sure_pool bounds.blocks (blocks_bytes bounds bounds.bytes) (class_size (align_of bounds) (largest_of bounds)))
    ++ size_line (codes "rounded pool: ") (rounded_pool bounds.blocks (one_size bounds)))

-- What a run leaves that tells so. `BadSettings` comes exactly for bad bounds, and then nothing is written. Else the text is put
-- and flushed, or a beginning of it is put, and the writer failed.
pub record RunsSize {W : Type 0} (bounds : Bounds) (writes : W → WriterState) (result : Result Status RunFault) (writer_old writer_new : W) : Type 0 where
  pub bad_bounds : IsErrOf result BadSettings ↔ IsTrue (are_bad_bounds bounds)
  pub nothing_done : IsErrOf result BadSettings → writer_new ≡ writer_old
  pub faults : IfErr result (λ fault. (fault ≡ BadSettings) ⊎ (fault ≡ Write))
  pub clean : IfOk result (λ status. status ≡ Clean)
  pub told : result ≢ Err BadSettings → PutsAndFlushes result (bounds_text bounds) (writes writer_old) (writes writer_new)
