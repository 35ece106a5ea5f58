-- A text is put and flushed.
use Rattle.std.proofs.Common.{◌≡◌, ℕ, true, List, ◌∷◌, ◌∙◌, inl, inr}
use Rattle.std.specs.Prelude.{Result, Ok, Err}
use Rattle.std.specs.Result.{is_err}
use Rattle.mtrace_log.specs.Shown.{WriterState}
use Rattle.mtrace_log.specs.declared.call.Call.TheVariants.{Took, Flushed, FlushFailed}
use Rattle.mtrace_log.specs.declared.failed.Failed.{Failed}
use Rattle.mtrace_log.specs.Output.{Begins, PutsAll, Puts}
use Rattle.mtrace_log.specs.Trace.{flushed, HasFailedToWrite}
use Rattle.mtrace_log.proofs.TraceLemmas.{moved_then_last}
use Rattle.mtrace_log.proofs.Writing.{Begins-all}
use Rattle.mtrace_replay.specs.Reporting.{PutsAndFlushes}

-- a call that failed put a beginning
pub put_failed : {T E : Type 0} (result : Result T E) (text : List ℕ) (old new : WriterState)
    → true ≡ is_err result → Puts result text old new → Begins old new text × HasFailedToWrite old.calls new.calls
put_failed (Ok done) text old new is put = absurd (cc)
put_failed (Err failure) text old new is put = (put.begun, inl put.failed)

-- all is put, and then the writer is asked to flush
pub flushed_then : (result : Result (Unit {0}) Failed) (text : List ℕ) (old middle new : WriterState)
    → PutsAll text old middle → new.taken ≡ middle.taken → new.calls ≡ flushed result ∷ middle.calls → PutsAndFlushes result text old new
flushed_then (Ok done) text old middle new put kept told = (kept ∙ put.wrote, moved_then_last Took Flushed old.calls middle.calls new.calls put.took told)
flushed_then (Err failure) text old middle new put kept told =
    (Begins-all old new text (kept ∙ put.wrote), inr (moved_then_last Took FlushFailed old.calls middle.calls new.calls put.took told))
