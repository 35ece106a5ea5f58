-- The points of the second reading are told, or it failed.
use Rattle.std.proofs.Common.{◌≤◌, ℕ, List, refl, sym, subst, arith, inl}
use Rattle.mtrace_log.specs.Progress.{greatest_number}
use Rattle.mtrace_replay.specs.declared.ledger.point.LedgerPoint.{LedgerPoint}
use Rattle.mtrace_replay.specs.LedgerTimeline.{HasLedgerPoints}
use Rattle.mtrace_replay.specs.Texts.{ledger_timeline_text}
use Rattle.mtrace_replay.specs.Timeline.{AreTold}
use Rattle.mtrace_replay.proofs.Running.AgainLemmas.{other_result}
use Rattle.mtrace_replay.proofs.Running.RunsAgain.{follows_told}
use Rattle.mtrace_replay.proofs.OnLedger.LedgerTimelineLemmas.{never_memory, follows_stopped, tells_points, fails_before_last}
use Rattle.mtrace_replay.proofs.ledger.timeline.tell_timeline.Goals as goal

pub returns-in_default-clause-told : goal.returns-in_default-clause-told
returns-in_default-clause-told g c = λ lines count peak. record {
  follows = λ other. absurd (other refl);
  nothing_put = λ is. refl;
  not_failed = λ is. inl refl;
}

pub returns-in-Err-clause-told : goal.returns-in-Err-clause-told
returns-in-Err-clause-told g c = λ lines count peak.
    let reads = g.R.Source.shown in
    let totals = c.args.totals in
    let numbers = c.as_slice.result.now in
    let read = c.in-Err.ensures in
    let T : List ℕ → Type 0 = λ all. AreTold totals.lines totals.peak_line c.args.stretches all in
    let told : totals.peak_line ≤ totals.lines → T numbers = λ within. subst T (sym c.as_slice.ensures.value) (c.in-Ok.ensures.told within) in
    let few : totals.lines ≤ greatest_number = omega (arith, c.well_formed) in
    record {
      follows = follows_stopped _ _ _ _ _ _ c.in-Err.fault read.faults
          (λ is. fails_before_last c.args.stretches lines totals numbers c.requires.some count peak told (reads c.args.reader.now) (reads c.read_points.new.reader) few (read.fails (other_result _ _ is)));
      nothing_put = λ is. refl;
      not_failed = λ is. read.memory (other_result _ _ is);
    }

pub returns-clause-told : goal.returns-clause-told
returns-clause-told g c = λ lines count peak.
    let reads = g.R.Source.shown in
    let writes = g.W.Sink.shown in
    let totals = c.args.totals in
    let numbers = c.as_slice.result.now in
    let points = c.as_slice-2.result.now in
    let read = c.in-Ok-read_points.ensures in
    let T : List ℕ → Type 0 = λ all. AreTold totals.lines totals.peak_line c.args.stretches all in
    let told : totals.peak_line ≤ totals.lines → T numbers = λ within. subst T (sym c.as_slice.ensures.value) (c.in-Ok.ensures.told within) in
    let H : List LedgerPoint → Type 0 = λ all. HasLedgerPoints numbers all (reads c.args.reader.now).whole (reads c.read_points.new.reader).left in
    let has = subst H (sym c.as_slice-2.ensures.value) read.done in
    let tells = tells_points c.args.stretches lines totals numbers c.requires.some count peak told points (reads c.args.reader.now).whole (reads c.read_points.new.reader).left has in
    let never = never_memory c.flush_behind.result c.flush_behind.ensures.fault in
    record {
      follows = λ other. follows_told _ _ _ _ _ c.flush_behind.result
          (ledger_timeline_text points) c.flush_behind.ensures.fault tells (c.flush_behind.ensures.flushed (writes c.args.writer.now) (ledger_timeline_text points) c.put_timeline-put.ensures) read.not_failed;
      nothing_put = λ is. absurd (never is);
      not_failed = λ is. absurd (never is);
    }
