-- What has changed is told in a second reading.
use Rattle.std.proofs.Common.{◌≤◌, ℕ, List, [], length, sym, subst, ◌∙◌, arith, inl, refl}
use Rattle.mtrace_log.specs.Progress.{greatest_number}
use Rattle.mtrace_log.specs.declared.call.Call.TheVariants.{Took}
use Rattle.mtrace_log.proofs.TraceLemmas.{moved_none}
use Rattle.mtrace_log.proofs.Writing.{Wrote-nothing}
use Rattle.mtrace_replay.specs.Course.{course}
use Rattle.mtrace_replay.specs.Timeline.{AreTold}
use Rattle.mtrace_replay.proofs.Running.RunLemmas.{flush_asked}
use Rattle.mtrace_replay.proofs.OnLedger.LedgerTimelineLemmas.{all_within, numbers_are}
use Rattle.mtrace_replay.proofs.OnLedger.SitesAgainLemmas.{follows}
use Rattle.mtrace_replay.proofs.ledger.site_timeline.tell_sites.Goals as goal

-- memory was refused for the numbers
pub returns-in_default-clause-told : goal.returns-in_default-clause-told
returns-in_default-clause-told g c = λ lines count peak.
    let old = g.W.Sink.shown c.args.writer.now in
    let new = g.W.Sink.shown c.flush.new.self in (
      [],
      inl refl,
      c.flush.ensures.kept ∙ Wrote-nothing old,
      flush_asked c.flush.result old.calls old.calls new.calls (moved_none Took old.calls) c.flush.ensures.told,
      inl refl,
    )

pub returns-clause-told : goal.returns-clause-told
returns-clause-told g c = λ lines count peak.
    let totals = c.args.totals in
    let numbers = c.as_slice.result.now in
    let T : List ℕ → Type 0 = λ all. AreTold totals.lines totals.peak_line c.args.stretches all in
    let told : totals.peak_line ≤ totals.lines → T numbers = λ within. subst T (sym c.as_slice.ensures.value) (c.in-Ok.ensures.told within) in
    let few : length lines ≤ greatest_number = omega (arith, c.well_formed, count) in
    follows c.args.stretches lines numbers (numbers_are c.args.stretches lines totals numbers c.requires.some count peak told) (all_within c.args.stretches lines totals numbers c.requires.some count peak told) few
    (course g.R.Source.shown c.args.reader.now c.tell_again-told.new.reader) (course g.W.Sink.shown c.args.writer.now c.flush_told.new.writer) c.args.status
    (g.W.Sink.shown c.tell_again-told.new.writer) c.tell_again-told.result c.flush_told.result c.tell_again-told.ensures c.flush_told.ensures
