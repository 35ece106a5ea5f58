-- The points of the second reading are told, or it failed.
use Rattle.std.proofs.Common.{◌≤◌, ℕ, List, refl, sym, subst, arith, inl}
use Rattle.mtrace_log.specs.Progress.{greatest_number}
use Rattle.mtrace_replay.specs.declared.heap.point.Point.{Point}
use Rattle.mtrace_replay.specs.RunTimeline.{HasPoints}
use Rattle.mtrace_replay.specs.Texts.{timeline_text}
use Rattle.mtrace_replay.specs.Timeline.{AreTold}
use Rattle.mtrace_replay.proofs.Running.RunsAgain.{follows_told}
use Rattle.mtrace_replay.proofs.Running.TimelineLemmas.{tells_timeline, fails_before}
use Rattle.mtrace_replay.proofs.runs.timeline.tell_timeline.Goals as goal

pub returns-in_default-clause-told : goal.returns-in_default-clause-told
returns-in_default-clause-told g c = λ lines stands.
    let totals = c.totals-totals.result in
    let numbers = c.as_slice.result.now in
    let T : List ℕ → Type 0 = λ all. AreTold totals.lines totals.peak_line c.args.stretches all in
    let told : totals.peak_line ≤ totals.lines → T numbers = λ within. subst T (sym c.as_slice.ensures.value) (c.tell_lines.ensures.told within) in
    let few : totals.lines ≤ greatest_number = omega (arith, c.totals-totals.type_inv) in
    record {
      faults = inl refl;
      told = λ other. absurd (other refl);
      reader_not_failed = λ other. absurd (other refl);
      read_fault = λ _. fails_before c.args.settings c.args.stretches lines c.args.replay.now totals numbers (g.R.Source.shown c.args.reader.now) (g.R.Source.shown c.read_points.new.reader) c.requires.some stands c.totals-totals.ensures.totals told few
          (c.in_default.ensures.fails c.args.settings totals.lines c.restart.ensures.made);
      nothing_put = λ _. refl;
    }

pub returns-clause-told : goal.returns-clause-told
returns-clause-told g c = λ lines stands.
    let writes = g.W.Sink.shown in
    let totals = c.totals-totals.result in
    let numbers = c.as_slice.result.now in
    let T : List ℕ → Type 0 = λ all. AreTold totals.lines totals.peak_line c.args.stretches all in
    let told : totals.peak_line ≤ totals.lines → T numbers = λ within. subst T (sym c.as_slice.ensures.value) (c.tell_lines.ensures.told within) in
    let points = c.as_slice-2.result.now in
    let H : List Point → Type 0 = λ all. HasPoints c.args.settings numbers all (g.R.Source.shown c.args.reader.now).whole (g.R.Source.shown c.read_points.new.reader).left in
    let has = subst H (sym c.as_slice-2.ensures.value) (c.in-Ok.ensures.done c.args.settings c.restart.ensures.made) in
    let tells = tells_timeline c.args.settings c.args.stretches lines c.args.replay.now totals numbers points (g.R.Source.shown c.args.reader.now).whole (g.R.Source.shown c.read_points.new.reader).left
    c.requires.some stands c.totals-totals.ensures.totals told has in
    follows_told _ _ _ _ _ c.flush_behind.result
    (timeline_text points totals.refused) c.flush_behind.ensures.fault tells (c.flush_behind.ensures.flushed (writes c.args.writer.now) (timeline_text points totals.refused) c.put_timeline-put.ensures) c.in-Ok.ensures.not_failed
