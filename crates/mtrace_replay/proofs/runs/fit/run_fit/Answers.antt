-- A step that isn't bad, so the log is read.
use Rattle.std.proofs.Common.{◌≡◌, Bool, List, true, false, sym, ◌∙◌, subst, inl, inr, ◌⊎◌}
use Rattle.std.specs.Prelude.{Result, Ok, Err, IfErr, IsErrOf, IsTrue}
use Rattle.mtrace_replay.specs.declared.heap.settings.Settings.{Settings}
use Rattle.mtrace_replay.specs.declared.runs.status.Status.{Status}
use Rattle.mtrace_replay.specs.declared.runs.status.RunFault.{RunFault}
use Rattle.mtrace_replay.specs.declared.runs.status.RunFault.TheVariants.{Read, Write, BadSettings}
use Rattle.mtrace_replay.specs.Course.{course}
use Rattle.mtrace_replay.specs.Fit.{greatest_settings}
use Rattle.mtrace_replay.specs.Moment.{ReadLine}
use Rattle.mtrace_replay.specs.Started.{started}
use Rattle.mtrace_replay.specs.Replay.{StandsFor}
use Rattle.mtrace_replay.specs.Fronted.{fronted}
use Rattle.mtrace_replay.specs.Needs.{AreNeeds, RunsFronted, EndsWithNeeds}
use Rattle.mtrace_replay.proofs.Running.FrontedLemmas.{fronted_reversed}
use Rattle.mtrace_replay.proofs.runs.fit.run_fit.Goals as goal

not_bad : (bad : Bool) → bad ≡ false → IsTrue bad → ⊥
not_bad true is bad = cc
not_bad false is bad = cc

no_bad_settings : (result : Result Status RunFault) → IfErr result (λ fault. (fault ≡ Read) ⊎ (fault ≡ Write)) → IsErrOf result BadSettings → ⊥
no_bad_settings (Ok status) faults is = cc
no_bad_settings (Err fault) (inl read) is = cc
no_bad_settings (Err fault) (inr write) is = cc

pub returns : goal.returns
returns g c =
    let reads = g.R.Source.shown in
    let writes = g.W.Sink.shown in
    let ended = c.in_ok-ended.ended in
    let E : Settings → Type 0 = λ settings. EndsWithNeeds c.args.front settings ended.status ended.replay (reads c.args.reader.now) (reads c.replay_needs.new.reader) (writes c.args.writer.now) (writes c.replay_needs.new.writer) in
    let R : Settings → Type 0 = λ settings. RunsFronted c.args.front settings (Ok ended.status) (course reads c.args.reader.now c.replay_needs.new.reader) (course writes c.args.writer.now c.replay_needs.new.writer) in
    let last = subst E c.greatest.ensures c.in_ok-ended.ensures.last in
    let ran = subst R c.greatest.ensures c.in_ok-ended.ensures.ran in
    let lines : List ReadLine = fronted c.args.front last.reports.lines in
    let same = fronted_reversed c.args.front last.reports.lines in
    let stands = subst (λ past. StandsFor ended.replay.replay greatest_settings past) same last.stands in
    let needs = subst (λ past. AreNeeds (started greatest_settings) past ended.replay.needs) same last.needs in
    let follow = c.tell_fit.ensures.told lines stands needs in
    record {
      bad_step = ((λ is. absurd (no_bad_settings c.tell_fit.result follow.1.faults is)), (λ bad. absurd (not_bad _ (sym c.is_bad_step.ensures ∙ c.if-is_bad_step.false) bad)));
      nothing_done = λ is. absurd (no_bad_settings c.tell_fit.result follow.1.faults is);
      runs = λ good. record {
        run = Ok ended.status;
        reader_middle = c.replay_needs.new.reader;
        writer_middle = c.replay_needs.new.writer;
        runs = ran;
        goes_on = record { reports = last.reports; answer = c.tell_fit.ensures.answer; follow = follow };
      };
    }
