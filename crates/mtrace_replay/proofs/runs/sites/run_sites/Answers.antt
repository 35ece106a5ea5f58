-- Memory or settings fail before the log is read.
use Rattle.std.proofs.Common.{rules, refl}
use Rattle.std.specs.Prelude.{Ok}
use Rattle.mtrace_replay.specs.RunSites.{SitesFollow}
use Rattle.mtrace_replay.proofs.Running.RunsAgain.{again_undone}
use Rattle.mtrace_replay.proofs.runs.sites.run_sites.Goals as goal

pub returns-in-Err-BadSettings : goal.returns-in-Err-BadSettings
returns-in-Err-BadSettings g c =
    again_undone c.args.settings (SitesFollow c.args.settings) g.R.Source.shown g.W.Sink.shown _ c.args.reader.now c.args.writer.now (refl, refl) (search rules)

pub returns-in-Err-OutOfMemory : goal.returns-in-Err-OutOfMemory
returns-in-Err-OutOfMemory g c =
    again_undone c.args.settings (SitesFollow c.args.settings) g.R.Source.shown g.W.Sink.shown _ c.args.reader.now c.args.writer.now (refl, refl) (search rules)

pub returns : goal.returns
returns g c =
    let settings = c.args.settings in
    let ended = c.in_ok-ended.ended in
    let last = c.in_ok-ended.ensures.last refl in
    record {
      run = Ok ended.status;
      reader_middle = c.replay_log.new.reader;
      writer_middle = c.replay_log.new.writer;
      runs = c.in_ok-ended.ensures.ran;
      goes_on = record { reports = last.reports; answer = c.tell_sites.ensures.answer; follow = c.tell_sites.ensures.told settings last.reports.lines last.stands c.in-Ok.ensures.made.replay };
    }
