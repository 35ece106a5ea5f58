-- The log begins again once, and then it is tried.
use Rattle.std.proofs.Common.{◌∙◌, arith}
use Rattle.std.proofs.lemmas.Grind.{common_steps}
use Rattle.mtrace_replay.specs.Fit.{one_pool}
use Rattle.mtrace_replay.proofs.Running.TriedLemmas.{begun_once, fails_again, on_ok, on_err}
use Rattle.mtrace_replay.proofs.runs.fit.try_size.Goals as goal

pub returns : goal.returns
returns g c =
    let reads = g.R.Source.shown in
    record {
      tried = grind (arith, common_steps);
      begun = on_ok c.is_served.result c.is_served.ensures.begun
          (begun_once (reads c.args.reader.now).calls (reads c.begin.new.self).calls (reads c.is_served.new.reader).calls c.in_ok-begin.ensures.told);
      read = on_err c.is_served.result c.is_served.ensures.read
          (λ failed. fails_again c.args.trial.many (reads c.args.reader.now) (reads c.begin.new.self) (reads c.is_served.new.reader) c.in_ok-begin.ensures.left c.in_ok-begin.ensures.whole c.in_ok-begin.ensures.told
          (failed (one_pool c.args.size c.args.trial.records) c.restart.ensures.made));
      whole = c.is_served.ensures.whole ∙ c.in_ok-begin.ensures.whole;
      records = c.is_served.ensures.records ∙ c.restart.ensures.records;
    }
