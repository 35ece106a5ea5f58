-- Stretches that aren't bad, so the log is read.
use Rattle.std.proofs.Common.{arith, refl, sym, ap, subst, ◌∙◌}
use Rattle.std.specs.Prelude.{Ok}
use Rattle.std.proofs.lemmas.List.{length-reverse}
use Rattle.mtrace_replay.specs.declared.ledger.replay.LedgerTotals.{LedgerTotals}
use Rattle.mtrace_replay.specs.Totals.{IsPeak}
use Rattle.mtrace_replay.specs.LedgerReplay.{ledger_history}
use Rattle.mtrace_replay.proofs.Running.RunsAgain.{not_bad}
use Rattle.mtrace_replay.proofs.ledger.site_timeline.run_site_timeline.Goals as goal

pub returns : goal.returns
returns g c =
    let last = c.in-Ok.ensures.last refl in
    let lines = last.reports.lines in
    record {
      bad_stretches = λ bad. absurd (not_bad c.args.stretches (omega (arith, c.if-stretches-eq0)) (omega (arith, c.if-stretches-gt-MOST_STRETCHES)) bad);
      runs = λ good. record {
        run = Ok c.in-Ok.ended.status;
        reader_middle = c.follow_log.new.reader;
        writer_middle = c.follow_log.new.writer;
        runs = c.in-Ok.ensures.ran;
        goes_on = record {
          reports = last.reports;
          answer = c.tell_sites.ensures.answer;
          follow = c.tell_sites.ensures.told lines (ap (λ (totals : LedgerTotals). totals.lines) c.totals-totals.ensures ∙ last.stands.lines_are ∙ length-reverse lines)
              (subst (λ (totals : LedgerTotals). IsPeak (ledger_history lines) totals.peak_bytes totals.peak_line) (sym c.totals-totals.ensures) last.stands.peak);
        };
      };
    }
