-- The words, and then what has changed.
use Rattle.std.proofs.Common.{List, [], ◌++◌, subst, sym, inl, inr}
use Rattle.mtrace_log.specs.Trace.{HasNotFailed}
use Rattle.mtrace_log.specs.declared.call.Call.{Call}
use Rattle.mtrace_log.specs.declared.call.Call.TheVariants.{Gave}
use Rattle.mtrace_log.proofs.TraceLemmas.{moved_none}
use Rattle.mtrace_log.proofs.Writing.{fails_early}
use Rattle.mtrace_replay.specs.Texts.{ledger_timeline_words}
use Rattle.mtrace_replay.specs.Again.{begun_again}
use Rattle.mtrace_replay.proofs.OnLedger.SitesAgainLemmas.{told_again, words_alone}
use Rattle.mtrace_replay.proofs.ledger.site_timeline.tell_again.Goals as goal

-- the words weren't put
pub returns-in_default-put_all : goal.returns-in_default-put_all
returns-in_default-put_all g c =
    let writes = g.W.Sink.shown in
    let reader = g.R.Source.shown c.args.reader.now in
    let P : List Call → Type 0 = λ calls. HasNotFailed (begun_again reader).calls calls in (
      ledger_timeline_words ++ [],
      inr (0, reader.whole, words_alone c.args.numbers.now reader),
      fails_early (writes c.args.writer.now) (writes c.put_all.new.writer) ledger_timeline_words [] c.in_default-put_all.ensures,
      inr (subst P (sym c.in-Ok.ensures.told) (inl (moved_none Gave (begun_again reader).calls))),
    )

pub returns : goal.returns
returns g c =
    let reads = g.R.Source.shown in
    let writes = g.W.Sink.shown in
    let began = c.in-Ok.ensures in
    told_again c.args.numbers.now (reads c.args.reader.now) (reads c.tell_lines.new.reader) (writes c.args.writer.now) (writes c.put_all.new.writer) (writes c.tell_lines.new.writer) c.in-Ok-put_all.ensures
    (reads c.begin.new.self) began.left began.whole began.told c.tell_lines.result c.tell_lines.ensures
