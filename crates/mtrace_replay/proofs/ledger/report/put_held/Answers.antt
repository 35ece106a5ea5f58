-- The heading, the entries, then the total.
use Rattle.std.proofs.Common.{ℕ, List, ◌++◌, sym, subst, ◌∙◌, flat_map}
use Rattle.mtrace_log.specs.Output.{PutsBeginning, Puts}
use Rattle.mtrace_log.proofs.Writing.{puts_on, puts_then, fails_on, fails_early, puts_exit}
use Rattle.mtrace_replay.specs.Texts.{entry_text, total_text, leaks_report}
use Rattle.mtrace_replay.proofs.Told.TextLemmas.{heading, leaks_report-some, total_text-is}
use Rattle.mtrace_replay.proofs.ledger.report.put_held.Goals as goal

pub returns-in_err-put_all : goal.returns-in_err-put_all
returns-in_err-put_all g c =
    let old = g.W.Sink.shown c.args.writer.now in
    let new = g.W.Sink.shown c.put_all.new.writer in
    let all = c.args.ledger.now.all in
    puts_exit c.from_residual.result _ c.from_residual.ensures.1 (leaks_report all) old new
    (subst (λ (text : List ℕ). PutsBeginning text old new) (sym (leaks_report-some all c.requires.some))
    (fails_early old new (heading ++ flat_map entry_text all) (total_text all) (fails_early old new heading (flat_map entry_text all) c.in_err-put_all.ensures)))

pub returns-in_err-put_entries : goal.returns-in_err-put_entries
returns-in_err-put_entries g c =
    let old = g.W.Sink.shown c.args.writer.now in
    let middle = g.W.Sink.shown c.put_all.new.writer in
    let new = g.W.Sink.shown c.put_entries.new.writer in
    let all = c.args.ledger.now.all in
    puts_exit c.from_residual-in_err-put_entries.result _ c.from_residual-in_err-put_entries.ensures.1 (leaks_report all) old new
    (subst (λ (text : List ℕ). PutsBeginning text old new) (sym (leaks_report-some all c.requires.some))
    (fails_early old new (heading ++ flat_map entry_text all) (total_text all) (fails_on old middle new heading (flat_map entry_text all) c.in_ok-put_all.ensures c.in_err-put_entries.ensures)))

pub returns : goal.returns
returns g c =
    let old = g.W.Sink.shown c.args.writer.now in
    let middle = g.W.Sink.shown c.put_all.new.writer in
    let later = g.W.Sink.shown c.put_entries.new.writer in
    let new = g.W.Sink.shown c.put_all-2.new.writer in
    let all = c.args.ledger.now.all in
    let last = c.as_slice.ensures.value ∙ c.wide_total_text-total.ensures ∙ total_text-is all _ _ c.len.ensures c.bytes.ensures in
    subst (λ (text : List ℕ). Puts c.put_all-2.result text old new) (sym (leaks_report-some all c.requires.some))
    (puts_then c.put_all-2.result old later new (heading ++ flat_map entry_text all) (total_text all)
    (puts_on old middle later heading (flat_map entry_text all) c.in_ok-put_all.ensures c.in_ok-put_entries.ensures)
    (subst (λ (text : List ℕ). Puts c.put_all-2.result text later new) last c.put_all-2.ensures))
