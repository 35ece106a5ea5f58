-- The heading, the entries, then the total.
use Rattle.std.proofs.Common.{ℕ, List, ◌++◌, sym, subst, ◌∙◌, flat_map}
use Rattle.mtrace_log.specs.Output.{PutsAll, PutsBeginning, Puts}
use Rattle.mtrace_log.proofs.Writing.{puts_on, puts_then, fails_on, fails_early, puts_exit}
use Rattle.mtrace_replay.specs.Texts.{entry_text, total_text, leaks_report}
use Rattle.mtrace_replay.specs.Entry.{Entry}
use Rattle.mtrace_replay.specs.Replay.{entries}
use Rattle.mtrace_replay.proofs.Told.TextLemmas.{heading, leaks_report-some, total_text-is}
use Rattle.mtrace_replay.proofs.runs.report.put_held.Goals as goal

pub returns-in_err-put_all : goal.returns-in_err-put_all
returns-in_err-put_all g c =
    let writes = g.W.Sink.shown in
    let all = entries c.args.replay.now in
    let P : List ℕ → Type 0 = λ text. PutsBeginning text (writes c.args.writer.now) (writes c.put_all.new.writer) in
    puts_exit c.from_residual.result _ c.from_residual.ensures.1 (leaks_report all) (writes c.args.writer.now) (writes c.put_all.new.writer)
    (subst P (sym (leaks_report-some all c.requires)) (fails_early (writes c.args.writer.now) (writes c.put_all.new.writer) (heading ++ flat_map entry_text all) (total_text all)
    (fails_early (writes c.args.writer.now) (writes c.put_all.new.writer) heading (flat_map entry_text all) c.in_err-put_all.ensures)))

pub returns-in_err-put_entries : goal.returns-in_err-put_entries
returns-in_err-put_entries g c =
    let writes = g.W.Sink.shown in
    let all = entries c.args.replay.now in
    let P : List ℕ → Type 0 = λ text. PutsBeginning text (writes c.args.writer.now) (writes c.put_entries.new.writer) in
    let R : List Entry → Type 0 = λ es. PutsBeginning (flat_map entry_text es) (writes c.put_all.new.writer) (writes c.put_entries.new.writer) in
    puts_exit c.from_residual-in_err-put_entries.result _ c.from_residual-in_err-put_entries.ensures.1 (leaks_report all) (writes c.args.writer.now) (writes c.put_entries.new.writer)
    (subst P (sym (leaks_report-some all c.requires)) (fails_early (writes c.args.writer.now) (writes c.put_entries.new.writer) (heading ++ flat_map entry_text all) (total_text all)
    (fails_on (writes c.args.writer.now) (writes c.put_all.new.writer) (writes c.put_entries.new.writer) heading (flat_map entry_text all) c.in_ok-put_all.ensures (subst R c.held.ensures.entries c.in_err-put_entries.ensures))))

pub returns : goal.returns
returns g c =
    let writes = g.W.Sink.shown in
    let all = entries c.args.replay.now in
    let last = c.as_slice.ensures.value ∙ c.total_text-total.ensures ∙ total_text-is all _ _ c.blocks-blocks.ensures.len c.bytes.ensures in
    let P : List ℕ → Type 0 = λ text. Puts c.put_all-2.result text (writes c.args.writer.now) (writes c.put_all-2.new.writer) in
    let R : List Entry → Type 0 = λ es. PutsAll (flat_map entry_text es) (writes c.put_all.new.writer) (writes c.put_entries.new.writer) in
    let Q : List ℕ → Type 0 = λ text. Puts c.put_all-2.result text (writes c.put_entries.new.writer) (writes c.put_all-2.new.writer) in
    subst P (sym (leaks_report-some all c.requires))
    (puts_then c.put_all-2.result (writes c.args.writer.now) (writes c.put_entries.new.writer) (writes c.put_all-2.new.writer) (heading ++ flat_map entry_text all) (total_text all)
    (puts_on (writes c.args.writer.now) (writes c.put_all.new.writer) (writes c.put_entries.new.writer) heading (flat_map entry_text all) c.in_ok-put_all.ensures (subst R c.held.ensures.entries c.in_ok-put_entries.ensures))
    (subst Q last c.put_all-2.ensures))
