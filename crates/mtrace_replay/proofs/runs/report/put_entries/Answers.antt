-- One entry's line more in each turn.
use Rattle.std.proofs.Common.{ℕ, List, subst, ap, ◌∙◌, flat_map}
use Rattle.mtrace_log.specs.Output.{PutsAll, PutsBeginning}
use Rattle.mtrace_log.proofs.Writing.{putting_more, putting_fails, puts_exit}
use Rattle.mtrace_replay.specs.Texts.{entry_text}
use Rattle.mtrace_replay.proofs.runs.report.put_entries.Goals as goal

pub loop-entry-preserved : goal.loop-entry-preserved
loop-entry-preserved g c =
    let writes = g.W.Sink.shown in
    let P : List ℕ → Type 0 = λ text. PutsAll text (writes c.loop-entry.writer) (writes c.put_all.new.writer) in
    putting_more (writes c.args.writer.now) (writes c.loop-entry.writer) (writes c.put_all.new.writer) (flat_map entry_text c.args.held) _ _ (flat_map entry_text c.next.new.self)
    c.loop-entry.invariant (ap (flat_map entry_text) c.in-Some.ensures.steps) (subst P (c.as_slice.ensures.value ∙ c.entry_text.ensures) c.in_ok-put_all.ensures)

pub returns-in_err-put_all : goal.returns-in_err-put_all
returns-in_err-put_all g c =
    let writes = g.W.Sink.shown in
    let P : List ℕ → Type 0 = λ text. PutsBeginning text (writes c.loop-entry.writer) (writes c.put_all.new.writer) in
    puts_exit c.from_residual.result _ c.from_residual.ensures.1 (flat_map entry_text c.args.held) (writes c.args.writer.now) (writes c.put_all.new.writer)
    (putting_fails (writes c.args.writer.now) (writes c.loop-entry.writer) (writes c.put_all.new.writer) (flat_map entry_text c.args.held) _ _ (flat_map entry_text c.next.new.self)
    c.loop-entry.invariant (ap (flat_map entry_text) c.in-Some.ensures.steps) (subst P (c.as_slice.ensures.value ∙ c.entry_text.ensures) c.in_err-put_all.ensures))
