-- The word, then the location.
use Rattle.std.proofs.Common.{◌≡◌, ℕ, List, ◌++◌, codes, sym, ap, subst}
use Rattle.std.specs.Option.{option_copied}
use Rattle.mtrace_log.specs.Output.{PutsBeginning, Puts}
use Rattle.mtrace_log.proofs.Writing.{puts_then, fails_early, puts_exit}
use Rattle.mtrace_replay.specs.Texts.{at_text}
use Rattle.mtrace_replay.proofs.held.location_text.put_location.Goals as goal

pub returns-in_err-put_all : goal.returns-in_err-put_all
returns-in_err-put_all g c =
    let old = g.W.Sink.shown c.args.writer.now in
    let new = g.W.Sink.shown c.put_all.new.writer in
    let same : at_text (option_copied c.args.at) ≡ codes " at " ++ c.in-Some.bytes.now = ap (λ at. at_text (option_copied at)) c.in-Some.is in
    puts_exit c.from_residual.result _ c.from_residual.ensures.1 (at_text (option_copied c.args.at)) old new
    (subst (λ (text : List ℕ). PutsBeginning text old new) (sym same) (fails_early old new (codes " at ") c.in-Some.bytes.now c.in_err-put_all.ensures))

pub returns : goal.returns
returns g c =
    let old = g.W.Sink.shown c.args.writer.now in
    let new = g.W.Sink.shown c.put_all-2.new.writer in
    let same : at_text (option_copied c.args.at) ≡ codes " at " ++ c.in-Some.bytes.now = ap (λ at. at_text (option_copied at)) c.in-Some.is in
    subst (λ (text : List ℕ). Puts c.put_all-2.result text old new) (sym same)
    (puts_then c.put_all-2.result old (g.W.Sink.shown c.put_all.new.writer) new (codes " at ") c.in-Some.bytes.now c.in_ok-put_all.ensures c.put_all-2.ensures)
