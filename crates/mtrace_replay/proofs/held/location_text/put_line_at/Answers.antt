-- The front, the location and the newline, one after the other.
use Rattle.std.proofs.Common.{◌++◌, ◌∷◌, []}
use Rattle.std.specs.Option.{option_copied}
use Rattle.mtrace_log.specs.Bytes.{newline}
use Rattle.mtrace_log.proofs.Writing.{puts_on, puts_then, fails_on, fails_early, puts_exit}
use Rattle.mtrace_replay.specs.Texts.{at_text}
use Rattle.mtrace_replay.proofs.held.location_text.put_line_at.Goals as goal

pub returns-in_err-put_all : goal.returns-in_err-put_all
returns-in_err-put_all g c =
    let old = g.W.Sink.shown c.args.writer.now in
    let new = g.W.Sink.shown c.put_all.new.writer in
    let front = c.args.front.now in
    let at = at_text (option_copied c.args.at) in
    puts_exit c.from_residual.result _ c.from_residual.ensures.1 (front ++ at ++ newline ∷ []) old new
    (fails_early old new (front ++ at) (newline ∷ []) (fails_early old new front at c.in_err-put_all.ensures))

pub returns-in_err-put_location : goal.returns-in_err-put_location
returns-in_err-put_location g c =
    let old = g.W.Sink.shown c.args.writer.now in
    let new = g.W.Sink.shown c.put_location.new.writer in
    let front = c.args.front.now in
    let at = at_text (option_copied c.args.at) in
    puts_exit c.from_residual-in_err-put_location.result _ c.from_residual-in_err-put_location.ensures.1 (front ++ at ++ newline ∷ []) old new
    (fails_early old new (front ++ at) (newline ∷ []) (fails_on old (g.W.Sink.shown c.put_all.new.writer) new front at c.in_ok-put_all.ensures c.in_err-put_location.ensures))

pub returns : goal.returns
returns g c =
    let old = g.W.Sink.shown c.args.writer.now in
    let later = g.W.Sink.shown c.put_location.new.writer in
    let front = c.args.front.now in
    let at = at_text (option_copied c.args.at) in
    puts_then c.put_all-2.result old later (g.W.Sink.shown c.put_all-2.new.writer) (front ++ at) (newline ∷ [])
    (puts_on old (g.W.Sink.shown c.put_all.new.writer) later front at c.in_ok-put_all.ensures c.in_ok-put_location.ensures) c.put_all-2.ensures
