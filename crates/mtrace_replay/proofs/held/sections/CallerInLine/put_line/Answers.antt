use Rattle.std.proofs.Common.{ℕ, List, ◌++◌, ◌∷◌, [], ◌∙◌, subst}
use Rattle.std.specs.Option.{option_copied}
use Rattle.mtrace_log.specs.Bytes.{newline}
use Rattle.mtrace_log.specs.Output.{Puts}
use Rattle.mtrace_replay.specs.Calls.{Caller}
use Rattle.mtrace_replay.specs.Texts.{at_text, caller_text}
use Rattle.mtrace_replay.proofs.held.sections.CallerInLine.put_line.Goals as goal

pub returns : goal.returns
returns g c =
    let P : List ℕ → Type 0 = λ text. Puts c.put_line_at.result text (g.W.Sink.shown c.args.writer.now) (g.W.Sink.shown c.put_line_at.new.writer) in
    subst (λ (caller : Caller). P (caller_text caller)) c.self.view_is
    (subst (λ front. P (front ++ at_text (option_copied c.self.inside.at) ++ newline ∷ [])) (c.as_slice.ensures.value ∙ c.caller_front-front.ensures) c.put_line_at.ensures)
