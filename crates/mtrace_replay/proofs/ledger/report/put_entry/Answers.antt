use Rattle.std.proofs.Common.{ℕ, List, ◌++◌, ◌∷◌, [], ◌∙◌, subst}
use Rattle.std.specs.Option.{option_copied}
use Rattle.mtrace_log.specs.Bytes.{newline}
use Rattle.mtrace_log.specs.Output.{Puts}
use Rattle.mtrace_replay.specs.Texts.{at_text}
use Rattle.mtrace_replay.proofs.ledger.report.put_entry.Goals as goal

pub returns : goal.returns
returns g c =
    let P : List ℕ → Type 0 = λ front. Puts c.put_line_at.result (front ++ at_text (option_copied c.args.seen.now.at) ++ newline ∷ []) (g.W.Sink.shown c.args.writer.now) (g.W.Sink.shown c.put_line_at.new.writer) in
    subst P (c.as_slice.ensures.value ∙ c.entry_front-front.ensures) c.put_line_at.ensures
