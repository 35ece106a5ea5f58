-- Digits are a text, of which the number is parsed.
use Rattle.std.proofs.Common.{List, ℕ, sym, subst, ◌∙◌}
use Rattle.std.specs.Str.Parse.{ParsesUnsigned}
use Rattle.mtrace_replay.proofs.OnLedger.MarkLemmas.{digits_text, parsed_spelled}
use Rattle.mtrace_replay.proofs.held.mark.spelled.Goals as goal

pub unreachable-requires : goal.unreachable-requires
unreachable-requires c = c.in_default.ensures.cases.0 (digits_text c.args.digits.now (sym c.if-not-are_digits.ensures))

pub returns : goal.returns
returns c =
    let P : List ℕ → Type 0 = λ digits. ParsesUnsigned 64 10 digits c.parse.result in
    c.ok.ensures.value ∙ parsed_spelled c.args.digits.now c.parse.result (sym c.if-not-are_digits.ensures) (subst P c.in-Ok.ensures.cases.0 c.parse.ensures.value.0)
