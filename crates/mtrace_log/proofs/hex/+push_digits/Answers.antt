-- The digits before the last, then the last.
use Rattle.std.proofs.Common.{◌/◌, ◌%◌, ◌++◌, ◌∷◌, [], length, ap, sym, ◌∙◌, append_assoc, arith, length-append}
use Rattle.std.specs.Char.{digit_char}
use Rattle.mtrace_log.specs.Address.{hex_digits}
use Rattle.mtrace_log.proofs.HexLemmas.{hex_digits-step}
use Rattle.mtrace_log.proofs.hex.+push_digits.Goals as goal

pub push_digits-requires : goal.push_digits-requires
push_digits-requires t c =
    let n = c.args.number in
    let step = simp length-append at (ap length (hex_digits-step n (omega arith))) in
    (omega arith, omega arith)

pub push-requires : goal.push-requires
push-requires t c =
    let n = c.args.number in
    let step = simp length-append at (ap length (hex_digits-step n (omega arith))) in
    let pushed = simp length-append at (ap length c.push_digits.ensures) in
    (omega arith, omega arith)

pub returns : goal.returns
returns t c =
    let n = c.args.number in
    c.push.ensures.items ∙ ap (λ items. items ++ c.digit_byte.result ∷ []) c.push_digits.ensures
    ∙ ap (λ b. (c.args.text.now.items ++ hex_digits (n / 16)) ++ b ∷ []) c.digit_byte.ensures
    ∙ append_assoc c.args.text.now.items (hex_digits (n / 16)) (digit_char (n % 16) ∷ [])
    ∙ ap (λ digits. c.args.text.now.items ++ digits) (sym (hex_digits-step n (omega arith)))
