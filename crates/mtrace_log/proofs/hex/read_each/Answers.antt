-- One digit more in each turn, and the number fits.
use Rattle.std.proofs.Common.{◌≡◌, ◌<◌, ◌∙◌, ap, sym, arith}
use Rattle.std.specs.Char.{digit_char}
use Rattle.mtrace_log.proofs.HexLemmas.{read_digits-fits, read_digits-more}
use Rattle.mtrace_log.proofs.hex.read_each.Goals as goal

pub overflow_mul-number : goal.overflow_mul-number
overflow_mul-number c =
    omega (arith, read_digits-fits c.args.bytes.now c.loop-i.i c.loop-i.number (omega arith) c.loop-i.invariant 0 (omega arith) (omega arith))

pub overflow_add-number : goal.overflow_add-number
overflow_add-number c =
    omega (arith, read_digits-fits c.args.bytes.now c.loop-i.i c.loop-i.number (omega arith) c.loop-i.invariant c.in-Some.digit (omega arith) c.in-Some.ensures.0)

pub loop-i-preserved : goal.loop-i-preserved
loop-i-preserved c =
    let digit : c.from.result ≡ c.in-Some.digit = c.from.ensures in
    let small : c.from.result < 16 = omega (arith, c.in-Some.ensures.0) in
    read_digits-more c.args.bytes.now c.loop-i.i c.loop-i.number (omega arith) c.loop-i.invariant c.from.result (omega arith) small
    (c.in-Some.ensures.1 ∙ ap digit_char (sym digit)) c.requires
