-- An address has at most 16 digits.
use Rattle.std.proofs.Common.{length, ap, arith}
use Rattle.mtrace_log.proofs.HexLemmas.{length-hex_digits-le}
use Rattle.mtrace_log.proofs.hex.address_text.Goals as goal

pub push_digits-requires : goal.push_digits-requires
push_digits-requires c =
    let digits = length-hex_digits-le c.args.number (omega arith) in
    let none = ap length c.new-text.ensures in
    omega arith
