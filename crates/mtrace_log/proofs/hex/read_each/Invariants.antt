use Rattle.std.proofs.Common.{◌≡◌, take}
use Rattle.mtrace_log.specs.Address.{hex_digits}
use Rattle.mtrace_log.proofs.hex.read_each.Given as goal

-- the digits so far spell the number so far
abbrev pub invariant-loop-i : goal.invariant-loop-i
invariant-loop-i l = take l.i l.bytes ≡ hex_digits l.number
