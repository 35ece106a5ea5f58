use Rattle.std.proofs.Common.{◌≡◌, drop}
use Rattle.std.specs.Str.{all_ascii_digits}
use Rattle.mtrace_replay.proofs.held.mark.are_digits.Given as goal

-- whether all are digits is left to the bytes that come
abbrev pub invariant-loop-byte : goal.invariant-loop-byte
invariant-loop-byte l = all_ascii_digits l.bytes ≡ all_ascii_digits (drop l.byte-index l.bytes)
