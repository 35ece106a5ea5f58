-- The flag is 0 or 1.
use Rattle.std.proofs.Common.{◌≡◌, ℕ, zero, suc, ◌+◌, ◌-◌, ◌*◌, ◌%◌, ◌<◌, ◌≤◌, bit_and, arith, ◌∙◌}
use Rattle.std.specs.Int.Bits.{and_zero_r}
use Rattle.std.proofs.lemmas.Nat.{and_mask}
use Rattle.mtrace_replay.proofs.heap.search.so_many_if.Goals as goal

by_one : (many one : ℕ) → many < 18446744073709551616 → one ≤ 1 → bit_and many ((0 + (18446744073709551616 - one)) % 18446744073709551616) ≡ many * one
by_one many zero fits few = and_zero_r many ∙ omega arith
by_one many (suc zero) fits few = and_mask many 64 ∙ omega (arith, fits)
by_one many (suc (suc more)) fits few = absurd (omega (arith, few))

pub returns : goal.returns
returns c = by_one c.args.many c.args.one c.ranges.many.fits c.requires
