-- A size rounded up to its level's step is a lowest size.
use Rattle.std.proofs.Common.{◌≡◌, ℕ, ◌+◌, ◌-◌, ◌*◌, ◌/◌, ◌%◌, ◌^◌, ◌<◌, arith}
use Rattle.tlsf_class.proofs.Shifts.{IsShift, IsNextLow, next_low-shift, low-last}
use Rattle.tlsf_class.proofs.sizes.next_low.Goals as goal

pub step_shift-shift-requires-clause-most : goal.step_shift-shift-requires-clause-most
step_shift-shift-requires-clause-most c = omega (arith, low-last)

pub returns : goal.returns
returns c =
    let k : ℕ = c.step_shift-shift.result in
    let e = c.step_shift-shift.ensures in
    let shift : IsShift c.args.size k = record { first = e.first; last = e.last; from = e.from; below = e.below } in
    let r : ℕ = ((c.args.size - 1) / 2 ^ k + 1) * 2 ^ k in
    let is : IsNextLow c.args.size r = next_low-shift c.args.size k shift c.requires.most in
    let fits : r < 2 ^ 32 = is.fits in
    let same : r % 2 ^ 32 ≡ r = omega arith in
    rw same record {
      unit = is.whole;
      some = omega (arith, is.least);
      most = omega (arith, is.most, low-last);
      needed = is.needed;
    }
