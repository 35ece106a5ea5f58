use Rattle.std.proofs.Common.{◌≡◌, ℕ, List, map, ap, ◌∙◌, ◌+◌, ◌%◌, ◌^◌}
use Rattle.std.specs.Simd.Lanes.{zip2}
use Rattle.mtrace_log.specs.Sixteen.{offset, lane_byte}
use Rattle.mtrace_log.proofs.SixteenLemmas.{zip2-own, counted-all, counted-some}
use Rattle.mtrace_log.proofs.sixteen.count_digits.Goals as goal

abbrev more : ℕ → ℕ → ℕ
more a b = (a + b) % 2 ^ 8

-- the bytes that write these digits
written : (digits offsets : List ℕ) → offsets ≡ map (offset 9) digits → zip2 more digits offsets ≡ map lane_byte digits
written digits offsets are = ap (λ offsets. zip2 more digits offsets) are ∙ zip2-own more (offset 9) digits

pub returns-then-other-eq0 : goal.returns-then-other-eq0
returns-then-other-eq0 c = counted-all c.args.lanes c.args.digits _ c.fits-lanes.0 c.requires (written c.args.digits c.offsets.result c.offsets.ensures) c.if-other-eq0.true

pub returns : goal.returns
returns c = counted-some c.args.lanes c.args.digits _ c.fits-lanes.0 c.requires (written c.args.digits c.offsets.result c.offsets.ensures) c.if-other-eq0.false
