-- Look-ups, one after the other, and their number.
use Rattle.std.proofs.Common.{ℕ, ◌+◌, arith, ◌∙◌}
use Rattle.mtrace_replay.specs.Index.{Indexed, LooksUp}

-- one after the other
pub look_on : (n m : ℕ) (old middle new : Indexed) → LooksUp n old middle → LooksUp m middle new → LooksUp (n + m) old new
look_on n m old middle new first then = record {
  room = then.room ∙ first.room;
  compared = λ digits few.
      let one = first.compared digits few in
      let other = then.compared digits (omega (arith, few, first.room)) in
      record { floor = omega (arith, one.floor, other.floor); bound = omega (arith, one.bound, other.bound) };
}

-- fewer are at most as many
pub looks_up_fewer : (n more : ℕ) (old new : Indexed) → LooksUp n old new → LooksUp (n + more) old new
looks_up_fewer n more old new looks = record {
  room = looks.room;
  compared = λ digits few. let most = looks.compared digits few in record { floor = most.floor; bound = omega (arith, most.bound) };
}
