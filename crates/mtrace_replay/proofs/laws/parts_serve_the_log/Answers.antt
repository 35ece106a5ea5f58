-- By the law on blocks of one size, on the log of a part.
use Rattle.std.proofs.Common.{arith, reverse}
use Rattle.mtrace_replay.proofs.BySize.ClassSizes.{aligned_within}
use Rattle.mtrace_replay.proofs.BySize.PartsServe.{part_serves, has_part, one_part}
use Rattle.mtrace_replay.proofs.laws.parts_serve_the_log.Goals as goal

pub returns : goal.returns
returns c = record {
  serves = λ heaps first last lines text told has built. part_serves lines told.part told.are_parts told.ends told.chosen.cut first last has built;
  all = λ heaps size lines text told there. has_part (reverse lines) told.part told.are_parts size there 0 told.ends told.chosen.cut (omega arith);
  one = λ heaps size first last other_first other_last lines text told. one_part told.part size 0 told.ends told.chosen.cut first last other_first other_last;
  aligned = aligned_within;
}
