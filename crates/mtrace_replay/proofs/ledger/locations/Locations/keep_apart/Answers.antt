-- The set has no key twice.
use Rattle.std.proofs.Common.{subst, nat_eq}
use Rattle.std.specs.List.{IsDistinct}
use Rattle.std.specs.Cmp.Lexicographic.{pointwise}
use Rattle.mtrace_replay.proofs.ledger.locations.Locations.keep_apart.Goals as goal

pub returns : goal.returns
returns c = subst (IsDistinct (pointwise nat_eq)) c.self.view_is c.len-count.ensures.unique
