-- A release leaves the counts as small as they were.
use Rattle.std.proofs.Common.{◌≤◌, nat_eq, sym, subst, arith}
use Rattle.std.specs.List.{All}
use Rattle.std.specs.HashMap.{get}
use Rattle.mtrace_replay.specs.declared.parts.span.Span.{Span}
use Rattle.mtrace_replay.specs.Spans.{range_released}
use Rattle.mtrace_replay.proofs.BySize.SpansLemmas.{few_released}
use Rattle.mtrace_replay.proofs.parts.spans.Spans.follow.Goals as goal

pub hold-requires : goal.hold-requires
hold-requires c =
    let range = range_released (get nat_eq c.args.self.now.ranges) c.args.freed in
    let few = few_released range 18446744073709551614 c.args.self.now.all (λ k d within. let less = c.requires.few k d within in omega (arith, less)) in
    let all = subst (All (λ (span : Span). span.live ≤ 18446744073709551614)) (sym c.release.ensures.spans) few in
    record { few = λ k d within. let less = all k d within in omega (arith, less) }
