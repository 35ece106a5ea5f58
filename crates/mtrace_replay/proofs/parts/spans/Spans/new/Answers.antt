-- A blank span for each pair of ranges counts nothing.
use Rattle.std.proofs.Common.{ap, nat_eq}
use Rattle.std.specs.HashMap.{get}
use Rattle.std.specs.Map.{lookup}
use Rattle.mtrace_replay.proofs.BySize.SpansLemmas.{counted_none}
use Rattle.mtrace_replay.proofs.BySize.SpanRowLemmas.{blank_all, blank_each}
use Rattle.mtrace_replay.proofs.parts.spans.Spans.new.Goals as goal

pub returns : goal.returns
returns c =
    let spans = c.in_ok-new.ensures in
    counted_none _ (get nat_eq c.with_hasher.result) (blank_all _ spans) (blank_each _ spans) (λ address. ap (lookup (nat_eq address)) c.with_hasher.ensures.empty)
