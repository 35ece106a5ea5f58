-- Location, mark, address and size, then the newline, read as the line does.
use Rattle.std.proofs.Common.{length, refl, ap, ◌∙◌}
use Rattle.mtrace_log.proofs.FrequentLemmas.{line-read}
use Rattle.mtrace_log.proofs.frequent.read_frequent.Goals as goal

pub returns : goal.returns
returns c =
    line-read c.args.bytes.now c.in_ok-located.located.now c.in-Some.marked.now c.in-Some-front_fields.rest.now c.in-Some.at c.in-Some-front_fields.frequent _ c.in_ok-located.ensures
    c.in-Some.ensures.0 c.in-Some.ensures.1 c.in-Some-front_fields.ensures.1 (c.in-Some-front_fields.ensures.0 ∙ ap length c.at.view_is) refl
