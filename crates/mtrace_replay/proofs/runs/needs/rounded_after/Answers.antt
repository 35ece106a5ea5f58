-- The rounded bytes change by the blocks that came and went.
use Rattle.std.proofs.Common.{◌≡◌, ◌+◌, Option, Some, None, sym, ap, ◌∙◌, arith}
use Rattle.std.proofs.lemmas.Bool.{false≢true, lt-ltb, le-ltb}
use Rattle.mtrace_replay.specs.Moment.{Given, rounded_bytes}
use Rattle.mtrace_replay.specs.Needs.{of_one, bytes_of_block, Exchanges}
use Rattle.mtrace_replay.proofs.runs.needs.rounded_after.Goals as goal

pub returns-then-new-old : goal.returns-then-new-old
returns-then-new-old c freed given exact exchange few is = by_given given exchange is
  where
    by_given : (given : Option Given) → Exchanges c.args.size c.args.old c.args.new freed given → exact + of_one bytes_of_block freed ≡ of_one bytes_of_block given + c.args.rounded → c.less_freed.result ≡ exact
    by_given None so is = absurd (false≢true (sym so.served ∙ lt-ltb c.args.old.served c.args.new.served c.if-new-old.true))
    by_given (Some block) so is =
        c.less_freed.ensures freed exact
        (omega (arith, so.blocks, so.within_blocks, c.saturating_sub-blocks.ensures))
        (omega (arith, so.bytes, so.size, so.within_bytes, c.saturating_sub.ensures))
        (omega (arith, is, few, ap rounded_bytes so.size, c.rounded_bytes.ensures.value, c.rounded_bytes.ensures.small, c.saturating_add-more.ensures))

pub returns-else-new-old : goal.returns-else-new-old
returns-else-new-old c freed given exact exchange few is = by_given given exchange is
  where
    by_given : (given : Option Given) → Exchanges c.args.size c.args.old c.args.new freed given → exact + of_one bytes_of_block freed ≡ of_one bytes_of_block given + c.args.rounded → c.less_freed-else-new-old.result ≡ exact
    by_given (Some block) so is = absurd (false≢true (sym (le-ltb c.args.old.served c.args.new.served c.if-new-old.false) ∙ so.served))
    by_given None so is = c.less_freed-else-new-old.ensures freed exact (omega (arith, so.blocks)) (omega (arith, so.bytes)) (omega (arith, is))
