-- One item's line more in each turn.
use Rattle.std.proofs.Common.{refl}
use Rattle.mtrace_replay.proofs.Told.TextLemmas.{text_more, text_fails}
use Rattle.mtrace_replay.proofs.held.lines.put_lines.Goals as goal

pub loop-item-preserved : goal.loop-item-preserved
loop-item-preserved g c =
    text_more g.T.InLine.line c.args.items.now c.args.items.now c.loop-item.item-index c.item-item.result refl c.loop-item-test.true c.item-item.is _ _ _ c.loop-item.invariant _ refl c.in_ok-put_line.ensures

pub returns-in_err-put_line : goal.returns-in_err-put_line
returns-in_err-put_line g c =
    text_fails g.T.InLine.line c.args.items.now c.args.items.now c.loop-item.item-index c.item-item.result refl c.loop-item-test.true c.item-item.is _ _ _ c.loop-item.invariant _ refl
    c.from_residual.result _ c.from_residual.ensures.1 c.in_err-put_line.ensures
