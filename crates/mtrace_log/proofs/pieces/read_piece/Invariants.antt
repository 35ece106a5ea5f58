use Rattle.std.proofs.Common.{◌≡◌, []}
use Rattle.std.specs.Io.KnownBytes.{prepend_known}
use Rattle.mtrace_log.specs.LineBuffer.{TakesPiece}
use Rattle.mtrace_log.specs.Trace.{HasGiven}
use Rattle.mtrace_log.specs.declared.pieces.Stop.TheVariants.{Failed}
use Rattle.mtrace_log.proofs.pieces.read_piece.Given as goal

-- a piece was taken that hasn't ended, nothing is unread, and the reader hasn't failed
abbrev pub invariant-loop-line : goal.invariant-loop-line
invariant-loop-line g l = record {
  piece : TakesPiece l.line Failed (prepend_known l.fn.buffer.unread (g.R.Source.shown l.fn.reader).left) (g.R.Source.shown l.reader).left;
  none : l.buffer.unread ≡ [];
  calls : HasGiven (g.R.Source.shown l.fn.reader).calls (g.R.Source.shown l.reader).calls;
  whole : (g.R.Source.shown l.reader).whole ≡ (g.R.Source.shown l.fn.reader).whole;
}

-- how many more pieces the reader gives
abbrev pub decreases-loop-line : goal.decreases-loop-line
decreases-loop-line g l = g.R.Source.budget l.reader
