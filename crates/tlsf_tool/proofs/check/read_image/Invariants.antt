use Rattle.std.proofs.Common.{◌≡◌, ◌-◌, ◌≤◌, length}
use Rattle.std.specs.Io.KnownBytes.{prepend_known}
use Rattle.mtrace_log.specs.Trace.{HasGiven}
use Rattle.tlsf_tool.proofs.check.read_image.Given as goal

-- the bytes so far came first of those that the reader had
abbrev pub invariant-loop-piece : goal.invariant-loop-piece
invariant-loop-piece g l = record {
  read : (g.R.Source.shown l.fn.reader).left ≡ prepend_known l.bytes.items (g.R.Source.shown l.reader).left;
  given : HasGiven (g.R.Source.shown l.fn.reader).calls (g.R.Source.shown l.reader).calls;
  few : length l.bytes.items ≤ 1050361;
}

abbrev pub decreases-loop-piece : goal.decreases-loop-piece
decreases-loop-piece g l = 1050361 - length l.bytes.items
