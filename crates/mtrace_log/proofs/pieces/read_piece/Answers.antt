-- A buffer's bytes more in each turn, until the newline.
use Rattle.std.proofs.Common.{◌++◌, refl, subst, ◌∙◌, [], arith}
use Rattle.mtrace_log.specs.Buffer.{Buffered}
use Rattle.mtrace_log.specs.LineBuffer.{Holds, TakesPiece}
use Rattle.mtrace_log.specs.declared.call.Call.TheVariants.{Gave}
use Rattle.mtrace_log.specs.declared.pieces.Stop.TheVariants.{Failed}
use Rattle.mtrace_log.proofs.TraceLemmas.{moved_none, gave_more}
use Rattle.mtrace_log.proofs.PieceLemmas.{piece_begun, piece_rest, piece_to_newline}
use Rattle.mtrace_log.proofs.pieces.read_piece.Goals as goal

pub loop-line-init : goal.loop-line-init
loop-line-init g c =
    record {
      piece = piece_begun c.take_all.new.line c.args.buffer.now.unread _ c.requires.some c.requires.no_newline (c.take_all.ensures.held [] c.new-line.ensures);
      none = c.take_all.ensures.none;
      calls = moved_none Gave _;
      whole = refl;
    }

pub returns-then-take_line-clause-piece : goal.returns-then-take_line-clause-piece
returns-then-take_line-clause-piece g c =
    piece_to_newline c.loop-line.line c.extend.new.self c.take_line.new.self.line c.refill.new.self.unread c.take_line.new.self.unread _ _
    (subst (TakesPiece c.loop-line.line Failed _) c.in-Ok.ensures.bytes c.loop-line.invariant.piece) c.if-take_line.ensures.0 c.if-take_line.ensures.1
    (λ piece held. subst (λ bytes. Holds c.extend.new.self (piece ++ bytes)) c.line.ensures (c.extend.ensures piece held))

pub returns-then-take_line-clause-calls : goal.returns-then-take_line-clause-calls
returns-then-take_line-clause-calls g c = gave_more c.in-Ok.field-0 _ _ _ (omega (arith, c.in-Ok.field-0-test)) c.loop-line.invariant.calls c.in-Ok.ensures.told

pub loop-line-preserved : goal.loop-line-preserved
loop-line-preserved g c =
    let more = c.take_all-in-loop-line in
    record {
      piece =
          piece_rest c.loop-line.line more.new.line c.refill.new.self.unread _ _
          (subst (TakesPiece c.loop-line.line Failed _) c.in-Ok.ensures.bytes c.loop-line.invariant.piece) c.if-take_line.ensures.0
          (λ piece held. subst (λ (buffer : Buffered). Holds more.new.line (piece ++ buffer.unread)) c.if-take_line.ensures.1 (more.ensures.held piece held));
      none = more.ensures.none;
      calls = gave_more c.in-Ok.field-0 _ _ _ (omega (arith, c.in-Ok.field-0-test)) c.loop-line.invariant.calls c.in-Ok.ensures.told;
      whole = c.in-Ok.ensures.whole ∙ c.loop-line.invariant.whole;
    }
