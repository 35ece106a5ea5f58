-- A piece more in each turn, up to the most that is read.
use Rattle.std.proofs.Common.{◌≡◌, ℕ, List, ◌++◌, length, take, length-take, length-append, sym, ap, ◌∙◌, arith, inl, inr, refl}
use Rattle.std.specs.Io.KnownBytes.{prepend_known}
use Rattle.mtrace_log.proofs.TextLemmas.{prepend_known-append}
use Rattle.mtrace_log.proofs.TraceLemmas.{gave_more}
use Rattle.tlsf_tool.proofs.CheckLemmas.{where_ok}
use Rattle.tlsf_tool.proofs.check.read_image.Goals as goal

pub loop-piece-preserved : goal.loop-piece-preserved
loop-piece-preserved g c =
    let reads = g.R.Source.shown in
    let bytes : List ℕ = c.loop-piece.bytes.items in
    let count : ℕ = c.in-Ok-pull_some.count in
    let more : List ℕ = take count c.pull_some.new.piece in
    let grown : c.extend_from_slice.new.self.items ≡ bytes ++ more = where_ok c.extend_from_slice.result c.extend_from_slice.new.self.items (bytes ++ more) bytes c.extend_from_slice.ensures.items c.if-is_err.ensures.value in
    record {
      read = c.loop-piece.invariant.read ∙ ap (prepend_known bytes) c.in-Ok-pull_some.ensures.bytes ∙ sym (prepend_known-append bytes more (reads c.pull_some.new.reader).left)
          ∙ ap (λ items. prepend_known items (reads c.pull_some.new.reader).left) (sym grown);
      given = gave_more count (reads c.args.reader.now).calls (reads c.loop-piece.reader).calls (reads c.pull_some.new.reader).calls (omega arith) c.loop-piece.invariant.given c.in-Ok-pull_some.ensures.told;
      few = omega (arith, ap length grown, length-append bytes more, length-take count c.pull_some.new.piece, c.in-Ok-pull_some.ensures.bound, c.min-room.ensures, c.len.ensures, c.len-in-loop-piece.ensures, c.loop-piece-test.true);
    }

pub returns-then-is_err : goal.returns-then-is_err
returns-then-is_err g c =
    let reads = g.R.Source.shown in
    record {
      read = tt;
      failed = λ is. absurd (cc);
      not_failed = λ other. inl (gave_more c.in-Ok-pull_some.count (reads c.args.reader.now).calls (reads c.loop-piece.reader).calls (reads c.pull_some.new.reader).calls (omega arith) c.loop-piece.invariant.given c.in-Ok-pull_some.ensures.told);
      faults = inr refl;
    }
