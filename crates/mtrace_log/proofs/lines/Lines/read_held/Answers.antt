-- The line is in the buffer, or goes on behind it.
use Rattle.std.proofs.Common.{◌<◌, length, refl, sym, ap, ◌∙◌, arith}
use Rattle.mtrace_log.specs.Progress.{to_come}
use Rattle.mtrace_log.specs.declared.call.Call.TheVariants.{Gave}
use Rattle.mtrace_log.proofs.TraceLemmas.{moved_none}
use Rattle.mtrace_log.proofs.PieceLemmas.{has_more}
use Rattle.mtrace_log.proofs.lines.Lines.read_held.Goals as goal

pub returns-then-self : goal.returns-then-self
returns-then-self g c =
    let left = (g.R.Source.shown c.args.reader.now).left in
    let some : 0 < length c.self.inside.buffer.unread = omega (arith, c.requires.some, ap (λ lines. length lines.held) c.self.view_is) in record {
      line = tt;
      end = tt;
      nothing_held = λ is. absurd (cc);
      whole = refl;
      calls = λ _. moved_none Gave (g.R.Source.shown c.args.reader.now).calls;
      fault = rw c.requires.reading (refl, ap (λ lines. lines.count) c.self.view_is, (ap (λ lines. lines.count) (sym c.self.view_is) ∙ c.if-self.true, ap (λ lines. to_come lines left) (sym c.self.view_is), has_more c.self.inside.buffer.unread left some));
    }
