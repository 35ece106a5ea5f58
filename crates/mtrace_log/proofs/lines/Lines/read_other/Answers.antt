-- The buffer is filled first where it is empty.
use Rattle.std.proofs.Common.{◌≡◌, [], length, sym, ap, ◌∙◌, arith}
use Rattle.std.proofs.lemmas.List.{nil_from_length}
use Rattle.std.proofs.lemmas.Bool.{eqb-true}
use Rattle.mtrace_log.specs.declared.call.Call.TheVariants.{Gave}
use Rattle.mtrace_log.proofs.TraceLemmas.{moved_none, gave_more}
use Rattle.mtrace_log.proofs.ReadLemmas.{to_come-nothing_held}
use Rattle.mtrace_log.proofs.FilledLemmas.{passes_filled}
use Rattle.mtrace_log.proofs.lines.Lines.read_other.Goals as goal

pub returns-in-Ok : goal.returns-in-Ok
returns-in-Ok g c =
    let none : c.args.self.now.held ≡ [] = sym (ap (λ lines. lines.held) c.self.view_is) ∙ nil_from_length c.self.inside.buffer.unread (eqb-true (length c.self.inside.buffer.unread) 0 (sym c.if-not-is_empty.ensures)) in
    passes_filled g.R.Source.shown c.args.self.now _ c.read_held-in-Ok.new.self c.args.reader.now c.refill.new.reader c.read_held-in-Ok.new.reader c.requires (ap (λ lines. lines.stage) c.self.view_is ∙ c.requires) (ap (λ lines. lines.count) (sym c.self.view_is))
    (to_come-nothing_held c.args.self.now (g.R.Source.shown c.args.reader.now).left none ∙ c.in-Ok.ensures.bytes)
    (gave_more c.in-Ok.field-0 _ _ _ (omega (arith, c.in-Ok.field-0-test)) (moved_none Gave (g.R.Source.shown c.args.reader.now).calls) c.in-Ok.ensures.told)
    c.read_held-in-Ok.result c.refill.ensures.whole c.read_held-in-Ok.ensures
