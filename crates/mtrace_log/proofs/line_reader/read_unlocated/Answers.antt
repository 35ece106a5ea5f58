-- The line's mark decides its form.
use Rattle.std.proofs.Common.{sym, ◌∙◌, None}
use Rattle.std.proofs.lemmas.Slice.Eq.{bytes_eq-Decides}
use Rattle.std.proofs.lemmas.Bool.{false≢true}
use Rattle.mtrace_log.proofs.EventLemmas.{unlocated, unlocated-from_behind, behind-no_fields, behind-from_form}
use Rattle.mtrace_log.proofs.line_reader.read_unlocated.Goals as goal

pub returns-in_default : goal.returns-in_default
returns-in_default c = (
  c.requires.short,
  λ event valid same. behind-no_fields None c.args.bytes.now event c.in_default.ensures
      (unlocated c.args.bytes.now event
      (λ is. false≢true (c.if-eq.ensures ∙ (bytes_eq-Decides c.args.bytes.now c.as_slice.result.now).1 (is ∙ sym c.as_slice.ensures)))
      (λ is. false≢true (c.if-eq-2.ensures ∙ (bytes_eq-Decides c.args.bytes.now c.as_slice-2.result.now).1 (is ∙ sym c.as_slice-2.ensures)))
      c.requires.unlocated valid same),
)

pub returns : goal.returns
returns c =
    unlocated-from_behind c.args.bytes.now c.event_of.result
    (λ is. false≢true (c.if-eq.ensures ∙ (bytes_eq-Decides c.args.bytes.now c.as_slice.result.now).1 (is ∙ sym c.as_slice.ensures)))
    (λ is. false≢true (c.if-eq-2.ensures ∙ (bytes_eq-Decides c.args.bytes.now c.as_slice-2.result.now).1 (is ∙ sym c.as_slice-2.ensures)))
    c.requires.unlocated c.requires.short
    (behind-from_form None c.args.bytes.now c.in-Some.mark c.in-Some.addr c.in-Some.numbers c.event_of.result c.in-Some.ensures.0 c.in-Some.ensures.1 c.event_of.ensures)
