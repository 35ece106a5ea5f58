-- A line in front of which a location stands, or none.
use Rattle.std.proofs.Common.{Some, length, sym, ◌∙◌, ◌≤◌, subst, arith}
use Rattle.mtrace_log.specs.Spelling.{longest_line}
use Rattle.mtrace_log.specs.Reading.{ReadsAs}
use Rattle.mtrace_log.proofs.EventLemmas.{located-cut, located-from_behind, behind-no_fields, behind-from_form}
use Rattle.mtrace_log.proofs.line_reader.read_lent.Goals as goal

pub returns-in_default-read_marked-clause-reads : goal.returns-in_default-read_marked-clause-reads
returns-in_default-read_marked-clause-reads c = (
  omega arith,
  λ event fits same. behind-no_fields (Some c.in-Some-front.at) c.in-Some-front.marked.now event c.in_default-read_marked.ensures
      (located-cut c.in-Some.located.now c.in-Some-front.at c.in-Some-front.marked.now event c.in-Some-front.ensures.0 c.in-Some-front.ensures.1 fits (sym c.in-Some.ensures ∙ same)),
)

pub returns-clause-reads : goal.returns-clause-reads
returns-clause-reads c =
    let short : length c.args.bytes.now ≤ longest_line = omega arith in
    subst (λ bytes. ReadsAs bytes c.event_of.result) (sym c.in-Some.ensures)
    (located-from_behind c.in-Some.located.now c.in-Some-front.at c.in-Some-front.marked.now c.event_of.result c.in-Some-front.ensures.0 c.in-Some-front.ensures.1
    (subst (λ bytes. length bytes ≤ longest_line) c.in-Some.ensures short)
    (behind-from_form (Some c.in-Some-front.at) c.in-Some-front.marked.now c.in-Some-read_marked.mark c.in-Some-read_marked.addr c.in-Some-read_marked.numbers c.event_of.result
    c.in-Some-read_marked.ensures.0 c.in-Some-read_marked.ensures.1 c.event_of.ensures))
