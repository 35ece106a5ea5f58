-- A size alone, or an alignment and a size.
use Rattle.std.proofs.Common.{[], length, ◌==◌, sym, ap, ◌∙◌, subst}
use Rattle.std.proofs.lemmas.Bool.{false≢true}
use Rattle.mtrace_log.proofs.FrontLemmas.{NumbersFrom, size-alone, size-same, numbers-front, numbers-cut, numbers-behind}
use Rattle.mtrace_log.proofs.line_reader.read_numbers.Goals as goal

pub returns-in_default : goal.returns-in_default
returns-in_default c = λ numbers fit same.
    let (first, rest, front, from) = numbers-front c.args.bytes.now numbers fit same in
    c.in_default.ensures first rest front

pub returns-in_default-read_size : goal.returns-in_default-read_size
returns-in_default-read_size c = λ numbers fit same.
    let from = numbers-cut c.args.bytes.now c.in-Some.first c.in-Some.rest.now numbers c.in-Some.ensures fit same in
    let (size, fits, is) = numbers-behind numbers c.in-Some.first c.in-Some-behind_space.behind.now fit (subst (NumbersFrom numbers c.in-Some.first) c.in-Some-behind_space.ensures from) in
    c.in_default-read_size.ensures size [] (size-alone c.in-Some-behind_space.behind.now size fits is)

pub returns-then-not-is_empty : goal.returns-then-not-is_empty
returns-then-not-is_empty c = λ numbers fit same.
    let from = numbers-cut c.args.bytes.now c.in-Some.first c.in-Some.rest.now numbers c.in-Some.ensures fit same in
    let (size, fits, is) = numbers-behind numbers c.in-Some.first c.in-Some-behind_space.behind.now fit (subst (NumbersFrom numbers c.in-Some.first) c.in-Some-behind_space.ensures from) in
    let alone = size-alone c.in-Some-behind_space.behind.now size fits is in
    let parts = size-same c.in-Some-behind_space.behind.now c.in-Some-read_size.size size c.in-Some-read_size.last.now [] c.in-Some-read_size.ensures alone in
    false≢true (sym c.if-not-is_empty.true ∙ c.is_empty.ensures ∙ ap (λ text. length text == 0) parts.1)
