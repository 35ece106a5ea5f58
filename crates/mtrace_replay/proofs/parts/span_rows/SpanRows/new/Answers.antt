-- One row more in each turn.
use Rattle.std.proofs.Common.{◌≡◌, suc, ◌+◌, ◌-◌, ◌++◌, append_assoc, refl, sym, ap, ◌∙◌, subst, arith}
use Rattle.std.proofs.lemmas.List.{append-nil}
use Rattle.mtrace_replay.specs.SpanRows.{AreRows, blank_row, blank_rows}
use Rattle.mtrace_replay.proofs.BySize.SpanRowLemmas.{blank_are_rows}
use Rattle.mtrace_replay.proofs.parts.span_rows.SpanRows.new.Goals as goal

pub loop-first-init : goal.loop-first-init
loop-first-init c = ap (λ items. items ++ blank_rows 27 0) c.new-all.ensures.items

pub loop-first-preserved : goal.loop-first-preserved
unfolding blank_rows
loop-first-preserved c =
    let first = c.loop-first.first in
    let items = c.loop-first.all.items in
    let next : first + 1 ≡ suc first = omega arith in
    let many : 27 - (first + 1) ≡ 27 - suc first = omega arith in
    let left : 27 - first ≡ suc (27 - suc first) = omega (arith, c.loop-first-test.true) in
    ap (λ all. all ++ blank_rows (27 - (first + 1)) (first + 1)) c.in_ok-push_row.ensures
    ∙ append_assoc items (blank_row (27 - first) first first) (blank_rows (27 - (first + 1)) (first + 1))
    ∙ ap (λ rest. items ++ rest) (ap (λ n. blank_row n first first ++ blank_rows (27 - (first + 1)) (first + 1)) left
    ∙ ap (λ n. blank_row (suc (27 - suc first)) first first ++ blank_rows n (first + 1)) many ∙ ap (λ n. blank_row (suc (27 - suc first)) first first ++ blank_rows (27 - suc first) n) next
    ∙ ap (λ n. blank_rows n first) (sym left))
    ∙ c.loop-first.invariant

pub returns : goal.returns
unfolding blank_rows
returns c =
    let first = c.loop-first.first in
    let none : 0 ≡ 27 - first = omega (arith, c.loop-first-test.false) in
    sym (append-nil c.loop-first.all.items) ∙ ap (λ n. c.loop-first.all.items ++ blank_rows n first) none ∙ c.loop-first.invariant

pub invariant_of-result : goal.invariant_of-result
unfolding blank_rows
invariant_of-result c =
    let first = c.loop-first.first in
    let none : 0 ≡ 27 - first = omega (arith, c.loop-first-test.false) in
    let all = sym (append-nil c.loop-first.all.items) ∙ ap (λ n. c.loop-first.all.items ++ blank_rows n first) none ∙ c.loop-first.invariant in
    subst (AreRows 27 0) (sym all) (blank_are_rows 27 0 refl)
