-- Each span that has the range has a block less.
use Rattle.std.proofs.Common.{◌≡◌, Some, suc, ◌+◌, length, inl, inr, refl, sym, ap, ◌∙◌, subst, arith}
use Rattle.std.specs.Vec.{with_items}
use Rattle.std.proofs.lemmas.Bool.{cases_lt}
use Rattle.std.proofs.lemmas.List.{with_items_is}
use Rattle.mtrace_replay.specs.Span.{one_less, released}
use Rattle.mtrace_replay.specs.SpanRows.{AreRows, ChangesBetween}
use Rattle.mtrace_replay.proofs.BySize.SpanRowLemmas.{HasChanged, changed_none, changed_next, changed_all, row_within, rows_stay, without_hit, without_missed}
use Rattle.mtrace_replay.proofs.parts.span_rows.SpanRows.remove_block.Goals as goal

pub loop-first-init : goal.loop-first-init
loop-first-init c = subst (λ all. HasChanged (released (Some c.args.range)) 0 0 all c.self.inside.all.items) c.self.view_is (changed_none (released (Some c.args.range)) c.self.inside.all.items c.self.invariant)

pub overflow_add-end : goal.overflow_add-end
overflow_add-end c = omega (arith, c.loop-first.invariant.few, c.loop-first-test.true, c.min-first-end.ensures, c.from.ensures)

pub overflow_add-from : goal.overflow_add-from
overflow_add-from c = omega (arith, c.loop-first.invariant.few, c.loop-first-test.true, c.min-first-end.ensures, c.min-range.ensures, c.from-in-loop-first.ensures)

pub remove_between-requires : goal.remove_between-requires
remove_between-requires c =
    let within = row_within (released (Some c.args.range)) c.loop-first.first c.loop-first.row c.args.self.now c.loop-first.self-inside.all.items c.loop-first.invariant (omega (arith, c.loop-first-test.true, c.min-first-end.ensures)) in
    record { within = omega (arith, within, c.from.ensures, ap length c.as_mut_slice.ensures.value) }

pub loop-first-preserved : goal.loop-first-preserved
loop-first-preserved c =
    let first = c.loop-first.first in
    let row = c.loop-first.row in
    let next : suc first ≡ first + 1 = omega arith in
    let changes = subst (λ items. ChangesBetween one_less (row + c.from-in-loop-first.result) (row + c.from.result) items c.remove_between.new.spans) c.as_mut_slice.ensures.value c.remove_between.ensures in
    let vec = c.loop-first.self-inside.all in
    let put : (with_items vec c.remove_between.new.spans).items ≡ c.remove_between.new.spans = with_items_is vec c.remove_between.new.spans (c.remove_between.auto.spans ∙ ap length c.as_mut_slice.ensures.value ∙ sym vec.ok.0) in
    subst (HasChanged (released (Some c.args.range)) (first + 1) (row + c.from.result) c.args.self.now) (sym put)
    (subst (λ n. HasChanged (released (Some c.args.range)) n (row + c.from.result) c.args.self.now c.remove_between.new.spans) next
    (changed_next c.args.range (released (Some c.args.range)) one_less (λ span has. without_hit c.args.range span has) (λ span none. without_missed c.args.range span none) first c.min-range.result row (row + c.from-in-loop-first.result) (row + c.from.result)
    c.args.self.now c.loop-first.self-inside.all.items c.remove_between.new.spans c.loop-first.invariant (omega (arith, c.loop-first-test.true, c.min-first-end.ensures))
    (omega (arith, c.loop-first-test.true, c.min-first-end.ensures, c.min-range.ensures)) c.min-range.ensures (omega (arith, c.from-in-loop-first.ensures)) (omega (arith, c.from.ensures)) changes))

pub returns : goal.returns
returns c =
    let first = c.loop-first.first in
    changed_all c.args.range (released (Some c.args.range)) one_less (λ span has. without_hit c.args.range span has) (λ span none. without_missed c.args.range span none) first c.loop-first.row c.args.self.now c.loop-first.self-inside.all.items c.loop-first.invariant
    (elim (cases_lt first 27) [
      | inl below ↦ inr (omega (arith, below, c.loop-first-test.false, c.min-first-end.ensures, c.min-range.ensures))
      | inr all ↦ inl all
    ])

pub invariant_of-self : goal.invariant_of-self
invariant_of-self c =
    let first = c.loop-first.first in
    let is = changed_all c.args.range (released (Some c.args.range)) one_less (λ span has. without_hit c.args.range span has) (λ span none. without_missed c.args.range span none) first c.loop-first.row c.args.self.now c.loop-first.self-inside.all.items c.loop-first.invariant
    (elim (cases_lt first 27) [
      | inl below ↦ inr (omega (arith, below, c.loop-first-test.false, c.min-first-end.ensures, c.min-range.ensures))
      | inr all ↦ inl all
    ]) in
    subst (AreRows 27 0) (sym is) (rows_stay (released (Some c.args.range)) (λ span. (refl, refl)) 27 0 c.args.self.now (subst (AreRows 27 0) c.self.view_is c.self.invariant))
