-- Each span that has the range has a block more.
use Rattle.std.proofs.Common.{◌≡◌, suc, ◌+◌, ◌<◌, ◌^◌, length, inl, inr, refl, sym, ap, ◌∙◌, subst, arith}
use Rattle.std.specs.Vec.{with_items}
use Rattle.std.proofs.lemmas.Bool.{cases_lt}
use Rattle.std.proofs.lemmas.List.{with_items_is}
use Rattle.std.specs.Prelude.{slice_index_or}
use Rattle.mtrace_replay.specs.declared.parts.span.Span.{Span}
use Rattle.mtrace_replay.specs.Span.{one_more, with_block}
use Rattle.mtrace_replay.specs.SpanRows.{AreRows, ChangesBetween}
use Rattle.mtrace_replay.proofs.BySize.SpanRowLemmas.{HasChanged, changed_none, changed_next, changed_all, row_within, rows_stay, same_length, unchanged_behind, with_hit, with_missed}
use Rattle.mtrace_replay.proofs.parts.span_rows.SpanRows.add_block.Goals as goal

pub loop-first-init : goal.loop-first-init
loop-first-init c = subst (λ all. HasChanged (with_block c.args.range c.args.size) 0 0 all c.self.inside.all.items) c.self.view_is (changed_none (with_block c.args.range c.args.size) c.self.inside.all.items c.self.invariant)

pub overflow_add-end : goal.overflow_add-end
overflow_add-end c = omega (arith, c.loop-first.invariant.few, c.loop-first-test.true, c.min-first-end.ensures, c.from.ensures)

pub overflow_add-from : goal.overflow_add-from
overflow_add-from c = omega (arith, c.loop-first.invariant.few, c.loop-first-test.true, c.min-first-end.ensures, c.min-range.ensures, c.from-in-loop-first.ensures)

pub add_between-requires-clause-within : goal.add_between-requires-clause-within
add_between-requires-clause-within c =
    let within = row_within (with_block c.args.range c.args.size) c.loop-first.first c.loop-first.row c.args.self.now c.loop-first.self-inside.all.items c.loop-first.invariant (omega (arith, c.loop-first-test.true, c.min-first-end.ensures)) in
    omega (arith, within, c.from.ensures, ap length c.as_mut_slice.ensures.value)

pub add_between-requires-clause-few : goal.add_between-requires-clause-few
add_between-requires-clause-few c at none from below =
    let items = c.loop-first.self-inside.all.items in
    let within = row_within (with_block c.args.range c.args.size) c.loop-first.first c.loop-first.row c.args.self.now items c.loop-first.invariant (omega (arith, c.loop-first-test.true, c.min-first-end.ensures)) in
    let same = ap (λ all. slice_index_or all at none) c.as_mut_slice.ensures.value
    ∙ unchanged_behind (with_block c.args.range c.args.size) c.loop-first.first c.loop-first.row c.args.self.now items c.loop-first.invariant at none (omega (arith, from)) in
    let long = same_length (with_block c.args.range c.args.size) c.loop-first.first c.loop-first.row c.args.self.now items c.loop-first.invariant in
    subst (λ (span : Span). span.live + 1 < 2 ^ 64) (sym same) (c.requires.few at none (omega (arith, below, within, c.from.ensures, long)))

pub loop-first-preserved : goal.loop-first-preserved
loop-first-preserved c =
    let first = c.loop-first.first in
    let row = c.loop-first.row in
    let next : suc first ≡ first + 1 = omega arith in
    let changes = subst (λ items. ChangesBetween (one_more c.args.size) (row + c.from-in-loop-first.result) (row + c.from.result) items c.add_between.new.spans) c.as_mut_slice.ensures.value c.add_between.ensures in
    let vec = c.loop-first.self-inside.all in
    let put : (with_items vec c.add_between.new.spans).items ≡ c.add_between.new.spans = with_items_is vec c.add_between.new.spans (c.add_between.auto.spans ∙ ap length c.as_mut_slice.ensures.value ∙ sym vec.ok.0) in
    subst (HasChanged (with_block c.args.range c.args.size) (first + 1) (row + c.from.result) c.args.self.now) (sym put)
    (subst (λ n. HasChanged (with_block c.args.range c.args.size) n (row + c.from.result) c.args.self.now c.add_between.new.spans) next
    (changed_next c.args.range (with_block c.args.range c.args.size) (one_more c.args.size) (λ span has. with_hit c.args.range c.args.size span has) (λ span none. with_missed c.args.range c.args.size span none) first c.min-range.result row (row + c.from-in-loop-first.result) (row + c.from.result)
    c.args.self.now c.loop-first.self-inside.all.items c.add_between.new.spans c.loop-first.invariant (omega (arith, c.loop-first-test.true, c.min-first-end.ensures))
    (omega (arith, c.loop-first-test.true, c.min-first-end.ensures, c.min-range.ensures)) c.min-range.ensures (omega (arith, c.from-in-loop-first.ensures)) (omega (arith, c.from.ensures)) changes))

pub returns : goal.returns
returns c =
    let first = c.loop-first.first in
    changed_all c.args.range (with_block c.args.range c.args.size) (one_more c.args.size) (λ span has. with_hit c.args.range c.args.size span has) (λ span none. with_missed c.args.range c.args.size span none) first c.loop-first.row c.args.self.now c.loop-first.self-inside.all.items c.loop-first.invariant
    (elim (cases_lt first 27) [
      | inl below ↦ inr (omega (arith, below, c.loop-first-test.false, c.min-first-end.ensures, c.min-range.ensures))
      | inr all ↦ inl all
    ])

pub invariant_of-self : goal.invariant_of-self
invariant_of-self c =
    let first = c.loop-first.first in
    let is = changed_all c.args.range (with_block c.args.range c.args.size) (one_more c.args.size) (λ span has. with_hit c.args.range c.args.size span has) (λ span none. with_missed c.args.range c.args.size span none) first c.loop-first.row c.args.self.now c.loop-first.self-inside.all.items c.loop-first.invariant
    (elim (cases_lt first 27) [
      | inl below ↦ inr (omega (arith, below, c.loop-first-test.false, c.min-first-end.ensures, c.min-range.ensures))
      | inr all ↦ inl all
    ]) in
    subst (AreRows 27 0) (sym is) (rows_stay (with_block c.args.range c.args.size) (λ span. (refl, refl)) 27 0 c.args.self.now (subst (AreRows 27 0) c.self.view_is c.self.invariant))
