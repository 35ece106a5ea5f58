use Rattle.std.proofs.Common.{rules, ◌≡◌, ℕ, ◌+◌, ◌-◌, cond, refl, sym, ap, ◌∙◌, subst, arith, Ok, Err}
use Rattle.std.specs.Prelude.{nat_lt}
use Rattle.tlsf_heap.specs.declared.refusal.Refusal.TheVariants.{TableFull}
use Rattle.tlsf_heap.specs.Content.{Content, used_records}
use Rattle.tlsf_heap.specs.Memalign.{aligned}
use Rattle.tlsf_heap.specs.PlainHeap.{IsPlain, gap_block}
use Rattle.tlsf_heap.proofs.Plain.Memalign.{IsSplitAligned, is_split_aligned, used_few, split_aligned_or_full, split_aligned_is_plain, aligned_by}
use Rattle.tlsf_heap.proofs.plain_heap.memalign.split_aligned.Goals as goal
use Rattle.tlsf_heap.proofs.plain_heap.memalign.split_aligned.Goals.{After-start_of-start, In_ok-replace}

pub start_of-start-requires-clause-fits : goal.start_of-start-requires-clause-fits
start_of-start-requires-clause-fits c = (is_split_aligned c.requires.plain c.requires.is c.requires.size.in_units c.requires.size.positive c.size_asked.ensures c.pick.ensures c.in_ok-place.ensures.ok_part c.size_at-size.ensures refl).below

-- what is known of the block picked
split : (c : After-start_of-start) → IsSplitAligned c.args.align c.args.asked c.in_ok-place.place c.start_of-start.result c.size_at-size.result c.args.content.now
split c = is_split_aligned c.requires.plain c.requires.is c.requires.size.in_units c.requires.size.positive c.size_asked.ensures c.pick.ensures c.in_ok-place.ensures.ok_part c.size_at-size.ensures c.start_of-start.ensures

pub least_slot-slot-requires-clause-free : goal.least_slot-slot-requires-clause-free
least_slot-slot-requires-clause-free c = (split (goal.at.least_slot-slot-requires-clause-free c).After-start_of-start).some_free

pub gap-gap-requires-clause-size : goal.gap-gap-requires-clause-size
gap-gap-requires-clause-size c = (split (goal.at.gap-gap-requires-clause-size c).After-start_of-start).front_size

pub overflow_sub-size : goal.overflow_sub-size
overflow_sub-size c = (split (goal.at.overflow_sub-size c).After-start_of-start).front_fits

pub overflow_sub-size-2 : goal.overflow_sub-size-2
overflow_sub-size-2 c = (split (goal.at.overflow_sub-size-2 c).After-start_of-start).asked_fits

pub gap-rest-requires-clause-size : goal.gap-rest-requires-clause-size
gap-rest-requires-clause-size c = (split (goal.at.gap-rest-requires-clause-size c).After-start_of-start).rest_size

pub gap-rest-requires-clause-place : goal.gap-rest-requires-clause-place
gap-rest-requires-clause-place c some = omega (arith, some, (split (goal.at.gap-rest-requires-clause-place c).After-start_of-start).ends, c.from.ensures, c.from-2.ensures, c.from-3.ensures)

pub unlink-requires : goal.unlink-requires
unlink-requires c = (split (goal.at.unlink-requires c).After-start_of-start).whole_size

-- the content made is the definition's
after : (c : In_ok-replace) → c.replace.new.self ≡ aligned c.least_slot-slot.result c.start_of-start.result c.args.asked c.in_ok-place.place c.size_at-size.result c.args.content.now
after c =
    aligned_by c.least_slot-slot.result c.in_ok-place.place c.start_of-start.result c.args.asked c.size_at-size.result c.gap-gap.result c.gap-rest.result c.args.content.now c.in_ok-next.next c.unlink.new.self c.link_gap.new.self c.link_gap-2.new.self c.replace.new.self c.in_ok-next.ensures c.unlink.ensures c.in_ok-link_gap.ensures c.in_ok-link_gap-2.ensures c.in_ok-replace.ensures
    (c.gap-gap.ensures ∙ ap (λ n. gap_block n (c.start_of-start.result - c.in_ok-place.place)) c.from.ensures)
    (c.gap-rest.ensures ∙ ap (λ n. gap_block n ((c.size_at-size.result - (c.start_of-start.result - c.in_ok-place.place)) - c.args.asked)) (let at : c.from-2.result + c.from-3.result ≡ c.start_of-start.result + c.args.asked = omega (arith, c.from-2.ensures, c.from-3.ensures) in at))

pub has_too_many-requires : goal.has_too_many-requires
has_too_many-requires c =
    let by = split (goal.at.has_too_many-requires c).After-start_of-start in
    omega (arith, ap used_records (after (goal.at.has_too_many-requires c).In_ok-replace), used_few by c.least_slot-slot.result, c.requires.plain.good.blocks_few, c.requires.plain.records_few)

pub returns-then-has_too_many : goal.returns-then-has_too_many
returns-then-has_too_many c = record {
  plain = search rules;
  ok = search rules;
  refused = λ named other. let by = split (goal.at.returns-then-has_too_many c).After-start_of-start in
      let full = c.has_too_many.ensures ∙ ap (λ (x : Content ℕ). nat_lt x.records (used_records x)) (after (goal.at.returns-then-has_too_many c).In_ok-replace) in
      split_aligned_or_full by c.least_slot-slot.result c.has_too_many.result full other
      ∙ ap (λ b. cond b (Err TableFull) (Ok (c.start_of-start.result, aligned other c.start_of-start.result c.args.asked c.in_ok-place.place c.size_at-size.result c.args.content.now))) c.if-has_too_many.true;
}

pub returns : goal.returns
returns c =
    let by = split (goal.at.returns c).After-start_of-start in
    let made_is = after (goal.at.returns c).In_ok-replace in
    let full = c.has_too_many.ensures ∙ ap (λ (x : Content ℕ). nat_lt x.records (used_records x)) made_is in
    let start : ℕ = c.start_of-start.result in
    let slot : ℕ = c.least_slot-slot.result in
    let made : Content ℕ = aligned slot start c.args.asked c.in_ok-place.place c.size_at-size.result c.args.content.now in
    let P : Content ℕ → Type 0 = λ x. IsPlain x in
    record {
      plain = subst P (sym made_is) (split_aligned_is_plain by slot c.requires.plain c.requires.size.positive c.requires.size.in_units (sym full ∙ c.if-has_too_many.false) c.least_slot-slot.ensures.below c.least_slot-slot.ensures.new);
      ok = record {
        ok = rw c.new.ensures
            (split_aligned_or_full by slot c.has_too_many.result full slot
            ∙ ap (λ b. cond b (Err TableFull) (Ok (start, made))) c.if-has_too_many.false
            ∙ ap (λ x. Ok (start, x)) (sym made_is));
        slot_below = rw c.new.ensures c.least_slot-slot.ensures.below;
        slot_new = rw c.new.ensures c.least_slot-slot.ensures.new;
      };
      refused = search rules;
    }
