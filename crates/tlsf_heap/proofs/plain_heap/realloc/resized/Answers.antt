use Rattle.std.proofs.Common.{◌≡◌, ℕ, ◌+◌, ◌-◌, sym, ap, ◌∙◌, subst, arith}
use Rattle.tlsf_heap.specs.Content.{Content}
use Rattle.tlsf_heap.specs.Realloc.{resized}
use Rattle.tlsf_heap.specs.PlainHeap.{IsPlain, gap_block}
use Rattle.tlsf_heap.proofs.Plain.Realloc.{IsResized, both_fit, is_resized, resized_is_plain, resized_by}
use Rattle.tlsf_heap.proofs.plain_heap.realloc.resized.Goals as goal
use Rattle.tlsf_heap.proofs.plain_heap.realloc.resized.Goals.{After-size_of}

pub overflow_add-size : goal.overflow_add-size
overflow_add-size c =
    let few = both_fit c.args.ptr.slot c.place-place.result c.args.content.now c.requires.plain (rw c.place-place.ensures c.requires.live) c.size_at.result c.size_of.result c.free_next-next.result c.size_at.ensures c.free_next-next.ensures c.size_of.ensures in
    omega (arith, few)

-- what is known of the block
sized : (c : After-size_of) → IsResized c.place-place.result c.args.asked (c.size_at.result + c.size_of.result)
sized c =
    is_resized c.args.ptr.slot c.place-place.result c.args.content.now c.requires.plain (rw c.place-place.ensures c.requires.live) c.args.asked (rw c.place-place.ensures c.requires.fits) (rw c.place-place.ensures c.requires.other) c.requires.size.in_units c.requires.size.positive c.size_at.result c.size_of.result c.free_next-next.result c.size_at.ensures c.free_next-next.ensures c.size_of.ensures

pub overflow_sub-size : goal.overflow_sub-size
overflow_sub-size c = (sized (goal.at.overflow_sub-size c).After-size_of).within

pub gap-rest-requires-clause-size : goal.gap-rest-requires-clause-size
gap-rest-requires-clause-size c = (sized (goal.at.gap-rest-requires-clause-size c).After-size_of).rest_size

pub gap-rest-requires-clause-place : goal.gap-rest-requires-clause-place
gap-rest-requires-clause-place c = λ some. let k = sized (goal.at.gap-rest-requires-clause-place c).After-size_of in omega (arith, some, k.ends, k.within, c.from.ensures, c.from-2.ensures)

-- the content made is the definition's
after : (c : goal.In_ok-replace) → c.replace.new.self ≡ resized c.slot.result c.place-place.result c.args.asked c.args.content.now
after c =
    resized_by c.slot.result c.place-place.result c.args.asked c.size_at.result c.size_of.result c.free_next-next.result c.gap-rest.result c.args.content.now c.in_ok-after.after c.remove.new.self c.link_gap.new.self c.replace.new.self c.in_ok-after.ensures c.in_ok-remove.ensures c.in_ok-link_gap.ensures c.in_ok-replace.ensures c.free_next-next.ensures c.size_at.ensures c.size_of.ensures
    (c.gap-rest.ensures ∙ ap (λ n. gap_block n ((c.size_at.result + c.size_of.result) - c.args.asked)) (let at : c.from.result + c.from-2.result ≡ c.place-place.result + c.args.asked = omega (arith, c.from.ensures, c.from-2.ensures) in at))

pub returns-clause-plain : goal.returns-clause-plain
returns-clause-plain c =
    let P : Content ℕ → Type 0 = λ x. IsPlain x in
    subst P (sym (after c ∙ ap (λ s. resized s c.place-place.result c.args.asked c.args.content.now) c.slot.ensures))
    (resized_is_plain c.args.ptr.slot c.place-place.result c.args.content.now c.requires.plain (rw c.place-place.ensures c.requires.live) c.args.asked (rw c.place-place.ensures c.requires.fits) (rw c.place-place.ensures c.requires.other) c.requires.size.in_units c.requires.size.positive)

pub returns-clause-value : goal.returns-clause-value
returns-clause-value c = after c ∙ ap (λ s. resized s c.place-place.result c.args.asked c.args.content.now) c.slot.ensures ∙ ap (λ p. resized c.args.ptr.slot p c.args.asked c.args.content.now) c.place-place.ensures
