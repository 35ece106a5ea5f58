use Rattle.std.proofs.Common.{rules, ◌≡◌, ℕ, ◌+◌, ◌-◌, arith, sym, ap, ◌∙◌, subst}
use Rattle.std.proofs.lemmas.Bool.{leb-false}
use Rattle.tlsf_heap.specs.Content.{Content}
use Rattle.tlsf_heap.specs.Malloc.{allocated}
use Rattle.tlsf_heap.specs.PlainHeap.{IsPlain, gap_block}
use Rattle.tlsf_heap.proofs.Plain.Malloc.{IsSplit, is_split, rest_size, allocated_is_plain, allocated_by}
use Rattle.tlsf_heap.proofs.plain_heap.malloc.allocate.Goals.{else-asked-size-via-then-asked-size+else-is_full, else-asked-size-via-else-asked-size, After-size_at-size}
use Rattle.tlsf_heap.proofs.plain_heap.malloc.allocate.Goals as goal

-- what is known of the block picked
split : (c : After-size_at-size) → IsSplit c.in_ok-place.place c.args.asked c.size_at-size.result c.args.content.now
split c = is_split c.requires.plain c.requires.size.in_units c.requires.size.positive c.pick.ensures c.in_ok-place.ensures.ok_part c.size_at-size.ensures

pub least_slot-slot-requires-clause-free : goal.least_slot-slot-requires-clause-free
least_slot-slot-requires-clause-free c = (split (goal.at.least_slot-slot-requires-clause-free c).After-size_at-size).some_free

pub overflow_sub-size : goal.overflow_sub-size
overflow_sub-size c = (split (goal.at.overflow_sub-size c).After-size_at-size).within

pub gap-rest-requires-clause-size : goal.gap-rest-requires-clause-size
gap-rest-requires-clause-size c = rest_size _ _ _ _ (split (goal.at.gap-rest-requires-clause-size c).After-size_at-size)

pub gap-rest-requires-clause-place : goal.gap-rest-requires-clause-place
gap-rest-requires-clause-place c some = omega (arith, some, (split (goal.at.gap-rest-requires-clause-place c).After-size_at-size).ends, c.from.ensures, c.from-2.ensures)

pub unlink-requires : goal.unlink-requires
unlink-requires c = (split (goal.at.unlink-requires c).After-size_at-size).whole_size

-- the content made is the definition's
after : (c : goal.After-new) → c.replace.new.self ≡ allocated c.least_slot-slot.result c.in_ok-place.place c.args.asked c.size_at-size.result c.args.content.now
after c =
    allocated_by c.least_slot-slot.result c.in_ok-place.place c.args.asked c.size_at-size.result c.gap-rest.result c.args.content.now c.in_ok-next.next c.unlink.new.self c.link_gap.new.self c.replace.new.self c.in_ok-next.ensures c.unlink.ensures c.in_ok-link_gap.ensures c.in_ok-replace.ensures
    (c.gap-rest.ensures ∙ ap (λ n. gap_block n (c.size_at-size.result - c.args.asked)) (let at : c.from.result + c.from-2.result ≡ c.in_ok-place.place + c.args.asked = omega (arith, c.from.ensures, c.from-2.ensures) in at))

pub returns : goal.returns
returns c =
    let content : Content ℕ = c.args.content.now in
    let P : Content ℕ → Type 0 = λ x. IsPlain x in
    record {
      plain = subst P (sym (after c))
          (allocated_is_plain c.least_slot-slot.result c.in_ok-place.place c.args.asked c.size_at-size.result content c.requires.plain c.requires.size.in_units c.requires.size.positive (sym c.pick.ensures ∙ c.in_ok-place.ensures.ok_part) c.size_at-size.ensures
          (elim c.else-asked-size.branch [
            | else-asked-size-via-then-asked-size+else-is_full w ↦ λ larger. leb-false content.records _ (sym w.is_full.ensures ∙ w.if-is_full.false)
            | else-asked-size-via-else-asked-size w ↦ λ larger. absurd (omega (arith, larger, w.if-asked-size.false))
          ])
          c.least_slot-slot.ensures.below c.least_slot-slot.ensures.new);
      ok = search rules;
      refused = search rules;
    }
