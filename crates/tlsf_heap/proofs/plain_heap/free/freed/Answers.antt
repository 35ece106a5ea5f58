use Rattle.std.proofs.Common.{◌≡◌, ℕ, refl, arith, sym, ap, ◌∙◌, subst}
use Rattle.std.specs.Prelude.{◌==◌}
use Rattle.tlsf_heap.specs.Content.{Block, Content}
use Rattle.tlsf_heap.specs.Lists.{link}
use Rattle.tlsf_heap.specs.Free.{after_free}
use Rattle.tlsf_heap.specs.PlainHeap.{IsPlain}
use Rattle.tlsf_heap.proofs.Plain.Free.{merged_size, freed_is_plain, freed_by}
use Rattle.tlsf_heap.proofs.plain_heap.free.freed.Goals as goal

pub overflow_add-size_of : goal.overflow_add-size_of
overflow_add-size_of c =
    let all = merged_size (λ slot. slot == c.args.ptr.slot) c.place-place.result c.requires.plain (rw c.place-place.ensures c.requires.live) c.free_previous-previous.ensures c.free_next-next.ensures c.size_of.ensures c.size_at-size.ensures refl in
    omega (arith, all.at_most)

pub overflow_add-size_of-2 : goal.overflow_add-size_of-2
overflow_add-size_of-2 c =
    let all = merged_size (λ slot. slot == c.args.ptr.slot) c.place-place.result c.requires.plain (rw c.place-place.ensures c.requires.live) c.free_previous-previous.ensures c.free_next-next.ensures c.size_of.ensures c.size_at-size.ensures c.size_of-2.ensures in
    omega (arith, all.at_most)

pub free-merged-requires : goal.free-merged-requires
free-merged-requires c =
    merged_size (λ slot. slot == c.args.ptr.slot) c.place-place.result c.requires.plain (rw c.place-place.ensures c.requires.live) c.free_previous-previous.ensures c.free_next-next.ensures c.size_of.ensures c.size_at-size.ensures c.size_of-2.ensures

-- the content made is the definition's
after : (c : goal.In_ok-link) → c.link.new.self ≡ after_free c.place-place.result c.args.content.now
after c =
    freed_by c.place-place.result c.free_previous-previous.result c.free_next-next.result c.free-merged.result c.args.content.now c.in_ok-after.after c.remove.new.self c.remove-2.new.self c.replace.new.self c.link.new.self
    c.in_ok-after.ensures
    c.in_ok-remove.ensures
    c.in_ok-remove-2.ensures
    c.in_ok-replace.ensures
    (c.in_ok-link.ensures ∙ ap (λ (block : Block ℕ). record c.replace.new.self { lists = link block.place block.size c.replace.new.self.lists }) c.merged.view_is)
    c.free_previous-previous.ensures
    c.free_next-next.ensures
    (cc (c.free-merged.ensures, c.start_of-start.ensures, c.size_of.ensures, c.size_at-size.ensures, c.size_of-2.ensures))

pub returns-clause-plain : goal.returns-clause-plain
returns-clause-plain c =
    let P : Content ℕ → Type 0 = λ x. IsPlain x in
    subst P (sym (after c)) (freed_is_plain (λ slot. slot == c.args.ptr.slot) c.place-place.result c.args.content.now c.requires.plain (rw c.place-place.ensures c.requires.live))

pub returns-clause-value : goal.returns-clause-value
returns-clause-value c = after c ∙ ap (λ p. after_free p c.args.content.now) c.place-place.ensures
