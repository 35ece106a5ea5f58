-- The first block of the class that is picked can be taken.
use Rattle.std.proofs.Common.{refl, ◌≡◌, sym, ap, ◌∙◌, subst, arith, Some}
use Rattle.tlsf_store.specs.Records.{record_at}
use Rattle.tlsf_store.specs.Cells.{Cells}
use Rattle.tlsf_heap.specs.Malloc.{malloc_picked, malloc_rounded}
use Rattle.tlsf_heap.specs.Inner.Following.{content_of}
use Rattle.tlsf_heap.specs.Inner.Answers.{IsPick, IsTakeable}
use Rattle.tlsf_heap.proofs.Inner.Answered.{answered_as}
use Rattle.tlsf_heap.proofs.Inner.TakenBlock.{first_picked, pick_takeable}
use Rattle.tlsf_heap.proofs.malloc.allocate.Goals as goal
use Rattle.tlsf_heap.proofs.malloc.allocate.Goals.{After-first-slot}

picked : (c : After-first-slot) → IsPick c.args.asked c.in_ok-class.class c.first-slot.result c.args.store.now.cells
picked c =
    first_picked c.args.store.now.cells c.args.store.now.cells c.args.asked c.in_ok-class.class c.first-slot.result
    (rw c.in_ok-class.ensures.ok_part at c.pick.ensures.found) (rw c.pick.ensures.left.cells at c.first-slot.ensures.value) refl

pub take-requires-clause-takeable : goal.take-requires-clause-takeable
take-requires-clause-takeable c =
    let is = picked (goal.at.take-requires-clause-takeable c).After-first-slot in
    subst (λ (cells : Cells). IsTakeable c.args.asked c.in_ok-class.class c.first-slot.result cells) (sym (c.first-slot.ensures.left.cells ∙ c.pick.ensures.left.cells))
    (pick_takeable c.args.store.now.cells c.requires.stands c.args.asked c.in_ok-class.class c.first-slot.result is)

pub returns : goal.returns
returns c =
    let old : Cells = c.args.store.now.cells in
    let before : Cells = c.first-slot.new.self.cells in
    let read : before ≡ old = c.first-slot.ensures.left.cells ∙ c.pick.ensures.left.cells in
    let found = (picked (goal.at.returns c).After-first-slot).found ∙ ap (λ (cells : Cells). Some (record_at cells.records c.first-slot.result).place) (sym read) in
    answered_as (λ slot. malloc_rounded slot (Some c.args.asked)) (λ owner. malloc_picked owner c.args.asked (Some (record_at before.records c.first-slot.result).place)) c.take.result 17 4 c.args.store.now c.first-slot.new.self c.take.new.store
    (λ slot. ap (λ place. malloc_picked slot c.args.asked place (content_of old)) found) read
    (record { floor = omega (arith, c.pick.ensures.left.touches.floor, c.first-slot.ensures.left.touches); bound = omega (arith, c.pick.ensures.left.touches.bound, c.first-slot.ensures.left.touches) }) c.take.ensures
