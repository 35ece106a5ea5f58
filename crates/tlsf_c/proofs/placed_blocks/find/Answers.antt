use Rattle.std.proofs.Common.{◌≡◌, ℕ, true, sym, ap, ◌∙◌, subst, Ok}
use Rattle.tlsf_heap.specs.Counted.{Counted}
use Rattle.tlsf_heap.specs.Pointer.{Pointer, block_size_ptr}
use Rattle.tlsf_c.specs.Fronts.{told_size}
use Rattle.tlsf_c.specs.PlacedHeaps.{told_block}
use Rattle.tlsf_c.proofs.PlacedLemmas.{live_in_found}
use Rattle.tlsf_c.proofs.ResizedBlock.{live_units}
use Rattle.tlsf_c.proofs.placed_blocks.find.Goals as goal
use Rattle.tlsf_c.proofs.placed_blocks.find.Goals.{After-has_block}

-- the block that was looked at is the one that is told
block_is : (c : After-has_block) → c.new-ptr.result ≡ told_block c.in_ok-place.place c.args.address c.args.word
block_is c = c.new-ptr.ensures ∙ ap (λ (slot : ℕ). let p : Pointer = record { place = c.in_ok-place.place; slot = slot } in p) c.mark_of-mark.ensures.slot

-- the block that is live there would be the one that was looked at, of the size that was told
pub returns-then-not-has_block-clause-none : goal.returns-then-not-has_block-clause-none
returns-then-not-has_block-clause-none c = λ live.
    let heap = c.args.heap.now in
    let there = live_in_found c.args.address c.args.word c.in_ok-place.place heap.pools c.in_ok-place.ensures.0 heap.handle.value.content heap.apart c.in_ok-place.ensures.1 c.in_ok-place.ensures.2 live in
    let same = block_is (goal.at.returns-then-not-has_block-clause-none c).After-has_block in
    let here = subst (λ (p : Pointer). block_size_ptr p heap.handle.value.content ≡ Ok (told_size c.args.word c.args.address)) (sym same) there in
    let inside = subst (λ (h : Counted). block_size_ptr c.new-ptr.result h.content ≡ Ok (told_size c.args.word c.args.address)) (sym c.heap-inner.ensures.value) here in
    let asked = subst (λ (n : ℕ). block_size_ptr c.new-ptr.result c.heap-inner.result.now.content ≡ Ok n) (sym c.mark_of-mark.ensures.size) inside in
    absurd (let yes : c.has_block.result ≡ true = c.has_block.ensures.value.1 asked in cc)

pub returns-clause-long : goal.returns-clause-long
returns-clause-long c =
    let is = live_units c.new-ptr.result c.mark_of-mark.result.size c.heap-inner.result.now.content c.keeps_good.ensures.good (c.has_block.ensures.value.0 c.if-not-has_block.false) in
    is.long
