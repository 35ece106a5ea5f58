-- The block that the address and the word mean is looked for under its slot, with its size.
use Rattle.std.proofs.Common.{◌≡◌, ℕ, true, sym, ap, ◌∙◌, subst, arith, Ok, ◌%◌, ◌^◌}
use Rattle.tlsf_heap.specs.Counted.{Counted}
use Rattle.tlsf_heap.specs.Pointer.{Pointer, free_ptr, block_size_ptr}
use Rattle.tlsf_c.specs.Fronts.{told_size}
use Rattle.tlsf_c.specs.LiveFigures.{IsLiveChange}
use Rattle.tlsf_c.specs.PlacedHeaps.{told_block}
use Rattle.tlsf_c.proofs.PlacedLemmas.{live_in_found}
use Rattle.tlsf_c.proofs.placed_blocks.tlsf_placed_free.Goals as goal
use Rattle.tlsf_c.proofs.placed_blocks.tlsf_placed_free.Goals.{After-release}

-- the block that is looked for is the one that is told
block_is : (c : After-release) → c.new-ptr.result ≡ told_block c.in-Some.place c.args.address c.args.word
block_is c = c.new-ptr.ensures ∙ ap (λ (slot : ℕ). let p : Pointer = record { place = c.in-Some.place; slot = slot } in p) c.mark_of-mark.ensures.slot

pub returns-then-not-release-clause-found : goal.returns-then-not-release-clause-found
returns-then-not-release-clause-found c = (
  λ none. absurd (omega (arith, none, c.number-then-not-release.ensures.positive)),
  λ live. (
      let heap = c.args.heap.now in
      let there = live_in_found c.args.address c.args.word c.in-Some.place heap.pools c.in-Some.ensures.0 heap.handle.value.content heap.apart c.in-Some.ensures.1 c.in-Some.ensures.2 live in
      let same = block_is (goal.at.returns-then-not-release-clause-found c).After-release in
      let here = subst (λ (p : Pointer). block_size_ptr p heap.handle.value.content ≡ Ok (told_size c.args.word c.args.address)) (sym same) there in
      let inside = subst (λ (h : Counted). block_size_ptr c.new-ptr.result h.content ≡ Ok (told_size c.args.word c.args.address)) (sym c.heap.ensures.value) here in
      let asked = subst (λ (n : ℕ). block_size_ptr c.new-ptr.result c.heap.result.now.content ≡ Ok n) (sym c.mark_of-mark.ensures.size) inside in
      absurd (let yes : c.release.result ≡ true = c.release.ensures.found.1 asked in cc)),
)

pub invariant_of-heap-2-clause-figures_are : goal.invariant_of-heap-2-clause-figures_are
invariant_of-heap-2-clause-figures_are c =
    let was = c.args.heap.now.figures_are in
    let change = subst (λ (h : Counted). IsLiveChange 1 c.mark_of-mark.result.size 0 0 h.content c.release.new.heap.content) c.heap.ensures.value (c.release.ensures.live c.if-not-release.false) in
    let long = c.release.ensures.long c.if-not-release.false in
    record {
      blocks = omega (arith, change.blocks, was.blocks, c.freed.ensures.blocks);
      bytes = omega (arith, change.blocks, change.bytes, was.bytes, long, c.freed.ensures.bytes, c.freed.ensures.blocks);
      most = omega (arith, was.most, c.freed.ensures.bytes, c.freed.ensures.most);
      again = c.freed.ensures.again ∙ was.again ∙ ap (λ n. n % 2 ^ 32) (sym c.freed.ensures.most);
    }

pub returns-clause-freed : goal.returns-clause-freed
returns-clause-freed c = λ served.
    let heap = c.args.heap.now in
    let inside = c.release.ensures.freed c.if-not-release.false in
    let here = subst (λ (h : Counted). free_ptr c.new-ptr.result h.content ≡ Ok c.release.new.heap.content) c.heap.ensures.value inside in
    record {
      place = c.in-Some.place;
      pool = c.in-Some.ensures.0;
      of_pools = c.in-Some.ensures.1;
      at = c.in-Some.ensures.2;
      freed = subst (λ (p : Pointer). free_ptr p heap.handle.value.content ≡ Ok c.release.new.heap.content) (block_is (goal.at.returns-clause-freed c).After-release) here;
    }
