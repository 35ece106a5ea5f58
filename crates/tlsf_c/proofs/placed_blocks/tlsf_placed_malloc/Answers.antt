-- Bytes that are too many are refused, and a block lies in a pool with its front.
use Rattle.std.proofs.Common.{rules, ℕ, ◌+◌, ◌*◌, ◌/◌, ◌≡◌, Some, None, map, sym, ◌∙◌, subst, arith}
use Rattle.tlsf_heap.specs.Counted.{Counted, range_of}
use Rattle.tlsf_heap.specs.OwnClass.{malloc_or_own}
use Rattle.tlsf_heap.specs.Room.{HasRoom}
use Rattle.tlsf_heap.specs.Served.{IsServed}
use Rattle.tlsf_class.specs.Rounding.{round}
use Rattle.tlsf_class.proofs.RoundingLaws.{round_above}
use Rattle.tlsf_c.specs.Lying.{LiesIn}
use Rattle.tlsf_c.specs.PlacedHeaps.{malloc_with_front}
use Rattle.tlsf_c.proofs.PlacedLemmas.{with_front, lies_somewhere, given_at}
use Rattle.tlsf_c.proofs.placed_blocks.tlsf_placed_malloc.Goals as goal

pub returns-then-bytes-ge-MOST-clause-refused : goal.returns-then-bytes-ge-MOST-clause-refused
returns-then-bytes-ge-MOST-clause-refused c = λ none. record {
  refusal = c.refusal_of.result;
  refused = λ slot. c.refusal_of.ensures slot c.args.heap.now.handle.value.content;
  number_is = search rules;
  unchanged = search rules;
}

pub place_block-requires-clause-somewhere : goal.place_block-requires-clause-somewhere
place_block-requires-clause-somewhere c =
    let heap = c.args.heap.now in
    let lies = subst (λ (h : Counted). LiesIn c.in-Ok.ptr.place ((c.args.bytes + 8 + 15) / 16 * 16) (map range_of h.content.pools)) c.heap.ensures.value c.in-Ok.ensures.lies in
    lies_somewhere c.in-Ok.ptr.place ((c.args.bytes + 8 + 15) / 16 * 16) (map range_of heap.handle.value.content.pools) heap.pools heap.entries lies (omega arith)

pub returns-in-Ok-clause-given : goal.returns-in-Ok-clause-given
returns-in-Ok-clause-given c = λ some.
    let heap = c.args.heap.now in
    let ptr = c.in-Ok.ptr in
    let size : ℕ = (c.args.bytes + 8 + 15) / 16 * 16 in
    let lies = subst (λ (h : Counted). LiesIn ptr.place size (map range_of h.content.pools)) c.heap.ensures.value c.in-Ok.ensures.lies in
    let served = subst (λ (h : Counted). IsServed (λ slot. malloc_or_own slot (c.args.bytes + 8)) ptr h.content c.allocate.new.heap.content) c.heap.ensures.value c.in-Ok.ensures.ok in
    let given : IsServed (λ slot. malloc_with_front slot c.args.bytes) ptr heap.handle.value.content c.allocate.new.heap.content = record { ok = with_front ptr.slot c.args.bytes heap.handle.value.content (λ none. absurd (omega (arith, none, c.if-bytes-ge-MOST.false))) ∙ served.ok; slot_below = served.slot_below; slot_new = served.slot_new } in
    given_at (λ slot. malloc_with_front slot c.args.bytes) c.args.bytes c.place_block.result.address size ptr heap.pools heap.handle.value.content c.allocate.new.heap.content heap.entries given lies (omega arith) c.place_block.ensures.at

pub returns-then-bytes-ge-MOST-clause-room : goal.returns-then-bytes-ge-MOST-clause-room
returns-then-bytes-ge-MOST-clause-room c = λ some room. (
    let none : round (c.args.bytes + 8) ≡ None = round_above (c.args.bytes + 8) (omega (arith, some, c.if-bytes-ge-MOST.true)) in
    let is : round (c.args.bytes + 8) ≡ Some room.m = room.rounds in
    absurd (cc))

pub returns-in-Err-clause-room : goal.returns-in-Err-clause-room
returns-in-Err-clause-room c = λ some room. absurd (c.in-Err.ensures.room (subst (λ (h : Counted). HasRoom (c.args.bytes + 8) h.content) (sym c.heap.ensures.value) room))
