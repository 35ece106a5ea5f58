-- A place at the alignment has an address at the alignment where pools lie alike.
use Rattle.std.proofs.lemmas.Bool.{false≢true}
use Rattle.std.proofs.Common.{rules, ◌≡◌, Some, None, ℕ, ◌+◌, ◌*◌, ◌/◌, map, sym, ◌∙◌, subst, arith}
use Rattle.std.proofs.lemmas.List.Elements.{All-contains}
use Rattle.tlsf_heap.specs.declared.refusal.Refusal.TheVariants.{ZeroSize, NoFit, BadAlign}
use Rattle.tlsf_heap.specs.Counted.{Counted, range_of}
use Rattle.tlsf_heap.specs.Memalign.{memalign}
use Rattle.tlsf_heap.specs.Room.{HasRoomAligned}
use Rattle.tlsf_heap.specs.Served.{IsServed}
use Rattle.tlsf_class.specs.Rounding.{round}
use Rattle.tlsf_class.proofs.RoundingLaws.{round_above}
use Rattle.tlsf_c.specs.Lying.{LiesIn}
use Rattle.tlsf_c.specs.PlacedHeaps.{memalign_with_front}
use Rattle.tlsf_c.specs.PlacedPools.{IsAlike}
use Rattle.tlsf_c.proofs.Alike.{aligns_none, aligns_above, aligned_with_front, aligns_bad, address_aligned}
use Rattle.tlsf_c.proofs.PlacedLemmas.{lies_somewhere, given_at}
use Rattle.tlsf_c.proofs.placed_aligned.tlsf_placed_memalign.Goals as goal
use Rattle.tlsf_c.proofs.placed_aligned.tlsf_placed_memalign.Goals.{then-not-is_alignment-via-then-not-is_alignment, then-not-is_alignment-via-else-not-is_alignment+then-not-are_alike}

pub returns-then-not-is_alignment-clause-refused : goal.returns-then-not-is_alignment-clause-refused
returns-then-not-is_alignment-clause-refused c = λ none alike. elim c.then-not-is_alignment.branch [
  | then-not-is_alignment-via-then-not-is_alignment w ↦ record {
    refusal = BadAlign;
    refused = λ slot. aligns_bad c.args.align slot c.args.bytes c.args.heap.now.handle.value.content (sym c.is_alignment.ensures ∙ w.if-not-is_alignment.true);
    number_is = search rules;
    unchanged = search rules;
  }
  | then-not-is_alignment-via-else-not-is_alignment+then-not-are_alike w ↦ absurd (false≢true (sym w.if-not-are_alike.true ∙ w.are_alike.ensures.1 alike))
]

pub returns-then-bytes-eq0-clause-refused : goal.returns-then-bytes-eq0-clause-refused
returns-then-bytes-eq0-clause-refused c = λ none alike. record {
  refusal = ZeroSize;
  refused = λ slot. aligns_none c.args.align slot c.args.bytes c.args.heap.now.handle.value.content (sym c.is_alignment.ensures ∙ c.if-not-is_alignment.false) c.if-bytes-eq0.true;
  number_is = search rules;
  unchanged = search rules;
}

pub returns-then-bytes-gt-MOST-clause-refused : goal.returns-then-bytes-gt-MOST-clause-refused
returns-then-bytes-gt-MOST-clause-refused c = λ none alike. record {
  refusal = NoFit;
  refused = λ slot. aligns_above c.args.align slot c.args.bytes c.args.heap.now.handle.value.content (sym c.is_alignment.ensures ∙ c.if-not-is_alignment.false) (omega (arith, c.if-bytes-gt-MOST.true));
  number_is = search rules;
  unchanged = search rules;
}

pub place_block-requires-clause-somewhere : goal.place_block-requires-clause-somewhere
place_block-requires-clause-somewhere c =
    let heap = c.args.heap.now in
    let lies = subst (λ (h : Counted). LiesIn c.in-Ok.ptr.place ((c.args.bytes + 8 + 15) / 16 * 16) (map range_of h.content.pools)) c.heap.ensures.value c.in-Ok.ensures.lies in
    lies_somewhere c.in-Ok.ptr.place ((c.args.bytes + 8 + 15) / 16 * 16) (map range_of heap.handle.value.content.pools) heap.pools heap.entries lies (omega arith)

pub returns-in-Ok-clause-given : goal.returns-in-Ok-clause-given
returns-in-Ok-clause-given c = λ some.
    let heap = c.args.heap.now in
    let ptr = c.in-Ok.ptr in
    let size : ℕ = (c.args.bytes + 8 + 15) / 16 * 16 in
    let lies = subst (λ (h : Counted). LiesIn ptr.place size (map range_of h.content.pools)) c.heap.ensures.value c.in-Ok.ensures.lies in
    let served = subst (λ (h : Counted). IsServed (λ slot. memalign slot c.args.align (c.args.bytes + 8)) ptr h.content c.allocate_aligned.new.heap.content) c.heap.ensures.value c.in-Ok.ensures.ok in
    let given : IsServed (λ slot. memalign_with_front c.args.align slot c.args.bytes) ptr heap.handle.value.content c.allocate_aligned.new.heap.content = record { ok = aligned_with_front c.args.align ptr.slot c.args.bytes heap.handle.value.content c.if-bytes-eq0.false ∙ served.ok; slot_below = served.slot_below; slot_new = served.slot_new } in
    given_at (λ slot. memalign_with_front c.args.align slot c.args.bytes) c.args.bytes c.place_block.result.address size ptr heap.pools heap.handle.value.content c.allocate_aligned.new.heap.content heap.entries given lies (omega arith) c.place_block.ensures.at

pub returns-in-Ok-clause-multiple : goal.returns-in-Ok-clause-multiple
returns-in-Ok-clause-multiple c =
    let heap = c.args.heap.now in
    let there = c.place_block.ensures.at in
    let alike = All-contains (IsAlike c.args.align) heap.pools there.0 (c.are_alike.ensures.0 c.if-not-are_alike.false) there.1 in
    address_aligned c.args.align c.in-Ok.ptr.place c.place_block.result.address there.0 alike there.2 c.in-Ok.ensures.multiple

pub returns-in-Ok-clause-unlike : goal.returns-in-Ok-clause-unlike
returns-in-Ok-clause-unlike c = λ unlike. absurd (unlike (c.are_alike.ensures.0 c.if-not-are_alike.false))

pub returns-then-not-is_alignment-clause-room : goal.returns-then-not-is_alignment-clause-room
returns-then-not-is_alignment-clause-room c = λ some is alike room. elim c.then-not-is_alignment.branch [
  | then-not-is_alignment-via-then-not-is_alignment w ↦ (let isn't = sym c.is_alignment.ensures ∙ w.if-not-is_alignment.true in absurd (cc))
  | then-not-is_alignment-via-else-not-is_alignment+then-not-are_alike w ↦ absurd (false≢true (sym w.if-not-are_alike.true ∙ w.are_alike.ensures.1 alike))
]

pub returns-then-bytes-eq0-clause-room : goal.returns-then-bytes-eq0-clause-room
returns-then-bytes-eq0-clause-room c = λ some is alike room. absurd (omega (arith, some, c.if-bytes-eq0.true))

pub returns-then-bytes-gt-MOST-clause-room : goal.returns-then-bytes-gt-MOST-clause-room
returns-then-bytes-gt-MOST-clause-room c = λ some is alike room. (
    let none : round (c.args.bytes + 8) ≡ None = round_above (c.args.bytes + 8) (omega (arith, c.if-bytes-gt-MOST.true)) in
    let rounds : round (c.args.bytes + 8) ≡ Some room.m = room.rounds in
    absurd (cc))

pub returns-in-Err-clause-room : goal.returns-in-Err-clause-room
returns-in-Err-clause-room c = λ some is alike room. absurd (c.in-Err.ensures.room is (subst (λ (h : Counted). HasRoomAligned c.args.align (c.args.bytes + 8) h.content) (sym c.heap.ensures.value) room))
