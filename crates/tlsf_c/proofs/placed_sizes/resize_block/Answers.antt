-- A refusal hangs on no slot, and a block lies in a pool with its front.
use Rattle.std.specs.Prelude.{List, Contains}
use Rattle.std.proofs.Common.{◌≡◌, ℕ, rules, ◌+◌, ◌-◌, min, map, Some, None, Err, inl, inr, refl, sym, ap, ◌∙◌, subst, arith}
use Rattle.tlsf_heap.specs.declared.refusal.Refusal.TheVariants.{BadPointer, NoFit}
use Rattle.tlsf_heap.specs.Content.{Content}
use Rattle.tlsf_heap.specs.Counted.{range_of}
use Rattle.tlsf_heap.specs.Pointer.{Pointer, realloc_ptr}
use Rattle.tlsf_heap.specs.Room.{HasRoom}
use Rattle.tlsf_heap.specs.Served.{IsMoved}
use Rattle.tlsf_class.specs.Rounding.{round}
use Rattle.tlsf_class.proofs.RoundingLaws.{round_above}
use Rattle.std.proofs.lemmas.Bool.{eq-eqb, ne_eqb}
use Rattle.tlsf_c.specs.Fronts.{front, told_slot, told_size}
use Rattle.tlsf_c.specs.Lying.{LiesIn}
use Rattle.tlsf_c.specs.declared.placed_pool.PlacedPool.{PlacedPool}
use Rattle.tlsf_c.specs.PlacedHeaps.{told_block}
use Rattle.tlsf_c.proofs.AnySlot.{refused_for_any}
use Rattle.tlsf_c.proofs.PlacedLemmas.{lies_somewhere, ends_in_entry}
use Rattle.tlsf_c.proofs.ResizedBlock.{found_live, grows_above}
use Rattle.tlsf_c.proofs.placed_sizes.resize_block.Goals as goal

pub returns-in_default-clause-refused : goal.returns-in_default-clause-refused
returns-in_default-clause-refused c = λ none. record {
  refusal = BadPointer;
  refused = inl (c.in_default.ensures.none, refl);
  number_is = search rules;
  unchanged = search rules;
}

pub returns-then-bytes-gt-MOST-clause-refused : goal.returns-then-bytes-gt-MOST-clause-refused
returns-then-bytes-gt-MOST-clause-refused c = λ none.
    let heap = c.args.heap.now in
    let some = c.in-Some.ensures.some in
    let live = found_live c.args.address c.args.word.now c.in-Some.block.ptr heap.pools heap.handle.value.content some.0 some.1 some.2 in
    record {
      refusal = NoFit;
      refused = inr (live, λ slot. grows_above slot (told_block live.place c.args.address c.args.word.now) c.args.bytes (told_size c.args.word.now c.args.address) heap.handle.value.content live.live (omega (arith, c.if-bytes-gt-MOST.true)));
      number_is = search rules;
      unchanged = search rules;
    }

pub place_block-now-requires-clause-somewhere : goal.place_block-now-requires-clause-somewhere
place_block-now-requires-clause-somewhere c =
    let heap = c.find.new.heap in
    let ptr = c.in-Ok.new.ptr in
    lies_somewhere ptr.place c.in-Ok.new.size (map range_of heap.handle.value.content.pools) heap.pools heap.entries c.in-Ok.ensures.lies (omega (arith, c.in-Ok.ensures.holds, c.in-Ok.ensures.units))

pub returns-in-Ok-clause-given : goal.returns-in-Ok-clause-given
returns-in-Ok-clause-given c = λ some.
    let heap = c.args.heap.now in
    let content = heap.handle.value.content in
    let new = c.in-Ok.new in
    let found = c.in-Some.ensures.some in
    let live = found_live c.args.address c.args.word.now c.in-Some.block.ptr heap.pools content found.0 found.1 found.2 in
    let same : c.find.new.heap.handle.value.content ≡ content = c.find.ensures.read.unchanged.content in
    let there = c.place_block-now.ensures.at in
    let of_pools = subst (λ (pools : List PlacedPool). Contains pools there.0) c.find.ensures.kept.pools there.1 in
    let lies = subst (λ (k : Content ℕ). LiesIn new.ptr.place new.size (map range_of k.pools)) same c.in-Ok.ensures.lies in
    let ends = ends_in_entry new.ptr.place new.size (map range_of content.pools) heap.pools there.0 heap.entries lies of_pools there.2.has in
    record {
      was = live;
      pointer = new.ptr;
      pool = there.0;
      moved = subst (λ (p : Pointer). IsMoved (realloc_ptr (Some p) (c.args.bytes + 8)) (Some p) (Some new.ptr) content c.resize.new.handle.value.content) found.0
          (subst (λ (k : Content ℕ). IsMoved (realloc_ptr (Some c.in-Some.block.ptr) (c.args.bytes + 8)) (Some c.in-Some.block.ptr) (Some new.ptr) k c.resize.new.handle.value.content) same c.in-Ok.ensures.ok);
      of_pools = of_pools;
      at = there.2;
      ends = omega (arith, there.2.address_is, there.2.has.0, ends, c.in-Ok.ensures.holds);
    }

pub returns-in-Err-clause-refused : goal.returns-in-Err-clause-refused
returns-in-Err-clause-refused c = λ none.
    let heap = c.args.heap.now in
    let content = heap.handle.value.content in
    let found = c.in-Some.ensures.some in
    let live = found_live c.args.address c.args.word.now c.in-Some.block.ptr heap.pools content found.0 found.1 found.2 in
    let same : c.find.new.heap.handle.value.content ≡ content = c.find.ensures.read.unchanged.content in
    let why = c.in-Err.ensures.refused in
    record {
      refusal = why.0;
      refused = inr (
        live,
        refused_for_any (told_block live.place c.args.address c.args.word.now) (c.args.bytes + 8) (told_slot c.args.word.now c.args.address) content why.0
            (subst (λ (p : Pointer). realloc_ptr (Some p) (c.args.bytes + 8) p.slot content ≡ Err why.0) found.0
            (subst (λ (k : Content ℕ). realloc_ptr (Some c.in-Some.block.ptr) (c.args.bytes + 8) c.in-Some.block.ptr.slot k ≡ Err why.0) same why.2)),
      );
      number_is = c.from-in-Err.ensures ∙ why.1;
      unchanged = record { content = c.in-Err.ensures.unchanged.content ∙ same; rows = c.in-Err.ensures.unchanged.rows ∙ c.find.ensures.read.unchanged.rows };
    }

pub returns-in-Ok-clause-stays : goal.returns-in-Ok-clause-stays
returns-in-Ok-clause-stays c = λ some same. c.to_copy.ensures.stays (eq-eqb c.place_block-now.result.address c.args.address same)

pub returns-in-Ok-clause-moves : goal.returns-in-Ok-clause-moves
returns-in-Ok-clause-moves c = λ some apart.
    let had_is : c.in-Some.block.size ≡ told_size c.args.word.now c.args.address = c.in-Some.ensures.some.3 in
    let has_is : c.in-Ok.new.size ≡ told_size c.place_block-now.result.word c.place_block-now.result.address = sym c.place_block-now.ensures.size in
    c.to_copy.ensures.moves (ne_eqb c.place_block-now.result.address c.args.address apart)
    ∙ ap (λ (n : ℕ). min (n - front) (c.in-Ok.new.size - front)) had_is
    ∙ ap (λ (n : ℕ). min (told_size c.args.word.now c.args.address - front) (n - front)) has_is

pub returns-in_default-clause-room : goal.returns-in_default-clause-room
returns-in_default-clause-room c = λ live room. absurd (c.in_default.ensures.none live)

pub returns-then-bytes-gt-MOST-clause-room : goal.returns-then-bytes-gt-MOST-clause-room
returns-then-bytes-gt-MOST-clause-room c = λ live room. (
    let none : round (c.args.bytes + 8) ≡ None = round_above (c.args.bytes + 8) (omega (arith, c.if-bytes-gt-MOST.true)) in
    let rounds : round (c.args.bytes + 8) ≡ Some room.m = room.rounds in
    absurd (cc))

pub returns-in-Err-clause-room : goal.returns-in-Err-clause-room
returns-in-Err-clause-room c = λ live room. absurd (c.in-Err.ensures.room (subst (HasRoom (c.args.bytes + 8)) (sym c.find.ensures.read.unchanged.content) room))
