use Rattle.std.proofs.Common.{rules, ◌≡◌, ℕ, true, sym, ap, ◌∙◌, subst, Option, Some, Ok}
use Rattle.std.specs.Prelude.{◌==◌}
use Rattle.tlsf_store.specs.Cells.{Cells}
use Rattle.tlsf_heap.specs.Content.{Content, blocks_of}
use Rattle.tlsf_heap.specs.Malloc.{malloc_rounded}
use Rattle.tlsf_heap.specs.Free.{is_live}
use Rattle.tlsf_heap.specs.Realloc.{moved}
use Rattle.tlsf_heap.specs.Good.{IsGood}
use Rattle.tlsf_heap.specs.Inner.Following.{Stands, content_of}
use Rattle.tlsf_heap.proofs.Good.StaysLive.{live_after}
use Rattle.tlsf_heap.proofs.Inner.Followed.{stood_for}
use Rattle.tlsf_heap.specs.Inner.Nodes.{InUse}
use Rattle.tlsf_heap.proofs.Inner.Steps.{slot_used}
use Rattle.tlsf_heap.proofs.Inner.Live.{NodeAt, live_at, freed_stands}
use Rattle.tlsf_heap.proofs.realloc.relocate.Goals as goal
use Rattle.tlsf_heap.proofs.realloc.relocate.Goals.{In_ok-given}

-- the old block is live still
still : (old mid : Cells) (owner place slot asked at : ℕ) → Stands old → is_live (λ o. o == slot) place (blocks_of (content_of old).pools) ≡ true → malloc_rounded owner (Some asked) (content_of old) ≡ Ok (at, content_of mid)
    → is_live (λ o. o == slot) place (blocks_of (content_of mid).pools) ≡ true
still old mid owner place slot asked at stands live served =
    let P : Content ℕ → Type 0 = λ x. IsGood x in
    live_after (λ o. o == slot) owner asked place (content_of old) (at, content_of mid) (subst P (sym (stood_for old stands)) stands.good) live served

-- where it stands
old_block : (c : In_ok-given) → NodeAt c.args.ptr.place c.args.ptr.slot InUse c.allocate.new.store.cells c.in_ok-given.ensures.stands.layout
old_block c =
    let live = still c.args.store.now.cells c.allocate.new.store.cells c.in_ok-given.given.slot c.args.ptr.place c.args.ptr.slot c.args.asked c.in_ok-given.given.place c.requires.stands c.requires.live c.in_ok-given.ensures.ok.ok in
    live_at c.allocate.new.store.cells c.in_ok-given.ensures.stands c.args.ptr.place c.args.ptr.slot live

pub read_used-block-requires-clause-within : goal.read_used-block-requires-clause-within
read_used-block-requires-clause-within c = let by = old_block (goal.at.read_used-block-requires-clause-within c).In_ok-given in rw c.slot.ensures (slot_used c.allocate.new.store.cells c.args.ptr.slot InUse by.at by.stands).0

pub read_used-block-requires-clause-used : goal.read_used-block-requires-clause-used
read_used-block-requires-clause-used c = let by = old_block (goal.at.read_used-block-requires-clause-used c).In_ok-given in rw c.slot.ensures (slot_used c.allocate.new.store.cells c.args.ptr.slot InUse by.at by.stands).1

pub release-requires-clause-stands : goal.release-requires-clause-stands
release-requires-clause-stands c = let by = old_block (goal.at.release-requires-clause-stands c).In_ok-given in (by.at, rw (c.read_used-block.ensures.left.cells, c.slot.ensures) by.stands)

pub returns : goal.returns
returns c =
    let mid : Cells = c.allocate.new.store.cells in
    let live = still c.args.store.now.cells mid c.in_ok-given.given.slot c.args.ptr.place c.args.ptr.slot c.args.asked c.in_ok-given.given.place c.requires.stands c.requires.live c.in_ok-given.ensures.ok.ok in
    let by = old_block (goal.at.returns c).In_ok-given in
    let left = freed_stands mid c.in_ok-given.ensures.stands c.args.ptr.place c.args.ptr.slot c.release.new.store.cells by live (c.release.ensures.leads by.at (rw (c.read_used-block.ensures.left.cells, c.slot.ensures) by.stands)) in
    let given : Option (ℕ × ℕ) = Some (c.in_ok-given.given.place, c.in_ok-given.given.slot) in
    record {
      stands = left.0;
      ok = record {
        ok = ap (moved c.in_ok-given.given.slot c.args.ptr.place) c.in_ok-given.ensures.ok.ok ∙ ap (λ x. Ok (given, x)) (sym left.1);
        slot_below = c.in_ok-given.ensures.ok.slot_below;
        slot_new = λ other. c.in_ok-given.ensures.ok.slot_new;
      };
      refused = search rules;
      cells = search rules;
      touches = search rules;
    }
