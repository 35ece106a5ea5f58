-- The block is live, so it is released, and the content is that of `free`.
use Rattle.std.proofs.Common.{rules, ◌≡◌, cond, sym, ap, ◌∙◌, Ok, Err}
use Rattle.tlsf_store.specs.Cells.{Cells}
use Rattle.tlsf_heap.specs.declared.refusal.Refusal.TheVariants.{BadPointer}
use Rattle.tlsf_heap.specs.Free.{after_free}
use Rattle.tlsf_heap.specs.Inner.Following.{Stands, content_of}
use Rattle.tlsf_heap.proofs.Inner.Live.{live_at, freed_stands}
use Rattle.tlsf_heap.proofs.free.free.Goals as goal

pub release-requires-clause-stands : goal.release-requires-clause-stands
release-requires-clause-stands c =
    let node = live_at c.args.store.now.cells c.requires c.args.ptr.place c.args.ptr.slot (sym c.in-Some.ensures.value) in
    (node.at, rw (c.live.ensures.left.cells, c.slot.ensures) node.stands)

freed : (c : goal.After-release) → Stands c.release.new.store.cells × (content_of c.release.new.store.cells ≡ after_free c.args.ptr.place (content_of c.args.store.now.cells))
freed c =
    let old : Cells = c.args.store.now.cells in
    let live = sym c.in-Some.ensures.value in
    let node = live_at old c.requires c.args.ptr.place c.args.ptr.slot live in
    freed_stands old c.requires c.args.ptr.place c.args.ptr.slot c.release.new.store.cells node live (c.release.ensures.leads node.at (rw (c.live.ensures.left.cells, c.slot.ensures) node.stands))

pub returns : goal.returns
returns c = record {
  stands = (freed c).0;
  ok = ap (λ b. cond b (Ok (after_free c.args.ptr.place (content_of c.args.store.now.cells))) (Err BadPointer)) (sym c.in-Some.ensures.value) ∙ ap (λ x. Ok x) (sym (freed c).1);
  refused = search rules;
  cells = search rules;
  touches = search rules;
}
