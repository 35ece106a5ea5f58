-- What has the size is live, so it is released, and the content is that of `free`.
use Rattle.std.proofs.Common.{◌≡◌, true, ℕ, cond, sym, ap, ◌∙◌, subst, Ok, Err}
use Rattle.std.specs.Prelude.{◌==◌}
use Rattle.tlsf_store.specs.Cells.{Cells}
use Rattle.tlsf_heap.specs.declared.refusal.Refusal.TheVariants.{BadPointer}
use Rattle.tlsf_heap.specs.Content.{blocks_of}
use Rattle.tlsf_heap.specs.Free.{is_live, after_free}
use Rattle.tlsf_heap.specs.Inner.Following.{Stands, content_of}
use Rattle.tlsf_heap.specs.Inner.Nodes.{InUse}
use Rattle.tlsf_heap.specs.Inner.At.{At, StandsAt}
use Rattle.tlsf_heap.proofs.Inner.Live.{live_at, freed_stands}
use Rattle.tlsf_heap.proofs.Inner.Resizing.{size_live}
use Rattle.tlsf_heap.proofs.Inner.Steps.{slot_used}
use Rattle.tlsf_heap.proofs.free.free_sized.Goals as goal
use Rattle.tlsf_heap.proofs.free.free_sized.Goals.{Else-not-has_block, After-release}

-- the block stands in cells that were read
moved : (old new : Cells) (slot other : ℕ) (at : At) → new ≡ old → other ≡ slot → StandsAt slot InUse old at → StandsAt other InUse new at
moved old new slot other at read same stands = subst (λ (cells : Cells). StandsAt other InUse cells at) (sym read) (subst (λ q. StandsAt q InUse old at) (sym same) stands)

live : (c : Else-not-has_block) → is_live (λ owner. owner == c.args.ptr.slot) c.args.ptr.place (blocks_of (content_of c.args.store.now.cells).pools) ≡ true
live c = size_live c.args.store.now.cells c.args.ptr.place c.args.ptr.slot c.args.size (c.has_block.ensures.value.0 c.if-not-has_block.false)

pub read_used-block-requires-clause-within : goal.read_used-block-requires-clause-within
read_used-block-requires-clause-within c =
    let old : Cells = c.args.store.now.cells in
    let node = live_at old c.requires c.args.ptr.place c.args.ptr.slot (live (goal.at.read_used-block-requires-clause-within c).Else-not-has_block) in
    rw (c.has_block.ensures.left.cells, c.slot.ensures) ((slot_used old c.args.ptr.slot InUse node.at node.stands).0)

pub read_used-block-requires-clause-used : goal.read_used-block-requires-clause-used
read_used-block-requires-clause-used c =
    let old : Cells = c.args.store.now.cells in
    let node = live_at old c.requires c.args.ptr.place c.args.ptr.slot (live (goal.at.read_used-block-requires-clause-used c).Else-not-has_block) in
    rw (c.has_block.ensures.left.cells, c.slot.ensures) ((slot_used old c.args.ptr.slot InUse node.at node.stands).1)

pub release-requires-clause-stands : goal.release-requires-clause-stands
release-requires-clause-stands c =
    let node = live_at c.args.store.now.cells c.requires c.args.ptr.place c.args.ptr.slot (live (goal.at.release-requires-clause-stands c).Else-not-has_block) in
    (node.at, moved c.args.store.now.cells c.read_used-block.new.self.cells c.args.ptr.slot c.slot.result node.at (c.read_used-block.ensures.left.cells ∙ c.has_block.ensures.left.cells) c.slot.ensures node.stands)

freed : (c : After-release) → is_live (λ owner. owner == c.args.ptr.slot) c.args.ptr.place (blocks_of (content_of c.args.store.now.cells).pools) ≡ true → Stands c.release.new.store.cells × (content_of c.release.new.store.cells ≡ after_free c.args.ptr.place (content_of c.args.store.now.cells))
freed c is =
    let old : Cells = c.args.store.now.cells in
    let node = live_at old c.requires c.args.ptr.place c.args.ptr.slot is in
    freed_stands old c.requires c.args.ptr.place c.args.ptr.slot c.release.new.store.cells node is
    (c.release.ensures.leads node.at (moved old c.read_used-block.new.self.cells c.args.ptr.slot c.slot.result node.at (c.read_used-block.ensures.left.cells ∙ c.has_block.ensures.left.cells) c.slot.ensures node.stands))

pub returns-clause-stands : goal.returns-clause-stands
returns-clause-stands c = (freed (goal.at.returns-clause-stands c).After-release (live (goal.at.returns-clause-stands c).Else-not-has_block)).0

pub returns-clause-freed : goal.returns-clause-freed
returns-clause-freed c = λ served.
    ap (λ b. cond b (Ok (after_free c.args.ptr.place (content_of c.args.store.now.cells))) (Err BadPointer)) (live (goal.at.returns-clause-freed c).Else-not-has_block)
    ∙ ap (λ x. Ok x) (sym (freed (goal.at.returns-clause-freed c).After-release (live (goal.at.returns-clause-freed c).Else-not-has_block)).1)
