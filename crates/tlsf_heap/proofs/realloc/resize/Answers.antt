use Rattle.std.specs.Prelude.{◌==◌}
use Rattle.std.proofs.Common.{rules, ◌≡◌, ◌≢◌, ℕ, ◌<◌, true, false, refl, sym, ap, ◌∙◌, arith, Option, Some, Ok, Err, ◌≤◌, inl, inr}
use Rattle.std.proofs.lemmas.Bool.{cases_lt}
use Rattle.std.proofs.lemmas.Result.{IfErr-weaker}
use Rattle.tlsf_store.specs.Records.{record_at}
use Rattle.tlsf_store.specs.Cells.{Cells}
use Rattle.tlsf_heap.specs.declared.refusal.Refusal.{Refusal}
use Rattle.tlsf_heap.specs.Content.{Content, blocks_of, size_at}
use Rattle.tlsf_heap.specs.Pointer.{Pointer}
use Rattle.tlsf_heap.specs.Served.{IsMoved}
use Rattle.tlsf_heap.specs.Malloc.{malloc_rounded}
use Rattle.tlsf_heap.specs.Realloc.{fits_in_place, moved, realloc_sized, resized}
use Rattle.tlsf_heap.specs.declared.span.Span.{Span}
use Rattle.tlsf_heap.specs.Free.{is_live}
use Rattle.tlsf_heap.specs.Inner.Spans.{IsRead}
use Rattle.tlsf_heap.specs.Inner.Following.{Stands, content_of}
use Rattle.tlsf_heap.proofs.Content.ServedCalls.{if_moved_as}
use Rattle.tlsf_heap.proofs.Content.ReallocCases.{sized_same, sized_in_place, sized_kept, sized_moved}
use Rattle.tlsf_heap.proofs.Inner.Resizing.{size_known, live_below}
use Rattle.tlsf_heap.proofs.realloc.resize.Goals as goal

-- the size that was read is the block's
sized : (cells : Cells) (stands : Stands cells) (place slot : ℕ) (span : Span) → is_live (λ owner. owner == slot) place (blocks_of (content_of cells).pools) ≡ true → span.slot ≡ slot → IsRead span cells.records → span.size ≡ size_at place (blocks_of (content_of cells).pools)
sized cells stands place slot span live own read =
    read.size ∙ ap (λ q. (record_at cells.records q).size) own ∙ size_known cells stands place slot live (record_at cells.records slot) refl

-- the block stays under its pointer
stays : (cells : Cells) (stands : Stands cells) (ptr : Pointer) (asked : ℕ) (new : Content ℕ) → is_live (λ owner. owner == ptr.slot) ptr.place (blocks_of (content_of cells).pools) ≡ true
    → realloc_sized ptr.slot ptr.place ptr.slot asked (content_of cells) ≡ Ok (Some (ptr.place, ptr.slot), new) → IsMoved (λ slot. realloc_sized slot ptr.place ptr.slot asked) (Some ptr) (Some ptr) (content_of cells) new
stays cells stands ptr asked new live is = record { ok = is; slot_below = (live_below cells stands ptr.place ptr.slot live).1; slot_new = λ other. absurd (other refl) }

pub returns-then-asked-block : goal.returns-then-asked-block
returns-then-asked-block c = record {
  stands = search rules;
  ok = stays c.args.store.now.cells c.requires.stands c.args.ptr c.args.asked _ c.requires.live (
      let size = sized c.args.store.now.cells c.requires.stands c.args.ptr.place c.args.ptr.slot c.args.block c.requires.live c.requires.slot c.requires.read in
      (sized_same c.args.ptr.slot c.args.ptr.slot c.args.ptr.place c.args.asked (content_of c.args.store.now.cells) (c.if-asked-block.true ∙ size)));
  refused = search rules;
  cells = search rules;
  touches = search rules;
}

pub resize_in_place-requires-clause-other : goal.resize_in_place-requires-clause-other
resize_in_place-requires-clause-other c =
    let size = sized c.args.store.now.cells c.requires.stands c.args.ptr.place c.args.ptr.slot c.args.block c.requires.live c.requires.slot c.requires.read in
    rw (c.fits_in_place.ensures.left.cells, c.requires.place) (λ e. c.if-asked-block.false (e ∙ sym size))

pub returns-then-fits_in_place : goal.returns-then-fits_in_place
returns-then-fits_in_place c = record {
  stands = search rules;
  ok = stays c.args.store.now.cells c.requires.stands c.args.ptr c.args.asked _ c.requires.live (
      let size = sized c.args.store.now.cells c.requires.stands c.args.ptr.place c.args.ptr.slot c.args.block c.requires.live c.requires.slot c.requires.read in
      let fits : fits_in_place c.args.ptr.place c.args.asked (content_of c.args.store.now.cells) ≡ true = ap (λ p. fits_in_place p c.args.asked (content_of c.args.store.now.cells)) (sym c.requires.place) ∙ sym c.fits_in_place.ensures.value ∙ c.if-fits_in_place.true in
      let left : content_of c.resize_in_place.new.store.cells ≡ resized c.args.ptr.slot c.args.ptr.place c.args.asked (content_of c.args.store.now.cells) =
      c.resize_in_place.ensures.content ∙ (λ i. resized (c.requires.slot i) (c.requires.place i) c.args.asked (content_of (c.fits_in_place.ensures.left.cells i))) in
      let given : Option (ℕ × ℕ) = Some (c.args.ptr.place, c.args.ptr.slot) in
      sized_in_place c.args.ptr.slot c.args.ptr.slot c.args.ptr.place c.args.asked (content_of c.args.store.now.cells) (λ e. c.if-asked-block.false (e ∙ sym size)) fits ∙ ap (λ x. Ok (given, x)) (sym left));
  refused = search rules;
  cells = search rules;
  touches = search rules;
}

pub returns-then-asked-block-2 : goal.returns-then-asked-block-2
returns-then-asked-block-2 c = record {
  stands = search rules;
  ok = stays c.args.store.now.cells c.requires.stands c.args.ptr c.args.asked _ c.requires.live (
      let size = sized c.args.store.now.cells c.requires.stands c.args.ptr.place c.args.ptr.slot c.args.block c.requires.live c.requires.slot c.requires.read in
      let beyond : fits_in_place c.args.ptr.place c.args.asked (content_of c.args.store.now.cells) ≡ false = ap (λ p. fits_in_place p c.args.asked (content_of c.args.store.now.cells)) (sym c.requires.place) ∙ sym c.fits_in_place.ensures.value ∙ c.if-fits_in_place.false in
      rw c.fits_in_place.ensures.left.cells (sized_kept c.args.ptr.slot c.args.ptr.slot c.args.ptr.place c.args.asked (content_of c.args.store.now.cells) (omega (arith, c.if-asked-block-2.true, size)) beyond));
  refused = search rules;
  cells = search rules;
  touches = search rules;
}

larger : (asked size read : ℕ) → read ≡ size → asked ≢ read → read ≤ asked → size < asked
larger asked size read is other most = elim (cases_lt size asked) [
  | inl more ↦ more
  | inr fewer ↦ absurd (other (omega (arith, fewer, most, is)))
]

pub returns : goal.returns
returns c =
    let old : Cells = c.args.store.now.cells in
    let size = sized c.args.store.now.cells c.requires.stands c.args.ptr.place c.args.ptr.slot c.args.block c.requires.live c.requires.slot c.requires.read in
    let beyond : fits_in_place c.args.ptr.place c.args.asked (content_of old) ≡ false = ap (λ p. fits_in_place p c.args.asked (content_of c.args.store.now.cells)) (sym c.requires.place) ∙ sym c.fits_in_place.ensures.value ∙ c.if-fits_in_place.false in
    let more = larger c.args.asked (size_at c.args.ptr.place (blocks_of (content_of old).pools)) c.args.block.size size c.if-asked-block.false c.if-asked-block-2.false in
    let same : (slot : ℕ) → realloc_sized slot c.args.ptr.place c.args.ptr.slot c.args.asked (content_of old) ≡ moved slot c.args.ptr.place (malloc_rounded slot (Some c.args.asked) (content_of old)) =
    λ slot. sized_moved slot c.args.ptr.slot c.args.ptr.place c.args.asked (content_of old) more beyond in
    record {
      stands = search rules;
      ok = if_moved_as c.relocate.result (λ slot. realloc_sized slot c.args.ptr.place c.args.ptr.slot c.args.asked) (λ slot content. moved slot c.args.ptr.place (malloc_rounded slot (Some c.args.asked) content)) (content_of old) (content_of c.relocate.new.store.cells) same (Some c.args.ptr) (rw c.fits_in_place.ensures.left.cells at c.relocate.ensures.ok);
      refused = IfErr-weaker c.relocate.result
          (λ (refusal : Refusal). (owner : ℕ) → moved owner c.args.ptr.place (malloc_rounded owner (Some c.args.asked) (content_of old)) ≡ Err refusal)
          (λ refusal. (owner : ℕ) → realloc_sized owner c.args.ptr.place c.args.ptr.slot c.args.asked (content_of old) ≡ Err refusal)
          (λ refusal e owner. same owner ∙ e owner)
          (rw c.fits_in_place.ensures.left.cells at c.relocate.ensures.refused);
      cells = search rules;
      touches = search rules;
    }
