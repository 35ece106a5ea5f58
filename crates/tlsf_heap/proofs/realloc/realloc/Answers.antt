use Rattle.std.proofs.Common.{rules, ◌≡◌, ℕ, sym, ◌∙◌, Some}
use Rattle.std.specs.Prelude.{◌==◌}
use Rattle.std.proofs.lemmas.Result.{err_from_is_err_and}
use Rattle.tlsf_heap.specs.Inner.Following.{content_of}
use Rattle.tlsf_heap.specs.Pointer.{realloc_ptr}
use Rattle.tlsf_heap.specs.Realloc.{realloc_sized}
use Rattle.tlsf_heap.proofs.Content.Alignments.{round_size}
use Rattle.tlsf_heap.proofs.Content.ReallocCases.{realloc_resized}
use Rattle.tlsf_heap.proofs.Content.ServedCalls.{moved_as}
use Rattle.tlsf_heap.proofs.realloc.realloc.Goals as goal
use Rattle.tlsf_heap.proofs.realloc.realloc.Goals.{After-resize}

pub resize-requires-clause-size : goal.resize-requires-clause-size
resize-requires-clause-size c = round_size c.args.n c.in_ok-asked.asked (sym c.round.ensures ∙ c.in_ok-asked.ensures.ok_part)

-- realloc of the bytes is that of the size
same : (c : After-resize) (owner : ℕ) → realloc_ptr (Some c.in-Some.ptr) c.args.n owner (content_of c.args.store.now.cells) ≡ realloc_sized owner c.in-Some.ptr.place c.in-Some.ptr.slot c.in_ok-asked.asked (content_of c.args.store.now.cells)
same c owner = realloc_resized (λ a b. a == b) owner c.in-Some.ptr.slot c.in-Some.ptr.place c.args.n c.in_ok-asked.asked (content_of c.args.store.now.cells) (sym c.in-Some-live.ensures.value) c.if-n-eq0.false (sym c.round.ensures ∙ c.in_ok-asked.ensures.ok_part)

pub returns : goal.returns
returns c = rw c.in-Some.is (record {
  stands = search rules;
  ok = moved_as (realloc_ptr (Some c.in-Some.ptr) c.args.n) (λ slot. realloc_sized slot c.in-Some.ptr.place c.in-Some.ptr.slot c.in_ok-asked.asked) (content_of c.args.store.now.cells) (content_of c.resize.new.store.cells) (same (goal.at.returns c).After-resize)
      (Some c.in-Some.ptr) (Some c.in_ok-given.given) (rw c.live.ensures.left.cells at c.in_ok-given.ensures.ok);
  refused = search rules;
  cells = search rules;
  touches = search rules;
})

pub returns-in_err-given : goal.returns-in_err-given
returns-in_err-given c = let p = err_from_is_err_and c.from_residual-in_err-given.result c.from_residual-in_err-given.ensures.1 in rw (p.1, p.2, c.in-Some.is) (record {
  stands = search rules;
  ok = search rules;
  refused = λ owner. same (goal.at.returns-in_err-given c).After-resize owner ∙ (rw c.live.ensures.left.cells at c.in_err-given.ensures.refused owner);
  cells = search rules;
  touches = search rules;
})
