use Rattle.std.proofs.Common.{rules, ◌≡◌, ℕ, true, sym, ap, ◌∙◌, Some}
use Rattle.std.specs.Prelude.{◌==◌}
use Rattle.std.proofs.lemmas.Result.{err_from_is_err_and}
use Rattle.tlsf_heap.specs.Content.{Content, blocks_of}
use Rattle.tlsf_heap.specs.Free.{is_live}
use Rattle.tlsf_heap.specs.Pointer.{realloc_ptr}
use Rattle.tlsf_heap.specs.Realloc.{realloc_sized}
use Rattle.tlsf_heap.proofs.Content.Alignments.{round_size}
use Rattle.tlsf_heap.proofs.Content.ReallocCases.{realloc_resized}
use Rattle.tlsf_heap.proofs.Content.ServedCalls.{moved_as}
use Rattle.tlsf_heap.proofs.plain_heap.heap.PlainHeapHeaped.realloc.Goals as goal
use Rattle.tlsf_heap.proofs.plain_heap.heap.PlainHeapHeaped.realloc.Goals.{After-resize}

pub resize-requires-clause-size : goal.resize-requires-clause-size
resize-requires-clause-size c = round_size c.args.n c.in_ok-asked.asked (sym c.round.ensures ∙ c.in_ok-asked.ensures.ok_part)

-- the block that the pointer is of
live_at : (content : Content ℕ) (place slot at known : ℕ) (live : _) → at ≡ place → known ≡ slot → live ≡ is_live (λ s. s == known) at (blocks_of content.pools) → live ≡ true → is_live (λ s. s == slot) place (blocks_of content.pools) ≡ true
live_at content place slot at known live at_is known_is is told =
    ap (λ k. is_live (λ s. s == k) place (blocks_of content.pools)) (sym known_is) ∙ ap (λ p. is_live (λ s. s == known) p (blocks_of content.pools)) (sym at_is) ∙ sym is ∙ told

-- realloc of the bytes is that of the size
same : (c : After-resize) (slot : ℕ) → realloc_ptr (Some c.in-Some.ptr) c.args.n slot c.self.inside.content ≡ realloc_sized slot c.in-Some.ptr.place c.in-Some.ptr.slot c.in_ok-asked.asked c.self.inside.content
same c slot =
    realloc_resized (λ a b. a == b) slot c.in-Some.ptr.slot c.in-Some.ptr.place c.args.n c.in_ok-asked.asked c.self.inside.content
    (live_at c.self.inside.content c.in-Some.ptr.place c.in-Some.ptr.slot c.place.result c.slot.result c.is_live.result c.place.ensures c.slot.ensures c.is_live.ensures c.if-not-is_live.false)
    c.if-n-eq0.false (sym c.round.ensures ∙ c.in_ok-asked.ensures.ok_part)

pub returns-clause-ok : goal.returns-clause-ok
returns-clause-ok c =
    rw (← c.self.view_is, c.in-Some.is)
    (moved_as (realloc_ptr (Some c.in-Some.ptr) c.args.n) (λ slot. realloc_sized slot c.in-Some.ptr.place c.in-Some.ptr.slot c.in_ok-asked.asked) c.self.inside.content c.in_ok-next.next (same (goal.at.returns-clause-ok c).After-resize)
    (Some c.in-Some.ptr) (Some c.in_ok-next.new) c.in_ok-next.ensures.ok)

pub returns-in_err-next-clause-refused : goal.returns-in_err-next-clause-refused
returns-in_err-next-clause-refused c =
    let p = err_from_is_err_and c.from_residual-in_err-next.result c.from_residual-in_err-next.ensures.1 in
    rw (p.1, p.2, ← c.self.view_is, c.in-Some.is) (record {
      refused = λ named slot. same (goal.at.returns-in_err-next-clause-refused c).After-resize slot ∙ c.in_err-next.ensures.refused named slot;
      memory = λ lacking. tt;
      unchanged = search rules;
    })

pub returns-then-not-is_live-clause-refused : goal.returns-then-not-is_live-clause-refused
returns-then-not-is_live-clause-refused c = rw c.in-Some.is (search rules)

pub returns-then-n-eq0-clause-ok : goal.returns-then-n-eq0-clause-ok
returns-then-n-eq0-clause-ok c = rw c.in-Some.is (search rules)

pub returns-in_err-asked-clause-refused : goal.returns-in_err-asked-clause-refused
returns-in_err-asked-clause-refused c = rw c.in-Some.is (search rules)
