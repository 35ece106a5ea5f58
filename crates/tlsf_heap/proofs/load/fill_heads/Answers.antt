-- One head more in each turn, with its bits.
use Rattle.std.proofs.Common.{◌≡◌, ◌+◌, ◌∙◌, ℕ, length, sym, ap, arith, subst, Some}
use Rattle.tlsf_class.specs.Classes.{classes}
use Rattle.tlsf_store.specs.CountedCells.{CountedCells}
use Rattle.tlsf_store.specs.Cells.{Cells, head_at, with_head}
use Rattle.tlsf_heap.specs.Images.Image.{Sections}
use Rattle.tlsf_heap.specs.Inner.Edits.{with_class_bit}
use Rattle.tlsf_heap.specs.Inner.Loading.{HasHeadsBelow}
use Rattle.tlsf_heap.proofs.Images.FilledHeads.{heads_on, heads_off, heads_all}
use Rattle.tlsf_heap.proofs.load.fill_heads.Goals as goal
use Rattle.tlsf_heap.proofs.load.fill_heads.Goals.{in-Some, in_default}

pub loop-number-preserved : goal.loop-number-preserved
loop-number-preserved g c =
    let sections : Sections = g.T.HasSections.sections c.args.table.now in
    let all = c.loop-number.invariant in
    let number : ℕ = c.loop-number.number in
    let was : Cells = c.loop-number.store.cells in
    let whole : length sections.heads ≡ classes = rw (ap (λ (p : Sections). length p.heads) (sym all.same)) c.head.ensures.whole in
    let read : c.head.result ≡ head_at sections.heads number =
    subst (λ (n : ℕ). c.head.result ≡ head_at sections.heads n) c.new-class.ensures (c.head.ensures.value ∙ ap (λ (p : Sections). head_at p.heads c.new-class.result) all.same) in
    elim c.match-head.branch [
      | in-Some w ↦
          let new : c.match-head.store.cells ≡ with_class_bit number (with_head was number (Some w.in-Some.first)) =
          subst (λ (n : ℕ). c.match-head.store.cells ≡ with_class_bit n (with_head was n (Some w.in-Some.first))) c.new-class.ensures (ap (λ (s : CountedCells). s.cells) w.store-is ∙ w.set_class_bit.ensures.cells ∙ ap (with_class_bit c.new-class.result) w.set_head.ensures.left.cells) in
          record {
            same = c.head.ensures.read.same ∙ all.same;
            whole = λ some. whole;
            so_far = subst (HasHeadsBelow sections.heads c.args.store.now.cells (number + 1)) (sym new) (heads_on sections.heads c.args.store.now.cells number was c.loop-number-test.true all.so_far w.in-Some.first (sym read ∙ w.in-Some.is));
            touches = rw w.store-is (omega (arith, all.touches, w.set_class_bit.ensures.touches, w.set_head.ensures.left.touches));
          }
      | in_default w ↦
          record {
            same = c.head.ensures.read.same ∙ all.same;
            whole = λ some. whole;
            so_far = subst (HasHeadsBelow sections.heads c.args.store.now.cells (number + 1)) (sym (ap (λ (s : CountedCells). s.cells) w.store-is)) (heads_off sections.heads c.args.store.now.cells number was c.loop-number-test.true all.so_far (sym read ∙ w.in_default.is));
            touches = rw w.store-is (omega (arith, all.touches));
          }
    ]

pub returns-clause-heads : goal.returns-clause-heads
returns-clause-heads g c =
    let sections : Sections = g.T.HasSections.sections c.args.table.now in
    let all = c.loop-number.invariant in
    let last = c.loop-number-test.false in
    heads_all sections.heads c.args.store.now.cells c.loop-number.number c.loop-number.store.cells (omega (arith, last)) (all.whole (omega (arith, last))) all.so_far
