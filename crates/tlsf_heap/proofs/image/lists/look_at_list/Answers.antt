-- One block more of the list in each turn, until it ends or a rule breaks.
use Rattle.std.proofs.Common.{◌≡◌, ◌<◌, ◌∙◌, length, sym, ap, arith, true}
use Rattle.tlsf_heap.specs.Images.Image.{Sections}
use Rattle.tlsf_heap.specs.Images.Rules.{at}
use Rattle.tlsf_heap.specs.Images.Findings.{is_behind}
use Rattle.tlsf_heap.proofs.Images.ListLemmas.{found_on, found_end, next_below}
use Rattle.tlsf_heap.proofs.Images.HasSectionsLemmas.{and_reads}
use Rattle.tlsf_heap.proofs.image.lists.look_at_list.Goals as goal

pub loop-next-preserved : goal.loop-next-preserved
loop-next-preserved g c =
    let sections : Sections = g.T.HasSections.sections c.args.table.now in
    let read : c.record-block.result ≡ at sections c.in-Some.slot =
    c.record-block.ensures.value ∙ ap (λ (p : Sections). at p c.in-Some.slot) c.loop-next.invariant.read.same in
    let behind : is_behind c.loop-next.before c.args.class (at sections c.in-Some.slot) ≡ true = rw (c.is_behind.ensures, read) at c.if-not-is_behind.false in
    let within : c.in-Some.slot < length sections.records = rw c.in-Some.is at c.loop-next.invariant.below in
    let told = rw c.in-Some.is at c.loop-next.invariant.told in
    record {
      read = and_reads c.loop-next.invariant.read c.record-block.ensures.read;
      below = rw read (next_below sections c.args.class c.loop-next.blocks c.loop-next.before c.in-Some.slot c.requires.links within behind);
      few = omega (arith, c.if-blocks-count.false, c.count-count.ensures.value);
      told = rw read (sym (found_on sections c.args.class c.loop-next.blocks c.loop-next.before c.in-Some.slot (omega (arith, c.if-blocks-count.false, c.count-count.ensures.value)) behind) ∙ told);
    }

pub returns-clause-value : goal.returns-clause-value
returns-clause-value g c =
    let sections : Sections = g.T.HasSections.sections c.args.table.now in
    sym (found_end sections c.args.class c.loop-next.blocks c.loop-next.before c.loop-next.next c.in_default.is) ∙ c.loop-next.invariant.told
