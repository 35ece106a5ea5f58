-- One block more of the chain in each turn, until it ends or a rule breaks.
use Rattle.std.proofs.Common.{◌≡◌, ◌<◌, ◌∙◌, length, sym, ap, arith, true}
use Rattle.std.proofs.lemmas.Bool.{and_parts}
use Rattle.tlsf_heap.specs.Images.Image.{Sections}
use Rattle.tlsf_heap.specs.Images.Findings.{is_before}
use Rattle.tlsf_heap.specs.Images.Rules.{at}
use Rattle.tlsf_heap.proofs.Images.ChainLemmas.{found_first, found_on, found_off, found_more, found_covered, found_uncovered, next_below}
use Rattle.tlsf_heap.proofs.Images.HasSectionsLemmas.{and_reads, not_read}
use Rattle.tlsf_heap.proofs.image.chains.look_at_chain.Goals as goal
use Rattle.tlsf_heap.proofs.image.chains.look_at_chain.Goals.{then-tally-count-via-then-tally-count, then-tally-count-via-else-tally-count+then-not-is_before}

pub loop-next-init : goal.loop-next-init
loop-next-init g c = record {
  read = not_read c.args.table.now;
  below = c.requires.within;
  few = rw c.new-tally.ensures (omega arith);
  told = rw (c.from-start.ensures, c.new-tally.ensures) (found_first (g.T.HasSections.sections c.args.table.now) c.args.pool);
}

pub returns-then-tally-count-clause-value : goal.returns-then-tally-count-clause-value
returns-then-tally-count-clause-value g c =
    let sections : Sections = g.T.HasSections.sections c.args.table.now in
    let read : c.record-block.result ≡ at sections c.in-Some.slot =
    c.record-block.ensures.value ∙ ap (λ (p : Sections). at p c.in-Some.slot) c.loop-next.invariant.read.same in
    let told = rw c.in-Some.is at c.loop-next.invariant.told in
    elim c.then-tally-count.branch [
      | then-tally-count-via-then-tally-count w ↦
          sym (found_more sections _ c.loop-next.tally c.loop-next.front c.in-Some.slot (omega (arith, w.if-tally-count.true, c.count-count.ensures.value))) ∙ told
      | then-tally-count-via-else-tally-count+then-not-is_before w ↦
          sym (found_off sections _ c.loop-next.tally c.loop-next.front c.in-Some.slot (rw (w.is_before.ensures, read) at w.if-not-is_before.true)) ∙ told
    ]

pub loop-next-preserved : goal.loop-next-preserved
loop-next-preserved g c =
    let sections : Sections = g.T.HasSections.sections c.args.table.now in
    let read : c.record-block.result ≡ at sections c.in-Some.slot =
    c.record-block.ensures.value ∙ ap (λ (p : Sections). at p c.in-Some.slot) c.loop-next.invariant.read.same in
    let before : is_before c.loop-next.front (at sections c.in-Some.slot) ≡ true = rw (c.is_before.ensures, read) at c.if-not-is_before.false in
    let within : c.in-Some.slot < length sections.records = rw c.in-Some.is at c.loop-next.invariant.below in
    let told = rw c.in-Some.is at c.loop-next.invariant.told in
    record {
      read = and_reads c.loop-next.invariant.read c.record-block.ensures.read;
      below = rw read (next_below sections c.requires.links c.in-Some.slot within (and_parts _ _ before).0);
      few = rw c.with-tally.ensures (omega (arith, c.if-tally-count.false, c.count-count.ensures.value));
      told = rw (c.with-tally.ensures, c.of-front.ensures, read) (sym (found_on sections _ c.loop-next.tally c.loop-next.front c.in-Some.slot (omega (arith, c.if-tally-count.false, c.count-count.ensures.value)) before) ∙ told);
    }

pub returns-then-tally-clause-value : goal.returns-then-tally-clause-value
returns-then-tally-clause-value g c =
    let sections : Sections = g.T.HasSections.sections c.args.table.now in
    rw (c.from-start.ensures, c.from.ensures) (sym (found_covered sections _ c.loop-next.tally c.loop-next.front c.loop-next.next c.in_default.is c.if-tally.true) ∙ c.loop-next.invariant.told)

pub returns-else-tally-clause-value : goal.returns-else-tally-clause-value
returns-else-tally-clause-value g c =
    let sections : Sections = g.T.HasSections.sections c.args.table.now in
    rw c.if-tally.false (sym (found_uncovered sections _ c.loop-next.tally c.loop-next.front c.loop-next.next c.in_default.is c.if-tally.false) ∙ c.loop-next.invariant.told)
