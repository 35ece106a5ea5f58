use Rattle.std.proofs.Common.{rules, ◌≡◌, ℕ, ◌+◌, ◌-◌, ◌%◌, ◌<◌, ◌≤◌, refl, sym, ap, ◌∙◌, subst, arith, Some, Result, inl, inr}
use Rattle.std.proofs.lemmas.Bool.{cases_lt}
use Rattle.std.specs.Int.{next_multiple_of}
use Rattle.tlsf_store.specs.Records.{record_at, vacant_count}
use Rattle.tlsf_store.specs.Cells.{Cells}
use Rattle.tlsf_heap.specs.declared.refusal.Refusal.{Refusal}
use Rattle.tlsf_heap.specs.Content.{Content}
use Rattle.tlsf_heap.specs.Lists.{pick}
use Rattle.tlsf_heap.specs.Memalign.{gap_records, size_asked, memalign_picked, memalign_rounded}
use Rattle.tlsf_class.specs.Classes.{unit}
use Rattle.tlsf_heap.specs.declared.span.Span.{Span}
use Rattle.tlsf_heap.specs.Inner.Nodes.{InUse, Listed}
use Rattle.tlsf_heap.specs.Inner.Spans.{span_of, span_at}
use Rattle.tlsf_heap.specs.Inner.Following.{content_of}
use Rattle.tlsf_heap.specs.Inner.At.{StandsAt, at_taken, at_gapped, at_split_rest}
use Rattle.tlsf_heap.proofs.Inner.Followed.{records_are}
use Rattle.tlsf_heap.proofs.Inner.Steps.{size_read}
use Rattle.tlsf_heap.proofs.Inner.TakenBlock.{slot_new}
use Rattle.tlsf_heap.proofs.Inner.Spans.{read_of, span_is, is_read, read_stays}
use Rattle.tlsf_heap.proofs.Inner.SplitAligned.{known, gap_of_some, split_aligned_full, SplitKnown, split_aligned_stands, vacant_new, vacant_taken, vacant_after}
use Rattle.tlsf_heap.proofs.memalign.split_aligned.Goals as goal
use Rattle.tlsf_heap.proofs.memalign.split_aligned.Goals.{After-read_used-block, After-take_whole}

-- memalign of the bytes asked is memalign of the block picked for them
picked : (owner align asked place : ℕ) (content : Content ℕ) → pick (size_asked align asked) content.lists ≡ Some place → (answer : Result (ℕ × Content ℕ) Refusal) → memalign_picked owner align asked (Some place) content ≡ answer → memalign_rounded owner align (Some asked) content ≡ answer
picked owner align asked place content found answer is = ap (λ at. memalign_picked owner align asked at content) found ∙ is

-- what is known of the block picked
picked_block : (c : After-read_used-block) → SplitKnown c.args.store.now.cells c.requires.stands c.args.slot c.args.align c.args.asked c.read_used-block.result.size c.read_used-block.result.place
picked_block c =
    known c.args.store.now.cells c.requires.stands c.args.slot c.args.align c.args.asked c.requires.is c.requires.size.positive c.requires.size.in_units c.requires.picked.free c.requires.picked.found c.read_used-block.result c.read_used-block.ensures.value

-- the gap in front, as it was reckoned
gap_is : (place start align from : ℕ) → start ≡ next_multiple_of place align → place ≡ from → start - place ≡ next_multiple_of from align - from
gap_is place start align from start_is place_is = ap (λ s. s - place) start_is ∙ ap (λ p. next_multiple_of p align - p) place_is

pub start_of-start-requires-clause-fits : goal.start_of-start-requires-clause-fits
start_of-start-requires-clause-fits c = let k = picked_block (goal.at.start_of-start-requires-clause-fits c).After-read_used-block in omega (arith, k.begins, k.fits, k.ends, c.requires.size.positive)

pub overflow_sub-left : goal.overflow_sub-left
overflow_sub-left c = let k = picked_block (goal.at.overflow_sub-left c).After-read_used-block in omega (arith, k.fits, c.start_of-start.ensures)

pub overflow_sub-left-2 : goal.overflow_sub-left-2
overflow_sub-left-2 c = let k = picked_block (goal.at.overflow_sub-left-2 c).After-read_used-block in omega (arith, k.fits, c.start_of-start.ensures)

pub returns-then-vacant-records_for : goal.returns-then-vacant-records_for
returns-then-vacant-records_for c = record {
  stands = search rules;
  ok = search rules;
  refused = λ owner. let k = picked_block (goal.at.returns-then-vacant-records_for c).After-read_used-block in
      let few : vacant_count c.args.store.now.cells.records < gap_records (c.start_of-start.result - c.read_used-block.result.place) + gap_records ((c.read_used-block.result.size - (c.start_of-start.result - c.read_used-block.result.place)) - c.args.asked) =
      omega (arith, c.if-vacant-records_for.true, c.vacant.ensures.value, ap (λ (s : Cells). vacant_count s.records) c.read_used-block.ensures.left.cells, c.records_for.ensures, c.records_for-2.ensures) in
      let P : ℕ → ℕ → Type 0 = λ g n. vacant_count c.args.store.now.cells.records < gap_records g + gap_records ((n - g) - c.args.asked) in
      let from : ℕ = (record_at c.args.store.now.cells.records c.args.slot).place in
      picked owner c.args.align c.args.asked from (content_of c.args.store.now.cells) c.requires.picked.found _
      (split_aligned_full c.args.store.now.cells c.requires.stands from c.args.slot c.args.align c.args.asked k.by c.requires.is c.requires.size.positive c.requires.size.in_units c.requires.picked.found (subst (λ n. P (next_multiple_of from c.args.align - from) n) k.size_is (subst (λ g. P g c.read_used-block.result.size) (gap_is c.read_used-block.result.place c.start_of-start.result c.args.align from c.start_of-start.ensures k.place_is) few)) owner);
  cells = search rules;
  touches = search rules;
}

pub take_whole-requires-clause-stands : goal.take_whole-requires-clause-stands
take_whole-requires-clause-stands c =
    let k = picked_block (goal.at.take_whole-requires-clause-stands c).After-read_used-block in
    (k.by.at, subst (λ cells. StandsAt c.args.slot Listed cells k.by.at) (sym (c.vacant.ensures.left.cells ∙ c.read_used-block.ensures.left.cells)) k.by.stands)

-- once the whole block was taken there are as many records vacant as are needed
record Taken (c : After-take_whole) (k : SplitKnown c.args.store.now.cells c.requires.stands c.args.slot c.args.align c.args.asked c.read_used-block.result.size c.read_used-block.result.place) : Type 0 where
  stands : StandsAt c.args.slot InUse c.take_whole.new.store.cells (at_taken k.by.at)
  enough : gap_records (c.start_of-start.result - c.read_used-block.result.place) + gap_records ((c.read_used-block.result.size - (c.start_of-start.result - c.read_used-block.result.place)) - c.args.asked) ≤ vacant_count c.args.store.now.cells.records
  gap_is : c.start_of-start.result - c.read_used-block.result.place ≡ next_multiple_of (record_at c.args.store.now.cells.records c.args.slot).place c.args.align - (record_at c.args.store.now.cells.records c.args.slot).place

taken : (c : After-take_whole) (k : _) → Taken c k
taken c k = record {
  stands = c.take_whole.ensures.leads k.by.at (rw (c.vacant.ensures.left.cells, c.read_used-block.ensures.left.cells) k.by.stands);
  enough = omega (arith, c.if-vacant-records_for.false, c.vacant.ensures.value, ap (λ (s : Cells). vacant_count s.records) c.read_used-block.ensures.left.cells, c.records_for.ensures, c.records_for-2.ensures);
  gap_is = gap_is c.read_used-block.result.place c.start_of-start.result c.args.align (record_at c.args.store.now.cells.records c.args.slot).place c.start_of-start.ensures k.place_is;
}

pub leave_gap-live-requires-clause-stands : goal.leave_gap-live-requires-clause-stands
leave_gap-live-requires-clause-stands c =
    let k = picked_block (goal.at.leave_gap-live-requires-clause-stands c).After-read_used-block in
    rw c.of-whole.ensures (at_taken k.by.at, (taken (goal.at.leave_gap-live-requires-clause-stands c).After-take_whole k).stands)

pub leave_gap-live-requires-clause-read : goal.leave_gap-live-requires-clause-read
leave_gap-live-requires-clause-read c =
    let k = picked_block (goal.at.leave_gap-live-requires-clause-read c).After-read_used-block in
    rw c.of-whole.ensures (read_stays c.args.store.now.cells c.take_whole.new.store.cells (span_of c.args.slot c.read_used-block.result) Listed InUse k.by.at (at_taken k.by.at) k.by.stands (taken (goal.at.leave_gap-live-requires-clause-read c).After-take_whole k).stands refl
    (read_of c.args.store.now.cells.records c.args.slot c.read_used-block.result c.read_used-block.ensures.value c.read_used-block.ensures.kept.place))

pub leave_gap-live-requires-clause-less : goal.leave_gap-live-requires-clause-less
leave_gap-live-requires-clause-less c =
    let k = picked_block (goal.at.leave_gap-live-requires-clause-less c).After-read_used-block in
    rw c.of-whole.ensures (omega (arith, k.fits, k.size_is, c.requires.size.positive, c.start_of-start.ensures))

pub leave_gap-live-requires-clause-room : goal.leave_gap-live-requires-clause-room
leave_gap-live-requires-clause-room c some =
    let k = picked_block (goal.at.leave_gap-live-requires-clause-room c).After-read_used-block in
    let after = taken (goal.at.leave_gap-live-requires-clause-room c).After-take_whole k in
    omega (arith, after.enough, gap_of_some (c.start_of-start.result - c.read_used-block.result.place) some, vacant_taken c.args.store.now.cells c.requires.stands (record_at c.args.store.now.cells.records c.args.slot).place c.args.slot c.args.align c.args.asked k.by c.requires.is c.requires.size.positive c.requires.size.in_units c.requires.picked.found c.take_whole.new.store.cells after.stands)

pub split_rest-requires-clause-stands : goal.split_rest-requires-clause-stands
split_rest-requires-clause-stands c =
    let k = picked_block (goal.at.split_rest-requires-clause-stands c).After-read_used-block in
    let after = taken (goal.at.split_rest-requires-clause-stands c).After-take_whole k in
    (at_gapped c.leave_gap-live.result (c.start_of-start.result - c.read_used-block.result.place) (at_taken k.by.at), c.leave_gap-live.ensures.leads (at_taken k.by.at) (rw c.of-whole.ensures after.stands))

pub split_rest-requires-clause-read : goal.split_rest-requires-clause-read
split_rest-requires-clause-read c =
    let k = picked_block (goal.at.split_rest-requires-clause-read c).After-read_used-block in
    let after = taken (goal.at.split_rest-requires-clause-read c).After-take_whole k in
    let there : span_of c.args.slot c.read_used-block.result ≡ span_at k.by.at = span_is c.args.store.now.cells Listed k.by.at (span_of c.args.slot c.read_used-block.result) k.by.stands (read_of c.args.store.now.cells.records c.args.slot c.read_used-block.result c.read_used-block.ensures.value c.read_used-block.ensures.kept.place) in
    let gap : ℕ = c.start_of-start.result - c.read_used-block.result.place in
    let place : c.start_of-start.result ≡ k.by.at.node.place + gap = omega (arith, ap (λ (s : Span). s.place) there, k.begins, c.start_of-start.ensures) in
    let whole : gap % unit ≡ 0 = ap (λ s. (s - c.read_used-block.result.place) % unit) c.start_of-start.ensures ∙ k.gap_whole in
    is_read c.leave_gap-live.new.store.cells InUse (at_gapped c.leave_gap-live.result gap (at_taken k.by.at))
    (record { slot = c.leave_gap-live.result; place = c.start_of-start.result; size = c.read_used-block.result.size - gap; next = c.read_used-block.result.next })
    (c.leave_gap-live.ensures.leads (at_taken k.by.at) (rw c.of-whole.ensures after.stands))
    (λ i. record { slot = c.leave_gap-live.result; place = place i; size = k.size_is i - gap; next = ap (λ (s : Span). s.next) there i })
    (omega (arith, whole, c.read_used-block.ensures.kept.place, k.begins, c.start_of-start.ensures))

pub split_rest-requires-clause-most : goal.split_rest-requires-clause-most
split_rest-requires-clause-most c = let k = picked_block (goal.at.split_rest-requires-clause-most c).After-read_used-block in omega (arith, k.fits, k.size_is, c.start_of-start.ensures)

pub split_rest-requires-clause-room : goal.split_rest-requires-clause-room
split_rest-requires-clause-room c less =
    let k = picked_block (goal.at.split_rest-requires-clause-room c).After-read_used-block in
    let after = taken (goal.at.split_rest-requires-clause-room c).After-take_whole k in
    let gapped = c.leave_gap-live.ensures.leads (at_taken k.by.at) (rw c.of-whole.ensures after.stands) in
    let P : ℕ → Type 0 = λ g. StandsAt c.leave_gap-live.result InUse c.leave_gap-live.new.store.cells (at_gapped c.leave_gap-live.result g (at_taken k.by.at)) in
    let vacant = vacant_after c.args.store.now.cells c.requires.stands (record_at c.args.store.now.cells.records c.args.slot).place c.args.slot c.args.align c.args.asked k.by c.requires.is c.requires.size.positive c.requires.size.in_units c.requires.picked.found c.leave_gap-live.new.store.cells c.leave_gap-live.result (subst P after.gap_is gapped) in
    let size = size_read c.leave_gap-live.new.store.cells c.leave_gap-live.result InUse (at_gapped c.leave_gap-live.result (c.start_of-start.result - c.read_used-block.result.place) (at_taken k.by.at)) gapped in
    let over : 0 < (c.read_used-block.result.size - (c.start_of-start.result - c.read_used-block.result.place)) - c.args.asked = omega (arith, less, size, k.size_is) in
    omega (arith, after.enough, gap_of_some ((c.read_used-block.result.size - (c.start_of-start.result - c.read_used-block.result.place)) - c.args.asked) over, vacant, ap gap_records after.gap_is)

pub returns : goal.returns
returns c =
    let k = picked_block (goal.at.returns c).After-read_used-block in
    let after = taken (goal.at.returns c).After-take_whole k in
    let from : ℕ = (record_at c.args.store.now.cells.records c.args.slot).place in
    let end = c.split_rest.ensures.leads (at_gapped c.leave_gap-live.result (c.start_of-start.result - c.read_used-block.result.place) (at_taken k.by.at)) (c.leave_gap-live.ensures.leads (at_taken k.by.at) (rw c.of-whole.ensures after.stands)) in
    let P : ℕ → ℕ → Type 0 = λ g n. gap_records g + gap_records ((n - g) - c.args.asked) ≤ vacant_count c.args.store.now.cells.records in
    let Q : ℕ → Type 0 = λ g. StandsAt c.leave_gap-live.result InUse c.split_rest.new.store.cells (at_split_rest end.0 c.args.asked (at_gapped c.leave_gap-live.result g (at_taken k.by.at))) in
    let left = split_aligned_stands c.args.store.now.cells c.requires.stands from c.args.slot c.args.align c.args.asked k.by c.requires.is c.requires.size.positive c.requires.size.in_units c.requires.picked.found c.split_rest.new.store.cells c.leave_gap-live.result end.0
    (subst (λ n. P (next_multiple_of from c.args.align - from) n) k.size_is (subst (λ g. P g c.read_used-block.result.size) after.gap_is after.enough))
    (subst Q after.gap_is end.1) in
    record {
      stands = left.0;
      ok = record {
        ok = rw (c.new.ensures, c.live.view_is, c.start_of-start.ensures ∙ ap (λ p. next_multiple_of p c.args.align) k.place_is) (picked c.leave_gap-live.result c.args.align c.args.asked from (content_of c.args.store.now.cells) c.requires.picked.found _ left.1);
        slot_below = rw (c.new.ensures, c.live.view_is) (omega (arith, c.leave_gap-live.ensures.slot.below, after.stands.0.count, k.by.stands.0.count, records_are c.args.store.now.cells));
        slot_new = rw (c.new.ensures, c.live.view_is) (elim (cases_lt 0 (c.start_of-start.result - c.read_used-block.result.place)) [
          | inl some ↦ vacant_new c.args.store.now.cells c.requires.stands from c.args.slot c.args.align c.args.asked k.by c.requires.is c.requires.size.positive c.requires.size.in_units c.requires.picked.found c.take_whole.new.store.cells after.stands c.leave_gap-live.result (c.leave_gap-live.ensures.slot.vacant some)
          | inr none ↦
              let own : c.leave_gap-live.result ≡ c.args.slot = c.leave_gap-live.ensures.slot.same (omega (arith, none)) ∙ ap (λ (s : Span). s.slot) c.of-whole.ensures in
              rw own (slot_new c.args.store.now.cells c.requires.stands from c.args.slot k.by)
        ]);
      };
      refused = search rules;
      cells = search rules;
      touches = search rules;
    }
