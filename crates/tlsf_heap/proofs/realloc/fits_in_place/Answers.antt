use Rattle.std.proofs.Common.{◌≡◌, ℕ, true, sym, ap, ◌∙◌, arith, Option, option_map, ◌-◌}
use Rattle.std.specs.Prelude.{◌==◌, ◌||◌, nat_lt, nat_le}
use Rattle.tlsf_heap.specs.declared.span.Span.{Span}
use Rattle.tlsf_heap.specs.Inner.Spans.{IsRead}
use Rattle.tlsf_store.specs.Records.{vacant_count}
use Rattle.tlsf_store.specs.Cells.{Cells}
use Rattle.tlsf_heap.specs.Content.{blocks_of}
use Rattle.tlsf_heap.specs.Free.{is_live}
use Rattle.tlsf_heap.specs.Inner.Following.{Stands, content_of}
use Rattle.tlsf_heap.specs.Inner.Nodes.{InUse, Node}
use Rattle.tlsf_heap.specs.Inner.Positions.{listed_first}
use Rattle.tlsf_heap.proofs.Inner.Steps.{size_read}
use Rattle.tlsf_heap.proofs.Inner.Live.{NodeAt, live_at}
use Rattle.tlsf_heap.proofs.Inner.Resizing.{fits_larger, fits_smaller}
use Rattle.tlsf_heap.proofs.realloc.fits_in_place.Goals as goal
use Rattle.tlsf_heap.specs.Inner.At.{At, StandsAt}

pub free_behind-behind-requires-clause-stands : goal.free_behind-behind-requires-clause-stands
free_behind-behind-requires-clause-stands c =
    let by = live_at c.args.store.now.cells c.requires.stands c.args.block.now.place c.args.block.now.slot c.requires.live in
    (by.at, by.stands)

-- what was read of the block and of the one behind it
record Reading (cells : Cells) (stands : Stands cells) (place slot size : ℕ) (behind : Option ℕ) : Type 0 where
  by : NodeAt place slot InUse cells stands.layout
  size_is : size ≡ by.at.node.size
  behind_is : behind ≡ option_map (λ (node : Node). node.size) (listed_first by.at.nodes)

reading : (cells : Cells) (stands : Stands cells) (span : Span) → is_live (λ owner. owner == span.slot) span.place (blocks_of (content_of cells).pools) ≡ true → IsRead span cells.records
    → (behind : Option ℕ) → ((at : At) → StandsAt span.slot InUse cells at → behind ≡ option_map (λ (node : Node). node.size) (listed_first at.nodes)) → Reading cells stands span.place span.slot span.size behind
reading cells stands span live read behind tells =
    let by = live_at cells stands span.place span.slot live in
    record { by = by; size_is = read.size ∙ size_read cells span.slot InUse by.at by.stands; behind_is = tells by.at by.stands }

pub returns-then-block-asked-clause-value : goal.returns-then-block-asked-clause-value
returns-then-block-asked-clause-value c =
    let old : Cells = c.args.store.now.cells in
    let r = reading old c.requires.stands c.args.block.now c.requires.live c.requires.read c.free_behind-behind.result c.free_behind-behind.ensures.value in
    let is = fits_larger old c.requires.stands c.args.block.now.place c.args.block.now.slot r.by c.args.asked c.free_behind-behind.result r.behind_is (omega (arith, c.if-block-asked.true, r.size_is)) in
    ap (λ n. nat_le (c.args.asked - n) c.unwrap_or.result) r.size_is ∙ ap (λ n. nat_le (c.args.asked - r.by.at.node.size) n) c.unwrap_or.ensures ∙ is

pub returns-then-is_some-clause-value : goal.returns-then-is_some-clause-value
returns-then-is_some-clause-value c =
    let old : Cells = c.args.store.now.cells in
    let r = reading old c.requires.stands c.args.block.now c.requires.live c.requires.read c.free_behind-behind.result c.free_behind-behind.ensures.value in
    let is = fits_smaller old c.requires.stands c.args.block.now.place c.args.block.now.slot r.by c.args.asked c.free_behind-behind.result r.behind_is (omega (arith, c.if-block-asked.false, r.size_is)) in
    c.if-is_some.true ∙ sym (is ∙ ap (λ b. b || nat_lt 0 (vacant_count old.records)) (sym c.is_some.ensures ∙ c.if-is_some.true))

pub returns-else-is_some-clause-value : goal.returns-else-is_some-clause-value
returns-else-is_some-clause-value c =
    let old : Cells = c.args.store.now.cells in
    let r = reading old c.requires.stands c.args.block.now c.requires.live c.requires.read c.free_behind-behind.result c.free_behind-behind.ensures.value in
    let is = fits_smaller old c.requires.stands c.args.block.now.place c.args.block.now.slot r.by c.args.asked c.free_behind-behind.result r.behind_is (omega (arith, c.if-block-asked.false, r.size_is)) in
    let vacant : c.vacant.result ≡ vacant_count old.records = c.vacant.ensures.value ∙ ap (λ (s : Cells). vacant_count s.records) c.free_behind-behind.ensures.left.cells in
    ap (nat_lt 0) vacant ∙ sym (is ∙ ap (λ b. b || nat_lt 0 (vacant_count old.records)) (sym c.is_some.ensures ∙ c.if-is_some.false))
