-- The rest is written with its links, and enters its list.
use Rattle.std.proofs.Common.{◌≡◌, ℕ, ◌+◌, ◌-◌, ◌<◌, ◌%◌, ◌≤◌, subst, sym, ap, ◌∙◌, arith, Option, Some, false}
use Rattle.tlsf_class.specs.Classes.{unit, class, greatest_size}
use Rattle.tlsf_store.specs.Cells.{Cells, head_at}
use Rattle.tlsf_store.specs.declared.records.Record.{Record}
use Rattle.tlsf_store.specs.declared.records.State.TheVariants.{Free}
use Rattle.tlsf_heap.specs.declared.span.Span.{Span}
use Rattle.tlsf_heap.specs.Inner.Edits.{IsUsed, put_first, linked}
use Rattle.tlsf_heap.specs.Inner.Nodes.{NodeState, InUse, Loose, is_listed_state}
use Rattle.tlsf_heap.specs.Inner.At.{At, StandsAt, with_slot, at_turned, at_split}
use Rattle.tlsf_heap.specs.Inner.Spans.{IsRead, split_by}
use Rattle.tlsf_heap.proofs.Inner.Steps.{slot_used, size_read, place_read, whole_at, first_used, listed_stands}
use Rattle.tlsf_heap.proofs.Inner.Allotted.{rest_used, span_splits, span_rest}
use Rattle.tlsf_heap.proofs.Inner.Written.{linked_written}
use Rattle.tlsf_heap.proofs.malloc.split_off.Goals as goal
use Rattle.tlsf_heap.proofs.Inner.Spans.{back_used}

-- the size and the end of a block as they were read
whole : (cells : Cells) (span : Span) (rest : ℕ) (node_state : NodeState) (at : At) → StandsAt span.slot node_state cells (with_slot rest at) → IsRead span cells.records → (span.size % unit ≡ 0) × (span.size ≤ greatest_size) × (span.size ≡ at.node.size) × (span.place + span.size ≡ at.node.place + at.node.size)
whole cells span rest node_state at stands read =
    let all = whole_at cells span.slot node_state (with_slot rest at) stands in
    let size = read.size ∙ size_read cells span.slot node_state (with_slot rest at) stands in
    let place = read.place ∙ place_read cells span.slot node_state (with_slot rest at) stands in
    (ap (λ n. n % unit) size ∙ all.in_units, omega (arith, all.at_most, size), size, omega (arith, size, place))

pub class_of-class-requires-clause-whole : goal.class_of-class-requires-clause-whole
class_of-class-requires-clause-whole c =
    omega (arith, (whole c.args.store.now.cells c.args.block.now c.args.rest c.requires.stands.0 c.requires.stands.1 c.requires.stands.3 c.requires.read).0, c.requires.less, c.requires.whole)

pub class_of-class-requires-clause-some : goal.class_of-class-requires-clause-some
class_of-class-requires-clause-some c =
    omega (arith, (whole c.args.store.now.cells c.args.block.now c.args.rest c.requires.stands.0 c.requires.stands.1 c.requires.stands.3 c.requires.read).0, c.requires.less, c.requires.whole)

pub class_of-class-requires-clause-most : goal.class_of-class-requires-clause-most
class_of-class-requires-clause-most c = omega (arith, (whole c.args.store.now.cells c.args.block.now c.args.rest c.requires.stands.0 c.requires.stands.1 c.requires.stands.3 c.requires.read).1)

pub split-requires-clause-slot_used : goal.split-requires-clause-slot_used
split-requires-clause-slot_used c = rw c.head-first.ensures.left.cells (slot_used c.args.store.now.cells c.args.block.now.slot c.requires.stands.0 (with_slot c.args.rest c.requires.stands.1) c.requires.stands.3)

pub split-requires-clause-rest_used : goal.split-requires-clause-rest_used
split-requires-clause-rest_used c = rw c.head-first.ensures.left.cells (rest_used c.args.store.now.cells c.args.block.now.slot c.args.rest c.requires.stands.0 c.requires.stands.1 c.requires.stands.3)

pub split-requires-clause-next_used : goal.split-requires-clause-next_used
split-requires-clause-next_used c =
    let P : Option ℕ → Type 0 = λ o. IsUsed c.args.store.now.cells.records o in
    rw c.head-first.ensures.left.cells (subst P (sym c.requires.read.next) (back_used c.args.store.now.cells c.args.block.now.slot c.requires.stands.0 (with_slot c.args.rest c.requires.stands.1) c.requires.stands.3))

pub split-requires-clause-size_in_units : goal.split-requires-clause-size_in_units
split-requires-clause-size_in_units c = (whole c.args.store.now.cells c.args.block.now c.args.rest c.requires.stands.0 c.requires.stands.1 c.requires.stands.3 c.requires.read).0

pub split-requires-clause-ends : goal.split-requires-clause-ends
split-requires-clause-ends c =
    let w = whole c.args.store.now.cells c.args.block.now c.args.rest c.requires.stands.0 c.requires.stands.1 c.requires.stands.3 c.requires.read in
    omega (arith, (whole_at c.args.store.now.cells c.args.block.now.slot c.requires.stands.0 (with_slot c.args.rest c.requires.stands.1) c.requires.stands.3).ends, w.3)

-- what stands once the block was split, with the links of the rest
module _ (old read new : Cells) (span : Span) (node_state : NodeState) (rest bytes number : ℕ) (first : Option ℕ) (at : At) (unlisted : is_listed_state node_state ≡ false) (stands : StandsAt span.slot node_state old (with_slot rest at)) (known : IsRead span old.records)
    (some : 0 < bytes) (less : bytes < span.size) (in_units : bytes % unit ≡ 0) (same : read ≡ old) (class_is : number ≡ class (span.size - bytes)) (first_is : first ≡ head_at old.heads number) (is : new ≡ split_by span rest Free first bytes read) where
  abbrev after : At
  after = at_split rest bytes (at_turned InUse at)

  split_is : new ≡ split_by span rest Free first bytes old
  split_is = is ∙ ap (split_by span rest Free first bytes) same

  class_of_rest : number ≡ class (at.node.size - bytes)
  class_of_rest = class_is ∙ ap (λ n. class (n - bytes)) (whole old span rest node_state at stands known).2

  split_stands : StandsAt rest Loose new after
  split_stands = span_splits old new span node_state rest first bytes at unlisted stands known some less in_units split_is

  first_still : head_at new.heads (class (at.node.size - bytes)) ≡ first
  first_still = ap (λ (c : Cells). head_at c.heads (class (at.node.size - bytes))) split_is ∙ sym (first_is ∙ ap (head_at old.heads) class_of_rest)

  rest_in_use : IsUsed new.records (Some rest)
  rest_in_use = slot_used new rest Loose after split_stands

  first_in_use : IsUsed new.records first
  first_in_use = subst (λ o. IsUsed new.records o) first_still (first_used new rest Loose after split_stands)

  is_linked : put_first number rest first new ≡ linked (class (at.node.size - bytes)) rest new
  is_linked =
      let written = span_rest old new span node_state rest first bytes at unlisted stands known split_is in
      (λ i. put_first (class_of_rest i) rest (sym first_still i) new)
      ∙ linked_written new (class (at.node.size - bytes)) rest (ap (λ (r : Record). r.prev_free) written) (ap (λ (r : Record). r.next_free) written ∙ sym first_still)

pub put_first-requires-clause-slot_used : goal.put_first-requires-clause-slot_used
put_first-requires-clause-slot_used c =
    rest_in_use c.args.store.now.cells c.head-first.new.self.cells c.split.new.store.cells c.args.block.now c.requires.stands.0 c.args.rest c.args.bytes c.class_of-class.result c.head-first.result c.requires.stands.1 c.requires.stands.2 c.requires.stands.3 c.requires.read
    c.requires.some c.requires.less c.requires.whole c.head-first.ensures.left.cells c.class_of-class.ensures c.head-first.ensures.value c.split.ensures.cells

pub put_first-requires-clause-first_used : goal.put_first-requires-clause-first_used
put_first-requires-clause-first_used c =
    first_in_use c.args.store.now.cells c.head-first.new.self.cells c.split.new.store.cells c.args.block.now c.requires.stands.0 c.args.rest c.args.bytes c.class_of-class.result c.head-first.result c.requires.stands.1 c.requires.stands.2 c.requires.stands.3 c.requires.read
    c.requires.some c.requires.less c.requires.whole c.head-first.ensures.left.cells c.class_of-class.ensures c.head-first.ensures.value c.split.ensures.cells

pub returns-clause-leads : goal.returns-clause-leads
returns-clause-leads c node_state at unlisted stands =
    rw (
      c.put_first.ensures.cells,
      is_linked c.args.store.now.cells c.head-first.new.self.cells c.split.new.store.cells c.args.block.now node_state c.args.rest c.args.bytes c.class_of-class.result c.head-first.result at unlisted stands c.requires.read
          c.requires.some c.requires.less c.requires.whole c.head-first.ensures.left.cells c.class_of-class.ensures c.head-first.ensures.value c.split.ensures.cells,
    ) (listed_stands c.split.new.store.cells c.args.rest (at_split c.args.rest c.args.bytes (at_turned InUse at))
    (split_stands c.args.store.now.cells c.head-first.new.self.cells c.split.new.store.cells c.args.block.now node_state c.args.rest c.args.bytes c.class_of-class.result c.head-first.result at unlisted stands c.requires.read
    c.requires.some c.requires.less c.requires.whole c.head-first.ensures.left.cells c.class_of-class.ensures c.head-first.ensures.value c.split.ensures.cells))
