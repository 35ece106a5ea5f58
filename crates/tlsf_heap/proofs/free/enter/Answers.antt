-- A block's size has a class, whose list takes it in front.
use Rattle.std.proofs.Common.{◌≡◌, ℕ, ◌%◌, ap, ◌∙◌, arith, Option, Some, None}
use Rattle.tlsf_class.specs.Classes.{unit, class}
use Rattle.tlsf_store.specs.declared.records.State.TheVariants.{Free}
use Rattle.tlsf_store.specs.Records.{record_at}
use Rattle.tlsf_store.specs.Cells.{Cells, with_record, head_at}
use Rattle.tlsf_heap.specs.Inner.Edits.{IsUsed, put_first, linked, with_state}
use Rattle.tlsf_heap.specs.Inner.At.{At, StandsAt}
use Rattle.tlsf_heap.specs.Inner.Nodes.{InUse}
use Rattle.tlsf_heap.proofs.Inner.Steps.{slot_used, size_read, whole_at, first_used, entered_stands}
use Rattle.tlsf_heap.proofs.Inner.Written.{freed_written, used_written}
use Rattle.tlsf_heap.proofs.free.enter.Goals as goal

pub class_of-class-requires-clause-whole : goal.class_of-class-requires-clause-whole
class_of-class-requires-clause-whole c =
    let whole = whole_at c.args.store.now.cells c.args.slot InUse c.requires.stands.0 c.requires.stands.1 in
    let size = c.requires.size ∙ size_read c.args.store.now.cells c.args.slot InUse c.requires.stands.0 c.requires.stands.1 in
    omega (arith, whole.in_units, size)

pub class_of-class-requires-clause-some : goal.class_of-class-requires-clause-some
class_of-class-requires-clause-some c =
    let whole = whole_at c.args.store.now.cells c.args.slot InUse c.requires.stands.0 c.requires.stands.1 in
    let size = c.requires.size ∙ size_read c.args.store.now.cells c.args.slot InUse c.requires.stands.0 c.requires.stands.1 in
    omega (arith, whole.positive, whole.in_units, size)

pub class_of-class-requires-clause-most : goal.class_of-class-requires-clause-most
class_of-class-requires-clause-most c =
    let whole = whole_at c.args.store.now.cells c.args.slot InUse c.requires.stands.0 c.requires.stands.1 in
    let size = c.requires.size ∙ size_read c.args.store.now.cells c.args.slot InUse c.requires.stands.0 c.requires.stands.1 in
    omega (arith, whole.at_most, size)

pub set_free-requires-clause-within : goal.set_free-requires-clause-within
set_free-requires-clause-within c = rw c.head-first.ensures.left.cells ((slot_used c.args.store.now.cells c.args.slot InUse c.requires.stands.0 c.requires.stands.1).0)

pub set_free-requires-clause-used : goal.set_free-requires-clause-used
set_free-requires-clause-used c = rw c.head-first.ensures.left.cells ((slot_used c.args.store.now.cells c.args.slot InUse c.requires.stands.0 c.requires.stands.1).1)

pub set_free-requires-clause-in_units : goal.set_free-requires-clause-in_units
set_free-requires-clause-in_units c =
    let whole = whole_at c.args.store.now.cells c.args.slot InUse c.requires.stands.0 c.requires.stands.1 in
    ap (λ n. n % unit) (c.requires.size ∙ size_read c.args.store.now.cells c.args.slot InUse c.requires.stands.0 c.requires.stands.1) ∙ whole.in_units

pub put_first-requires-clause-slot_used : goal.put_first-requires-clause-slot_used
put_first-requires-clause-slot_used c =
    rw (c.set_free.ensures.left.cells, c.head-first.ensures.left.cells)
    (used_written c.args.store.now.cells.records c.args.slot _ (λ e. cc) (Some c.args.slot) (slot_used c.args.store.now.cells c.args.slot InUse c.requires.stands.0 c.requires.stands.1))

pub put_first-requires-clause-first_used : goal.put_first-requires-clause-first_used
put_first-requires-clause-first_used c =
    let size = c.requires.size ∙ size_read c.args.store.now.cells c.args.slot InUse c.requires.stands.0 c.requires.stands.1 in
    let used : IsUsed c.args.store.now.cells.records c.head-first.result = rw (c.head-first.ensures.value, c.class_of-class.ensures, size) (first_used c.args.store.now.cells c.args.slot InUse c.requires.stands.0 c.requires.stands.1) in
    rw (c.set_free.ensures.left.cells, c.head-first.ensures.left.cells) (used_written c.args.store.now.cells.records c.args.slot _ (λ e. cc) c.head-first.result used)

-- the cells once the record was written and the block put in front
module _ (old read new : Cells) (slot size number : ℕ) (first : Option ℕ) (at : At) (stands : StandsAt slot InUse old at) (size_is : size ≡ (record_at old.records slot).size) (same : read ≡ old) (class_is : number ≡ class size) (first_is : first ≡ head_at old.heads number)
    (is : new ≡ with_record read slot (record (record_at read.records slot) { size = size; state = Free; prev_free = None; next_free = first })) where
  abbrev own : ℕ
  own = class at.node.size

  class_of_node : number ≡ own
  class_of_node = class_is ∙ ap class (size_is ∙ size_read old slot InUse at stands)

  head_is : first ≡ head_at old.heads own
  head_is = first_is ∙ ap (head_at old.heads) class_of_node

  written : new ≡ with_record old slot (record (record_at old.records slot) { size = size; state = Free; prev_free = None; next_free = head_at old.heads own })
  written = is ∙ (λ i. with_record (same i) slot (record (record_at (same i).records slot) { size = size; state = Free; prev_free = None; next_free = head_is i }))

  is_linked : put_first number slot first new ≡ linked own slot (with_state slot Free old)
  is_linked = (λ i. put_first (class_of_node i) slot (head_is i) (written i)) ∙ freed_written old own slot size (slot_used old slot InUse at stands).0 size_is

pub returns-clause-leads : goal.returns-clause-leads
returns-clause-leads c at stands =
    rw (
      c.put_first.ensures.cells,
      is_linked c.args.store.now.cells c.head-first.new.self.cells c.set_free.new.self.cells c.args.slot c.args.size c.class_of-class.result c.head-first.result at stands c.requires.size c.head-first.ensures.left.cells c.class_of-class.ensures c.head-first.ensures.value c.set_free.ensures.left.cells,
    ) (entered_stands c.args.store.now.cells c.args.slot at stands)
