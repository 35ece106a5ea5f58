use Rattle.std.proofs.Common.{◌≡◌, sym, ap, ◌∙◌, arith, None, Some, Option, ℕ}
use Rattle.tlsf_class.specs.Classes.{class}
use Rattle.tlsf_class.proofs.ClassLaws.{class-lt}
use Rattle.tlsf_store.specs.declared.records.Record.{Record}
use Rattle.tlsf_store.specs.declared.records.State.TheVariants.{Free, Vacant}
use Rattle.tlsf_store.specs.Records.{record_at}
use Rattle.tlsf_store.specs.Cells.{Cells, head_at}
use Rattle.tlsf_heap.proofs.Inner.OwnClass.{is_first, own_none, own_small, own_taken}
use Rattle.tlsf_heap.proofs.malloc.own_class.Goals as goal

-- the head of the class that the bytes are in
head_was : (cells : Cells) (asked number : ℕ) (head was : Option ℕ) → number ≡ class asked → head ≡ head_at cells.heads number → head ≡ was → head_at cells.heads (class asked) ≡ was
head_was cells asked number head was of_class value is = sym (ap (head_at cells.heads) of_class) ∙ sym value ∙ is

pub returns-in_err-slot-clause-found : goal.returns-in_err-slot-clause-found
returns-in_err-slot-clause-found c =
    let cells : Cells = c.args.store.now.cells in
    rw c.from_residual.ensures (own_none cells c.requires.stands c.args.asked (class-lt c.args.asked)
    (head_was cells c.args.asked c.class_of-class.result c.head.result None c.class_of-class.ensures c.head.ensures.value c.in_err-slot.was))

pub read_used-block-requires-clause-used : goal.read_used-block-requires-clause-used
read_used-block-requires-clause-used c =
    let cells : Cells = c.args.store.now.cells in
    let first = is_first cells c.requires.stands (class c.args.asked) (class-lt c.args.asked) c.in_ok-slot.slot
    (head_was cells c.args.asked c.class_of-class.result c.head.result (Some c.in_ok-slot.slot) c.class_of-class.ensures c.head.ensures.value c.in_ok-slot.was) in
    let free : (record_at c.head.new.self.cells.records c.in_ok-slot.slot).state ≡ Free = ap (λ (x : Cells). (record_at x.records c.in_ok-slot.slot).state) c.head.ensures.left.cells ∙ first.free in
    λ vacant. (let e : Free ≡ Vacant = sym free ∙ vacant in cc)

pub returns-then-block-asked-clause-found : goal.returns-then-block-asked-clause-found
returns-then-block-asked-clause-found c =
    let cells : Cells = c.args.store.now.cells in
    own_small cells c.requires.stands c.args.asked (class-lt c.args.asked) c.in_ok-slot.slot
    (head_was cells c.args.asked c.class_of-class.result c.head.result (Some c.in_ok-slot.slot) c.class_of-class.ensures c.head.ensures.value c.in_ok-slot.was)
    (omega (arith, c.if-block-asked.true, ap (λ (r : Record). r.size) c.read_used-block.ensures.value, ap (λ (x : Cells). (record_at x.records c.in_ok-slot.slot).size) c.head.ensures.left.cells))

pub returns-clause-found : goal.returns-clause-found
returns-clause-found c =
    let cells : Cells = c.args.store.now.cells in
    let head = head_was cells c.args.asked c.class_of-class.result c.head.result (Some c.in_ok-slot.slot) c.class_of-class.ensures c.head.ensures.value c.in_ok-slot.was in
    rw c.class_of-class.ensures (
      c.in_ok-slot.slot,
      head,
      own_taken cells c.requires.stands c.args.asked (class-lt c.args.asked) c.in_ok-slot.slot head
          (omega (arith, c.if-block-asked.false, ap (λ (r : Record). r.size) c.read_used-block.ensures.value, ap (λ (x : Cells). (record_at x.records c.in_ok-slot.slot).size) c.head.ensures.left.cells)),
    )
