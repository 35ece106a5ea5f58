-- The rows behind a row are those of the next cursor.
use Rattle.std.proofs.Common.{rules, ℕ, ◌∷◌, sym, ap, ◌∙◌, arith, inl, inr, length}
use Rattle.std.proofs.lemmas.Bool.{eqb-true, eqb-false}
use Rattle.tlsf_heap.specs.Content.{Content}
use Rattle.tlsf_heap.specs.PlainHeap.{rows_from_number}
use Rattle.tlsf_heap.proofs.Plain.Rows.{number_within, rows_next}
use Rattle.tlsf_heap.proofs.plain_heap.heap.PlainHeapHeaped.row.Goals.{then-is_empty, else-is_empty}
use Rattle.tlsf_heap.proofs.plain_heap.heap.PlainHeapHeaped.row.Goals as goal

pub overflow_add-next : goal.overflow_add-next
overflow_add-next c =
    omega (
      arith,
      number_within c.in_ok-number.number c.self.inside.content.pools c.in_ok-block.block.now c.in_ok-block.behind.now (sym c.blocks_from.ensures ∙ c.in_ok-block.ensures.cases.0),
      c.self.invariant.good.blocks_few,
      c.self.invariant.records_few,
    )

pub returns-clause-given : goal.returns-clause-given
returns-clause-given c = record {
  some =
      let pools = c.self.inside.content.pools in
      ap (λ (content : Content ℕ). rows_from_number c.args.cursor.next content.pools) (sym c.self.view_is)
      ∙ rows_next c.in_ok-number.number pools c.args.cursor.next c.if-is_empty.next c.in_ok-block.block.now c.in_ok-block.behind.now c.in_ok-number.was
      (sym c.blocks_from.ensures ∙ c.in_ok-block.ensures.cases.0)
      (elim c.if-is_empty.branch [
        | then-is_empty w ↦ inl (eqb-true _ 0 (sym c.is_empty.ensures ∙ w.if-is_empty.true), w.next-is)
        | else-is_empty w ↦ inr (let some = eqb-false (length c.in_ok-block.behind.now) 0 (sym w.if-is_empty.ensures) in omega (arith, some), w.next-is)
      ])
      ∙ ap (λ row. row ∷ rows_from_number c.if-is_empty.next pools) (sym c.row.ensures)
      ∙ ap (λ (content : Content ℕ). c.row.result ∷ rows_from_number c.if-is_empty.next content.pools) c.self.view_is;
  next_stands = search rules;
  none = search rules;
}
