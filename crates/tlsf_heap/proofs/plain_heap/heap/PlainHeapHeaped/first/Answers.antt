-- The pool's rows begin with its first block.
use Rattle.std.proofs.Common.{rules, ◌≡◌, ℕ, sym, ap, ◌∙◌, subst}
use Rattle.tlsf_heap.specs.Content.{Content}
use Rattle.tlsf_heap.specs.Rows.{rows_from}
use Rattle.tlsf_heap.specs.PlainHeap.{blocks_in_front}
use Rattle.tlsf_heap.proofs.Plain.Rows.{first_rows, rows_by}
use Rattle.tlsf_heap.proofs.plain_heap.heap.PlainHeapHeaped.first.Goals as goal

pub returns-in_default-clause-found : goal.returns-in_default-clause-found
returns-in_default-clause-found c = record {
  ok = search rules;
  stands = search rules;
  refused =
      let P : Content ℕ → Type 0 = λ x. rows_from c.args.base x.pools ≡ rows_by x.pools (blocks_in_front c.args.base c.self.inside.content.pools) in
      subst P c.self.view_is (first_rows c.args.base 0 c.self.inside.content.pools c.self.invariant.good.pools_good) ∙ ap (rows_by c.args.self.now.pools) (sym c.blocks_in_front.ensures ∙ c.in_default.is);
}

pub returns-clause-found : goal.returns-clause-found
returns-clause-found c = record {
  ok =
      let P : Content ℕ → Type 0 = λ x. rows_from c.args.base x.pools ≡ rows_by x.pools (blocks_in_front c.args.base c.self.inside.content.pools) in
      subst P c.self.view_is (first_rows c.args.base 0 c.self.inside.content.pools c.self.invariant.good.pools_good) ∙ ap (rows_by c.args.self.now.pools) (sym c.blocks_in_front.ensures ∙ c.in-Some.is);
  stands = search rules;
  refused = search rules;
}
