-- One head changes, and stays below.
use Rattle.std.proofs.Common.{ap, sym, subst, length, rules}
use Rattle.tlsf_store.specs.Records.{IsBelow}
use Rattle.tlsf_store.specs.Cells.{with_head}
use Rattle.tlsf_store.proofs.Heads.{heads_set, heads_set_below}
use Rattle.tlsf_store.proofs.store.Store.set_head.Goals as goal

pub invariant_of-self : goal.invariant_of-self
invariant_of-self c =
    let old = c.self.invariant in
    let below : IsBelow (length c.self.inside.table) c.args.first =
    subst (λ n. IsBelow n c.args.first) (sym (ap (λ v. length v.cells.records) c.self.view_is)) c.requires in
    record {
      some = old.some;
      few = old.few;
      heads_below = heads_set_below (length c.self.inside.table) c.self.inside.heads old.heads_below c.number.result c.link_word.result c.args.first c.link_word.ensures below;
      level = old.level;
      pools_below = old.pools_below;
    }

pub returns-clause-left : goal.returns-clause-left
returns-clause-left c = record {
  cells = rw (c.number.ensures.value, heads_set c.self.inside.heads c.args.class c.link_word.result c.args.first c.link_word.ensures)
      (ap (λ v. with_head v.cells c.args.class c.args.first) c.self.view_is);
  touches = search rules;
}
