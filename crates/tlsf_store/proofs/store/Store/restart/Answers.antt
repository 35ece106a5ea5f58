-- A table begun anew has the cells of the empty store.
use Rattle.std.proofs.Common.{None, ap, arith, length}
use Rattle.std.proofs.lemmas.List.{length-replicate}
use Rattle.std.proofs.lemmas.List.Elements.{All-replicate}
use Rattle.tlsf_class.specs.Classes.{classes}
use Rattle.tlsf_store.specs.Records.{blank, IsBelow}
use Rattle.tlsf_store.specs.Cells.{most_pools, IsPoolBelow}
use Rattle.tlsf_store.proofs.store.Store.restart.Goals as goal

pub invariant_of-self : goal.invariant_of-self
invariant_of-self c =
    let long = length c.restart.new.self in
    record {
      some = omega (arith, c.requires.some, ap length c.restart.ensures, length-replicate c.args.records blank);
      few = omega (arith, c.requires.few, c.self.invariant.few, ap (λ v. length v.cells.records) c.self.view_is, ap length c.restart.ensures, length-replicate c.args.records blank);
      heads_below = All-replicate (IsBelow long) classes None tt;
      level = omega arith;
      pools_below = All-replicate (IsPoolBelow long) most_pools None tt;
    }
