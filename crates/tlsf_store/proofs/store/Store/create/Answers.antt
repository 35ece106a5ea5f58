-- A new table's cells are those of the empty store.
use Rattle.std.proofs.Common.{None, ap, arith, length}
use Rattle.std.proofs.lemmas.List.{length-replicate}
use Rattle.std.proofs.lemmas.List.Elements.{All-replicate}
use Rattle.tlsf_class.specs.Classes.{classes}
use Rattle.tlsf_store.specs.Records.{blank, IsBelow}
use Rattle.tlsf_store.specs.Cells.{most_pools, IsPoolBelow}
use Rattle.tlsf_store.proofs.store.Store.create.Goals as goal

pub invariant_of-result : goal.invariant_of-result
invariant_of-result c =
    record {
      some = omega (arith, ap length c.in-Ok.ensures, length-replicate c.args.records blank);
      few = omega (arith, ap length c.in-Ok.ensures, length-replicate c.args.records blank);
      heads_below = All-replicate (IsBelow (length c.in-Ok.table)) classes None tt;
      level = omega arith;
      pools_below = All-replicate (IsPoolBelow (length c.in-Ok.table)) most_pools None tt;
    }
