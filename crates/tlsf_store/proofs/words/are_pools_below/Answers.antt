-- One entry more is below the count in each turn.
use Rattle.std.proofs.Common.{refl, subst, arith}
use Rattle.std.proofs.lemmas.List.Elements.{All-more}
use Rattle.tlsf_store.specs.Cells.{IsPoolBelow}
use Rattle.tlsf_store.proofs.Heads.{all_taken}
use Rattle.tlsf_store.proofs.words.are_pools_below.Goals as goal

pub loop-entry-preserved : goal.loop-entry-preserved
loop-entry-preserved c =
    let below = IsPoolBelow c.args.count in
    All-more below c.args.entries.now c.loop-entry.entry-index c.entry-item.result c.loop-entry-test.true c.loop-entry.invariant (subst below c.entry-item.is (c.is_pool_below.ensures.0 c.if-not-is_pool_below.false))

pub returns : goal.returns
returns c = (
  λ yes. all_taken (IsPoolBelow c.args.count) c.args.entries.now c.loop-entry.entry-index (omega arith) c.loop-entry.invariant,
  λ all. refl,
)
