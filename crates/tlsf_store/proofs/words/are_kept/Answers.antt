-- One record more is kept in each turn.
use Rattle.std.proofs.Common.{length, refl, subst, arith}
use Rattle.std.proofs.lemmas.List.Elements.{All-more}
use Rattle.tlsf_store.specs.Records.{IsKept}
use Rattle.tlsf_store.proofs.Heads.{all_taken}
use Rattle.tlsf_store.proofs.words.are_kept.Goals as goal

pub loop-item-preserved : goal.loop-item-preserved
loop-item-preserved c =
    let kept = IsKept (length c.args.records.now) in
    record {
      kept = All-more kept c.args.records.now c.loop-item.item-index c.item-item.result c.loop-item-test.true c.loop-item.invariant.kept (subst kept c.item-item.is (c.is_kept.ensures.0 c.if-not-is_kept.false));
      touched = omega (arith, c.tick.ensures, c.loop-item.invariant.touched);
    }

pub returns-clause-exact : goal.returns-clause-exact
returns-clause-exact c = (
  λ yes. all_taken (IsKept (length c.args.records.now)) c.args.records.now c.loop-item.item-index (omega arith) c.loop-item.invariant.kept,
  λ all. refl,
)
