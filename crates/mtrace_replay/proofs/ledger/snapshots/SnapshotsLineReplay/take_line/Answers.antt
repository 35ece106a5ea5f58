-- The clock sees the line, and the replay is fed.
use Rattle.std.proofs.Common.{◌<◌, sym, subst, refl, ◌∙◌}
use Rattle.std.specs.Prelude.{Result, Ok, Err, OnErr}
use Rattle.std.proofs.lemmas.Result.{on_ok_weaker}
use Rattle.mtrace_replay.proofs.ledger.snapshots.SnapshotsLineReplay.take_line.Goals as goal

no_matter : {T E : Type 0} (result : Result T E) → OnErr result (Unit {0})
no_matter (Ok value) = tt
no_matter (Err fault) = tt

pub returns : goal.returns
returns c =
    let fed = c.feed_lent.ensures in
    record {
      stands = on_ok_weaker c.feed_lent.result (λ feeds start past stands. record {
        replay = feeds past stands.replay;
        clock = c.see.ensures.stands past stands.clock;
        every = c.see.ensures.every ∙ stands.every;
        report = stands.report;
      }) fed.stands;
      told = on_ok_weaker c.feed_lent.result (λ tells start past stands. tells past stands.replay) fed.told;
      counted = fed.counted;
      ready = on_ok_weaker c.feed_lent.result (λ counted. subst (λ n. 0 < n) (sym c.see.ensures.every) c.requires.ready) fed.counted;
      fixed = refl;
      memory = no_matter c.feed_lent.result;
    }
