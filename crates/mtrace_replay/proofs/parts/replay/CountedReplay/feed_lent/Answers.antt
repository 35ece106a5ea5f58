use Rattle.std.proofs.Common.{◌≡◌, ◌∷◌, suc, true, false, sym, ap, ◌∙◌, subst, arith}
use Rattle.std.specs.Prelude.{Result, Ok, Err, OnOk, nat_lt}
use Rattle.mtrace_replay.specs.LedgerReplay.{LedgerReplayed, LedgerStandsFor}
use Rattle.mtrace_replay.specs.Spans.{AreFew, released_by}
use Rattle.mtrace_replay.specs.declared.ledger.replay.LedgerTotals.{LedgerTotals}
use Rattle.mtrace_replay.proofs.BySize.CountedLemmas.{served_more}
use Rattle.mtrace_replay.proofs.parts.replay.CountedReplay.feed_lent.Goals as goal

-- what holds holds where there is no error
on_ok : {T E : Type 0} (result : Result T E) (P : Type 0) → P → OnOk result P
on_ok (Ok value) P p = p
on_ok (Err fault) P p = tt

also_ok : {T E : Type 0} (result : Result T E) (P Q : Type 0) → OnOk result P → (P → Q) → OnOk result Q
also_ok (Ok value) P Q p f = f p
also_ok (Err fault) P Q p f = tt

pub returns : goal.returns
returns c =
    let fed = c.in_ok-feed_lent.ensures in
    let event = c.args.event in
    let old : LedgerReplayed = c.args.self.now.ledger in
    let middle : LedgerReplayed = c.feed_lent.new.self in
    let same : c.count.new.self.ledger ≡ middle = c.count.ensures.ledger in
    record {
      stands = on_ok c.count.result _ (λ past stands. subst (λ (replay : LedgerReplayed). LedgerStandsFor replay (event ∷ past)) (sym same) (fed.stands past stands));
      spans = also_ok c.count.result _ _ c.count.ensures.counted (λ counts past stands counted.
          let pending_is = c.pending.ensures ∙ stands.pending_is in
          counts past event (record {
            moved = c.of-change.ensures.moved ∙ ap (λ o. released_by event o true) pending_is;
            freed = c.of-change.ensures.freed ∙ ap (λ o. released_by event o false) pending_is;
            address = c.of-change.ensures.address;
            size = c.of-change.ensures.size;
            served_is = ap (λ (totals : LedgerTotals). nat_lt totals.served c.totals.result.served) c.totals-served.ensures
                ∙ ap (λ (totals : LedgerTotals). nat_lt old.served totals.served) c.totals.ensures
                ∙ served_more old middle event past stands (fed.stands past stands);
          }) counted);
      told = on_ok c.count.result _ fed.told;
      counted = on_ok c.count.result _ (ap (λ (replay : LedgerReplayed). replay.lines) same ∙ fed.counted);
      few = also_ok c.count.result _ _ c.count.ensures.few (λ fewer.
          let next : suc old.lines ≡ c.args.number = omega (arith, c.requires.next) in
          subst (λ n. AreFew n c.count.new.self.spans) next (fewer old.lines c.requires.few));
    }
