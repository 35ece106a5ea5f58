-- What the ledger holds, as entries without places.
use Rattle.std.proofs.Common.{sym, ap, ◌∙◌, map}
use Rattle.std.proofs.lemmas.List.{length-map}
use Rattle.mtrace_replay.specs.Texts.{total_size}
use Rattle.mtrace_replay.specs.LedgerReplay.{unplaced}
use Rattle.mtrace_replay.specs.declared.ledger.replay.LedgerTotals.{LedgerTotals}
use Rattle.mtrace_replay.proofs.OnLedger.LedgerReplayLemmas.{entries_unplaced}
use Rattle.mtrace_replay.proofs.ledger.point.ledger_point.Goals as goal

pub returns-clause-point : goal.returns-clause-point
returns-clause-point c = λ past stands.
    let all = c.args.replay.now.all in
    record {
      bytes = record {
        all = map unplaced all;
        held = stands.held;
        measured = ap (λ (totals : LedgerTotals). totals.live_bytes) c.totals-totals.ensures ∙ ap total_size (sym (entries_unplaced all));
      };
      blocks = record {
        all = map unplaced all;
        held = stands.held;
        measured = ap (λ (totals : LedgerTotals). totals.live_blocks) c.totals-totals.ensures ∙ sym (length-map all unplaced);
      };
    }
