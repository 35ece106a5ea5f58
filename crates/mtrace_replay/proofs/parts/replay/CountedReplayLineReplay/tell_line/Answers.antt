-- What is wrong with the line is all that is told of it.
use Rattle.mtrace_replay.specs.LedgerReplay.{ledger_noted}
use Rattle.mtrace_replay.proofs.Running.FollowingLemmas.{tells_also, notes_added}
use Rattle.mtrace_replay.proofs.parts.replay.CountedReplayLineReplay.tell_line.Goals as goal

pub returns : goal.returns
returns g c =
    tells_also _ _ _ _
    (λ text text_is start line past before stands noted_is told. notes_added (ledger_noted) line past c.args.findings.now before text text_is noted_is told)
    (λ never. absurd never) c.tell_found.result _ _ _ _ c.tell_found.ensures
