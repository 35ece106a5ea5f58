-- Two rising lists of the same numbers are equal, and a measure has one value.
use Rattle.std.proofs.Common.{sym, ◌∙◌}
use Rattle.mtrace_replay.proofs.History.TotalsLemmas.{measure_is_one}
use Rattle.mtrace_replay.proofs.OnLedger.OneText.{one_told, one_ledger_point}
use Rattle.mtrace_replay.proofs.laws.one_timeline.Goals as goal

pub returns-clause-told : goal.returns-clause-told
returns-clause-told c = one_told

pub returns-clause-points : goal.returns-clause-points
returns-clause-points c = λ start past one other first second same. (
    let bytes = measure_is_one _ past one.bytes other.bytes first.bytes second.bytes in
    let blocks = measure_is_one _ past one.blocks other.blocks first.blocks second.blocks in
    let reach = first.reach ∙ sym second.reach in
    let free = first.free ∙ sym second.free in
    let largest = first.largest ∙ sym second.largest in
    λ i. record { line = same i; bytes = bytes i; blocks = blocks i; reach = reach i; free = free i; largest = largest i })

pub returns-clause-ledger_points : goal.returns-clause-ledger_points
returns-clause-ledger_points c = one_ledger_point
