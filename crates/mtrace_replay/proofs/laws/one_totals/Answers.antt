-- A measure has one value, and one greatest.
use Rattle.std.proofs.Common.{◌≡◌, sym, ◌∙◌, arith}
use Rattle.mtrace_replay.specs.Totals.{Measures}
use Rattle.mtrace_replay.proofs.History.TotalsLemmas.{measure_is_one, one_greatest, not_later}
use Rattle.mtrace_replay.proofs.laws.one_totals.Goals as goal

pub returns-clause-most : goal.returns-clause-most
returns-clause-most c = λ measure past one other first second. one_greatest (Measures measure) past one other first.0 second.0 first.1 second.1

pub returns-clause-totals : goal.returns-clause-totals
returns-clause-totals c = λ start past one other first second. (
    let lines = first.lines ∙ sym second.lines in
    let served = first.served ∙ sym second.served in
    let refused = first.refused ∙ sym second.refused in
    let bytes = measure_is_one _ past one.live_bytes other.live_bytes first.live_bytes second.live_bytes in
    let blocks = measure_is_one _ past one.live_blocks other.live_blocks first.live_blocks second.live_blocks in
    let peak = one_greatest _ past one.peak_bytes other.peak_bytes one.peak_line other.peak_line first.peak second.peak in
    let line : one.peak_line ≡ other.peak_line = omega (arith, not_later _ past one.peak_bytes other.peak_bytes one.peak_line other.peak_line first.peak second.peak, not_later _ past other.peak_bytes one.peak_bytes other.peak_line one.peak_line second.peak first.peak) in
    let high = one_greatest _ past one.high_place other.high_place first.high_place.0 second.high_place.0 first.high_place.1 second.high_place.1 in
    λ i. record { lines = lines i; served = served i; refused = refused i; live_bytes = bytes i; live_blocks = blocks i; peak_bytes = peak i; peak_line = line i; high_place = high i })
