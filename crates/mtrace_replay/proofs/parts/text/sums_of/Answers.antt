-- Missing sums stay missing.
use Rattle.std.proofs.Common.{◌≡◌, ◌<◌, ◌-◌, None, length, slice_index_or, sym, ap, ◌∙◌, arith}
use Rattle.std.specs.Prelude.{option_map}
use Rattle.tlsf_heap.specs.Sizing.{table_bytes}
use Rattle.mtrace_replay.specs.Parts.{pool_bytes, records_bytes}
use Rattle.mtrace_replay.specs.PartsText.{part_in}
use Rattle.mtrace_replay.specs.declared.parts.text.Sums.{Sums}
use Rattle.mtrace_replay.proofs.BySize.PartsTextLemmas.{none_there, no_part}
use Rattle.mtrace_replay.proofs.parts.text.sums_of.Goals as goal

pub returns-in_err-sums-clause-pools : goal.returns-in_err-sums-clause-pools
returns-in_err-sums-clause-pools c =
    let within : c.loop-left.left - 1 < length c.args.parts.now = omega (arith, c.loop-left-test.true, c.loop-left.invariant.within) in
    ap (option_map (λ (sums : Sums). sums.pools)) c.from_residual.ensures ∙ sym (none_there pool_bytes c.args.parts.now (c.loop-left.left - 1) no_part within (sym c.in_err-sums.ensures))

pub returns-in_err-sums-clause-tables : goal.returns-in_err-sums-clause-tables
returns-in_err-sums-clause-tables c =
    let within : c.loop-left.left - 1 < length c.args.parts.now = omega (arith, c.loop-left-test.true, c.loop-left.invariant.within) in
    let none : records_bytes (part_in (slice_index_or c.args.parts.now (c.loop-left.left - 1) no_part)) ≡ None = ap (option_map (λ pool. table_bytes (slice_index_or c.args.parts.now (c.loop-left.left - 1) no_part).blocks)) (sym c.in_err-sums.ensures) in
    ap (option_map (λ (sums : Sums). sums.tables)) c.from_residual.ensures ∙ sym (none_there records_bytes c.args.parts.now (c.loop-left.left - 1) no_part within none)
