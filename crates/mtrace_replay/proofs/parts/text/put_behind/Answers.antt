-- The lines of the parts, then the sums.
use Rattle.std.proofs.Common.{List, ℕ, ◌++◌, map, flat_map, codes, subst, ◌∙◌}
use Rattle.mtrace_log.specs.Output.{Puts}
use Rattle.mtrace_log.proofs.Writing.{puts_then, fails_early, puts_exit}
use Rattle.mtrace_replay.specs.declared.parts.text.PartOf.{PartOf}
use Rattle.mtrace_replay.specs.Texts.{size_line}
use Rattle.mtrace_replay.specs.Parts.{pool_bytes, records_bytes, sum_over, part_line}
use Rattle.mtrace_replay.specs.PartsText.{part_in}
use Rattle.mtrace_replay.proofs.parts.text.put_behind.Goals as goal

abbrev lines_of : List PartOf → List ℕ
lines_of parts = flat_map (λ part. part_line (part_in part)) parts

abbrev sums_of : List PartOf → List ℕ
sums_of parts = size_line (codes "sum: ") (sum_over pool_bytes (map part_in parts)) ++ size_line (codes "tables: ") (sum_over records_bytes (map part_in parts))

pub returns-in_err-put_lines : goal.returns-in_err-put_lines
returns-in_err-put_lines g c =
    let writes = g.W.Sink.shown in
    puts_exit c.from_residual.result _ c.from_residual.ensures.1 _ (writes c.args.writer.now) (writes c.put_lines.new.writer)
    (fails_early (writes c.args.writer.now) (writes c.put_lines.new.writer) (lines_of c.args.parts.now) (sums_of c.args.parts.now) c.in_err-put_lines.ensures)

pub returns : goal.returns
returns g c =
    let writes = g.W.Sink.shown in
    let P : List ℕ → Type 0 = λ text. Puts c.put_all.result text (writes c.put_lines.new.writer) (writes c.put_all.new.writer) in
    puts_then c.put_all.result (writes c.args.writer.now) (writes c.put_lines.new.writer) (writes c.put_all.new.writer) (lines_of c.args.parts.now) (sums_of c.args.parts.now)
    c.in_ok-put_lines.ensures (subst P (c.as_slice.ensures.value ∙ c.sums_text.ensures) c.put_all.ensures)
