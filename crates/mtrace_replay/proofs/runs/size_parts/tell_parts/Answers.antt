-- The lines of the parts, as the heaps by size have them.
use Rattle.std.proofs.Common.{List, ℕ, ◌++◌, map, codes, ap, subst}
use Rattle.mtrace_log.specs.Output.{Puts}
use Rattle.mtrace_replay.specs.Texts.{size_line}
use Rattle.mtrace_replay.specs.Parts.{pool_bytes, records_bytes, sum_over}
use Rattle.mtrace_replay.specs.PartsText.{part_in}
use Rattle.mtrace_replay.specs.SizeParts.{sized_parts_text}
use Rattle.mtrace_replay.proofs.BySize.PartsTextLemmas.{lines_same}
use Rattle.mtrace_replay.proofs.runs.size_parts.tell_parts.Goals as goal

pub returns-clause-told : goal.returns-clause-told
returns-clause-told g c =
    let writes = g.W.Sink.shown in
    let parts = map part_in c.args.parts.now in
    let sums = size_line (codes "sum: ") (sum_over pool_bytes parts) ++ size_line (codes "tables: ") (sum_over records_bytes parts) in
    c.flush_behind.ensures.flushed (writes c.args.writer.now) (sized_parts_text parts)
    (subst (λ (text : List ℕ). Puts c.put_behind-put.result text (writes c.args.writer.now) (writes c.put_behind-put.new.writer)) (ap (λ lines. lines ++ sums) (lines_same c.args.parts.now)) c.put_behind-put.ensures)
