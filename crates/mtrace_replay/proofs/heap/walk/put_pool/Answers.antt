-- The line of the pool, then its rows.
use Rattle.std.proofs.Common.{ℕ, List, subst, ◌∙◌, flat_map, codes, refl}
use Rattle.mtrace_log.specs.Output.{PutsAll, PutsBeginning, Puts}
use Rattle.mtrace_log.proofs.Writing.{puts_then, fails_early, puts_exit}
use Rattle.mtrace_replay.specs.Texts.{pair_line, row_text}
use Rattle.mtrace_replay.specs.Rows.{pool_rows}
use Rattle.mtrace_replay.proofs.OnHeap.RowLemmas.{rows_text-is}
use Rattle.mtrace_replay.proofs.heap.walk.put_pool.Goals as goal

pub returns-in_err-put_all : goal.returns-in_err-put_all
returns-in_err-put_all g c =
    record {
      puts =
          let writes = g.W.Sink.shown in
          let rows = pool_rows (g.H.Heaped.content c.args.heap.now).pools c.args.range.0 in
          let line = pair_line (codes "pool ") c.args.range.0 (codes ": ") c.args.range.1 (codes " bytes") in
          let P : List ℕ → Type 0 = λ text. PutsBeginning text (writes c.args.writer.now) (writes c.put_all.new.writer) in
          puts_exit c.from_residual.result _ c.from_residual.ensures.1 _ (writes c.args.writer.now) (writes c.put_all.new.writer)
          (subst P (rows_text-is c.args.range rows) (fails_early (writes c.args.writer.now) (writes c.put_all.new.writer) line (flat_map row_text rows)
          (subst P (c.as_slice.ensures.value ∙ c.pool_text.ensures) c.in_err-put_all.ensures)));
      unchanged = refl;
    }

pub returns : goal.returns
returns g c =
    record {
      puts =
          let writes = g.W.Sink.shown in
          let rows = pool_rows (g.H.Heaped.content c.args.heap.now).pools c.args.range.0 in
          let line = pair_line (codes "pool ") c.args.range.0 (codes ": ") c.args.range.1 (codes " bytes") in
          let P : List ℕ → Type 0 = λ text. PutsAll text (writes c.args.writer.now) (writes c.put_all.new.writer) in
          let Q : List ℕ → Type 0 = λ text. Puts c.put_rows_at.result text (writes c.args.writer.now) (writes c.put_rows_at.new.writer) in
          subst Q (rows_text-is c.args.range rows) (puts_then c.put_rows_at.result (writes c.args.writer.now) (writes c.put_all.new.writer) (writes c.put_rows_at.new.writer) line (flat_map row_text rows)
          (subst P (c.as_slice.ensures.value ∙ c.pool_text.ensures) c.in_ok-put_all.ensures) c.put_rows_at.ensures.puts);
      unchanged = c.put_rows_at.ensures.unchanged;
    }
