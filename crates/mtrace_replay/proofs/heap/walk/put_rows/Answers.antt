-- One row's line more in each turn.
use Rattle.std.proofs.Common.{ℕ, List, subst, ap, ◌∙◌, flat_map, rules}
use Rattle.mtrace_log.specs.Output.{PutsAll, PutsBeginning}
use Rattle.mtrace_log.proofs.Writing.{putting_more, putting_fails, puts_exit}
use Rattle.mtrace_replay.specs.Texts.{row_text}
use Rattle.mtrace_replay.proofs.heap.walk.put_rows.Goals as goal

pub loop-next-preserved : goal.loop-next-preserved
loop-next-preserved g c =
    let writes = g.W.Sink.shown in
    let P : List ℕ → Type 0 = λ text. PutsAll text (writes c.loop-next.writer) (writes c.put_all.new.writer) in
    record {
      stands = c.in-Some.ensures.given.next_stands;
      put = putting_more (writes c.args.writer.now) (writes c.loop-next.writer) (writes c.put_all.new.writer) (flat_map row_text (g.H.Heaped.rest c.args.heap.now c.args.cursor)) _ _
          (flat_map row_text (g.H.Heaped.rest c.row.new.self c.in-Some.next.1))
          c.loop-next.invariant.put (ap (flat_map row_text) c.in-Some.ensures.given.some) (subst P (c.as_slice.ensures.value ∙ c.row_text.ensures) c.in_ok-put_all.ensures);
      same = c.in-Some.ensures.unchanged.content ∙ c.loop-next.invariant.same;
    }

pub returns-in_err-put_all : goal.returns-in_err-put_all
returns-in_err-put_all g c =
    record {
      puts =
          let writes = g.W.Sink.shown in
          let P : List ℕ → Type 0 = λ text. PutsBeginning text (writes c.loop-next.writer) (writes c.put_all.new.writer) in
          puts_exit c.from_residual.result _ c.from_residual.ensures.1 _ (writes c.args.writer.now) (writes c.put_all.new.writer)
          (putting_fails (writes c.args.writer.now) (writes c.loop-next.writer) (writes c.put_all.new.writer) (flat_map row_text (g.H.Heaped.rest c.args.heap.now c.args.cursor)) _ _
          (flat_map row_text (g.H.Heaped.rest c.row.new.self c.in-Some.next.1))
          c.loop-next.invariant.put (ap (flat_map row_text) c.in-Some.ensures.given.some) (subst P (c.as_slice.ensures.value ∙ c.row_text.ensures) c.in_err-put_all.ensures));
      unchanged = search rules;
    }
