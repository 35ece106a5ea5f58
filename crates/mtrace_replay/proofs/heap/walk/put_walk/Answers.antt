-- One pool's text more in each turn.
use Rattle.std.proofs.Common.{ℕ, ◌+◌, ◌≤◌, List, length, map, drop, flat_map, subst, ap, ◌∙◌, arith, rules}
use Rattle.std.proofs.Math.ListN.{get_or}
use Rattle.std.proofs.lemmas.List.{drop_all}
use Rattle.mtrace_log.specs.Output.{PutsAll, PutsBeginning}
use Rattle.mtrace_log.proofs.Writing.{putting_more, putting_fails, putting_ends, puts_exit}
use Rattle.tlsf_heap.specs.Content.{Content}
use Rattle.tlsf_heap.specs.Counted.{range_of}
use Rattle.mtrace_replay.specs.Texts.{rows_text}
use Rattle.mtrace_replay.specs.Rows.{pool_rows}
use Rattle.mtrace_replay.proofs.OnHeap.RowLemmas.{by_base, next_of, walk_is}
use Rattle.mtrace_replay.proofs.heap.walk.put_walk.Goals as goal

pub loop-range-preserved : goal.loop-range-preserved
loop-range-preserved g c =
    let writes = g.W.Sink.shown in
    let kept = c.loop-range.invariant in
    let pools = (g.H.Heaped.content c.args.heap.now).pools in
    let all = map range_of pools in
    let items = c.as_slice-range-items.result.now in
    let index = c.loop-range.range-index in
    let item = get_or items index (0, 0) in
    let f = by_base rows_text pools in
    let P : Content ℕ → Type 0 = λ content. PutsAll (rows_text item (pool_rows content.pools item.0)) (writes c.loop-range.writer) (writes c.put_pool.new.writer) in
    let next = next_of f items all index (0, 0) (c.as_slice-range-items.ensures.value ∙ c.pools-pools.ensures.value) c.loop-range-test.true in
    record {
      put = putting_more (writes c.args.writer.now) (writes c.loop-range.writer) (writes c.put_pool.new.writer) (flat_map f all) (flat_map f (drop index all)) (f item) (flat_map f (drop (index + 1) all))
          kept.put next (subst P kept.same c.in_ok-put_pool.ensures.puts);
      same = c.in_ok-put_pool.ensures.unchanged ∙ kept.same;
    }

pub returns-in_err-put_pool : goal.returns-in_err-put_pool
returns-in_err-put_pool g c =
    record {
      puts =
          let writes = g.W.Sink.shown in
          let kept = c.loop-range.invariant in
          let content = g.H.Heaped.content c.args.heap.now in
          let all = map range_of content.pools in
          let items = c.as_slice-range-items.result.now in
          let index = c.loop-range.range-index in
          let item = get_or items index (0, 0) in
          let f = by_base rows_text content.pools in
          let P : Content ℕ → Type 0 = λ content. PutsBeginning (rows_text item (pool_rows content.pools item.0)) (writes c.loop-range.writer) (writes c.put_pool.new.writer) in
          let Q : List ℕ → Type 0 = λ text. PutsBeginning text (writes c.args.writer.now) (writes c.put_pool.new.writer) in
          let next = next_of f items all index (0, 0) (c.as_slice-range-items.ensures.value ∙ c.pools-pools.ensures.value) c.loop-range-test.true in
          puts_exit c.from_residual.result _ c.from_residual.ensures.1 _ (writes c.args.writer.now) (writes c.put_pool.new.writer) (subst Q (walk_is content c.keeps_good.ensures.good)
          (putting_fails (writes c.args.writer.now) (writes c.loop-range.writer) (writes c.put_pool.new.writer) (flat_map f all) (flat_map f (drop index all)) (f item) (flat_map f (drop (index + 1) all))
          kept.put next (subst P kept.same c.in_err-put_pool.ensures.puts)));
      unchanged = search rules;
    }

pub returns : goal.returns
returns g c =
    record {
      puts =
          let writes = g.W.Sink.shown in
          let content = g.H.Heaped.content c.args.heap.now in
          let all = map range_of content.pools in
          let index = c.loop-range.range-index in
          let f = by_base rows_text content.pools in
          let many = ap (λ (ones : List (ℕ × ℕ)). length ones) (c.as_slice-range-items.ensures.value ∙ c.pools-pools.ensures.value) in
          let past : length all ≤ index = omega (arith, many, c.loop-range-test.false) in
          let Q : List ℕ → Type 0 = λ text. PutsAll text (writes c.args.writer.now) (writes c.loop-range.writer) in
          subst Q (walk_is content c.keeps_good.ensures.good)
          (putting_ends (writes c.args.writer.now) (writes c.loop-range.writer) (flat_map f all) (flat_map f (drop index all)) c.loop-range.invariant.put (ap (flat_map f) (drop_all index all past)));
      unchanged = search rules;
    }
