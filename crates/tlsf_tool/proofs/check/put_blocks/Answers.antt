-- The blocks are put, and then the writer is asked to flush.
use Rattle.tlsf_heap.specs.Bare.{bare}
use Rattle.mtrace_replay.specs.Texts.{walk_report}
use Rattle.mtrace_replay.proofs.Running.SaveLemmas.{flushed_then}
use Rattle.tlsf_tool.proofs.check.put_blocks.Goals as goal

pub returns : goal.returns
returns g c =
    let writes = g.W.Sink.shown in
    flushed_then c.flush.result (walk_report (bare c.args.heap.content)) (writes c.args.writer.now) (writes c.put_walk.new.writer) (writes c.flush.new.self)
    c.in_ok-put_walk.ensures.puts c.flush.ensures.kept c.flush.ensures.told
