-- What the line adds to what is wrong.
use Rattle.std.proofs.Common.{◌++◌, List, ap, sym, ◌∙◌}
use Rattle.mtrace_replay.specs.declared.held.diagnostic.Diagnostic.{Diagnostic}
use Rattle.mtrace_replay.specs.Replay.{heap_notes}
use Rattle.mtrace_replay.proofs.Running.RunLemmas.{notes_more}
use Rattle.mtrace_replay.proofs.heap.replay.ReplayHeapLineReplay.take_line.Goals as goal

pub returns : goal.returns
returns c =
    let fed = c.in-Ok.ensures in
    record {
      stands = fed.stands;
      told = λ settings past stands. notes_more settings c.args.event past ∙ ap (λ (all : List Diagnostic). heap_notes settings past ++ all) (sym (fed.diagnostics settings past stands));
      counted = fed.counted;
      ready = tt;
      fixed = fed.records;
      memory = tt;
    }
