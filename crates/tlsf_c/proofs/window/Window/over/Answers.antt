use Rattle.std.proofs.Common.{◌++◌, ap, ◌∙◌}
use Rattle.tlsf_c.specs.declared.window_trace.WindowTrace.{WindowTrace}
use Rattle.tlsf_c.proofs.RoomLemmas.{placed_at_first}
use Rattle.tlsf_c.proofs.window.Window.over.Goals as goal

-- nothing is put yet
pub invariant_of-result-clause-kept : goal.invariant_of-result-clause-kept
invariant_of-result-clause-kept c =
    placed_at_first c.args.room.now c.add.new.self.bytes (ap (λ (t : WindowTrace). t.bytes) c.add.ensures ∙ ap (λ (t : WindowTrace). t.bytes ++ c.args.room.now) c.new-trace.ensures)
