-- The heap's own promise, for its content.
use Rattle.std.proofs.Common.{ap}
use Rattle.mtrace_replay.specs.Replay.{Replayed}
use Rattle.mtrace_replay.proofs.heap.replay.Replay+Heap.put_image.Goals as goal

pub returns : goal.returns
returns g c = record { whole = c.self.inside.holder.heap.content; content_is = ap (λ (r : Replayed). r.content) c.self.view_is; saves = c.save_image.ensures.saved }
