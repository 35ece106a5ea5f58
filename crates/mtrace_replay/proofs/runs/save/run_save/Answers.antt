-- The replay that ended is that of the lines read.
use Rattle.std.proofs.Common.{◌≡◌, ◌⊎◌, refl, subst, inl, inr}
use Rattle.std.specs.Prelude.{Result, Ok, Err}
use Rattle.mtrace_log.specs.declared.failed.Failed.{Failed}
use Rattle.mtrace_replay.specs.declared.runs.status.Status.{Status}
use Rattle.mtrace_replay.specs.declared.runs.status.RunFault.{RunFault}
use Rattle.mtrace_replay.specs.declared.runs.status.RunFault.TheVariants.{Image}
use Rattle.mtrace_replay.specs.Course.{course}
use Rattle.mtrace_replay.specs.Reporting.{PutsAndFlushes}
use Rattle.mtrace_replay.specs.Saving.{EndsWithImage, RunsAndSaves}
use Rattle.mtrace_replay.proofs.Running.RunLemmas.{replays_by}
use Rattle.mtrace_replay.proofs.runs.save.run_save.Given.{Over}
use Rattle.mtrace_replay.proofs.runs.save.run_save.Goals.{After-save}
use Rattle.mtrace_replay.proofs.runs.save.run_save.Goals as goal

same_status : (one other : Status) → (let first : Result Status RunFault = Ok one in first ≡ Ok other) → one ≡ other
same_status one other same = cc

-- the run without a report, and what was saved behind it
saved : (g : Over) (c : After-save g) (answer : Result Status RunFault) → PutsAndFlushes answer c.save.ensures.image (g.I.Sink.shown c.args.image.now) (g.I.Sink.shown c.save.new.image)
    → (answer ≡ Ok c.in_ok-ended.ended.status) ⊎ (answer ≡ Err Image)
    → RunsAndSaves c.args.settings answer (course g.R.Source.shown c.args.reader.now c.replay_log.new.reader) (course g.W.Sink.shown c.args.writer.now c.replay_log.new.writer) (course g.I.Sink.shown c.args.image.now c.save.new.image)
saved g c answer put answer_is =
    let ended = c.in_ok-ended.ended in
    let E : Status → Type 0 = λ status. EndsWithImage c.args.settings status answer (course g.R.Source.shown c.args.reader.now c.replay_log.new.reader) (course g.W.Sink.shown c.args.writer.now c.replay_log.new.writer)
    (course g.I.Sink.shown c.args.image.now c.save.new.image) in
    let ends : E ended.status = record {
      content = ended.replay.content;
      replays = replays_by c.args.settings ended.status ended.replay _ _ _ _ (c.in_ok-ended.ensures.last refl);
      saves = record { whole = c.save.ensures.whole; content_is = c.save.ensures.content_is; image = c.save.ensures.image; is_image = c.save.ensures.is_image; put = put };
      answer = answer_is;
    } in
    record { run = Ok ended.status; runs = c.in_ok-ended.ensures.ran; run_fault = λ fault is. absurd (cc); finished = λ status is. subst E (same_status ended.status status is) ends }

pub returns-in-Ok : goal.returns-in-Ok
returns-in-Ok g c =
    let P : Result (Unit {0}) Failed → Type 0 = λ result. PutsAndFlushes result c.save.ensures.image (g.I.Sink.shown c.args.image.now) (g.I.Sink.shown c.save.new.image) in
    saved g (goal.at.returns-in-Ok g c).After-save (Ok c.in_ok-ended.ended.status) (subst P c.in-Ok.is c.save.ensures.put) (inl refl)

pub returns : goal.returns
returns g c =
    let P : Result (Unit {0}) Failed → Type 0 = λ result. PutsAndFlushes result c.save.ensures.image (g.I.Sink.shown c.args.image.now) (g.I.Sink.shown c.save.new.image) in
    saved g (goal.at.returns g c).After-save (Err Image) (subst P c.in-Err.is c.save.ensures.put) (inr refl)
