-- The image was put and flushed, or one of both failed.
use Rattle.mtrace_log.proofs.Writing.{puts_done}
use Rattle.mtrace_replay.proofs.Running.SaveLemmas.{put_failed, flushed_then}
use Rattle.mtrace_replay.proofs.runs.save.save.Goals as goal

pub returns-then-is_err : goal.returns-then-is_err
returns-then-is_err g c =
    let saves = c.put_image.ensures.saves in
    record {
      whole = c.put_image.ensures.whole;
      content_is = c.put_image.ensures.content_is;
      image = saves.image;
      is_image = saves.is_image;
      put = put_failed c.put_image.result saves.image (g.I.Sink.shown c.args.image.now) (g.I.Sink.shown c.put_image.new.writer) c.if-is_err.ensures.value saves.put;
    }

pub returns : goal.returns
returns g c =
    let writes = g.I.Sink.shown in
    let saves = c.put_image.ensures.saves in
    let put = puts_done c.put_image.result saves.image (writes c.args.image.now) (writes c.put_image.new.writer) c.if-is_err.ensures.value saves.put in
    record {
      whole = c.put_image.ensures.whole;
      content_is = c.put_image.ensures.content_is;
      image = saves.image;
      is_image = saves.is_image;
      put = flushed_then c.flush.result saves.image (writes c.args.image.now) (writes c.put_image.new.writer) (writes c.flush.new.self) put c.flush.ensures.kept c.flush.ensures.told;
    }
