use Rattle.std.proofs.Common.{false, refl, sym, subst, ap, ◌∙◌, reverse, inl}
use Rattle.mtrace_log.specs.Progress.{Progress, CallsFor}
use Rattle.mtrace_log.specs.Shown.{WriterState}
use Rattle.mtrace_log.specs.Trace.{HasTaken}
use Rattle.mtrace_log.specs.declared.call.Call.TheVariants.{Gave, Took, Failed}
use Rattle.mtrace_log.proofs.TraceLemmas.{moved_none, moved_append, moved_then_append}
use Rattle.mtrace_log.proofs.CallLemmas.{calls_more, calls_of_line, calls_to_end, calls_to_fault}
use Rattle.mtrace_replay.proofs.Running.RunLemmas.{flush_asked}
use Rattle.mtrace_replay.proofs.Running.FollowingLemmas.{IsFollowing, following_start, following_line, following_end, following_fault, following_write, following_memory}
use Rattle.mtrace_replay.proofs.runs.following.read_log.Goals as goal

pub loop-number-init : goal.loop-number-init
loop-number-init g c =
    let reader = g.R.Source.shown c.args.reader.now in
    let writer = g.W.Sink.shown c.args.writer.now in
    let rules = g.P.LineReplay.rules in
    record {
      under_way = (λ start stands none.
          subst (λ (lines : Progress). IsFollowing (rules.Stands start c.args.replay.now) (rules.noted start) (rules.Tells start) lines false reader reader writer writer) (sym c.new-lines.ensures)
          (following_start (rules.noted start) (rules.Tells start) (rules.Stands start c.args.replay.now) reader writer stands none (c.requires.told start none)));
      counted = c.requires.start ∙ sym (ap (λ (lines : Progress). lines.count) c.new-lines.ensures);
      ready = c.requires.ready;
      none = c.none-findings.ensures;
      whole = refl;
      fixed = refl;
      gave = subst (λ (lines : Progress). CallsFor lines.stage reader.calls reader.calls) (sym c.new-lines.ensures) (moved_none Gave reader.calls);
      took = moved_none Took writer.calls;
    }

pub returns-in-Ok-None : goal.returns-in-Ok-None
returns-in-Ok-None g c =
    let reads = g.R.Source.shown in
    let rules = g.P.LineReplay.rules in
    let kept = c.loop-number.invariant in
    let found = rw c.in-Ok-None.field-0-is at c.in-Ok-None.ensures.end in
    record {
      ends = λ start stands none. (
        following_end (rules.noted start) (rules.Tells start) reads (rules.Stands start c.loop-number.replay) c.loop-number.lines c.advance.new.self c.loop-number.has_diagnostics (reads c.args.reader.now) c.loop-number.reader c.advance.new.reader
            (g.W.Sink.shown c.args.writer.now) (g.W.Sink.shown c.loop-number.writer) (kept.under_way start stands none) found.1,
        calls_to_end reads (reads c.args.reader.now).calls c.loop-number.lines c.advance.new.self c.loop-number.reader c.advance.new.reader _ _ kept.gave c.in-Ok-None.ensures.calls found.0 found.1,
        kept.took,
      );
      whole = c.advance.ensures.whole ∙ kept.whole;
      fixed = kept.fixed;
    }

-- the reader failed, or there are no numbers left
pub returns-in-Err : goal.returns-in-Err
returns-in-Err g c =
    let reads = g.R.Source.shown in
    let rules = g.P.LineReplay.rules in
    let kept = c.loop-number.invariant in
    let came = calls_to_fault reads (reads c.args.reader.now).calls c.loop-number.lines c.advance.new.self c.loop-number.reader c.advance.new.reader _ _ c.in-Err.field-0 kept.gave c.in-Err.ensures.calls c.in-Err.ensures.fault in
    record {
      ends = λ start stands none. record {
        read_fault = following_fault (rules.noted start) (rules.Tells start) reads (rules.Stands start c.loop-number.replay) c.loop-number.lines c.advance.new.self c.loop-number.has_diagnostics (reads c.args.reader.now) c.loop-number.reader c.advance.new.reader
            (g.W.Sink.shown c.args.writer.now) (g.W.Sink.shown c.loop-number.writer) (kept.under_way start stands none) c.in-Err.field-0 _ c.in-Err.ensures.fault c.in-Err.ensures.nothing_held came c.flush.ensures.kept;
        flush_asked = flush_asked c.flush.result _ _ _ kept.took c.flush.ensures.told;
      };
      whole = c.advance.ensures.whole ∙ kept.whole;
      fixed = kept.fixed;
    }

pub loop-number-preserved : goal.loop-number-preserved
loop-number-preserved g c =
    let reads = g.R.Source.shown in
    let writes = g.W.Sink.shown in
    let rules = g.P.LineReplay.rules in
    let kept = c.loop-number.invariant in
    let passed = rw c.in-Ok-Some.field-0-is at c.in-Ok-Some.ensures.line in
    let given = passed c.event.result c.event.ensures in
    let taken = c.in-Ok.ensures in
    let told = c.in-Ok-tell_line.ensures in
    record {
      under_way = (λ start stands none.
          let under = kept.under_way start stands none in
          let past = reverse under.so_far.lines in
          let stood = taken.stands start past under.so_far.stands in
          let noted_is = taken.told start past under.so_far.stands in
          following_line (rules.noted start) (rules.Tells start) (rules.Stands start c.loop-number.replay) (rules.Stands start c.take_line.new.self) c.loop-number.lines c.advance.new.self c.loop-number.has_diagnostics
          (reads c.args.reader.now) (reads c.loop-number.reader) (reads c.advance.new.reader) (writes c.args.writer.now) (writes c.loop-number.writer) (writes c.tell_line.new.writer)
          (record { number = c.in-Ok-Some.number; event = c.event.result }) under given
          stood c.take_line.new.findings noted_is told.text (told.adds start c.event.result past under.text stood noted_is under.told) c.in-Ok-tell_line.more told.put.wrote told.more_is);
      counted = taken.counted ∙ sym given.count;
      ready = taken.ready;
      none = told.cleared;
      whole = c.in-Ok-Some.ensures.whole ∙ kept.whole;
      fixed = taken.fixed ∙ kept.fixed;
      gave = calls_more c.loop-number.lines.stage c.advance.new.self.stage _ _ _ given.was_reading kept.gave c.in-Ok-Some.ensures.calls;
      took = moved_append Took _ _ _ kept.took told.put.took;
    }

-- memory was refused
pub returns-in-Err-take_line : goal.returns-in-Err-take_line
returns-in-Err-take_line g c =
    let reads = g.R.Source.shown in
    let writes = g.W.Sink.shown in
    let rules = g.P.LineReplay.rules in
    let kept = c.loop-number.invariant in
    let passed = rw c.in-Ok-Some.field-0-is at c.in-Ok-Some.ensures.line in
    let given = passed c.event.result c.event.ensures in
    record {
      ends = λ start stands none. (
        record {
          memory = following_memory (rules.noted start) (rules.Tells start) (rules.Stands start c.loop-number.replay) (rules.Stands start c.take_line.new.self) c.loop-number.lines c.advance.new.self c.loop-number.has_diagnostics
              (reads c.args.reader.now) (reads c.loop-number.reader) (reads c.advance.new.reader) (writes c.args.writer.now) (writes c.loop-number.writer) _
              (record { number = c.in-Ok-Some.number; event = c.event.result }) (kept.under_way start stands none) given c.flush-in-Err-take_line.ensures.kept;
          flush_asked = flush_asked c.flush-in-Err-take_line.result _ _ _ kept.took c.flush-in-Err-take_line.ensures.told;
          reader_not_failed = calls_of_line c.advance.new.self.stage _ _ _ _ _ given.taken
              (calls_more c.loop-number.lines.stage c.advance.new.self.stage _ _ _ given.was_reading kept.gave c.in-Ok-Some.ensures.calls);
        },
        c.in-Err-take_line.ensures.memory,
      );
      whole = c.advance.ensures.whole ∙ kept.whole;
      fixed = c.in-Err-take_line.ensures.fixed ∙ kept.fixed;
    }

-- the writer failed
pub returns-in-Err-Write : goal.returns-in-Err-Write
returns-in-Err-Write g c =
    let reads = g.R.Source.shown in
    let writes = g.W.Sink.shown in
    let rules = g.P.LineReplay.rules in
    let kept = c.loop-number.invariant in
    let passed = rw c.in-Ok-Some.field-0-is at c.in-Ok-Some.ensures.line in
    let given = passed c.event.result c.event.ensures in
    let taken = c.in-Ok.ensures in
    let told = rw c.in-Err-Write.field-0-is at c.in-Err-Write.ensures in
    record {
      ends = λ start stands none.
          let under = kept.under_way start stands none in
          let past = reverse under.so_far.lines in
          let stood = taken.stands start past under.so_far.stands in
          let noted_is = taken.told start past under.so_far.stands in
          record {
            write_fault = following_write (rules.noted start) (rules.Tells start) (rules.Stands start c.loop-number.replay) (rules.Stands start c.take_line.new.self) c.loop-number.lines c.advance.new.self c.loop-number.has_diagnostics
                (reads c.args.reader.now) (reads c.loop-number.reader) (reads c.advance.new.reader) (writes c.args.writer.now) (writes c.loop-number.writer) (writes c.tell_line.new.writer)
                (record { number = c.in-Ok-Some.number; event = c.event.result }) under given
                stood c.take_line.new.findings noted_is told.text (told.adds start c.event.result past under.text stood noted_is under.told) told.put.begun;
            writer_failed = inl (moved_then_append Took Failed _ _ _ kept.took told.put.failed);
            reader_not_failed = calls_of_line c.advance.new.self.stage _ _ _ _ _ given.taken
                (calls_more c.loop-number.lines.stage c.advance.new.self.stage _ _ _ given.was_reading kept.gave c.in-Ok-Some.ensures.calls);
          };
      whole = c.advance.ensures.whole ∙ kept.whole;
      fixed = taken.fixed ∙ kept.fixed;
    }

-- memory was refused for what is told
pub returns-in-Err-OutOfMemory : goal.returns-in-Err-OutOfMemory
returns-in-Err-OutOfMemory g c =
    let reads = g.R.Source.shown in
    let writes = g.W.Sink.shown in
    let rules = g.P.LineReplay.rules in
    let kept = c.loop-number.invariant in
    let passed = rw c.in-Ok-Some.field-0-is at c.in-Ok-Some.ensures.line in
    let given = passed c.event.result c.event.ensures in
    let wanted = rw c.in-Err-OutOfMemory.field-0-is at c.in-Err-OutOfMemory.ensures in
    let same = wanted.1 in
    record {
      ends = λ start stands none. (
        record {
          memory = following_memory (rules.noted start) (rules.Tells start) (rules.Stands start c.loop-number.replay) (rules.Stands start c.take_line.new.self) c.loop-number.lines c.advance.new.self c.loop-number.has_diagnostics
              (reads c.args.reader.now) (reads c.loop-number.reader) (reads c.advance.new.reader) (writes c.args.writer.now) (writes c.loop-number.writer) _
              (record { number = c.in-Ok-Some.number; event = c.event.result }) (kept.under_way start stands none) given (c.flush-in-Err-OutOfMemory.ensures.kept ∙ ap (λ (writer : WriterState). writer.taken) same);
          flush_asked = flush_asked c.flush-in-Err-OutOfMemory.result _ _ _ (subst (λ (writer : WriterState). HasTaken (writes c.args.writer.now).calls writer.calls) (sym same) kept.took) c.flush-in-Err-OutOfMemory.ensures.told;
          reader_not_failed = calls_of_line c.advance.new.self.stage _ _ _ _ _ given.taken
              (calls_more c.loop-number.lines.stage c.advance.new.self.stage _ _ _ given.was_reading kept.gave c.in-Ok-Some.ensures.calls);
        },
        wanted.0,
      );
      whole = c.advance.ensures.whole ∙ kept.whole;
      fixed = c.in-Ok.ensures.fixed ∙ kept.fixed;
    }
