use Rattle.std.specs.List.{All}
use Rattle.std.proofs.Common.{◌≡◌, ◌+◌, ◌≤◌, ℕ, suc, List, [], ◌∷◌, ◌++◌, map, take, sym, ap, subst, ◌∙◌, arith, inl, inr, refl, reverse}
use Rattle.std.proofs.Math.ListN.{get_or}
use Rattle.std.proofs.lemmas.List.{take_all}
use Rattle.mtrace_log.specs.Progress.{Progress}
use Rattle.mtrace_log.specs.Trace.{HasNotFailed}
use Rattle.mtrace_log.specs.declared.call.Call.{Call}
use Rattle.mtrace_log.specs.declared.call.Call.TheVariants.{Gave}
use Rattle.mtrace_log.proofs.TraceLemmas.{moved_none}
use Rattle.mtrace_log.specs.Shown.{Bytes}
use Rattle.mtrace_replay.specs.declared.ledger.point.LedgerPoint.{LedgerPoint}
use Rattle.mtrace_replay.specs.declared.runs.reading.Stop.TheVariants.{Reader, Memory}
use Rattle.mtrace_replay.specs.Again.{HasReadFirst}
use Rattle.mtrace_replay.specs.Replaying.{HasGivenSo}
use Rattle.mtrace_replay.specs.LedgerReplay.{LedgerStandsFor}
use Rattle.mtrace_replay.specs.LedgerTimeline.{IsPointOfLines}
use Rattle.mtrace_replay.specs.Texts.{greatest}
use Rattle.mtrace_replay.proofs.Running.ReplayingLemmas.{followed_start}
use Rattle.mtrace_replay.proofs.Running.AgainLemmas.{read_first}
use Rattle.mtrace_replay.proofs.Running.Points.{HasGathered, greatest_taken, up_to_next, gathered_more, lines_more, within_more}
use Rattle.mtrace_replay.proofs.Running.TriedLemmas.{fails_again}
use Rattle.mtrace_replay.proofs.ledger.timeline.read_points.Goals as goal

pub loop-number-init : goal.loop-number-init
loop-number-init g c =
    let start = g.R.Source.shown c.begin.new.self in
    let items = c.in-Ok.ensures.items in
    let line_of : LedgerPoint → ℕ = λ point. point.line in
    let G : List LedgerPoint → Progress → Type 0 = λ all lines. HasGathered line_of IsPointOfLines all (LedgerStandsFor c.new-replay.result) lines start start in
    let none : All (λ (point : LedgerPoint). point.line ≤ c.new-reading.result.count) [] = λ k other inside. absurd (omega (arith, inside)) in
    record {
      so_far = subst (λ all. G all c.new-reading.result) (sym items) (subst (G []) (sym c.new-reading.ensures)
          (record { now = followed_start (LedgerStandsFor c.new-replay.result) start c.new-replay.ensures; exact = λ k other inside. absurd (omega (arith, inside)) }));
      told = ap (map line_of) items;
      within = subst (All (λ (point : LedgerPoint). point.line ≤ c.new-reading.result.count)) (sym items) none;
      reached = ap (λ (lines : Progress). lines.count) c.new-reading.ensures;
      counted = c.new-replay.ensures.lines_are ∙ sym (ap (λ (lines : Progress). lines.count) c.new-reading.ensures);
      gave = subst (λ (lines : Progress). HasGivenSo lines.stage start start) (sym c.new-reading.ensures) (moved_none Gave start.calls, inl (moved_none Gave start.calls));
      many = c.in-Ok.ensures.len;
      room = c.in-Ok.ensures.capacity;
    }

pub follow_up_to-requires-clause-ahead : goal.follow_up_to-requires-clause-ahead
follow_up_to-requires-clause-ahead g c =
    let numbers = c.args.numbers.now in
    omega (arith, c.loop-number.invariant.reached, up_to_next numbers c.loop-number.number-index c.requires.rising c.loop-number-test.true)

-- memory was refused
pub returns-in-Err-Memory : goal.returns-in-Err-Memory
returns-in-Err-Memory g c =
    let reads = g.R.Source.shown in
    let kept = c.loop-number.invariant in
    let began = c.in-Ok-begin.ensures in
    record {
      done = tt;
      not_failed = tt;
      faults = inr refl;
      fails = λ is. absurd (cc);
      memory = λ is. inr (let P : List Call → Type 0 = λ calls. HasNotFailed calls (reads c.follow_up_to.new.reader).calls in
          subst P began.told (c.in-Err-Memory.ensures.memory c.in-Err-Memory.field-0-is (reads c.begin.new.self) kept.gave));
    }

-- the reader stopped
pub returns-in-Err-Reader : goal.returns-in-Err-Reader
returns-in-Err-Reader g c =
    let began = c.in-Ok-begin.ensures in
    let kept = c.loop-number.invariant in
    record {
      done = tt;
      not_failed = tt;
      faults = inl refl;
      fails = λ is many all within. fails_again many _ _ _ began.left began.whole began.told
          (c.in-Err-Reader.ensures.stops (λ is. let clash : Reader ≡ Memory = sym c.in-Err-Reader.field-0-is ∙ is in cc) tt _ many kept.so_far.now kept.gave
          (all c.loop-number.number-index 0 c.loop-number-test.true) within);
      memory = λ is. absurd (cc);
    }

pub loop-number-preserved : goal.loop-number-preserved
loop-number-preserved g c =
    let reads = g.R.Source.shown in
    let kept = c.loop-number.invariant in
    let numbers = c.args.numbers.now in
    let index = c.loop-number.number-index in
    let points = c.loop-number.points.items in
    let point = c.ledger_point.result in
    let read = c.in-Ok-follow_up_to.ensures in
    let replay = c.follow_up_to.new.replay in
    let start = reads c.begin.new.self in
    let items = c.push_reserved.ensures.items in
    let number = get_or numbers index 0 in
    let line : point.line ≡ number = c.ledger_point.ensures.line ∙ read.counted ∙ read.reached in
    let up : c.loop-number.reading.count ≤ c.follow_up_to.new.self.count = omega (arith, kept.reached, up_to_next numbers index c.requires.rising c.loop-number-test.true, read.reached) in
    let next = read.following tt start kept.so_far.now in
    let G : List LedgerPoint → Type 0 = λ all. HasGathered (λ (one : LedgerPoint). one.line) IsPointOfLines all (LedgerStandsFor replay) c.follow_up_to.new.self start (reads c.follow_up_to.new.reader) in
    let all_are : points ++ point ∷ [] ≡ c.push_reserved.new.self.items = sym items in
    record {
      so_far = subst G all_are (gathered_more (λ (one : LedgerPoint). one.line) IsPointOfLines points point (LedgerStandsFor c.loop-number.replay) (LedgerStandsFor replay) c.loop-number.reading c.follow_up_to.new.self
          start (reads c.loop-number.reader) (reads c.follow_up_to.new.reader) kept.so_far next kept.within (c.ledger_point.ensures.line ∙ read.counted)
          (c.ledger_point.ensures.point (reverse next.now.lines) next.now.stands));
      told = lines_more (λ (one : LedgerPoint). one.line) numbers index points point c.push_reserved.new.self.items kept.told items line c.loop-number-test.true;
      within = within_more (λ (one : LedgerPoint). one.line) c.loop-number.reading.count c.follow_up_to.new.self.count points point c.push_reserved.new.self.items items kept.within up (omega (arith, line, read.reached));
      reached = read.reached ∙ sym (greatest_taken numbers index c.requires.rising c.loop-number-test.true) ∙ ap (λ n. greatest (take n numbers)) (let next : suc index ≡ index + 1 = omega arith in next);
      counted = read.counted;
      gave = read.gave start kept.gave;
      many = omega (arith, c.push_reserved.ensures.len, kept.many);
      room = omega (arith, c.push_reserved.ensures.capacity, kept.room);
    }

pub returns : goal.returns
returns g c =
    let reads = g.R.Source.shown in
    let kept = c.loop-number.invariant in
    let began = c.in-Ok-begin.ensures in
    let numbers = c.args.numbers.now in
    let index = c.loop-number.number-index in
    let all : take index numbers ≡ numbers = take_all index numbers (omega (arith, c.loop-number-test.false)) in
    let so_far = kept.so_far in
    record {
      done =
          let P : Bytes → Type 0 = λ start. HasReadFirst (greatest numbers) start (reads c.loop-number.reader).left so_far.now.lines in
          let first = read_first (LedgerStandsFor c.loop-number.replay) c.loop-number.reading (reads c.begin.new.self) (reads c.loop-number.reader) so_far.now c.holds_few.ensures in
          record {
            again = so_far.now.lines;
            read = subst P began.left (subst (λ n. HasReadFirst n (reads c.begin.new.self).left (reads c.loop-number.reader).left so_far.now.lines) (kept.reached ∙ ap greatest all) first);
            told = kept.told ∙ all;
            exact = so_far.exact;
          };
      not_failed = (let P : List Call → Type 0 = λ calls. HasNotFailed calls (reads c.loop-number.reader).calls in subst P began.told kept.gave.1);
      faults = tt;
      fails = λ is. absurd (cc);
      memory = λ is. absurd (cc);
    }
