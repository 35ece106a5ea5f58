-- What lines need of a pool, with one line more, and at the end of a run.
use Rattle.std.proofs.Common.{◌≡◌, ◌||◌, ℕ, ◌+◌, ◌≤◌, Bool, Option, None, List, [], ◌∷◌, length, reverse, refl, sym, ap, ◌∙◌, subst, arith}
use Rattle.std.specs.Prelude.{Some, sum_by, max, nat_lt, if◌then◌else◌}
use Rattle.tlsf_heap.specs.Pools.{most_records}
use Rattle.tlsf_class.specs.Classes.{unit}
use Rattle.mtrace_log.specs.Shown.{ReaderState, WriterState}
use Rattle.mtrace_log.specs.Output.{Wrote, Begins}
use Rattle.mtrace_replay.specs.declared.heap.settings.Settings.{Settings}
use Rattle.mtrace_replay.specs.declared.runs.needs.Needs.{Needs}
use Rattle.mtrace_replay.specs.declared.runs.needs.NeedsReplay.{NeedsReplay}
use Rattle.mtrace_replay.specs.declared.runs.report.Report.TheVariants.{Nothing}
use Rattle.mtrace_replay.specs.declared.runs.status.Status.{Status}
use Rattle.mtrace_replay.specs.declared.runs.status.Status.TheVariants.{Clean, Found}
use Rattle.mtrace_replay.specs.Started.{started}
use Rattle.mtrace_replay.specs.Moment.{ReadLine, Given, Moment, half}
use Rattle.mtrace_replay.specs.History.{next_moment, moments, notes, held, pending, content_after}
use Rattle.mtrace_replay.specs.Totals.{blocks_in, asked_bytes_in, rounded_bytes_in, is_served, Measures, IsMost}
use Rattle.mtrace_replay.specs.Asked.{bytes_asked, class_asked, greater_class}
use Rattle.mtrace_replay.specs.Replay.{Replayed, StandsFor, entries}
use Rattle.mtrace_replay.specs.declared.runs.fronted.Fronted.{Fronted}
use Rattle.mtrace_replay.specs.Fronted.{fronted as fronted_lines, fronted_moments, fronted_rules}
use Rattle.mtrace_replay.specs.Reporting.{TellsNothing, Reports, StopsAtWrite}
use Rattle.mtrace_replay.specs.Following.{Notes, HasReadUpTo, has_some, HasFollowed}
use Rattle.mtrace_replay.specs.Needs.{of_one, bytes_of_block, Exchanges, BehindExchange, AreNeeds, needs_rules, EndsWithNeeds}
use Rattle.mtrace_replay.proofs.History.TotalsLemmas.{measure_is_one, none_measured, most_none, most_goes_on}
use Rattle.mtrace_replay.proofs.OnHeap.HeldFew.{rounded_few}
use Rattle.mtrace_replay.proofs.History.GivenSize.{given_size, given_vacant}
use Rattle.mtrace_replay.proofs.History.HeldSums.{freed_of, sum-freed, sum-changes, blocks_summed, bytes_summed, rounded_summed}
use Rattle.mtrace_replay.proofs.History.TotalsStep.{served_more}
use Rattle.mtrace_replay.proofs.Running.RunLemmas.{end_text, begins_report, reports_all}
use Rattle.mtrace_replay.proofs.Running.FrontedLemmas.{half_fronted}

-- what no line needs
pub needs_none : (settings : Settings) → AreNeeds (started settings) [] (record { most = 0; rounded = 0; most_rounded = 0; class_size = Some unit })
unfolding moments
needs_none settings = record {
  most = (0, most_none blocks_in refl);
  rounded = none_measured rounded_bytes_in refl;
  most_rounded = (0, most_none rounded_bytes_in refl);
  class = refl;
}

-- one line more
module _ (old new : Replayed) (settings : Settings) (past : List ReadLine) (line : ReadLine) (before : StandsFor old settings past) (after : StandsFor new settings (line ∷ past))
    (needs more : Needs) (are : AreNeeds (started settings) past needs) where
  abbrev ms : List Moment
  ms = moments (started settings) past

  abbrev now : Moment
  now = next_moment (started settings) line past ms

  -- what the line frees
  abbrev freed : Option Given
  freed = freed_of now.taken old.given

  -- a sum over what is held goes on so
  changes : (f : Given → ℕ) → sum_by f new.given + of_one f freed ≡ of_one f now.given + sum_by f old.given
  unfolding moments
  changes f = sum-changes ms now (given_vacant (length past) line (pending past) (held ms) (content_after (started settings) ms)) old.given new.given before.held after.held f

  freed_within : (f : Given → ℕ) → of_one f freed ≤ sum_by f old.given
  unfolding moments
  freed_within f = sum-freed ms now (given_vacant (length past) line (pending past) (held ms) (content_after (started settings) ms)) old.given new.given before.held after.held f

  measured : (measure : List Given → ℕ) (n : ℕ) → Measures measure ms n → n ≡ measure old.given
  measured measure n is = measure_is_one measure ms n (measure old.given) is (record { all = old.given; held = before.held; measured = refl })

  measured_now : (measure : List Given → ℕ) (n : ℕ) → Measures measure (now ∷ ms) n → n ≡ measure new.given
  unfolding moments
  measured_now measure n is = measure_is_one measure (now ∷ ms) n (measure new.given) is (record { all = new.given; held = after.held; measured = refl })

  blocks_were : old.totals.live_blocks ≡ sum_by (λ (given : Given). 1) old.given
  blocks_were = measured blocks_in old.totals.live_blocks before.totals.live_blocks ∙ blocks_summed old.given

  bytes_were : old.totals.live_bytes ≡ sum_by (λ (given : Given). given.entry.size) old.given
  bytes_were = measured asked_bytes_in old.totals.live_bytes before.totals.live_bytes ∙ bytes_summed old.given

  exchanges : Exchanges (bytes_asked line) old.totals new.totals freed now.given
  unfolding moments
  exchanges = record {
    served = served_more now ms old.totals.served new.totals.served before.totals.served after.totals.served;
    size = by_given now.given refl;
    blocks = omega (arith, changes (λ given. 1), blocks_were, measured_now blocks_in new.totals.live_blocks after.totals.live_blocks, blocks_summed new.given);
    bytes = omega (arith, changes (λ given. given.entry.size), bytes_were, measured_now asked_bytes_in new.totals.live_bytes after.totals.live_bytes, bytes_summed new.given);
    within_blocks = omega (arith, blocks_were, freed_within (λ given. 1));
    within_bytes = omega (arith, bytes_were, freed_within (λ given. given.entry.size));
  }
    where
      by_given : (gave : Option Given) → now.given ≡ gave → of_one (λ given. given.entry.size) gave ≡ of_one (λ given. bytes_asked line) gave
      by_given None none = refl
      by_given (Some given) gave = given_size (length past) line (pending past) (held ms) (content_after (started settings) ms) given gave

  module _ (few : length old.given ≤ most_records) (behind : BehindExchange (bytes_asked line) old.totals new.totals needs.rounded more.rounded) where
    rounded_now : Measures rounded_bytes_in (now ∷ ms) more.rounded
    unfolding moments
    rounded_now =
        let were = measured rounded_bytes_in needs.rounded are.rounded in
        record {
          all = new.given;
          held = after.held;
          measured = behind freed now.given (rounded_bytes_in new.given) exchanges (omega (arith, were, rounded_few old.given, few))
              (omega (arith, changes bytes_of_block, were, rounded_summed old.given, rounded_summed new.given));
        }

    pub needs_more : more.most ≡ max needs.most new.totals.live_blocks → more.most_rounded ≡ max needs.most_rounded more.rounded
        → more.class_size ≡ (if nat_lt old.totals.served new.totals.served then greater_class needs.class_size (class_asked line) else needs.class_size) → AreNeeds (started settings) (line ∷ past) more
    unfolding moments
    needs_more most_is most_rounded class_is = record {
      most = subst (IsMost blocks_in (now ∷ ms)) (sym most_is) (most_goes_on blocks_in now ms needs.most new.totals.live_blocks after.totals.live_blocks are.most);
      rounded = rounded_now;
      most_rounded = subst (IsMost rounded_bytes_in (now ∷ ms)) (sym most_rounded) (most_goes_on rounded_bytes_in now ms needs.most_rounded more.rounded rounded_now are.most_rounded);
      class = class_is
          ∙ ap (λ b. if b then greater_class needs.class_size (class_asked line) else needs.class_size) exchanges.served
          ∙ ap (λ size. if is_served now then greater_class size (class_asked line) else size) are.class;
    }

-- all lines were followed, each request larger by the front
module _ (front : ℕ) (settings : Settings) (fronted : Fronted NeedsReplay) (has_diagnostics : Bool) (reader_old reader_new : ReaderState) (writer_old writer_middle writer_new : WriterState)
    (done : HasFollowed ((fronted_rules needs_rules).Stands (front, settings) fronted) (λ past. notes (fronted_moments front settings past)) (Notes (λ past. notes (fronted_moments front settings past)))
    has_diagnostics reader_old reader_new writer_old writer_middle) where
  abbrev pub its : Replayed
  its = fronted.replay.replay

  abbrev last_is : half its.totals.lines its.pending ≡ half (length done.lines) (pending (reverse done.lines))
  last_is = half_fronted front done.lines its.totals.lines its.pending done.stands.1.0.lines_are done.stands.1.0.pending_is

  -- the writer failed at the end
  pub needs_write : Begins writer_middle writer_new (end_text Nothing its) → StopsAtWrite HasReadUpTo (fronted_moments front settings) TellsNothing reader_old reader_new writer_old writer_new
  needs_write begins =
      begins_report ((fronted_rules needs_rules).Stands (front, settings) fronted) (fronted_moments front settings) TellsNothing has_diagnostics reader_old reader_new writer_old writer_middle writer_new done
      (half its.totals.lines its.pending) last_is [] refl HasReadUpTo begins

  -- all was written
  abbrev pub needs_all : (status : Status) → Wrote writer_middle writer_new (end_text Nothing its)
      → status ≡ (if has_diagnostics || (has_some (half its.totals.lines its.pending) || has_some (entries its)) then Found else Clean)
      → Reports (fronted_moments front settings) TellsNothing status reader_old reader_new writer_old writer_new
  needs_all status wrote is =
      reports_all ((fronted_rules needs_rules).Stands (front, settings) fronted) (fronted_moments front settings) TellsNothing has_diagnostics reader_old reader_new writer_old writer_middle writer_new done
      (half its.totals.lines its.pending) last_is [] refl its.given done.stands.1.0.held (entries its) refl status wrote is

  -- and what the lines need
  pub ends_with_needs : (end : Replayed) (status : Status) → Wrote writer_middle writer_new (end_text Nothing its)
      → status ≡ (if has_diagnostics || (has_some (half its.totals.lines its.pending) || has_some (entries its)) then Found else Clean)
      → end ≡ its → its.content.records ≡ settings.records → EndsWithNeeds front settings status (record { replay = end; needs = fronted.replay.needs }) reader_old reader_new writer_old writer_new
  ends_with_needs end status wrote is kept records = record {
    reports = needs_all status wrote is;
    stands = subst (λ (r : Replayed). StandsFor r settings (fronted_lines front (reverse done.lines))) (sym kept) done.stands.1.0;
    records = ap (λ (r : Replayed). r.content.records) kept ∙ records;
    needs = done.stands.1.1;
  }
