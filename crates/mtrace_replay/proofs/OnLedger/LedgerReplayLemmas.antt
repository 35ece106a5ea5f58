-- A replay without a heap stands for one line more.
use Rattle.std.proofs.Math.Path.{fun_ext}
use Rattle.std.proofs.Common.{cond, Bool, Option, true, false, Some, None, ◌≡◌, ℕ, suc, ◌+◌, List, [], ◌∷◌, length, map, inl, inr, refl, sym, ap, ◌∙◌, subst, arith}
use Rattle.std.specs.Prelude.{◌==◌, ◌++◌, is_some, count_by, nat_lt, if◌then◌else◌, option_map}
use Rattle.std.specs.List.Sorted.{IsStrictlyIncreasing}
use Rattle.mtrace_replay.specs.Entry.{Entry}
use Rattle.mtrace_replay.specs.declared.held.diagnostic.Diagnostic.{Diagnostic}
use Rattle.mtrace_replay.specs.Moment.{ReadLine, Given, Moment, Plan, plan, half, is_new}
use Rattle.mtrace_replay.specs.History.{held, held_after, pending, old_address, AreHeld, entries_of}
use Rattle.mtrace_replay.specs.Step.{held_given}
use Rattle.mtrace_replay.specs.Totals.{is_served, first_moments, Measures, IsPeak, asked_bytes_in, blocks_in}
use Rattle.mtrace_replay.specs.Texts.{total_size}
use Rattle.mtrace_replay.specs.Ledger.{entry_under}
use Rattle.mtrace_replay.specs.Calls.{no_calls}
use Rattle.mtrace_replay.specs.Callers.{with_call, with_temporary, calls_in, temporary_in, AreCounted}
use Rattle.mtrace_replay.specs.LedgerReplay.{CountsAct, unplaced, plan_moment, ledger_moment, ledger_moments, found_in, LedgerReplayed, LedgerStandsFor, IsAtPeak, RaisesPeak, ledger_noted}
use Rattle.tlsf_heap.proofs.Counts.{count-cons}
use Rattle.mtrace_replay.proofs.OnLedger.CallsLemmas.{adds}
use Rattle.mtrace_replay.proofs.History.FoundLemmas.{found_is_held, held_as_found, none_held}
use Rattle.std.proofs.lemmas.List.{length-map}
use Rattle.std.proofs.lemmas.Bool.{cases_Bool}
use Rattle.mtrace_replay.specs.Sites.{Site, AreTallied}
use Rattle.mtrace_replay.proofs.History.SortedLemmas.{one_list}
use Rattle.mtrace_replay.proofs.History.TotalsLemmas.{most_none, peak_goes_on, first_moments_all, first_moments_before}

found_unplaced : (all : List Entry) (address : ℕ) → held_given (map unplaced all) address ≡ found_in all address
found_unplaced [] address = refl
found_unplaced (entry ∷ rest) address = by (found_unplaced rest address) (entry.addr == address)
  where
    by : held_given (map unplaced rest) address ≡ found_in rest address → (b : Bool) → cond b (Some (unplaced entry)) (held_given (map unplaced rest) address) ≡ option_map unplaced (cond b (Some entry) (entry_under rest address))
    by later true = refl
    by later false = later

pub entries_unplaced : (all : List Entry) → entries_of (map unplaced all) ≡ all
entries_unplaced [] = refl
entries_unplaced (entry ∷ rest) = ap (λ more. entry ∷ more) (entries_unplaced rest)

addresses_unplaced : (all : List Entry) → map (λ (given : Given). given.entry.addr) (map unplaced all) ≡ map (λ (entry : Entry). entry.addr) all
addresses_unplaced [] = refl
addresses_unplaced (entry ∷ rest) = ap (λ more. entry.addr ∷ more) (addresses_unplaced rest)

pub length-ledger : (past : List ReadLine) → length (ledger_moments past) ≡ length past
unfolding ledger_moments
length-ledger [] = refl
length-ledger (line ∷ past) = ap suc (length-ledger past)

-- nothing is held, nor was
abbrev pub none_yet : LedgerReplayed
none_yet = record { all = []; lines = 0; served = 0; peak_bytes = 0; peak_line = 0; peak_blocks = 0; at_peak = []; called = record { callers = []; total = no_calls }; pending = None }

pub none_followed : LedgerStandsFor none_yet []
unfolding ledger_moments
none_followed = record {
  lines_are = refl;
  served_are = refl;
  pending_is = refl;
  held = none_held;
  peak = most_none asked_bytes_in refl;
  at_peak = record {
    blocks = record { all = []; held = none_held; measured = refl };
    sites = λ all held.
        subst (λ (all : List Given). AreTallied (entries_of all) []) (one_list [] [] all none_held held)
        (record { one = λ p. omega arith; blocks = λ p. refl; bytes = λ p. refl });
  };
  called = record { calls_are = λ p. refl; bytes_are = λ p. refl; temporary_are = λ p. refl; total = refl };
}

-- what is held behind the lines, by the entries
look_of : (all : List Entry) (past : List ReadLine) → AreHeld (map unplaced all) (ledger_moments past) → found_in all ≡ held (ledger_moments past)
look_of all past are = fun_ext (λ address. sym (found_unplaced all address) ∙ found_is_held (map unplaced all) (ledger_moments past) are address)

-- one line more, of which the plan was followed
module _ (before after : List Entry) (lines : ℕ) (last : Option ℕ) (past : List ReadLine) (line : ReadLine) (number_is : lines ≡ length past) (last_is : last ≡ pending past)
    (are : AreHeld (map unplaced before) (ledger_moments past))
    (follows : (address : ℕ) → found_in after address ≡ held_after (plan_moment (plan (lines + 1) line last (found_in before))) (found_in before) address)
    (rises : IsStrictlyIncreasing (map (λ (entry : Entry). entry.addr) after)) where
  its_moment : (address : ℕ) → held_after (plan_moment (plan (lines + 1) line last (found_in before))) (found_in before) address
      ≡ held_after (plan_moment (plan (suc (length past)) line (pending past) (held (ledger_moments past)))) (held (ledger_moments past)) address
  its_moment address =
      let number : lines + 1 ≡ suc (length past) = omega (arith, number_is) in
      ap (λ n. held_after (plan_moment (plan n line last (found_in before))) (found_in before) address) number
      ∙ ap (λ p. held_after (plan_moment (plan (suc (length past)) line p (found_in before))) (found_in before) address) last_is
      ∙ ap (λ look. held_after (plan_moment (plan (suc (length past)) line (pending past) look)) look address) (look_of before past are)

  pub held_behind : AreHeld (map unplaced after) (ledger_moments (line ∷ past))
  unfolding ledger_moments
  held_behind = held_as_found (map unplaced after) _ (subst IsStrictlyIncreasing (sym (addresses_unplaced after)) rises)
      (λ address. found_unplaced after address ∙ follows address ∙ its_moment address)

module _ (old new : LedgerReplayed) (past : List ReadLine) (line : ReadLine) (stands : LedgerStandsFor old past)
    (serves : (address : ℕ) → found_in new.all address ≡ held_after (plan_moment (plan (old.lines + 1) line old.pending (found_in old.all))) (found_in old.all) address)
    (rises : IsStrictlyIncreasing (map (λ (entry : Entry). entry.addr) new.all)) where
  look_is : found_in old.all ≡ held (ledger_moments past)
  look_is = look_of old.all past stands.held

  pub held_on : AreHeld (map unplaced new.all) (ledger_moments (line ∷ past))
  held_on = held_behind old.all new.all old.lines old.pending past line stands.lines_are stands.pending_is stands.held serves rises

  -- the plan of the line, by what the replay keeps and by the lines
  plan_is : plan (old.lines + 1) line old.pending (found_in old.all) ≡ plan (suc (length past)) line (pending past) (held (ledger_moments past))
  plan_is =
      let number : old.lines + 1 ≡ suc (length past) = omega (arith, stands.lines_are) in
      ap (λ n. plan n line old.pending (found_in old.all)) number
      ∙ ap (λ p. plan (suc (length past)) line p (found_in old.all)) stands.pending_is
      ∙ ap (λ look. plan (suc (length past)) line (pending past) look) look_is

  pub count_on : count_by is_served (ledger_moments past) + (if is_some (plan_moment (plan (old.lines + 1) line old.pending (found_in old.all))).given then 1 else 0) ≡ count_by is_served (ledger_moments (line ∷ past))
  unfolding ledger_moments
  count_on =
      ap (λ (planned : Plan). count_by is_served (ledger_moments past) + (if is_some (plan_moment planned).given then 1 else 0)) plan_is
      ∙ omega (arith, count-cons is_served (ledger_moment (length past) line (pending past) (held (ledger_moments past))) (ledger_moments past))

  -- what the line adds to the calls
  pub called_on : CountsAct (old.lines + 1) (plan (old.lines + 1) line old.pending (found_in old.all)).act old.all old.called new.called
      → AreCounted (calls_in (ledger_moments (line ∷ past))) (temporary_in (line ∷ past) (ledger_moments (line ∷ past))) new.called
  unfolding ledger_moments
  called_on counts =
      let number : old.lines + 1 ≡ suc (length past) = omega (arith, stands.lines_are) in
      let its : CountsAct (suc (length past)) (plan (suc (length past)) line (pending past) (found_in old.all)).act old.all old.called new.called =
      subst (λ p. CountsAct (suc (length past)) (plan (suc (length past)) line p (found_in old.all)).act old.all old.called new.called) stands.pending_is
      (subst (λ n. CountsAct n (plan n line old.pending (found_in old.all)).act old.all old.called new.called) number counts) in
      subst (λ look. AreCounted (with_call (plan_moment (plan (suc (length past)) line (pending past) look)).given (calls_in (ledger_moments past)))
      (with_temporary (length past) line look (temporary_in past (ledger_moments past))) new.called) look_is
      (adds (calls_in (ledger_moments past)) (temporary_in past (ledger_moments past)) old.called new.called stands.called (length past) old.all line (pending past) its)

  -- what the line adds to what is wrong
  pub told_on : (diagnostics : List Diagnostic) → diagnostics ≡ (if is_new line then [] else half old.lines old.pending) ++ (plan_moment (plan (old.lines + 1) line old.pending (found_in old.all))).diagnostics
      → ledger_noted (line ∷ past) ≡ ledger_noted past ++ diagnostics
  unfolding ledger_moments
  told_on diagnostics is = ap (λ (all : List Diagnostic). ledger_noted past ++ all) (sym (
      is
      ∙ ap (λ n. (if is_new line then [] else half n old.pending) ++ (plan_moment (plan (old.lines + 1) line old.pending (found_in old.all))).diagnostics) stands.lines_are
      ∙ ap (λ p. (if is_new line then [] else half (length past) p) ++ (plan_moment (plan (old.lines + 1) line old.pending (found_in old.all))).diagnostics) stands.pending_is
      ∙ ap (λ (planned : Plan). (if is_new line then [] else half (length past) (pending past)) ++ (plan_moment planned).diagnostics) plan_is))

-- The replay stands for one line more, behind which this is held, and then the peak was raised.
module _ (old middle new : LedgerReplayed) (past : List ReadLine) (line : ReadLine) (stands : LedgerStandsFor old past) (held : AreHeld (map unplaced middle.all) (ledger_moments (line ∷ past)))
    (lines : middle.lines ≡ suc (length past)) (bytes : middle.peak_bytes ≡ old.peak_bytes) (peak_line : middle.peak_line ≡ old.peak_line)
    (blocks : middle.peak_blocks ≡ old.peak_blocks) (at_peak : middle.at_peak ≡ old.at_peak) (raises : RaisesPeak middle new) where
  abbrev now : List Moment
  now = ledger_moments (line ∷ past)

  abbrev total : ℕ
  total = total_size middle.all

  sum_now : Measures asked_bytes_in now total
  sum_now = record { all = map unplaced middle.all; held = held; measured = ap total_size (sym (entries_unplaced middle.all)) }

  all_lines : suc (length (ledger_moments past)) ≡ middle.lines
  all_lines = omega (arith, length-ledger past, lines)

  its_peak : IsPeak now new.peak_bytes new.peak_line
  unfolding ledger_moments
  its_peak =
      let goes_on = peak_goes_on asked_bytes_in _ (ledger_moments past) old.peak_bytes total sum_now old.peak_line stands.peak (nat_lt old.peak_bytes total) refl in
      let bytes_are : new.peak_bytes ≡ (if nat_lt old.peak_bytes total then total else old.peak_bytes) = raises.bytes ∙ ap (λ n. if nat_lt n total then total else n) bytes in
      let line_is : new.peak_line ≡ (if nat_lt old.peak_bytes total then suc (length (ledger_moments past)) else old.peak_line) =
      raises.line ∙ ap (λ n. if nat_lt n total then middle.lines else middle.peak_line) bytes
      ∙ ap (λ n. if nat_lt old.peak_bytes total then n else middle.peak_line) (sym all_lines)
      ∙ ap (λ n. if nat_lt old.peak_bytes total then suc (length (ledger_moments past)) else n) peak_line in
      subst (λ n. IsPeak now n new.peak_line) (sym bytes_are)
      (subst (λ n. IsPeak now (if nat_lt old.peak_bytes total then total else old.peak_bytes) n) (sym line_is) goes_on)

  -- there is more than ever was
  at_new : nat_lt middle.peak_bytes total ≡ true → IsAtPeak new (first_moments new.peak_line now)
  unfolding ledger_moments
  at_new more =
      let line_is : new.peak_line ≡ length now = raises.line ∙ ap (λ b. if b then middle.lines else middle.peak_line) more ∙ sym all_lines in
      let blocks_are : new.peak_blocks ≡ length middle.all = raises.blocks ∙ ap (λ b. if b then length middle.all else middle.peak_blocks) more in
      subst (λ first. IsAtPeak new first) (sym (ap (λ n. first_moments n now) line_is ∙ first_moments_all now)) (record {
        blocks = record { all = map unplaced middle.all; held = held; measured = blocks_are ∙ sym (length-map middle.all unplaced) };
        sites = λ all as_well.
            subst (λ (all : List Given). AreTallied (entries_of all) new.at_peak) (one_list now (map unplaced middle.all) all held as_well)
            (subst (λ (entries : List Entry). AreTallied entries new.at_peak) (sym (entries_unplaced middle.all)) (raises.raised more));
      })

  -- there is not
  at_old : nat_lt middle.peak_bytes total ≡ false → IsAtPeak new (first_moments new.peak_line now)
  unfolding ledger_moments
  at_old less =
      let line_is : new.peak_line ≡ old.peak_line = raises.line ∙ ap (λ b. if b then middle.lines else middle.peak_line) less ∙ peak_line in
      let blocks_are : new.peak_blocks ≡ old.peak_blocks = raises.blocks ∙ ap (λ b. if b then length middle.all else middle.peak_blocks) less ∙ blocks in
      let sites_are : new.at_peak ≡ old.at_peak = raises.kept less ∙ at_peak in
      let first : first_moments new.peak_line now ≡ first_moments old.peak_line (ledger_moments past) =
      ap (λ n. first_moments n now) line_is ∙ first_moments_before old.peak_line _ (ledger_moments past) stands.peak.within in
      subst (λ moments. IsAtPeak new moments) (sym first) (record {
        blocks = subst (λ n. Measures blocks_in (first_moments old.peak_line (ledger_moments past)) n) (sym blocks_are) stands.at_peak.blocks;
        sites = λ all held. subst (λ (sites : List Site). AreTallied (entries_of all) sites) (sym sites_are) (stands.at_peak.sites all held);
      })

  pub raised : AreCounted (calls_in now) (temporary_in (line ∷ past) now) middle.called → middle.served ≡ count_by is_served (ledger_moments (line ∷ past)) → middle.pending ≡ old_address line → LedgerStandsFor new (line ∷ past)
  raised called served pending_is = record {
    lines_are = raises.lines ∙ lines;
    served_are = raises.served ∙ served;
    pending_is = raises.pending ∙ pending_is;
    held = subst (λ (all : List Entry). AreHeld (map unplaced all) now) (sym raises.all) held;
    peak = its_peak;
    at_peak = elim (cases_Bool (nat_lt middle.peak_bytes total)) [
      | inl more ↦ at_new more
      | inr less ↦ at_old less
    ];
    called = subst (AreCounted (calls_in now) (temporary_in (line ∷ past) now)) (sym raises.called) called;
  }
