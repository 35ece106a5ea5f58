-- The replay stands for one line more.
use Rattle.std.proofs.Common.{◌≡◌, ℕ, ◌+◌, ◌++◌, ◌∷◌, List, [], sym, ap, ◌∙◌, subst, refl, arith}
use mir.Val.{bool_byte}
use Rattle.std.specs.Prelude.{Bool, true, false, is_some, count_by, if◌then◌else◌}
use Rattle.mtrace_replay.specs.declared.held.diagnostic.Diagnostic.{Diagnostic}
use Rattle.mtrace_replay.specs.History.{held_after}
use Rattle.mtrace_replay.specs.Totals.{is_served}
use Rattle.mtrace_replay.specs.Moment.{plan, half, is_new}
use Rattle.mtrace_replay.specs.LedgerReplay.{CountsAct, ledger_moments, plan_moment, found_in, LedgerReplayed, LedgerStandsFor, ledger_noted}
use Rattle.mtrace_replay.proofs.OnLedger.LedgerReplayLemmas.{held_on, called_on, count_on, told_on, raised}
use Rattle.mtrace_replay.proofs.ledger.replay.LedgerReplay.feed_lent.Goals as goal

one_where : (b : Bool) → bool_byte b ≡ (if b then 1 else 0)
one_where true = refl
one_where false = refl

pub returns : goal.returns
returns c =
    let inside = c.self.inside in
    let event = c.args.event in
    let served = inside.served + c.from.result in
    let old : LedgerReplayed = record {
      all = inside.ledger.all;
      lines = inside.lines;
      served = inside.served;
      peak_bytes = inside.peak_bytes;
      peak_line = inside.peak_line;
      peak_blocks = inside.peak_blocks;
      at_peak = inside.ledger.at_peak;
      called = inside.ledger.called;
      pending = inside.pending;
    } in
    let middle : LedgerReplayed = record {
      all = c.outcome.new.ledger.all;
      lines = c.args.number;
      served = served;
      peak_bytes = inside.peak_bytes;
      peak_line = inside.peak_line;
      peak_blocks = inside.peak_blocks;
      at_peak = c.outcome.new.ledger.at_peak;
      called = c.outcome.new.ledger.called;
      pending = c.old_address-next.result;
    } in
    let new : LedgerReplayed = c.raise_peak.new.self in
    let next : c.args.number ≡ inside.lines + 1 = c.requires.next ∙ sym (ap (λ (s : LedgerReplayed). s.lines + 1) c.self.view_is) in
    let H : ℕ → Type 0 = λ n. (address : ℕ) → found_in c.outcome.new.ledger.all address ≡ held_after (plan_moment (plan n event inside.pending (found_in inside.ledger.all))) (found_in inside.ledger.all) address in
    let D : ℕ → Type 0 = λ n. c.outcome.new.findings ≡ (plan_moment (plan n event inside.pending (found_in inside.ledger.all))).diagnostics in
    let G : ℕ → Type 0 = λ n. c.in_ok-is_given.is_given ≡ is_some (plan_moment (plan n event inside.pending (found_in inside.ledger.all))).given in
    let A : ℕ → Type 0 = λ n. CountsAct n (plan n event inside.pending (found_in inside.ledger.all)).act inside.ledger.all inside.ledger.called c.outcome.new.ledger.called in
    let given = subst G next c.in_ok-is_given.ensures.given in
    let one : c.from.result ≡ (if is_some (plan_moment (plan (inside.lines + 1) event inside.pending (found_in inside.ledger.all))).given then 1 else 0) =
    c.from.ensures ∙ one_where c.in_ok-is_given.is_given ∙ ap (λ b. if b then 1 else 0) given in
    record {
      stands = λ past. subst (λ (before : LedgerReplayed). LedgerStandsFor before past → LedgerStandsFor new (event ∷ past)) c.self.view_is
          (λ stands.
          let held = held_on old middle past event stands (subst H next c.in_ok-is_given.ensures.held) c.keeps_order.ensures in
          let count = ap (λ n. n + c.from.result) stands.served_are ∙ ap (λ n. count_by is_served (ledger_moments past) + n) one
          ∙ count_on old middle past event stands (subst H next c.in_ok-is_given.ensures.held) c.keeps_order.ensures in
          let called = called_on old middle past event stands (subst H next c.in_ok-is_given.ensures.held) c.keeps_order.ensures (subst A next c.in_ok-is_given.ensures.called) in
          raised old middle new past event stands held (next ∙ omega (arith, stands.lines_are)) refl refl refl c.in_ok-is_given.ensures.peak.at_peak c.raise_peak.ensures called count c.old_address-next.ensures);
      told = λ past. subst (λ (before : LedgerReplayed). LedgerStandsFor before past → ledger_noted (event ∷ past) ≡ ledger_noted past ++ c.put_half.new.findings) c.self.view_is
          (λ stands. told_on old middle past event stands (subst H next c.in_ok-is_given.ensures.held) c.keeps_order.ensures c.put_half.new.findings
          (c.put_half.ensures ∙ ap (λ (all : List Diagnostic). all ++ c.outcome.new.findings) c.half_before-half.ensures
          ∙ ap (λ (all : List Diagnostic). (if is_new event then [] else half inside.lines inside.pending) ++ all) (subst D next c.in_ok-is_given.ensures.diagnostics_are)));
      counted = c.raise_peak.ensures.lines;
      unchanged = tt;
    }
