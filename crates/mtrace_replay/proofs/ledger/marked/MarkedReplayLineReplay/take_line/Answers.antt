-- The replay stands for one line more.
use Rattle.std.proofs.Common.{◌≡◌, ℕ, ◌+◌, ◌∷◌, sym, ap, ◌∙◌, subst, refl, arith}
use Rattle.mtrace_replay.specs.History.{held_after}
use Rattle.mtrace_replay.specs.Moment.{plan}
use Rattle.mtrace_replay.specs.LedgerReplay.{found_in, plan_moment}
use Rattle.mtrace_replay.specs.MarkedReplay.{MarkedReplayed, MarkedStandsFor}
use Rattle.mtrace_replay.proofs.OnLedger.LedgerReplayLemmas.{held_behind}
use Rattle.mtrace_replay.proofs.OnLedger.MarkedLemmas.{stands_behind}
use Rattle.mtrace_replay.proofs.ledger.marked.MarkedReplayLineReplay.take_line.Goals as goal

pub returns : goal.returns
returns c =
    let inside = c.self.inside in
    let event = c.args.event in
    let ledger = c.outcome.new.ledger in
    let old : MarkedReplayed = record { all = inside.ledger.all; at_mark = inside.ledger.at_peak; mark = inside.mark; lines = inside.lines; pending = inside.pending } in
    let new : MarkedReplayed = record { all = ledger.all; at_mark = ledger.at_peak; mark = inside.mark; lines = c.args.number; pending = c.old_address-next.result } in
    let next : c.args.number ≡ inside.lines + 1 = c.requires.next ∙ sym (ap (λ (s : MarkedReplayed). s.lines + 1) c.self.view_is) in
    let H : ℕ → Type 0 = λ n. (address : ℕ) → found_in ledger.all address ≡ held_after (plan_moment (plan n event inside.pending (found_in inside.ledger.all))) (found_in inside.ledger.all) address in
    record {
      stands = λ start past. subst (λ (before : MarkedReplayed). MarkedStandsFor before past → MarkedStandsFor new (event ∷ past)) c.self.view_is
          (λ stands.
          let held = held_behind inside.ledger.all ledger.all inside.lines inside.pending past event stands.lines_are stands.pending_is stands.held (subst H next c.in_ok-_given.ensures.held) c.keeps_order.ensures in
          stands_behind old new past event stands held (next ∙ omega (arith, stands.lines_are)) c.old_address-next.ensures refl c.in_ok-_given.ensures.peak.at_peak);
      told = λ start past stands. sym c.clear.ensures;
      counted = refl;
      ready = tt;
      fixed = ap (λ (s : MarkedReplayed). s.mark) c.self.view_is;
      memory = tt;
    }
