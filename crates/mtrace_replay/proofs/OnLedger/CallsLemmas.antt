-- What one more line adds to the calls.
use Rattle.std.proofs.Common.{Bool, true, false, not, Option, Some, None, is_some, option_map, Ok, Err, ◌≡◌, ℕ, suc, ◌+◌, List, ◌∷◌, length, refl, sym, ap, ◌∙◌, subst, arith}
use Rattle.std.specs.Prelude.{◌==◌, ◌&&◌, MatchBool, if◌then◌else◌}
use Rattle.std.proofs.lemmas.List.Sums.{sum_by-cons}
use Rattle.std.proofs.lemmas.Bool.{false≢true, eq-eqb, ne_eqb, eqb-true}
use Rattle.mtrace_log.specs.declared.event.Event.TheVariants.{Alloc, Free, New, Aligned}
use Rattle.mtrace_log.specs.declared.event.LineFault.TheVariants as fault
use Rattle.mtrace_replay.specs.Entry.{Entry}
use Rattle.mtrace_replay.specs.declared.held.count.Count.{Count}
use Rattle.mtrace_replay.specs.Sites.{weigh}
use Rattle.mtrace_replay.specs.Texts.{total_size}
use Rattle.mtrace_replay.specs.Moment.{ReadLine, Given, Plan, plan, move, none_for, doing, allocation, reallocation, renewal, release}
use Rattle.mtrace_replay.specs.declared.held.diagnostic.Kind.TheVariants.{AlreadyHeld}
use Rattle.mtrace_replay.specs.Calls.{Called, CountsMore, CountsReleased}
use Rattle.mtrace_replay.specs.Callers.{with_call, with_call_of, with_temporary, AreCounted}
use Rattle.mtrace_replay.specs.Ledger.{entry_under}
use Rattle.mtrace_replay.specs.LedgerReplay.{unplaced, plan_moment, found_in, CountsAct}
use Rattle.mtrace_replay.proofs.OnLedger.RowsBySlot.{weigh-none}

module _ (calls temporary : List Entry) (old new : Called) (counted : AreCounted calls temporary old) where
  same_calls : new ≡ old → AreCounted calls temporary new
  same_calls is = subst (AreCounted calls temporary) (sym is) counted

  one_call : (entry : Entry) → CountsMore entry.at 1 entry.size 0 old new → AreCounted (entry ∷ calls) temporary new
  one_call entry more = record {
    calls_are = λ p. omega (arith, more.calls_are p, counted.calls_are p, sum_by-cons (λ (e : Entry). weigh p e.at 1) entry calls);
    bytes_are = λ p. omega (arith, more.bytes_are p, counted.bytes_are p, sum_by-cons (λ (e : Entry). weigh p e.at e.size) entry calls);
    temporary_are = λ p. omega (arith, more.temporary_are p, counted.temporary_are p, weigh-none p entry.at);
    total =
        let a : new.total.calls ≡ suc (length calls) = omega (arith, ap (λ (c : Count). c.calls) more.total, ap (λ (c : Count). c.calls) counted.total) in
        let b : new.total.bytes ≡ total_size (entry ∷ calls) = omega (arith, ap (λ (c : Count). c.bytes) more.total, ap (λ (c : Count). c.bytes) counted.total, sum_by-cons (λ (e : Entry). e.size) entry calls) in
        let t : new.total.temporary ≡ length temporary = omega (arith, ap (λ (c : Count). c.temporary) more.total, ap (λ (c : Count). c.temporary) counted.total) in
        (λ i. record { calls = a i; bytes = b i; temporary = t i });
  }

  one_temporary : (entry : Entry) → CountsMore entry.at 0 0 1 old new → AreCounted calls (entry ∷ temporary) new
  one_temporary entry more = record {
    calls_are = λ p. omega (arith, more.calls_are p, counted.calls_are p, weigh-none p entry.at);
    bytes_are = λ p. omega (arith, more.bytes_are p, counted.bytes_are p, weigh-none p entry.at);
    temporary_are = λ p. omega (arith, more.temporary_are p, counted.temporary_are p, sum_by-cons (λ (e : Entry). weigh p e.at 1) entry temporary);
    total =
        let a : new.total.calls ≡ length calls = omega (arith, ap (λ (c : Count). c.calls) more.total, ap (λ (c : Count). c.calls) counted.total) in
        let b : new.total.bytes ≡ total_size calls = omega (arith, ap (λ (c : Count). c.bytes) more.total, ap (λ (c : Count). c.bytes) counted.total) in
        let t : new.total.temporary ≡ suc (length temporary) = omega (arith, ap (λ (c : Count). c.temporary) more.total, ap (λ (c : Count). c.temporary) counted.total) in
        (λ i. record { calls = a i; bytes = b i; temporary = t i });
  }

  module _ (before : ℕ) (all : List Entry) where
    -- what a plan's block adds
    abbrev Adds : Plan → Type 0
    Adds planned = CountsAct (suc before) planned.act all old new → AreCounted (with_call (plan_moment planned).given calls) temporary new

    allocated : (entry : Entry) (align : Option ℕ) (here : Option Given) → Adds (allocation entry align here)
    allocated entry align None more = one_call entry more
    allocated entry align (Some given) same = same_calls same

    reallocated : (entry : Entry) (from : ℕ) (there here : Option Given) → Adds (reallocation entry from there here)
    reallocated entry from None here = allocated entry None here
    reallocated entry from (Some given) here = by (not (entry.addr == from) && is_some here)
      where
        by : (b : Bool) → Adds (if b then none_for entry.line (AlreadyHeld entry.addr) else doing (move from given.place entry))
        by true same = same_calls same
        by false more = one_call entry more

    renewed : (entry : Entry) (pending : Option ℕ) → Adds (renewal entry pending (found_in all))
    renewed entry None = same_calls
    renewed entry (Some from) = reallocated entry from (found_in all from) (found_in all entry.addr)

    -- what a line adds that releases the address
    released : (address : ℕ) → CountsAct (suc before) (release (suc before) address (found_in all address)).act all old new
        → AreCounted (with_call (plan_moment (release (suc before) address (found_in all address))).given calls) (with_call_of before (found_in all address) temporary) new
    released address = by (entry_under all address) refl
      where
        -- the call of the line before, and another one
        of_line : (entry : Entry) (b : Bool) → (entry.line == before) ≡ b → MatchBool (entry.line + 1 == suc before) (CountsMore entry.at 0 0 1 old new) (new ≡ old)
            → AreCounted calls (if b then entry ∷ temporary else temporary) new
        of_line entry true is counts =
            let next : (entry.line + 1 == suc before) ≡ true = eq-eqb (entry.line + 1) (suc before) (omega (arith, eqb-true entry.line before is)) in
            one_temporary entry (subst (λ (b : Bool). MatchBool b (CountsMore entry.at 0 0 1 old new) (new ≡ old)) next counts)
        of_line entry false is counts =
            let next : (entry.line + 1 == suc before) ≡ false = ne_eqb (entry.line + 1) (suc before) (λ same. false≢true (sym is ∙ eq-eqb entry.line before (omega (arith, same)))) in
            same_calls (subst (λ (b : Bool). MatchBool b (CountsMore entry.at 0 0 1 old new) (new ≡ old)) next counts)

        by : (here : Option Entry) → entry_under all address ≡ here → CountsAct (suc before) (release (suc before) address (option_map unplaced here)).act all old new
            → AreCounted (with_call (plan_moment (release (suc before) address (option_map unplaced here))).given calls) (with_call_of before (option_map unplaced here) temporary) new
        by None is same = same_calls same
        by (Some entry) is counts = of_line entry (entry.line == before) refl (subst (λ (o : Option Entry). CountsReleased (Some (suc before)) o old new) is counts)

    pub adds : (line : ReadLine) (pending : Option ℕ) → CountsAct (suc before) (plan (suc before) line pending (found_in all)).act all old new
        → AreCounted (with_call (plan_moment (plan (suc before) line pending (found_in all))).given calls) (with_temporary before line (found_in all) temporary) new
    adds (Err fault.TooLong) pending = same_calls
    adds (Err fault.NotALine) pending = same_calls
    adds (Ok (Alloc at (Some address) size)) pending = allocated _ None (found_in all address)
    adds (Ok (Aligned at address align size)) pending = allocated _ (Some align) (found_in all address)
    adds (Ok (Free at address)) pending = released address
    adds (Ok (New at address size)) pending = renewed _ pending
    adds (Ok _) pending = same_calls
