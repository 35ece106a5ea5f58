-- The map loses the address, and so do the entries and the share of its location. Its call may be temporary.
use Rattle.std.proofs.Common.{◌≡◌, ◌<◌, nat_eq, ◌∙◌, sym, ap, subst, is_some, option_map, Some, None, ◌≤◌, arith}
use Rattle.std.specs.Prelude.{MatchBool}
use Rattle.std.specs.Map.{lookup, values_of}
use Rattle.mtrace_replay.specs.Locations.{location_of}
use Rattle.mtrace_replay.specs.Calls.{CountsMore, CountsReleased}
use Rattle.mtrace_replay.specs.Shares.{amount_less, now_at, count_at, Changes, CountsOne}
use Rattle.mtrace_replay.specs.Ledger.{LedgerState, entry_of, slot_of}
use Rattle.mtrace_replay.proofs.OnLedger.LedgerLemmas.{tells, tells_what, changes_at, is_within, less, kept_there}
use Rattle.mtrace_replay.proofs.OnLedger.LedgerPeak.{peak_stays}
use Rattle.mtrace_replay.proofs.OnLedger.CallersBySlot.{called_of, some_calls, some_in_all, called-less, released}
use Rattle.mtrace_replay.proofs.OnLedger.SharesLemmas.{some_there, shared-less, shared-same, slot_there}
use Rattle.mtrace_replay.proofs.ledger.ledger.Ledger.release.Goals.{In-Some, After-take, After-count_temporary}
use Rattle.mtrace_replay.proofs.ledger.ledger.Ledger.release.Goals as goal

pub returns-in_default-clause-was : goal.returns-in_default-clause-was
returns-in_default-clause-was c =
    ap is_some (sym c.in_default.is)
    ∙ tells c.self.inside.locations c.self.inside.held.entries c.args.self.now.all (ap (λ (state : LedgerState). state.all) c.self.view_is) c.value.result c.args.address c.value.ensures.value c.remove.result c.remove.ensures.value

pub returns-in_default-clause-held : goal.returns-in_default-clause-held
returns-in_default-clause-held c =
    changes_at c.self.inside.locations c.self.inside.held.entries c.remove.new.self.entries c.args.self.now.all (ap (λ (state : LedgerState). state.all) c.self.view_is) c.value.result c.args.address c.value.ensures.value None
    c.remove.ensures.updates.0

-- what was held of the address
there : (c : In-Some) → lookup (nat_eq c.value.result) c.self.inside.held.entries ≡ Some c.in-Some.held
there c = sym c.remove.ensures.value ∙ c.in-Some.is

-- its location has it in its share
some : (c : In-Some) → (0 < (now_at c.self.inside.shares (slot_of c.in-Some.held.location)).blocks) × (c.in-Some.held.size ≤ (now_at c.self.inside.shares (slot_of c.in-Some.held.location)).bytes)
some c = some_there c.self.inside.locations c.self.inside.held.entries (nat_eq c.value.result) c.in-Some.held (there c) c.self.inside.shares c.self.invariant.1

amounts : (c : After-take) → Changes (slot_of c.in-Some.held.location) (amount_less (now_at c.self.inside.shares (slot_of c.in-Some.held.location)) c.in-Some.held.size) c.self.inside.shares c.take.new.self
amounts c = subst (λ slot. Changes slot (amount_less (now_at c.self.inside.shares slot) c.in-Some.held.size) c.self.inside.shares c.take.new.self) c.slot_of-slot.ensures c.take.ensures.amount

counted : (c : After-count_temporary) → MatchBool c.is_next.result (CountsOne (slot_of c.in-Some.held.location) c.take.new.self c.count_temporary.new.shares) (c.count_temporary.new.shares ≡ c.take.new.self)
counted c = subst (λ slot. MatchBool c.is_next.result (CountsOne slot c.take.new.self c.count_temporary.new.shares) (c.count_temporary.new.shares ≡ c.take.new.self)) c.slot_of-slot.ensures c.count_temporary.ensures.count

pub take-requires-clause-slot : goal.take-requires-clause-slot
take-requires-clause-slot c =
    omega (arith, c.slot_of-slot.ensures, slot_there c.self.inside.shares _ (some (goal.at.take-requires-clause-slot c).In-Some).0)

pub take-requires-clause-blocks : goal.take-requires-clause-blocks
take-requires-clause-blocks c =
    rw c.slot_of-slot.ensures (some (goal.at.take-requires-clause-blocks c).In-Some).0

pub take-requires-clause-bytes : goal.take-requires-clause-bytes
take-requires-clause-bytes c =
    rw c.slot_of-slot.ensures (some (goal.at.take-requires-clause-bytes c).In-Some).1

pub overflow_sub-self : goal.overflow_sub-self
overflow_sub-self c =
    let within = is_within c.self.inside.locations c.self.inside.held.entries c.self.inside.bytes c.self.invariant.0 (nat_eq c.value.result) c.in-Some.held
    (sym c.remove.ensures.value ∙ c.in-Some.is) in
    omega (arith, within, c.from.ensures)

pub count_temporary-requires-clause-slot : goal.count_temporary-requires-clause-slot
count_temporary-requires-clause-slot c =
    omega (arith, c.slot_of-slot.ensures, slot_there c.self.inside.shares _ (some (goal.at.count_temporary-requires-clause-slot c).In-Some).0, c.take.ensures.amount.slots)

pub count_temporary-requires-clause-some : goal.count_temporary-requires-clause-some
count_temporary-requires-clause-some c =
    let at = goal.at.count_temporary-requires-clause-some c in
    subst (λ slot. (count_at c.take.new.self slot).temporary < (count_at c.take.new.self slot).calls) (sym c.slot_of-slot.ensures)
    (some_calls c.self.inside.locations _ _ c.in-Some.ensures.len c.in-Some.held c.self.inside.shares c.take.new.self c.self.invariant.2 (some at.In-Some).0 (amounts at.After-take) c.take.ensures.counts)

pub count_temporary-requires-clause-few : goal.count_temporary-requires-clause-few
count_temporary-requires-clause-few c =
    let at = goal.at.count_temporary-requires-clause-few c in
    some_in_all c.self.inside.locations _ _ c.in-Some.ensures.len c.in-Some.held c.self.inside.shares c.take.new.self c.self.invariant.2 (some at.In-Some).0 (amounts at.After-take) c.take.ensures.counts

pub invariant_of-self-2 : goal.invariant_of-self-2
invariant_of-self-2 c =
    let at = goal.at.invariant_of-self-2 c in
    let there = there at.In-Some in
    let called = called-less c.self.inside.locations _ _ c.in-Some.ensures.len c.in-Some.held c.self.inside.shares c.take.new.self c.self.invariant.2 (some at.In-Some).0 (amounts at.After-take) c.take.ensures.counts
    c.count_temporary.new.shares c.is_next.result c.count_temporary.ensures.amounts (counted at.After-count_temporary) in
    let within = is_within c.self.inside.locations c.self.inside.held.entries c.self.inside.bytes c.self.invariant.0 (nat_eq c.value.result) c.in-Some.held there in
    let taken = shared-less c.self.inside.locations c.self.inside.held.entries c.remove.new.self.entries (nat_eq c.value.result) c.in-Some.held there c.remove.ensures.entries
    c.self.inside.shares c.take.new.self c.self.invariant.1 (amounts at.After-take) in (
      less c.self.inside.locations c.self.inside.held.entries c.remove.new.self.entries c.self.inside.bytes _ c.self.invariant.0 (nat_eq c.value.result) c.in-Some.held
          there c.remove.ensures.entries c.remove.ensures.unique (omega (arith, within, c.from.ensures)),
      shared-same c.self.inside.locations (values_of c.remove.new.self.entries) c.take.new.self c.count_temporary.new.shares taken c.count_temporary.ensures.amounts.now c.count_temporary.ensures.amounts.marked,
      called,
    )

pub returns-clause-was : goal.returns-clause-was
returns-clause-was c =
    ap is_some (sym c.in-Some.is)
    ∙ tells c.self.inside.locations c.self.inside.held.entries c.args.self.now.all (ap (λ (state : LedgerState). state.all) c.self.view_is) c.value.result c.args.address c.value.ensures.value c.remove.result c.remove.ensures.value

pub returns-clause-held : goal.returns-clause-held
returns-clause-held c =
    changes_at c.self.inside.locations c.self.inside.held.entries c.remove.new.self.entries c.args.self.now.all (ap (λ (state : LedgerState). state.all) c.self.view_is) c.value.result c.args.address c.value.ensures.value None
    c.remove.ensures.updates.0

pub returns-clause-peak : goal.returns-clause-peak
returns-clause-peak c = record {
  at_peak = peak_stays c.self.inside.locations c.self.inside.locations (λ number bytes is. is) c.self.inside.shares c.count_temporary.new.shares c.self.invariant.1.beyond
      (λ slot. c.count_temporary.ensures.amounts.marked slot ∙ c.take.ensures.amount.marked slot)
      ∙ ap (λ (state : LedgerState). state.at_peak) c.self.view_is;
  mark = c.count_temporary.ensures.amounts.mark ∙ c.take.ensures.amount.mark ∙ ap (λ (state : LedgerState). state.mark) c.self.view_is;
}

pub returns-in_default-clause-called : goal.returns-in_default-clause-called
returns-in_default-clause-called c =
    let what = tells_what c.self.inside.locations c.self.inside.held.entries c.args.self.now.all (ap (λ (state : LedgerState). state.all) c.self.view_is) c.value.result c.args.address c.value.ensures.value
    c.remove.result c.remove.ensures.value in
    subst (λ o. CountsReleased c.args.line o c.args.self.now.called (called_of c.self.inside.locations c.self.inside.shares))
    (ap (option_map (λ h. entry_of c.self.inside.locations (c.args.address, h))) (sym c.in_default.is) ∙ what)
    (ap (λ (state : LedgerState). state.called) c.self.view_is)

pub returns-clause-called : goal.returns-clause-called
returns-clause-called c =
    let at = goal.at.returns-clause-called c in
    let there = there at.In-Some in
    let called = called-less c.self.inside.locations _ _ c.in-Some.ensures.len c.in-Some.held c.self.inside.shares c.take.new.self c.self.invariant.2 (some at.In-Some).0 (amounts at.After-take) c.take.ensures.counts
    c.count_temporary.new.shares c.is_next.result c.count_temporary.ensures.amounts (counted at.After-count_temporary) in
    let what = tells_what c.self.inside.locations c.self.inside.held.entries c.args.self.now.all (ap (λ (state : LedgerState). state.all) c.self.view_is) c.value.result c.args.address c.value.ensures.value
    c.remove.result c.remove.ensures.value in
    subst (λ o. CountsReleased c.args.line o c.args.self.now.called (called_of c.self.inside.locations c.count_temporary.new.shares))
    (ap (option_map (λ h. entry_of c.self.inside.locations (c.args.address, h))) (sym c.in-Some.is) ∙ what)
    (subst (λ b. MatchBool b (CountsMore (location_of c.self.inside.locations c.in-Some.held.location) 0 0 1 c.args.self.now.called (called_of c.self.inside.locations c.count_temporary.new.shares))
    (called_of c.self.inside.locations c.count_temporary.new.shares ≡ c.args.self.now.called)) c.is_next.ensures
    (released c.self.inside.locations c.in-Some.held.location (kept_there c.self.inside.locations c.self.inside.held.entries (nat_eq c.value.result) c.in-Some.held there c.self.invariant.0.kept).location
    c.self.inside.shares c.take.new.self c.count_temporary.new.shares _ _ c.self.invariant.2 called c.take.ensures.counts c.is_next.result (counted at.After-count_temporary) c.args.self.now.called
    (ap (λ (state : LedgerState). state.called) c.self.view_is)))
