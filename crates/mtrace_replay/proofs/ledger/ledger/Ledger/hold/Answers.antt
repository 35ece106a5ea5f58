-- The map gains the address, and so do the entries and the share of its location.
use Rattle.std.proofs.Common.{◌≡◌, ℕ, length, ◌+◌, ◌∙◌, refl, sym, ap, subst, Some, cond, arith}
use Rattle.std.specs.Prelude.{◌==◌}
use Rattle.std.specs.Map.{values_of}
use Rattle.mtrace_replay.specs.declared.ledger.ledger.Kept.{Kept}
use Rattle.mtrace_replay.specs.declared.held.count.Count.{Count}
use Rattle.mtrace_replay.specs.Calls.{count_more}
use Rattle.mtrace_replay.specs.Shares.{ByLocation, amount_more, now_at, count_at, Changes, Counts}
use Rattle.mtrace_replay.specs.Ledger.{LedgerState, IsLedger, AreShared, AreCalled, Forgets, entry_under, slot_of}
use Rattle.mtrace_replay.proofs.OnLedger.LedgerLemmas.{changes_at, still_keeps, same_view, on_err}
use Rattle.mtrace_replay.proofs.OnLedger.LedgerPeak.{IsRest, ledger_state, same_state, keeps_now, shared_now, called_now, few_more, peak_stays, rest_of, counted_there, counted, few_blocks, few_bytes}
use Rattle.mtrace_replay.proofs.OnLedger.SharesLemmas.{shared-longer, called-longer}
use Rattle.mtrace_replay.proofs.OnLedger.CallersBySlot.{called-more, more_called}
use Rattle.mtrace_replay.proofs.ledger.ledger.Ledger.hold.Goals as goal
use Rattle.mtrace_replay.proofs.ledger.ledger.Ledger.hold.Goals.{After-cover, In_ok-before}

pub invariant_of-self : goal.invariant_of-self
invariant_of-self c =
    let new = c.number_at.new.self in (
      still_keeps c.self.inside.locations new c.number_at.ensures.others c.self.inside.held.entries c.self.inside.bytes c.self.invariant.0,
      shared-longer c.self.inside.locations new c.number_at.ensures.others (values_of c.self.inside.held.entries) c.self.inside.shares c.self.invariant.1,
      called-longer c.self.inside.locations new c.number_at.ensures.others (length c.self.inside.held.entries) c.self.inside.shares c.self.invariant.2,
    )

pub returns-in_err-location-clause-unchanged : goal.returns-in_err-location-clause-unchanged
returns-in_err-location-clause-unchanged c =
    on_err c.from_residual.result _
    (same_state c.self.inside.locations c.number_at.new.self c.number_at.ensures.others c.self.inside.shares c.self.inside.shares c.self.inside.held.entries c.self.inside.bytes c.self.invariant
    (record { now = λ slot. refl; marked = λ slot. refl; mark = refl; counts = record { now = λ slot. refl; total = refl } }) ∙ c.self.view_is)

-- what was so before, of the locations and the shares that have room for this one
before : (c : After-cover) → IsLedger c.number_at.new.self c.self.inside.held.entries c.self.inside.bytes × AreShared c.number_at.new.self c.cover.new.self (values_of c.self.inside.held.entries) × AreCalled c.number_at.new.self c.cover.new.self (length c.self.inside.held.entries)
before c = (
  keeps_now c.self.inside.locations c.number_at.new.self c.number_at.ensures.others c.self.inside.held.entries c.self.inside.bytes c.self.inside.shares c.cover.new.self c.cover.ensures.kept c.self.invariant,
  shared_now c.self.inside.locations c.number_at.new.self c.number_at.ensures.others c.self.inside.held.entries c.self.inside.bytes c.self.inside.shares c.cover.new.self c.cover.ensures.kept c.self.invariant,
  called_now c.self.inside.locations c.number_at.new.self c.number_at.ensures.others c.self.inside.held.entries c.self.inside.bytes c.self.inside.shares c.cover.new.self c.cover.ensures.kept c.self.invariant,
)

pub invariant_of-self-in_err-cover : goal.invariant_of-self-in_err-cover
invariant_of-self-in_err-cover c = before (goal.at.invariant_of-self-in_err-cover c).After-cover

pub returns-in_err-cover-clause-unchanged : goal.returns-in_err-cover-clause-unchanged
returns-in_err-cover-clause-unchanged c =
    on_err c.from_residual-in_err-cover.result _
    (same_state c.self.inside.locations c.number_at.new.self c.number_at.ensures.others c.self.inside.shares c.cover.new.self c.self.inside.held.entries c.self.inside.bytes c.self.invariant c.cover.ensures.kept
    ∙ c.self.view_is)

pub invariant_of-self-in_err-before : goal.invariant_of-self-in_err-before
invariant_of-self-in_err-before c =
    subst (λ held. IsLedger c.number_at.new.self held c.self.inside.bytes × AreShared c.number_at.new.self c.cover.new.self (values_of held) × AreCalled c.number_at.new.self c.cover.new.self (length held)) (sym c.in_err-before.ensures.err)
    (before (goal.at.invariant_of-self-in_err-before c).After-cover)

pub returns-in_err-before-clause-unchanged : goal.returns-in_err-before-clause-unchanged
returns-in_err-before-clause-unchanged c =
    on_err c.from_residual-in_err-before.result _
    (ap (ledger_state c.number_at.new.self c.cover.new.self) c.in_err-before.ensures.err
    ∙ same_state c.self.inside.locations c.number_at.new.self c.number_at.ensures.others c.self.inside.shares c.cover.new.self c.self.inside.held.entries c.self.inside.bytes c.self.invariant c.cover.ensures.kept
    ∙ c.self.view_is)

pub forget-requires : goal.forget-requires
forget-requires c =
    let before = before (goal.at.forget-requires c).After-cover in
    record {
      counted = counted_there c.number_at.new.self c.self.inside.held.entries c.insert.new.self.entries c.self.inside.bytes before.0 c.cover.new.self before.1 c.value.result
          (record { size = c.args.size; line = c.args.line; location = c.in_ok-location.location })
          (record { size = c.ranges.size.fits; location = c.in_ok-location.ensures.there }) c.in_ok-before.before c.in_ok-before.ensures.old;
    }

-- what the address is held under now
abbrev kept : In_ok-before → Kept
kept c = record { size = c.args.size; line = c.args.line; location = c.in_ok-location.location }

-- until the address is counted, the shares are those of the rest
rest : (c : In_ok-before)
    → IsLedger c.number_at.new.self c.self.inside.held.entries c.self.inside.bytes × AreShared c.number_at.new.self c.cover.new.self (values_of c.self.inside.held.entries) × AreCalled c.number_at.new.self c.cover.new.self (length c.self.inside.held.entries)
    → (shares : ByLocation) (left : ℕ) → Forgets c.in_ok-before.before c.cover.new.self shares c.self.inside.bytes left
    → IsRest c.number_at.new.self c.self.inside.held.entries c.insert.new.self.entries (kept c) c.cover.new.self shares left
rest c all =
    rest_of c.number_at.new.self c.self.inside.held.entries c.insert.new.self.entries c.self.inside.bytes all.0 c.cover.new.self all.1 c.value.result (kept c)
    (record { size = c.ranges.size.fits; location = c.in_ok-location.ensures.there }) c.in_ok-before.before c.in_ok-before.ensures.old c.in_ok-before.ensures.entries

pub add-requires-clause-slot : goal.add-requires-clause-slot
add-requires-clause-slot c =
    let at = goal.at.add-requires-clause-slot c in
    let rest = rest at.In_ok-before (before at.After-cover) c.forget.new.shares c.forget.new.bytes c.forget.ensures in
    omega (arith, c.in_ok-cover.ensures.slots, rest.slots)

pub add-requires-clause-blocks : goal.add-requires-clause-blocks
add-requires-clause-blocks c =
    let at = goal.at.add-requires-clause-blocks c in
    let rest = rest at.In_ok-before (before at.After-cover) c.forget.new.shares c.forget.new.bytes c.forget.ensures in
    let few = few_blocks c.number_at.new.self c.self.inside.held.entries c.insert.new.self.entries (kept at.In_ok-before) c.cover.new.self c.forget.new.shares c.forget.new.bytes rest (omega (arith, c.len-few.ensures.small, c.len-few.ensures.len)) in
    let same = ap (λ slot. (now_at c.forget.new.shares slot).blocks) c.slot_of-slot.ensures in
    omega (arith, few, same)

pub add-requires-clause-bytes : goal.add-requires-clause-bytes
add-requires-clause-bytes c =
    let at = goal.at.add-requires-clause-bytes c in
    let rest = rest at.In_ok-before (before at.After-cover) c.forget.new.shares c.forget.new.bytes c.forget.ensures in
    let few = few_bytes c.number_at.new.self c.self.inside.held.entries c.insert.new.self.entries (kept at.In_ok-before) c.cover.new.self c.forget.new.shares c.forget.new.bytes rest c.self.inside.bytes (before at.After-cover).0 (omega (arith, c.len-few.ensures.small, c.len-few.ensures.len)) in
    let same = ap (λ slot. (now_at c.forget.new.shares slot).bytes) c.slot_of-slot.ensures in
    omega (arith, few.1, same, c.ranges.size.fits)

pub overflow_add-self : goal.overflow_add-self
overflow_add-self c =
    let at = goal.at.overflow_add-self c in
    let rest = rest at.In_ok-before (before at.After-cover) c.forget.new.shares c.forget.new.bytes c.forget.ensures in
    let few = few_bytes c.number_at.new.self c.self.inside.held.entries c.insert.new.self.entries (kept at.In_ok-before) c.cover.new.self c.forget.new.shares c.forget.new.bytes rest c.self.inside.bytes (before at.After-cover).0 (omega (arith, c.len-few.ensures.small, c.len-few.ensures.len)) in
    omega (arith, few.0, c.from.ensures, c.ranges.size.fits)

pub invariant_of-self-2 : goal.invariant_of-self-2
invariant_of-self-2 c =
    let at = goal.at.invariant_of-self-2 c in
    let rest = rest at.In_ok-before (before at.After-cover) c.forget.new.shares c.forget.new.bytes c.forget.ensures in
    let slot = slot_of c.in_ok-location.location in
    let amounts = subst (λ slot. Changes slot (amount_more (now_at c.forget.new.shares slot) c.args.size) c.forget.new.shares c.add.new.self) c.slot_of-slot.ensures c.add.ensures.amount in
    let counts = subst (λ slot. Counts slot (count_more (count_at c.forget.new.shares slot) c.args.size) c.forget.new.shares c.add.new.self) c.slot_of-slot.ensures c.add.ensures.count in
    let both = counted c.number_at.new.self c.self.inside.held.entries c.insert.new.self.entries (kept at.In_ok-before) c.cover.new.self c.forget.new.shares c.forget.new.bytes rest c.insert.ensures.unique c.add.new.self amounts in
    let bytes = subst (λ size. IsLedger c.number_at.new.self c.insert.new.self.entries (c.forget.new.bytes + size)) (sym c.from.ensures) both.0 in (
      bytes,
      both.1,
      called-more c.number_at.new.self c.self.inside.held.entries c.insert.new.self.entries (kept at.In_ok-before) c.in_ok-location.ensures.there c.ranges.size.fits c.cover.new.self c.forget.new.shares c.add.new.self c.forget.new.bytes rest (before at.After-cover).1 (before at.After-cover).2 amounts counts c.add.ensures.total
          (few_more c.number_at.new.self c.self.inside.held.entries c.insert.new.self.entries (kept at.In_ok-before) c.cover.new.self c.forget.new.shares c.forget.new.bytes rest),
    )

pub returns-clause-held : goal.returns-clause-held
returns-clause-held c = λ other.
    let kept : Kept = record { size = c.args.size; line = c.args.line; location = c.in_ok-location.location } in
    let view = same_view c.self.inside.locations c.number_at.new.self c.number_at.ensures.others c.self.inside.held.entries c.self.inside.bytes c.self.invariant.0 ∙ ap (λ (state : LedgerState). state.all) c.self.view_is in
    changes_at c.number_at.new.self c.self.inside.held.entries c.insert.new.self.entries c.args.self.now.all view c.value.result c.args.address c.value.ensures.value (Some kept)
    c.in_ok-before.ensures.updates.0 other
    ∙ ap (λ at. cond (c.args.address == other) (Some (record { addr = c.args.address; size = c.args.size; line = c.args.line; at = at })) (entry_under c.args.self.now.all other)) c.in_ok-location.ensures.found

pub returns-clause-peak : goal.returns-clause-peak
returns-clause-peak c =
    let at = goal.at.returns-clause-peak c in
    let rest = rest at.In_ok-before (before at.After-cover) c.forget.new.shares c.forget.new.bytes c.forget.ensures in
    record {
      at_peak = peak_stays c.self.inside.locations c.number_at.new.self c.number_at.ensures.others c.self.inside.shares c.add.new.self c.self.invariant.1.beyond
          (λ slot. c.add.ensures.amount.marked slot ∙ rest.marked slot ∙ c.cover.ensures.kept.marked slot)
          ∙ ap (λ (state : LedgerState). state.at_peak) c.self.view_is;
      mark = c.add.ensures.amount.mark ∙ rest.mark ∙ c.cover.ensures.kept.mark ∙ ap (λ (state : LedgerState). state.mark) c.self.view_is;
    }

pub add-requires-clause-calls : goal.add-requires-clause-calls
add-requires-clause-calls c =
    let at = goal.at.add-requires-clause-calls c in
    let rest = rest at.In_ok-before (before at.After-cover) c.forget.new.shares c.forget.new.bytes c.forget.ensures in
    let same : c.forget.new.shares.total.calls ≡ c.args.self.now.called.total.calls =
    ap (λ (count : Count). count.calls) (rest.counts.total ∙ c.cover.ensures.kept.counts.total) ∙ ap (λ (state : LedgerState). state.called.total.calls) c.self.view_is in
    omega (arith, same, c.requires.few)

pub returns-clause-called : goal.returns-clause-called
returns-clause-called c =
    let at = goal.at.returns-clause-called c in
    let rest = rest at.In_ok-before (before at.After-cover) c.forget.new.shares c.forget.new.bytes c.forget.ensures in
    let amounts = subst (λ slot. Changes slot (amount_more (now_at c.forget.new.shares slot) c.args.size) c.forget.new.shares c.add.new.self) c.slot_of-slot.ensures c.add.ensures.amount in
    let counts = subst (λ slot. Counts slot (count_more (count_at c.forget.new.shares slot) c.args.size) c.forget.new.shares c.add.new.self) c.slot_of-slot.ensures c.add.ensures.count in
    let after = called-more c.number_at.new.self c.self.inside.held.entries c.insert.new.self.entries (kept at.In_ok-before) c.in_ok-location.ensures.there c.ranges.size.fits c.cover.new.self c.forget.new.shares c.add.new.self c.forget.new.bytes rest (before at.After-cover).1 (before at.After-cover).2 amounts counts c.add.ensures.total
    (few_more c.number_at.new.self c.self.inside.held.entries c.insert.new.self.entries (kept at.In_ok-before) c.cover.new.self c.forget.new.shares c.forget.new.bytes rest) in
    more_called c.self.inside.locations c.number_at.new.self c.number_at.ensures.others c.in_ok-location.location c.in_ok-location.ensures.there c.self.inside.shares c.forget.new.shares c.add.new.self (length c.self.inside.held.entries)
    (length c.insert.new.self.entries) c.self.invariant.2 after c.args.size _ (sym c.in_ok-location.ensures.found)
    (λ slot. rest.counts.now slot ∙ c.cover.ensures.kept.counts.now slot) (rest.counts.total ∙ c.cover.ensures.kept.counts.total) counts c.add.ensures.total
    _ (ap (λ (state : LedgerState). state.called) c.self.view_is)
