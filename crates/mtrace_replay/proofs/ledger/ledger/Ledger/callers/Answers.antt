-- The callers by slot, sorted, are those of the calls.
use Rattle.std.proofs.Common.{List, reverse, refl, sym, subst, ap}
use Rattle.std.specs.List.Sorted.{IsPermutation}
use Rattle.std.proofs.lemmas.List.Sorted.{IsPermutation-reverse, IsPermutation-sym, IsPermutation-trans}
use Rattle.mtrace_replay.specs.Calls.{Caller, has_no_call, caller_of}
use Rattle.mtrace_replay.specs.Callers.{AreCounted}
use Rattle.mtrace_replay.specs.Shares.{count_at}
use Rattle.mtrace_replay.specs.Ledger.{LedgerState}
use Rattle.mtrace_replay.proofs.OnLedger.CallersBySlot.{called_of, callers_of-some}
use Rattle.mtrace_replay.proofs.OnLedger.RowsBySlot.{one_row}
use Rattle.mtrace_replay.proofs.Told.SiteLemmas.CallerOrder.{are_callers}
use Rattle.mtrace_replay.proofs.ledger.ledger.Ledger.callers.Goals as goal

pub returns : goal.returns
returns c = λ calls temporary counted.
    let locations = c.self.inside.locations in
    let shares = c.self.inside.shares in
    let callers = c.in_ok-callers.callers.items in
    let sorted = c.sort_callers.new.callers.items in
    let back = IsPermutation-sym callers (reverse callers) (IsPermutation-reverse callers) in
    let arranged = subst (λ (cs : List Caller). IsPermutation cs sorted) c.in_ok-callers.ensures (IsPermutation-trans (reverse callers) callers sorted back c.sort_callers.ensures.moved) in
    are_callers calls temporary (called_of locations shares) sorted (subst (AreCounted calls temporary) (sym (ap (λ (state : LedgerState). state.called) c.self.view_is)) counted)
    (λ p. one_row p has_no_call caller_of (λ caller. caller.at) (λ at count. refl) (count_at shares) locations c.keep_apart.ensures) (callers_of-some (count_at shares) locations) arranged c.sort_callers.ensures.sorted
