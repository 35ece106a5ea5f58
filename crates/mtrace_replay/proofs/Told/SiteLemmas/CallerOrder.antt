-- Callers, in their order, are those of the calls.
use Rattle.std.proofs.Common.{◌≡◌, ◌<◌, ◌≤◌, List, [], ◌∷◌, get_or, refl, sym, ap, ◌∙◌, subst, arith}
use Rattle.std.specs.List.{AllByRecursion, sum_by, All}
use Rattle.std.specs.List.Sorted.{IsPermutation, IsSorted}
use Rattle.std.specs.Ordering.{nat_cmp, ordering_then}
use Rattle.std.specs.Cmp.{IsTotalOrder}
use Rattle.std.specs.declared.cmp.Ordering.TheVariants.{Equal}
use Rattle.std.proofs.lemmas.Cmp.{nat_cmp_total, on_total, then_total, back_total}
use Rattle.std.proofs.lemmas.List.Sorted.{sum_by-IsPermutation, All-permutation}
use Rattle.std.proofs.lemmas.List.Elements.{All-from_recursion}
use Rattle.mtrace_replay.specs.Sites.{Origin, origin_cmp, weigh, blocks_at}
use Rattle.mtrace_replay.specs.Calls.{Caller, Called, called_at}
use Rattle.mtrace_replay.specs.Callers.{caller_cmp, IsCallerOf, AreCallers, AreCounted}
use Rattle.mtrace_replay.specs.Entry.{Entry}
use Rattle.mtrace_replay.proofs.Told.SiteLemmas.Origins.{origin_total, origin_same, weigh-self}
use Rattle.mtrace_replay.proofs.Told.SiteLemmas.OneEach.{own_one, strict, has_one}
use Rattle.mtrace_replay.proofs.Told.SiteLemmas.Exact.{then_Equal, at_least}

pub caller_total : IsTotalOrder caller_cmp
caller_total =
    then_total (then_total (back_total (on_total (λ (c : Caller). c.calls) nat_cmp_total)) (back_total (on_total (λ (c : Caller). c.bytes) nat_cmp_total)))
    (on_total (λ (c : Caller). c.at) origin_total)

-- callers that tie have one origin; their temporary calls may differ
at_same : (c d : Caller) → caller_cmp c d ≡ Equal → c.at ≡ d.at
at_same c d e =
    let (numbers, at) = then_Equal (ordering_then (nat_cmp d.calls c.calls) (nat_cmp d.bytes c.bytes)) (origin_cmp c.at d.at) e in
    origin_same c.at d.at at

exact_of : (calls temporary : List Entry) (runs : List Caller) (called : Called) → called.callers ≡ runs → AreCounted calls temporary called → (cs : List Caller) → AllByRecursion (λ c. 0 < c.calls) cs
    → AllByRecursion (λ c. sum_by (λ d. weigh c.at d.at d.calls) runs ≡ c.calls) cs → AllByRecursion (λ c. sum_by (λ d. weigh c.at d.at d.bytes) runs ≡ c.bytes) cs
    → AllByRecursion (λ c. sum_by (λ d. weigh c.at d.at d.temporary) runs ≡ c.temporary) cs → AllByRecursion (IsCallerOf calls temporary) cs
exact_of calls temporary runs called are counted [] some x y z = tt
exact_of calls temporary runs called are counted (c ∷ cs) (n, some) (x, xs) (y, ys) (z, zs) = (
  record {
    some = n;
    calls_are = sym x ∙ ap (called_at (λ d. d.calls) c.at) (sym are) ∙ counted.calls_are c.at;
    bytes_are = sym y ∙ ap (called_at (λ d. d.bytes) c.at) (sym are) ∙ counted.bytes_are c.at;
    temporary_are = sym z ∙ ap (called_at (λ d. d.temporary) c.at) (sym are) ∙ counted.temporary_are c.at;
  },
  exact_of calls temporary runs called are counted cs some xs ys zs,
)

-- callers that are counted, none of them without a call, are those of the calls when sorted
pub are_callers : (calls temporary : List Entry) (called : Called) (callers : List Caller) → AreCounted calls temporary called → ((p : Origin) → sum_by (λ c. weigh p c.at 1) called.callers ≤ 1)
    → AllByRecursion (λ c. 0 < c.calls) called.callers → IsPermutation called.callers callers → IsSorted caller_cmp callers → AreCallers calls temporary callers
are_callers calls temporary called callers counted one some arranged up =
    let runs = called.callers in
    let exact : All (IsCallerOf calls temporary) runs = All-from_recursion (IsCallerOf calls temporary) runs
    (exact_of calls temporary runs called refl counted runs some (own_one (λ c. c.at) (λ c. c.calls) runs one) (own_one (λ c. c.at) (λ c. c.bytes) runs one) (own_one (λ c. c.at) (λ c. c.temporary) runs one)) in
    let still_one : (p : Origin) → sum_by (λ c. weigh p c.at 1) callers ≤ 1 = λ p. omega (arith, sum_by-IsPermutation (λ (c : Caller). weigh p c.at 1) runs callers arranged, one p) in
    let here : (p : Origin) → sum_by (λ c. weigh p c.at c.calls) callers ≡ blocks_at p calls = λ p. sum_by-IsPermutation (λ (c : Caller). weigh p c.at c.calls) runs callers arranged ∙ counted.calls_are p in
    record {
      order = strict (λ c. c.at) caller_cmp caller_total at_same callers up still_one;
      exact = All-permutation (IsCallerOf calls temporary) runs callers arranged exact;
      covers = λ k d lt.
          let e = get_or calls k d in
          let least : 1 ≤ blocks_at e.at calls = subst (λ n. n ≤ blocks_at e.at calls) (weigh-self e.at 1) (at_least (λ f. weigh e.at f.at 1) calls k d lt) in
          has_one (λ c. c.at) (λ c. c.calls) e.at callers (omega (arith, here e.at, least));
    }
