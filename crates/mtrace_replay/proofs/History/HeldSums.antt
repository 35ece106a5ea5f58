-- How a sum over what is held changes by one line.
use Rattle.std.proofs.Common.{cond, Option, Some, None, ◌≡◌, ℕ, ◌+◌, ◌≤◌, List, [], ◌∷◌, length, refl, sym, ap, ◌∙◌, arith}
use Rattle.std.specs.Prelude.{◌==◌, sum_by}
use Rattle.std.proofs.lemmas.List.Sums.{sum_by-cons}
use Rattle.std.proofs.lemmas.Map.Keys.{sorted_from_strictly_increasing, IsStrictlyIncreasing-from_sorted}
use Rattle.mtrace_replay.specs.Entry.{Entry}
use Rattle.mtrace_replay.specs.Moment.{Given, Moment}
use Rattle.mtrace_replay.specs.History.{AreHeld, held, unless_taken, given_or, entries_of}
use Rattle.mtrace_replay.specs.Step.{held_given}
use Rattle.mtrace_replay.specs.Texts.{total_size}
use Rattle.mtrace_replay.specs.Totals.{rounded_bytes_in}
use Rattle.mtrace_replay.specs.Needs.{of_one, bytes_of_block}
use Rattle.mtrace_replay.proofs.History.SortedLemmas.{addresses, one_list}
use Rattle.mtrace_replay.proofs.History.FoundLemmas.{found_is_held, held_as_found}
use Rattle.mtrace_replay.proofs.History.HeldCounts.{Rise, put, still_held, with_given, sum-put, sum-without, held_given-put, rise-put, rise-rest, held_given-rest}

-- what is taken of what is held
abbrev pub freed_of : Option ℕ → List Given → Option Given
freed_of None all = None
freed_of (Some address) all = held_given all address

-- `taken` may differ from the address that the moment takes, where what is left at each address is the same with both
module _ (before : List Moment) (now : Moment) (taken : Option ℕ) (takes : (q : ℕ) → unless_taken now.taken q (held before q) ≡ unless_taken taken q (held before q))
    (all : List Given) (are : AreHeld all before) where
  rises : Rise all
  rises = sorted_from_strictly_increasing (addresses all) are.in_order

  finds : (q : ℕ) → held_given (still_held taken all) q ≡ unless_taken now.taken q (held before q)
  finds q = held_given-rest taken all rises q ∙ ap (unless_taken taken q) (found_is_held all before are q) ∙ sym (takes q)

  -- what is held behind the moment, by what it gives, at an address that isn't held then
  pub held_behind : (gave : Option Given) → now.given ≡ gave → ((given : Given) → gave ≡ Some given → unless_taken now.taken given.entry.addr (held before given.entry.addr) ≡ None)
      → AreHeld (with_given gave (still_held taken all)) (now ∷ before)
  held_behind None none vacant = held_as_found (still_held taken all) (now ∷ before) (IsStrictlyIncreasing-from_sorted (addresses (still_held taken all)) (rise-rest taken all rises))
      (λ q. finds q ∙ sym (ap (λ (o : Option Given). given_or o q (unless_taken now.taken q (held before q))) none))
  held_behind (Some given) gave vacant =
      let rest = still_held taken all in
      held_as_found (put given rest) (now ∷ before)
      (IsStrictlyIncreasing-from_sorted (addresses (put given rest)) (rise-put given rest (rise-rest taken all rises) (finds given.entry.addr ∙ vacant given refl)))
      (λ q. held_given-put given rest q ∙ ap (cond (given.entry.addr == q) (Some given)) (finds q)
      ∙ sym (ap (λ (o : Option Given). given_or o q (unless_taken now.taken q (held before q))) gave))

module _ (before : List Moment) (now : Moment) (vacant : (given : Given) → now.given ≡ Some given → unless_taken now.taken given.entry.addr (held before given.entry.addr) ≡ None)
    (all new : List Given) (are : AreHeld all before) (are_now : AreHeld new (now ∷ before)) where
  -- what is held now is what was, without what is taken, and with what is given
  held_now : new ≡ with_given now.given (still_held now.taken all)
  held_now = one_list (now ∷ before) new (with_given now.given (still_held now.taken all)) are_now (held_behind before now now.taken (λ q. refl) all are now.given refl vacant)

  module _ (f : Given → ℕ) where
    sum-given : (gave : Option Given) (es : List Given) → sum_by f (with_given gave es) ≡ of_one f gave + sum_by f es
    sum-given None es = omega arith
    sum-given (Some given) es = sum-put f given es

    sum-rest : (taken : Option ℕ) → sum_by f all ≡ of_one f (freed_of taken all) + sum_by f (still_held taken all)
    sum-rest None = omega arith
    sum-rest (Some address) = sum-without f address all

    pub sum-freed : of_one f (freed_of now.taken all) ≤ sum_by f all
    sum-freed = omega (arith, sum-rest now.taken)

    -- so a sum loses what is taken, and gains what is given
    pub sum-changes : sum_by f new + of_one f (freed_of now.taken all) ≡ of_one f now.given + sum_by f all
    sum-changes = let is = ap (sum_by f) held_now in omega (arith, is, sum-given now.given (still_held now.taken all), sum-rest now.taken)

-- the number of what is held, its bytes, and those of its blocks, as sums
pub blocks_summed : (all : List Given) → length all ≡ sum_by (λ (given : Given). 1) all
blocks_summed [] = refl
blocks_summed (given ∷ all) = omega (arith, blocks_summed all, sum_by-cons (λ (given : Given). 1) given all)

pub bytes_summed : (all : List Given) → total_size (entries_of all) ≡ sum_by (λ (given : Given). given.entry.size) all
bytes_summed [] = refl
bytes_summed (given ∷ all) =
    omega (arith, bytes_summed all, sum_by-cons (λ (given : Given). given.entry.size) given all, sum_by-cons (λ (entry : Entry). entry.size) given.entry (entries_of all))

pub rounded_summed : (all : List Given) → rounded_bytes_in all ≡ sum_by bytes_of_block all
rounded_summed [] = refl
rounded_summed (given ∷ all) = omega (arith, rounded_summed all, sum_by-cons bytes_of_block given all)
