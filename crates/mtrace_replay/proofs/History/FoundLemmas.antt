-- What is held in order of address is told by its look-ups.
use Rattle.std.proofs.Common.{◌+◌, ◌≡◌, ℕ, cond, List, [], ◌∷◌, map, Option, Some, None, inl, inr, refl, sym, ap, ◌∙◌, subst, arith}
use Rattle.std.specs.Prelude.{◌==◌}
use Rattle.std.specs.List.Sorted.{IsStrictlyIncreasing}
use Rattle.std.proofs.lemmas.Bool.{cases_Bool, eqb-true}
use Rattle.std.proofs.lemmas.Map.Keys.{sorted_from_strictly_increasing}
use Rattle.mtrace_replay.specs.Holding.{Holding}
use Rattle.mtrace_replay.specs.Moment.{Given, Moment}
use Rattle.mtrace_replay.specs.Index.{addresses as holding_addresses, held_bytes}
use Rattle.mtrace_replay.specs.Texts.{total_size}
use Rattle.mtrace_replay.specs.Entry.{Entry}
use Rattle.std.proofs.lemmas.List.Sums.{sum_by-cons}
use Rattle.mtrace_replay.specs.History.{AreHeld, given_or, unless_taken, held, entries_of}
use Rattle.mtrace_replay.specs.Step.{held_given, all_given}
use Rattle.mtrace_replay.proofs.History.SortedLemmas.{address_of, addresses, is_found, found_in}

-- what an address is held under has that address
given_address : (gave : Option Given) (address : ℕ) (before : Option Given) (given : Given) → given_or gave address before ≡ Some given
    → (before ≡ Some given → given.entry.addr ≡ address) → given.entry.addr ≡ address
given_address None address before given is earlier = earlier is
given_address (Some gave) address before given is earlier = elim (cases_Bool (gave.entry.addr == address)) [
  | inl here ↦
      let same : gave ≡ given = (let e : Some gave ≡ Some given = sym (ap (λ b. cond b (Some gave) before) here) ∙ is in cc) in
      ap (λ (g : Given). g.entry.addr) (sym same) ∙ eqb-true gave.entry.addr address here
  | inr there ↦ earlier (sym (ap (λ b. cond b (Some gave) before) there) ∙ is)
]

left_address : (taken : Option ℕ) (address : ℕ) (before : Option Given) (given : Given) → unless_taken taken address before ≡ Some given → before ≡ Some given
left_address None address before given is = is
left_address (Some taken) address before given is = elim (cases_Bool (taken == address)) [
  | inl here ↦ absurd (let e : None ≡ Some given = sym (ap (λ b. cond b None before) here) ∙ is in cc)
  | inr there ↦ sym (ap (λ b. cond b None before) there) ∙ is
]

held_address : (past : List Moment) (address : ℕ) (given : Given) → held past address ≡ Some given → given.entry.addr ≡ address
held_address [] address given is = absurd (cc)
held_address (moment ∷ past) address given is =
    given_address moment.given address (unless_taken moment.taken address (held past address)) given is
    (λ left. held_address past address given (left_address moment.taken address (held past address) given left))

-- two answers that are the same wherever either is one
same_answer : (one other : Option Given) → ((given : Given) → one ≡ Some given → other ≡ Some given) → ((given : Given) → other ≡ Some given → one ≡ Some given) → one ≡ other
same_answer None None there back = refl
same_answer None (Some given) there back = back given refl
same_answer (Some given) other there back = sym (there given refl)

-- a look-up finds what is held
pub found_is_held : (all : List Given) (past : List Moment) → AreHeld all past → (address : ℕ) → held_given all address ≡ held past address
found_is_held all past are address = same_answer (held_given all address) (held past address)
    (λ given is. let there = found_in address_of all address given is in subst (λ a. held past a ≡ Some given) there.1 ((are.each given).0 there.0))
    (λ given is.
    let same = held_address past address given is in
    subst (λ a. held_given all a ≡ Some given) same
    (is_found address_of all given (sorted_from_strictly_increasing (addresses all) are.in_order) ((are.each given).1 (subst (λ a. held past a ≡ Some given) (sym same) is))))

-- a list in order whose look-ups find what is held
pub held_as_found : (all : List Given) (past : List Moment) → IsStrictlyIncreasing (addresses all) → ((address : ℕ) → held_given all address ≡ held past address) → AreHeld all past
held_as_found all past ordered same = record {
  in_order = ordered;
  each = (λ given. (
    (λ has. sym (same given.entry.addr) ∙ is_found address_of all given (sorted_from_strictly_increasing (addresses all) ordered) has),
    (λ is. (found_in address_of all given.entry.addr given (same given.entry.addr ∙ is)).0),
  ));
}

-- nothing is held before the first line
pub none_held : AreHeld [] []
none_held = held_as_found [] [] (λ k within. absurd (omega (arith, within))) (λ address. refl)

-- the addresses, and the entries, of what is held without slots
pub addresses_given : (holdings : List Holding) → addresses (all_given holdings) ≡ holding_addresses holdings
addresses_given [] = refl
addresses_given (holding ∷ holdings) = ap (λ rest. holding.entry.addr ∷ rest) (addresses_given holdings)

pub entries_given : (holdings : List Holding) → entries_of (all_given holdings) ≡ map (λ (holding : Holding). holding.entry) holdings
entries_given [] = refl
entries_given (holding ∷ holdings) = ap (λ rest. holding.entry ∷ rest) (entries_given holdings)

pub sizes_given : (holdings : List Holding) → held_bytes holdings ≡ total_size (entries_of (all_given holdings))
sizes_given [] = refl
sizes_given (holding ∷ holdings) =
    sum_by-cons (λ (h : Holding). h.entry.size) holding holdings ∙ ap (λ rest. holding.entry.size + rest) (sizes_given holdings)
    ∙ sym (sum_by-cons (λ (entry : Entry). entry.size) holding.entry (entries_of (all_given holdings)))
