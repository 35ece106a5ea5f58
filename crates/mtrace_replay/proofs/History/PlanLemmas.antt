-- What the plan of a line rests on.
use Rattle.std.proofs.Common.{◌≡◌, ◌≢◌, ◌⊎◌, inl, inr, ℕ, ◌+◌, ◌≤◌, arith, length, Bool, true, false, not, is_some, Option, Some, None, Ok, Err, refl, sym, ap, ◌∙◌}
use Rattle.std.specs.Prelude.{◌==◌, ◌&&◌, if◌then◌else◌}
use Rattle.std.specs.List.{AllByRecursion}
use Rattle.std.proofs.lemmas.Bool.{cases_Bool, eqb-true}
use Rattle.mtrace_log.specs.declared.event.Event.TheVariants.{Alloc, Free, New, Aligned}
use Rattle.mtrace_log.specs.declared.event.LineFault.TheVariants as fault
use Rattle.mtrace_replay.specs.Entry.{Entry}
use Rattle.mtrace_replay.specs.declared.held.diagnostic.Diagnostic.{Diagnostic}
use Rattle.mtrace_replay.specs.declared.held.diagnostic.Kind.{Kind}
use Rattle.mtrace_replay.specs.declared.held.diagnostic.Kind.TheVariants.{TooLong, NotALine, NotHeld, AlreadyHeld, Refused}
use Rattle.tlsf_heap.specs.declared.refusal.Refusal.{Refusal}
use Rattle.mtrace_replay.specs.Asked.{bytes_asked}
use Rattle.mtrace_replay.specs.Moment.{ReadLine, Given, is_new, Act, idle, give, take, move, Plan, plan, none_for, doing, allocation, release, reallocation, renewal, acts}

-- the address is held under a block at the place
abbrev pub IsAt : (ℕ → Option Given) → (address place : ℕ) → Type 0
IsAt held address place = (from : Given) × (held address ≡ Some from) × (from.place ≡ place)

-- a block is asked for where nothing is held under the address, or what is held there is moved; what is taken is held
abbrev pub Fits : ℕ → (ℕ → Option Given) → Act → Type 0
Fits number held idle = Unit {0}
Fits number held (give entry align) = (entry.line ≡ number) × (held entry.addr ≡ None)
Fits number held (take address place) = IsAt held address place
Fits number held (move old place entry) = (entry.line ≡ number) × IsAt held old place × ((held entry.addr ≡ None) ⊎ (old ≡ entry.addr))

abbrev pub IsNoRefusal : Diagnostic → Type 0
IsNoRefusal one = (address : ℕ) (why : Refusal) → one.kind ≢ Refused address why

-- what an act asks for has this many bytes
abbrev pub AsksFor : ℕ → Act → Type 0
AsksFor size (give entry align) = entry.size ≡ size
AsksFor size (move old place entry) = entry.size ≡ size
AsksFor size _ = Unit {0}

-- The act fits what is held, and asks for this many bytes, if any. What is wrong before it is no refusal. These diagnostics, and one
-- more where the heap is asked, are at most `most`.
pub record IsPlanned (number : ℕ) (held : ℕ → Option Given) (size most : ℕ) (planned : Plan) : Type 0 where
  pub fits : Fits number held planned.act
  pub asks : AsksFor size planned.act
  pub none_refused : AllByRecursion IsNoRefusal planned.first
  pub few : length planned.first + (if acts planned.act then 1 else 0) ≤ most

module _ (number : ℕ) (held : ℕ → Option Given) where
  none_planned : (kind : Kind) → ((address : ℕ) (why : Refusal) → kind ≢ Refused address why) → IsPlanned number held 0 1 (none_for number kind)
  none_planned kind other = record { fits = tt; asks = tt; none_refused = (other, tt); few = omega arith }

  module _ (entry : Entry) (is : entry.line ≡ number) where
    allocation_planned : (align : Option ℕ) (here : Option Given) → held entry.addr ≡ here → IsPlanned number held entry.size 1 (allocation entry align here)
    allocation_planned align None free = record { fits = (is, free); asks = refl; none_refused = tt; few = omega arith }
    allocation_planned align (Some given) there = record { fits = tt; asks = tt; none_refused = ((λ address why e. cc), tt); few = omega arith }

    -- the new address is the old one, or not held
    free_again : (old : ℕ) (here : Option Given) → held entry.addr ≡ here → not (entry.addr == old) && is_some here ≡ false → (held entry.addr ≡ None) ⊎ (old ≡ entry.addr)
    free_again old None none away = inl none
    free_again old (Some given) some away = elim (cases_Bool (entry.addr == old)) [
      | inl same ↦ inr (sym (eqb-true entry.addr old same))
      | inr apart ↦ absurd (let e : not false && true ≡ false = ap (λ b. not b && true) (sym apart) ∙ away in cc)
    ]

    reallocation_planned : (old : ℕ) (there here : Option Given) → held old ≡ there → held entry.addr ≡ here → IsPlanned number held entry.size 2 (reallocation entry old there here)
    reallocation_planned old None here none at =
        let planned = allocation_planned None here at in
        record { fits = planned.fits; asks = planned.asks; none_refused = ((λ address why e. cc), planned.none_refused); few = omega (arith, planned.few) }
    reallocation_planned old (Some from) here some at = by_test (not (entry.addr == old) && is_some here) refl
      where
        by_test : (test : Bool) → not (entry.addr == old) && is_some here ≡ test
            → IsPlanned number held entry.size 2 (if test then none_for entry.line (AlreadyHeld entry.addr) else doing (move old from.place entry))
        by_test true h = record { fits = tt; asks = tt; none_refused = ((λ address why e. cc), tt); few = omega arith }
        by_test false h = record { fits = (is, (from, some, refl), free_again old here at h); asks = refl; none_refused = tt; few = omega arith }

    renewal_planned : (pending : Option ℕ) → IsPlanned number held entry.size 2 (renewal entry pending held)
    renewal_planned None = record { fits = tt; asks = tt; none_refused = ((λ address why e. cc), tt); few = omega arith }
    renewal_planned (Some old) = reallocation_planned old (held old) (held entry.addr) refl refl

  release_planned : (address : ℕ) (here : Option Given) → held address ≡ here → IsPlanned number held 0 1 (release number address here)
  release_planned address None none = none_planned (NotHeld address) (λ other why e. cc)
  release_planned address (Some given) some = record { fits = (given, some, refl); asks = tt; none_refused = tt; few = omega arith }

  pub is_planned : (line : ReadLine) (pending : Option ℕ) → IsPlanned number held (bytes_asked line) (if is_new line then 2 else 1) (plan number line pending held)
  is_planned (Err fault.TooLong) pending = none_planned TooLong (λ address why e. cc)
  is_planned (Err fault.NotALine) pending = none_planned NotALine (λ address why e. cc)
  is_planned (Ok (Alloc at (Some address) size)) pending = allocation_planned (record { addr = address; size = size; line = number; at = at }) refl None (held address) refl
  is_planned (Ok (Free at address)) pending = release_planned address (held address) refl
  is_planned (Ok (New at address size)) pending = renewal_planned (record { addr = address; size = size; line = number; at = at }) refl pending
  is_planned (Ok (Aligned at address align size)) pending = allocation_planned (record { addr = address; size = size; line = number; at = at }) refl (Some align) (held address) refl
  is_planned (Ok _) pending = record { fits = tt; asks = tt; none_refused = tt; few = omega arith }
