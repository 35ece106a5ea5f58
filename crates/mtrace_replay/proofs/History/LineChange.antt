-- What a line does to what is held where no heap is asked: an address that it releases, and one that it is given.
use Rattle.std.proofs.Common.{cond, ◌≡◌, ℕ, Bool, true, false, [], ◌⊎◌, Option, Some, None, Ok, Err, inl, inr, refl, sym, ap, ◌∙◌, subst}
use Rattle.std.specs.Prelude.{◌==◌, ◌&&◌, not, is_some, if◌then◌else◌}
use Rattle.std.specs.Option.{IfSome}
use Rattle.std.proofs.lemmas.Bool.{false≢true, eq-eqb, cases_eq, ne_eqb}
use Rattle.mtrace_log.specs.declared.event.Event.TheVariants.{Start, End, Alloc, Free, Old, New, Failed, Aligned}
use Rattle.mtrace_log.specs.declared.event.LineFault.TheVariants as fault
use Rattle.mtrace_replay.specs.Entry.{Entry}
use Rattle.mtrace_replay.specs.declared.held.diagnostic.Kind.TheVariants.{AlreadyHeld}
use Rattle.mtrace_replay.specs.Moment.{ReadLine, Given, Plan, idle, move, one_diagnostic, plan, allocation, release, reallocation}
use Rattle.mtrace_replay.specs.History.{unless_taken}
use Rattle.mtrace_replay.specs.LedgerReplay.{plan_moment}
use Rattle.mtrace_replay.specs.Spans.{released_by, address_asked}

-- what a plan leaves is a release, and then perhaps a block for what the line asks for, at an address that isn't held then
pub record IsChange (line : ReadLine) (number : ℕ) (last : Option ℕ) (before : ℕ → Option Given) (planned : Plan) : Type 0 where
  pub taken : (address : ℕ) → unless_taken (plan_moment planned).taken address (before address) ≡ unless_taken (released_by line last (is_some (plan_moment planned).given)) address (before address)
  pub given : IfSome (plan_moment planned).given (λ given. (given.entry.line ≡ number) × (address_asked line ≡ Some given.entry.addr)
      × (unless_taken (released_by line last true) given.entry.addr (before given.entry.addr) ≡ None))

module _ (number : ℕ) (last : Option ℕ) (before : ℕ → Option Given) where
  -- nothing is taken and nothing is given
  abbrev Nothing : ReadLine → Type 0
  Nothing line = (address : ℕ) → unless_taken None address (before address) ≡ unless_taken (released_by line last false) address (before address)

  by_none : (b : Bool) (given : Option Given) → given ≡ None → cond b None given ≡ None
  by_none true given is = refl
  by_none false given is = is

  -- `+` and `*`, by what the address is held under
  allocated : (line : ReadLine) (entry : Entry) (align : Option ℕ) → entry.line ≡ number → address_asked line ≡ Some entry.addr → ((served : Bool) → released_by line last served ≡ None)
      → (here : Option Given) → before entry.addr ≡ here → IsChange line number last before (allocation entry align here)
  allocated line entry align is asks none None same = record {
    taken = λ address. ap (λ o. unless_taken o address (before address)) (sym (none true));
    given = (is, asks, ap (λ o. unless_taken o entry.addr (before entry.addr)) (none true) ∙ same);
  }
  allocated line entry align is asks none (Some given) same = record {
    taken = λ address. ap (λ o. unless_taken o address (before address)) (sym (none false));
    given = tt;
  }

  -- `-`
  freed : (line : ReadLine) (address : ℕ) → ((served : Bool) → released_by line last served ≡ Some address) → (here : Option Given) → before address ≡ here → IsChange line number last before (release number address here)
  freed line address takes None same = record {
    taken = λ other. sym (ap (λ o. unless_taken o other (before other)) (takes false) ∙ by_address other (cases_eq address other));
    given = tt;
  }
    where
      by_address : (other : ℕ) → (address ≡ other) ⊎ (address ≡ other → ⊥) → cond (address == other) None (before other) ≡ before other
      by_address other (inl is) = by_none (address == other) (before other) (ap before (sym is) ∙ same) ∙ sym (ap before (sym is) ∙ same)
      by_address other (inr apart) = ap (λ b. cond b None (before other)) (ne_eqb address other apart)
  freed line address takes (Some given) same = record {
    taken = λ other. ap (λ o. unless_taken o other (before other)) (sym (takes false));
    given = tt;
  }

  -- `>` behind `<`, by what the two are held under
  module _ (line : ReadLine) (entry : Entry) (is : entry.line ≡ number) (asks : address_asked line ≡ Some entry.addr) (old : ℕ) (follows : last ≡ Some old)
      (takes : (served : Bool) → released_by line last served ≡ (if served then last else None)) where
    takes_old : released_by line last true ≡ Some old
    takes_old = takes true ∙ follows

    -- what isn't held isn't released
    none_taken : before old ≡ None → (address : ℕ) → cond (old == address) None (before address) ≡ before address
    none_taken none address = elim (cases_eq old address) [
      | inl same ↦ by_none (old == address) (before address) (ap before (sym same) ∙ none) ∙ sym (ap before (sym same) ∙ none)
      | inr apart ↦ ap (λ b. cond b None (before address)) (ne_eqb old address apart)
    ]

    asked_anew : before old ≡ None → (here : Option Given) → before entry.addr ≡ here → IsChange line number last before (reallocation entry old None here)
    asked_anew none None same = record {
      taken = λ address. sym (ap (λ o. unless_taken o address (before address)) takes_old ∙ none_taken none address);
      given = (is, asks, ap (λ o. unless_taken o entry.addr (before entry.addr)) takes_old ∙ none_taken none entry.addr ∙ same);
    }
    asked_anew none (Some given) same = record {
      taken = λ address. ap (λ o. unless_taken o address (before address)) (sym (takes false));
      given = tt;
    }

    by_clash : (from : Given) (here : Option Given) → before entry.addr ≡ here → (b : Bool) → (not (entry.addr == old) && is_some here) ≡ b
        → IsChange line number last before (if b then record { first = one_diagnostic entry.line (AlreadyHeld entry.addr); act = idle } else record { first = []; act = move old from.place entry })
    by_clash from here same true clash = record {
      taken = λ address. ap (λ o. unless_taken o address (before address)) (sym (takes false));
      given = tt;
    }
    by_clash from here same false no_clash = record {
      taken = λ address. ap (λ o. unless_taken o address (before address)) (sym takes_old);
      given = (is, asks, ap (λ o. unless_taken o entry.addr (before entry.addr)) takes_old ∙ vacant (cases_eq entry.addr old));
    }
      where
        none_there : (o : Option Given) → is_some o ≡ false → o ≡ None
        none_there None not = refl
        none_there (Some given) not = absurd (false≢true (sym not))

        vacant : (entry.addr ≡ old) ⊎ (entry.addr ≡ old → ⊥) → cond (old == entry.addr) None (before entry.addr) ≡ None
        vacant (inl at_old) = ap (λ b. cond b None (before entry.addr)) (eq-eqb old entry.addr (sym at_old))
        vacant (inr apart) =
            let not_there : is_some here ≡ false = sym (ap (λ b. not b && is_some here) (ne_eqb entry.addr old apart)) ∙ no_clash in
            by_none (old == entry.addr) (before entry.addr) (same ∙ none_there here not_there)

    pub renewed : (from here : Option Given) → before old ≡ from → before entry.addr ≡ here → IsChange line number last before (reallocation entry old from here)
    renewed None here none same = asked_anew none here same
    renewed (Some from) here there same = by_clash from here same (not (entry.addr == old) && is_some here) refl

-- no block is asked for, and none released
idles : (line : ReadLine) (number : ℕ) (last : Option ℕ) (before : ℕ → Option Given) (planned : Plan) → (plan_moment planned).taken ≡ None → (plan_moment planned).given ≡ None → released_by line last false ≡ None
    → IsChange line number last before planned
idles line number last before planned none_taken none_given none = record {
  taken = λ address.
      ap (λ o. unless_taken o address (before address)) (none_taken ∙ sym none)
      ∙ sym (ap (λ (o : Option Given). unless_taken (released_by line last (is_some o)) address (before address)) none_given);
  given = subst (λ (o : Option Given). IfSome o (λ given. (given.entry.line ≡ number) × (address_asked line ≡ Some given.entry.addr)
      × (unless_taken (released_by line last true) given.entry.addr (before given.entry.addr) ≡ None))) (sym none_given) tt;
}

-- what the plan of a line does
pub line_change : (number : ℕ) (line : ReadLine) (last : Option ℕ) (before : ℕ → Option Given) → IsChange line number last before (plan number line last before)
line_change number (Err fault.TooLong) last before = idles _ number last before _ refl refl refl
line_change number (Err fault.NotALine) last before = idles _ number last before _ refl refl refl
line_change number (Ok (Alloc at None size)) last before = idles _ number last before _ refl refl refl
line_change number (Ok (Alloc at (Some address) size)) last before =
    allocated number last before (Ok (Alloc at (Some address) size)) (record { addr = address; size = size; line = number; at = at }) None refl refl (λ served. refl) (before address) refl
line_change number (Ok (Aligned at address align size)) last before =
    allocated number last before (Ok (Aligned at address align size)) (record { addr = address; size = size; line = number; at = at }) (Some align) refl refl (λ served. refl) (before address) refl
line_change number (Ok (Free at address)) last before = freed number last before (Ok (Free at address)) address (λ served. refl) (before address) refl
line_change number (Ok (New at address size)) None before = idles _ number None before _ refl refl refl
line_change number (Ok (New at address size)) (Some old) before =
    renewed number (Some old) before (Ok (New at address size)) (record { addr = address; size = size; line = number; at = at }) refl refl old refl (λ served. refl) (before old) (before address) refl refl
line_change number (Ok Start) last before = idles _ number last before _ refl refl refl
line_change number (Ok End) last before = idles _ number last before _ refl refl refl
line_change number (Ok (Old at address)) last before = idles _ number last before _ refl refl refl
line_change number (Ok (Failed at address size)) last before = idles _ number last before _ refl refl refl
