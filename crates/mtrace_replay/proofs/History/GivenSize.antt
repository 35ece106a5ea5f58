-- A line that is served is given a block for as many bytes as it asks for, at an address that isn't held then.
use Rattle.std.proofs.Common.{◌≡◌, ◌⊎◌, inl, inr, cond, ℕ, suc, Bool, true, false, Option, Some, None, Result, Ok, Err, refl, sym, ap, ◌∙◌}
use Rattle.std.specs.Prelude.{◌==◌}
use Rattle.std.proofs.lemmas.Bool.{eq-eqb}
use Rattle.tlsf_heap.specs.declared.refusal.Refusal.{Refusal}
use Rattle.mtrace_replay.specs.Entry.{Entry}
use Rattle.mtrace_replay.specs.Started.{Bare}
use Rattle.mtrace_replay.specs.Moment.{ReadLine, Given, Act, idle, give, take, move, plan, answered, moved, done, moment}
use Rattle.mtrace_replay.specs.History.{unless_taken}
use Rattle.mtrace_replay.specs.Asked.{bytes_asked}
use Rattle.mtrace_replay.proofs.History.PlanLemmas.{AsksFor, is_planned}
use Rattle.mtrace_replay.proofs.History.HeldLemmas.{moment_gives}

-- what is given is the entry that a block is asked for
of_entry : (size : ℕ) (entry : Entry) (place : ℕ) (given : Given) → entry.size ≡ size → Some (record { entry = entry; place = place }) ≡ Some given → given.entry.size ≡ size
of_entry size entry place given asks is = let same : record { entry = entry; place = place } ≡ given = cc in ap (λ (g : Given). g.entry.size) (sym same) ∙ asks

answered_size : (size : ℕ) (entry : Entry) (content : Bare) (answer : Result (ℕ × Bare) Refusal) (given : Given) → entry.size ≡ size → (answered entry content answer).given ≡ Some given → given.entry.size ≡ size
answered_size size entry content (Ok (place, new)) given asks gave = of_entry size entry place given asks gave
answered_size size entry content (Err refusal) given asks gave = absurd (cc)

moved_size : (size old from : ℕ) (entry : Entry) (content : Bare) (answer : Result (Option (ℕ × Unit {0}) × Bare) Refusal) (given : Given) → entry.size ≡ size → (moved old from entry content answer).given ≡ Some given
    → given.entry.size ≡ size
moved_size size old from entry content (Ok (Some (place, owner), new)) given asks gave = of_entry size entry place given asks gave
moved_size size old from entry content (Ok (None, new)) given asks gave = absurd (cc)
moved_size size old from entry content (Err refusal) given asks gave = absurd (cc)

done_size : (size : ℕ) (act : Act) (content : Bare) (given : Given) → AsksFor size act → (done act content).given ≡ Some given → given.entry.size ≡ size
done_size size idle content given asks gave = absurd (cc)
done_size size (give entry align) content given asks gave = answered_size size entry content _ given asks gave
done_size size (take address place) content given asks gave = absurd (cc)
done_size size (move old place entry) content given asks gave = moved_size size old place entry content _ given asks gave

module _ (count : ℕ) (line : ReadLine) (pending : Option ℕ) (before : ℕ → Option Given) (content : Bare) (given : Given) (gave : (moment count line pending before content).given ≡ Some given) where
  pub given_size : given.entry.size ≡ bytes_asked line
  given_size = done_size (bytes_asked line) (plan (suc count) line pending before).act content given (is_planned (suc count) before line pending).asks gave

  -- its address isn't held once what the line takes is taken
  pub given_vacant : unless_taken (moment count line pending before content).taken given.entry.addr (before given.entry.addr) ≡ None
  given_vacant = by_taken (moment count line pending before content).taken ((moment_gives count line pending before content).was_free given gave)
    where
      by_taken : (taken : Option ℕ) → (before given.entry.addr ≡ None) ⊎ (taken ≡ Some given.entry.addr) → unless_taken taken given.entry.addr (before given.entry.addr) ≡ None
      by_taken None (inl none) = none
      by_taken None (inr is) = absurd (cc)
      by_taken (Some taken) (inl none) = by_address (taken == given.entry.addr)
        where
          by_address : (b : Bool) → cond b None (before given.entry.addr) ≡ None
          by_address true = refl
          by_address false = none
      by_taken (Some taken) (inr is) =
          let same : taken ≡ given.entry.addr = cc in ap (λ b. cond b None (before given.entry.addr)) (eq-eqb taken given.entry.addr same)
