-- What is held is told by the last moment that gave it, where no later one took it.
use Rattle.std.proofs.Common.{◌≡◌, ◌≢◌, ◌↔◌, ℕ, suc, List, [], ◌∷◌, ◌++◌, length, ◌⊎◌, inl, inr, true, false, cond, Option, Some, None, Result, Ok, Err, refl, sym, ap, ◌∙◌, subst}
use Rattle.std.specs.Prelude.{◌==◌}
use Rattle.std.specs.List.{AllByRecursion}
use Rattle.std.proofs.lemmas.Bool.{cases_Bool, eqb-true, eq-eqb}
use Rattle.mtrace_replay.specs.declared.held.diagnostic.Diagnostic.{Diagnostic}
use Rattle.tlsf_heap.specs.declared.refusal.Refusal.{Refusal}
use Rattle.mtrace_replay.specs.Started.{Bare}
use Rattle.mtrace_replay.specs.Moment.{ReadLine, Given, Moment, after_diagnostics, outcome, moment, Act, idle, give, take, move, plan, answered, moved, done}
use Rattle.mtrace_replay.specs.Entry.{Entry}
use Rattle.mtrace_replay.proofs.History.PlanLemmas.{Fits, is_planned}
use Rattle.mtrace_replay.specs.History.{held, given_or, unless_taken, moments, pending, content_after}
use Rattle.mtrace_replay.specs.Held.{IsHeldUnder}

-- what a moment gives has its line's number, and an address that was not held, or that it takes
pub record Gives (number : ℕ) (before : ℕ → Option Given) (moment : Moment) : Type 0 where
  pub number_is : (given : Given) → moment.given ≡ Some given → given.entry.line ≡ number
  pub was_free : (given : Given) → moment.given ≡ Some given → (before given.entry.addr ≡ None) ⊎ (moment.taken ≡ Some given.entry.addr)

gives_none : (number : ℕ) (before : ℕ → Option Given) (moment : Moment) → moment.given ≡ None → Gives number before moment
gives_none number before moment none = record {
  number_is = λ given gave. absurd (cc);
  was_free = λ given gave. absurd (cc);
}

gives_entry : (number : ℕ) (before : ℕ → Option Given) (moment : Moment) (given : Given) → moment.given ≡ Some given → given.entry.line ≡ number
    → (before given.entry.addr ≡ None) ⊎ (moment.taken ≡ Some given.entry.addr) → Gives number before moment
gives_entry number before moment given gave line free = record {
  number_is = λ other as_well. (let same : given ≡ other = cc in ap (λ (g : Given). g.entry.line) (sym same) ∙ line);
  was_free = λ other as_well. (let same : given ≡ other = cc in subst (λ (g : Given). (before g.entry.addr ≡ None) ⊎ (moment.taken ≡ Some g.entry.addr)) same free);
}

gives_after : (number : ℕ) (before : ℕ → Option Given) (diagnostics : List Diagnostic) (moment : Moment) → Gives number before moment → Gives number before (after_diagnostics diagnostics moment)
gives_after number before diagnostics moment gives = record { number_is = gives.number_is; was_free = gives.was_free }

answered_gives : (number : ℕ) (before : ℕ → Option Given) (entry : Entry) (content : Bare) (answer : Result (ℕ × Bare) Refusal) → entry.line ≡ number → before entry.addr ≡ None
    → Gives number before (answered entry content answer)
answered_gives number before entry content (Ok (place, new)) is free = gives_entry number before _ _ refl is (inl free)
answered_gives number before entry content (Err refusal) is free = gives_none number before _ refl

moved_gives : (number : ℕ) (before : ℕ → Option Given) (old from : ℕ) (entry : Entry) (content : Bare) (answer : Result (Option (ℕ × Unit {0}) × Bare) Refusal) → entry.line ≡ number
    → (before entry.addr ≡ None) ⊎ (old ≡ entry.addr) → Gives number before (moved old from entry content answer)
moved_gives number before old from entry content (Ok (Some (place, owner), new)) is free = gives_entry number before _ _ refl is (elim free [
  | inl none ↦ inl none
  | inr same ↦ inr (ap Some same)
])
moved_gives number before old from entry content (Ok (None, new)) is free = gives_none number before _ refl
moved_gives number before old from entry content (Err refusal) is free = gives_none number before _ refl

done_gives : (number : ℕ) (before : ℕ → Option Given) (act : Act) (content : Bare) → Fits number before act → Gives number before (done act content)
done_gives number before idle content fits = gives_none number before _ refl
done_gives number before (give entry align) content fits = answered_gives number before entry content _ fits.0 fits.1
done_gives number before (take address place) content fits = gives_none number before _ refl
done_gives number before (move old place entry) content fits = moved_gives number before old place entry content _ fits.0 fits.2

outcome_gives : (number : ℕ) (line : ReadLine) (pending : Option ℕ) (before : ℕ → Option Given) (content : Bare) → Gives number before (outcome number line pending before content)
outcome_gives number line pending before content =
    let now = plan number line pending before in
    gives_after number before now.first (done now.act content) (done_gives number before now.act content (is_planned number before line pending).fits)

pub moment_gives : (count : ℕ) (line : ReadLine) (pending : Option ℕ) (before : ℕ → Option Given) (content : Bare) → Gives (suc count) before (moment count line pending before content)
moment_gives count line pending before content = gives_after (suc count) before _ (outcome (suc count) line pending before content) (outcome_gives (suc count) line pending before content)

-- each moment gives so, after those before it
abbrev AllGive : List Moment → Type 0
AllGive [] = Unit {0}
AllGive (moment ∷ past) = Gives (suc (length past)) (held past) moment × AllGive past

pub length-moments : (start : Bare) (past : List ReadLine) → length (moments start past) ≡ length past
unfolding moments
length-moments start [] = refl
length-moments start (line ∷ past) = ap suc (length-moments start past)

all_give : (start : Bare) (past : List ReadLine) → AllGive (moments start past)
unfolding moments
all_give start [] = tt
all_give start (line ∷ past) =
    let before = moments start past in
    let latest = moment (length past) line (pending past) (held before) (content_after start before) in
    let gives = moment_gives (length past) line (pending past) (held before) (content_after start before) in
    (subst (λ n. Gives (suc n) (held before) latest) (sym (length-moments start past)) gives, all_give start past)

-- what an address is held under was held before, where nothing was taken
kept : (taken : Option ℕ) (address : ℕ) (before : Option Given) → taken ≢ Some address → unless_taken taken address before ≡ before
kept None address before not_taken = refl
kept (Some taken) address before not_taken = elim (cases_Bool (taken == address)) [
  | inl same ↦ absurd (not_taken (ap (λ (n : ℕ). Some n) (eqb-true taken address same)))
  | inr apart ↦ ap (λ b. cond b None before) apart
]

not_taken_there : (taken : Option ℕ) (address : ℕ) (before : Option Given) (given : Given) → unless_taken taken address before ≡ Some given → (taken ≢ Some address) × (before ≡ Some given)
not_taken_there None address before given h = ((λ is. absurd (cc)), h)
not_taken_there (Some taken) address before given h = elim (cases_Bool (taken == address)) [
  | inl same ↦ absurd (let e : None ≡ Some given = sym (ap (λ b. cond b None before) same) ∙ h in cc)
  | inr apart ↦ (
    (λ is. absurd (let same : taken ≡ address = cc in let e : true ≡ false = sym (eq-eqb taken address same) ∙ apart in cc)),
    sym (ap (λ b. cond b None before) apart) ∙ h,
  )
]

-- a moment gave what an address is held under, or left it
given_cases : (gave : Option Given) (address : ℕ) (before : Option Given) (given : Given) → given_or gave address before ≡ Some given
    → ((gave ≡ Some given) × (given.entry.addr ≡ address)) ⊎ (before ≡ Some given)
given_cases None address before given h = inr h
given_cases (Some gave) address before given h = elim (cases_Bool (gave.entry.addr == address)) [
  | inl here ↦
      let same : gave ≡ given = (let e : Some gave ≡ Some given = sym (ap (λ b. cond b (Some gave) before) here) ∙ h in cc) in
      inl (ap (λ (g : Given). Some g) same, subst (λ (g : Given). g.entry.addr ≡ address) same (eqb-true gave.entry.addr address here))
  | inr elsewhere ↦ inr (sym (ap (λ b. cond b (Some gave) before) elsewhere) ∙ h)
]

held_under : (past : List Moment) → AllGive past → (address : ℕ) (given : Given) → held past address ≡ Some given → IsHeldUnder past address given
held_under [] all address given h = absurd (cc)
held_under (latest ∷ past) all address given h = elim (given_cases latest.given address (unless_taken latest.taken address (held past address)) given h) [
  | inl gave ↦ record {
    later = [];
    moment = latest;
    earlier = past;
    whole = refl;
    gave = gave.0;
    address_is = gave.1;
    line_is = all.0.number_is given gave.0;
    none_later = tt;
  }
  | inr before ↦
      let left = not_taken_there latest.taken address (held past address) given before in
      let under = held_under past all.1 address given left.1 in
      record {
        later = latest ∷ under.later;
        moment = under.moment;
        earlier = under.earlier;
        whole = ap (λ ms. latest ∷ ms) under.whole;
        gave = under.gave;
        address_is = under.address_is;
        line_is = under.line_is;
        none_later = (left.0, under.none_later);
      }
]

-- a moment that gave nothing under an address leaves it
not_given : (gave : Option Given) (address : ℕ) (before : Option Given) → ((given : Given) → gave ≡ Some given → given.entry.addr ≢ address) → given_or gave address before ≡ before
not_given None address before apart = refl
not_given (Some given) address before apart = elim (cases_Bool (given.entry.addr == address)) [
  | inl here ↦ absurd (apart given refl (eqb-true given.entry.addr address here))
  | inr elsewhere ↦ ap (λ b. cond b (Some given) before) elsewhere
]

held_by_last : (later earlier : List Moment) (giver : Moment) → AllGive (later ++ giver ∷ earlier) → (address : ℕ) (given : Given) → giver.given ≡ Some given → given.entry.addr ≡ address
    → AllByRecursion (λ (after : Moment). after.taken ≢ Some address) later → held (later ++ giver ∷ earlier) address ≡ Some given
held_by_last [] earlier giver all address given gave is none =
    ap (λ o. given_or o address (unless_taken giver.taken address (held earlier address))) gave
    ∙ ap (λ b. cond b (Some given) (unless_taken giver.taken address (held earlier address))) (eq-eqb given.entry.addr address is)
held_by_last (last ∷ later) earlier giver all address given gave is none =
    let before = held_by_last later earlier giver all.1 address given gave is none.1 in
    not_given last.given address _ (λ other as_well same. elim (all.0.was_free other as_well) [
      | inl free ↦ absurd (let e : Some given ≡ None = sym before ∙ ap (held (later ++ giver ∷ earlier)) (sym same) ∙ free in cc)
      | inr taken ↦ absurd (none.0 (taken ∙ ap (λ (n : ℕ). Some n) same))
    ])
    ∙ kept last.taken address (held (later ++ giver ∷ earlier) address) none.0
    ∙ before

under_held : (past : List Moment) → AllGive past → (address : ℕ) (given : Given) → IsHeldUnder past address given → held past address ≡ Some given
under_held past all address given under =
    ap (λ ms. held ms address) under.whole
    ∙ held_by_last under.later under.earlier under.moment (subst AllGive under.whole all) address given under.gave under.address_is under.none_later

pub held_until_taken : (start : Bare) (past : List ReadLine) (address : ℕ) (given : Given)
    → (held (moments start past) address ≡ Some given) ↔ IsHeldUnder (moments start past) address given
held_until_taken start past address given =
    (held_under (moments start past) (all_give start past) address given, under_held (moments start past) (all_give start past) address given)
