-- What each case of a line leaves, told of what is held by its look-ups.
use Rattle.std.proofs.Common.{◌<◌, ◌≤◌, arith, ◌≡◌, ℕ, Bool, true, false, cond, not, ◌+◌, List, [], ◌∷◌, is_some, option_map, Option, Some, None, inl, inr, refl, sym, ap, ◌∙◌, subst, Ok, Err}
use Rattle.std.specs.Prelude.{◌==◌, ◌&&◌, Result}
use Rattle.std.proofs.lemmas.Bool.{cases_Bool, eqb-true, eqb-false}
use Rattle.tlsf_heap.specs.declared.refusal.Refusal.{Refusal}
use Rattle.tlsf_heap.specs.Content.{blocks_of, size_at}
use Rattle.tlsf_heap.specs.Pointer.{Pointer}
use Rattle.tlsf_heap.specs.Realloc.{realloc}
use Rattle.tlsf_heap.proofs.Content.BareSteps.{ap-cond}
use Rattle.mtrace_replay.specs.Entry.{Entry}
use Rattle.mtrace_replay.specs.declared.heap.holder.Holder.{Holder}
use Rattle.mtrace_replay.specs.declared.held.diagnostic.Diagnostic.{Diagnostic}
use Rattle.mtrace_replay.specs.declared.held.diagnostic.Kind.{Kind}
use Rattle.mtrace_replay.specs.declared.held.diagnostic.Kind.TheVariants.{NotHeld, AlreadyHeld, Refused}
use Rattle.mtrace_replay.specs.Holding.{Holding}
use Rattle.mtrace_replay.specs.Started.{Bare}
use Rattle.mtrace_replay.specs.Moment.{Given, give, take, move, Plan, none_for, doing, allocation, release, preceded, reallocation, renewal, one_diagnostic, asked_size, asked_block, without, answered, moved, carried_out}
use Rattle.mtrace_replay.specs.Index.{held_at}
use Rattle.mtrace_replay.specs.Step.{View, given_of, all_given, held_given, Comes, IsUnder, Replays}

-- at least as many bytes are asked for as the line says, and some
pub asked_least : (size : ℕ) → (size ≤ asked_size size) × (0 < asked_size size)
asked_least size = elim (cases_Bool (size == 0)) [
  | inl none ↦
      let is : asked_size size ≡ 1 = ap (λ b. cond b 1 size) none in
      let zero_is = eqb-true size 0 none in
      (omega (arith, is, zero_is), omega (arith, is))
  | inr some ↦
      let is : asked_size size ≡ size = ap (λ b. cond b 1 size) some in
      let more = eqb-false size 0 some in
      (omega (arith, is), (let positive : 0 < size = omega (arith, more) in omega (arith, is, positive)))
]

-- a look-up finds the same without slots
pub found_given : (holdings : List Holding) (address : ℕ) → held_given (all_given holdings) address ≡ option_map given_of (held_at holdings address)
found_given [] address = refl
found_given (holding ∷ holdings) address =
    ap (cond (holding.entry.addr == address) (Some (given_of holding))) (found_given holdings address)
    ∙ sym (ap-cond (option_map given_of) (holding.entry.addr == address) (Some holding) (held_at holdings address))

pub found_under : (holdings : List Holding) (address : ℕ) (held : Option Holding) → held_at holdings address ≡ held → held_given (all_given holdings) address ≡ option_map given_of held
found_under holdings address held is = found_given holdings address ∙ ap (option_map given_of) is

some_is : (held : Option Holding) → is_some held ≡ true → (holding : Holding) × (held ≡ Some holding)
some_is None is = absurd (cc)
some_is (Some holding) is = (holding, refl)

pub none_is : (held : Option Holding) → is_some held ≡ false → held ≡ None
none_is None is = refl
none_is (Some holding) is = absurd (cc)

some_given : (held : Option Holding) → is_some (option_map given_of held) ≡ is_some held
some_given None = refl
some_given (Some holding) = refl

-- an address is found where it is held
pub found_some : (holdings : List Holding) (address : ℕ) → is_some (held_given (all_given holdings) address) ≡ is_some (held_at holdings address)
found_some holdings address = ap is_some (found_given holdings address) ∙ some_given (held_at holdings address)

-- what is held, where its address is found
pub given_under : (held : Option Holding) (given : Given) → option_map given_of held ≡ Some given → (holding : Holding) × (held ≡ Some holding) × (holding.ptr.place ≡ given.place)
given_under None given is = absurd (cc)
given_under (Some holding) given is = let same : given_of holding ≡ given = cc in (holding, refl, ap (λ (g : Given). g.place) same)

-- the block that an address is held under
pub under_some : (held : Option Holding) (ptr : Pointer) → option_map (λ holding. holding.ptr) held ≡ Some ptr → IsUnder ptr held
under_some None ptr is = absurd (cc)
under_some (Some holding) ptr is = let same : holding.ptr ≡ ptr = cc in (holding, refl, same)

-- what was read where an address was found
pub seen_held : (all held : List Holding) (found address : ℕ) (is : Bool) → is ≡ is_some (held_at all found) → all ≡ held → found ≡ address → is ≡ is_some (held_at held address)
seen_held all held found address is value same there = value ∙ ap (λ known. is_some (held_at known found)) same ∙ ap (λ a. is_some (held_at held a)) there

pub seen_block : (all held : List Holding) (found address : ℕ) (block : Option Pointer) → block ≡ option_map (λ holding. holding.ptr) (held_at all found) → all ≡ held → found ≡ address
    → block ≡ option_map (λ holding. holding.ptr) (held_at held address)
seen_block all held found address block value same there =
    value ∙ ap (λ known. option_map (λ (holding : Holding). holding.ptr) (held_at known found)) same ∙ ap (λ a. option_map (λ (holding : Holding). holding.ptr) (held_at held a)) there

pub under_none : (held : Option Holding) → option_map (λ holding. holding.ptr) held ≡ None → held ≡ None
under_none None is = refl
under_none (Some holding) is = absurd (cc)

-- what is found after one address has changed
found_changed : (old new : List Holding) (address : ℕ) (now : Option Holding) (before : ℕ → Option Holding)
    → ((other : ℕ) → held_at new other ≡ cond (address == other) now (before other))
    → (other : ℕ) → held_given (all_given new) other ≡ cond (address == other) (option_map given_of now) (option_map given_of (before other))
found_changed old new address now before changed other =
    found_given new other ∙ ap (option_map given_of) (changed other) ∙ ap-cond (option_map given_of) (address == other) now (before other)

-- what does one plan does another that is the same
pub replays_as : {H E : Type 0} {heaps : View H} {looks most : ℕ} {one other : Plan} {diagnostics : List Diagnostic} {result : Result (Option ℕ) E} {old new : Holder H}
    → one ≡ other → Replays heaps looks most other diagnostics result old new → Replays heaps looks most one diagnostics result old new
replays_as {heaps = heaps} {looks = looks} {most = most} {diagnostics = diagnostics} {result = result} {old = old} {new = new} same replays =
    subst (λ planned. Replays heaps looks most planned diagnostics result old new) (sym same) replays

-- the plans, told of what is held by its look-ups
module _ (held : List Holding) where
  pub allocation_held : (entry : Entry) (align : Option ℕ) → is_some (held_at held entry.addr) ≡ true → allocation entry align (held_given (all_given held) entry.addr) ≡ none_for entry.line (AlreadyHeld entry.addr)
  allocation_held entry align is = let some = some_is (held_at held entry.addr) is in ap (allocation entry align) (found_under held entry.addr (Some some.0) some.1)

  pub allocation_free : (entry : Entry) (align : Option ℕ) → is_some (held_at held entry.addr) ≡ false → allocation entry align (held_given (all_given held) entry.addr) ≡ doing (give entry align)
  allocation_free entry align is = ap (allocation entry align) (found_under held entry.addr None (none_is (held_at held entry.addr) is))

  pub release_none : (number address : ℕ) → held_at held address ≡ None → release number address (held_given (all_given held) address) ≡ none_for number (NotHeld address)
  release_none number address none = ap (release number address) (found_under held address None none)

  pub release_under : (number address : ℕ) (ptr : Pointer) → IsUnder ptr (held_at held address) → release number address (held_given (all_given held) address) ≡ doing (take address ptr.place)
  release_under number address ptr under =
      ap (release number address) (found_under held address (Some under.0) under.1) ∙ ap (λ (p : Pointer). doing (take address p.place)) under.2

  module _ (entry : Entry) (pending : Option ℕ) (old : ℕ) (is_pending : pending ≡ Some old) where
    renewed : (one : Option Given) → held_given (all_given held) old ≡ one → renewal entry pending (held_given (all_given held)) ≡ reallocation entry old one (held_given (all_given held) entry.addr)
    renewed one is =
        ap (λ line. renewal entry line (held_given (all_given held))) is_pending ∙ ap (λ there. reallocation entry old there (held_given (all_given held) entry.addr)) is

    pub renewal_allocates : held_at held old ≡ None → renewal entry pending (held_given (all_given held)) ≡ preceded (NotHeld old) entry.line (allocation entry None (held_given (all_given held) entry.addr))
    renewal_allocates none = renewed None (found_under held old None none)

    -- by whether the new address is another one that is held
    pub renewal_under : (ptr : Pointer) (test : Bool) → IsUnder ptr (held_at held old) → not (entry.addr == old) && is_some (held_at held entry.addr) ≡ test
        → renewal entry pending (held_given (all_given held)) ≡ cond test (none_for entry.line (AlreadyHeld entry.addr)) (doing (move old ptr.place entry))
    renewal_under ptr test under is =
        renewed (Some (given_of under.0)) (found_under held old (Some under.0) under.1)
        ∙ ap (λ some. cond (not (entry.addr == old) && some) (none_for entry.line (AlreadyHeld entry.addr)) (doing (move old under.0.ptr.place entry))) (found_some held entry.addr)
        ∙ ap (λ b. cond b (none_for entry.line (AlreadyHeld entry.addr)) (doing (move old under.0.ptr.place entry))) is
        ∙ ap (λ (p : Pointer). cond test (none_for entry.line (AlreadyHeld entry.addr)) (doing (move old p.place entry))) under.2

-- a line that changes nothing
pub comes_unserved : (content : Bare) (given : List Given) (number : ℕ) (kind : Kind) → Comes content content given given (one_diagnostic number kind) None (carried_out (none_for number kind) content)
comes_unserved content given number kind = record { content_is = refl; held_is = (λ address. refl); diagnostics_are = refl; end_is = refl }

module _ (old new : List Holding) (content after : Bare) where
  -- a block was given
  pub comes_served : (holding : Holding) (align : Option ℕ) → asked_block tt align (asked_size holding.entry.size) content ≡ Ok (holding.ptr.place, after)
      → ((other : ℕ) → held_at new other ≡ cond (holding.entry.addr == other) (Some holding) (held_at old other))
      → Comes content after (all_given old) (all_given new) [] (Some (holding.ptr.place + size_at holding.ptr.place (blocks_of after.pools))) (carried_out (doing (give holding.entry align)) content)
  comes_served holding align served changed =
      let entry = holding.entry in
      subst (λ answer. Comes content after (all_given old) (all_given new) [] (Some (holding.ptr.place + size_at holding.ptr.place (blocks_of after.pools))) (answered entry content answer)) (sym served) (record {
        content_is = refl;
        held_is = (λ other. found_changed old new entry.addr (Some holding) (held_at old) changed other
            ∙ ap (cond (entry.addr == other) (Some (given_of holding))) (sym (found_given old other)));
        diagnostics_are = refl;
        end_is = refl;
      })

  -- a block was refused
  pub comes_refused : (entry : Entry) (align : Option ℕ) (refusal : Refusal) → asked_block tt align (asked_size entry.size) content ≡ Err refusal
      → Comes content content (all_given old) (all_given old) (one_diagnostic entry.line (Refused entry.addr refusal)) None (carried_out (doing (give entry align)) content)
  comes_refused entry align refusal refused =
      subst (λ answer. Comes content content (all_given old) (all_given old) (one_diagnostic entry.line (Refused entry.addr refusal)) None (answered entry content answer)) (sym refused)
      (record { content_is = refl; held_is = (λ address. refl); diagnostics_are = refl; end_is = refl })

  -- an address was taken
  pub comes_released : (address place : ℕ) → after ≡ without place content → ((other : ℕ) → held_at new other ≡ cond (address == other) None (held_at old other))
      → Comes content after (all_given old) (all_given new) [] None (carried_out (doing (take address place)) content)
  comes_released address place freed changed = record {
    content_is = freed;
    held_is = (λ other. found_changed old new address None (held_at old) changed other ∙ ap (cond (address == other) None) (sym (found_given old other)));
    diagnostics_are = refl;
    end_is = refl;
  }

  -- a block was moved
  pub comes_moved : (address from : ℕ) (holding : Holding) → realloc (λ one other. true) tt (Some (from, tt)) (asked_size holding.entry.size) content ≡ Ok (Some (holding.ptr.place, tt), after)
      → ((other : ℕ) → held_at new other ≡ cond (holding.entry.addr == other) (Some holding) (cond (address == other) None (held_at old other)))
      → Comes content after (all_given old) (all_given new) [] (Some (holding.ptr.place + size_at holding.ptr.place (blocks_of after.pools))) (carried_out (doing (move address from holding.entry)) content)
  comes_moved address from holding served changed =
      let entry = holding.entry in
      subst (λ answer. Comes content after (all_given old) (all_given new) [] (Some (holding.ptr.place + size_at holding.ptr.place (blocks_of after.pools))) (moved address from entry content answer)) (sym served) (record {
        content_is = refl;
        held_is = (λ other. found_changed old new entry.addr (Some holding) (λ q. cond (address == q) None (held_at old q)) changed other
            ∙ ap (cond (entry.addr == other) (Some (given_of holding)))
            (ap-cond (option_map given_of) (address == other) None (held_at old other) ∙ ap (cond (address == other) None) (sym (found_given old other))));
        diagnostics_are = refl;
        end_is = refl;
      })

  -- a block was refused for one that is freed then
  pub comes_not_moved : (address from : ℕ) (entry : Entry) (refusal : Refusal) → realloc (λ one other. true) tt (Some (from, tt)) (asked_size entry.size) content ≡ Err refusal
      → after ≡ without from content → ((other : ℕ) → held_at new other ≡ cond (address == other) None (held_at old other))
      → Comes content after (all_given old) (all_given new) (one_diagnostic entry.line (Refused entry.addr refusal)) None (carried_out (doing (move address from entry)) content)
  comes_not_moved address from entry refusal refused freed changed =
      subst (λ answer. Comes content after (all_given old) (all_given new) (one_diagnostic entry.line (Refused entry.addr refusal)) None (moved address from entry content answer)) (sym refused) (record {
        content_is = freed;
        held_is = (λ other. found_changed old new address None (held_at old) changed other ∙ ap (cond (address == other) None) (sym (found_given old other)));
        diagnostics_are = refl;
        end_is = refl;
      })

-- a diagnostic before those of a plan
pub comes_after_diagnostic : (content after : Bare) (old new : List Given) (kind : Kind) (number : ℕ) (diagnostics : List Diagnostic) (end : Option ℕ) (planned : Plan)
    → Comes content after old new diagnostics end (carried_out planned content) → Comes content after old new (record { line = number; kind = kind } ∷ diagnostics) end (carried_out (preceded kind number planned) content)
comes_after_diagnostic content after old new kind number diagnostics end planned comes =
    record { content_is = comes.content_is; held_is = comes.held_is; diagnostics_are = ap (λ ns. record { line = number; kind = kind } ∷ ns) comes.diagnostics_are; end_is = comes.end_is }
