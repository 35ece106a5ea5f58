-- Through a run within bounds each live block has the size of what was last asked for at its place, rounded up.
use Rattle.std.proofs.Common.{◌≡◌, ℕ, ◌<◌, ◌≤◌, Bool, true, false, cond, not, List, [], ◌∷◌, count_by, Option, Some, None, Ok, Err, inl, inr, refl, sym, ap, ◌∙◌, subst, arith}
use Rattle.std.specs.Prelude.{◌==◌, ◌⊎◌, Result}
use Rattle.std.specs.List.{Contains}
use Rattle.std.proofs.lemmas.Bool.{cases_Bool, cases_eq, eqb-true, eq-eqb}
use Rattle.tlsf_heap.specs.declared.request.Request.{Request}
use Rattle.tlsf_heap.specs.declared.request.Request.TheVariants.{AddPool, RemovePool, Malloc, Memalign, Free, Realloc, BlockSize}
use Rattle.tlsf_heap.specs.declared.answer.Answer.{Answer}
use Rattle.tlsf_heap.specs.declared.answer.Answer.TheVariants.{Done, Given, Moved, Size, Refused}
use Rattle.tlsf_heap.specs.declared.refusal.Refusal.{Refusal}
use Rattle.tlsf_heap.specs.declared.refusal.Refusal.TheVariants.{BadPointer}
use Rattle.tlsf_heap.specs.Content.{Block, Content, blocks_of, is_free, used_records}
use Rattle.tlsf_heap.specs.Malloc.{malloc}
use Rattle.tlsf_heap.specs.Free.{is_live, after_free}
use Rattle.tlsf_heap.specs.Realloc.{given_anew}
use Rattle.tlsf_heap.specs.Pointer.{Pointer, realloc_ptr}
use Rattle.tlsf_heap.specs.Good.{IsGood}
use Rattle.tlsf_heap.specs.Implied.{live_blocks}
use Rattle.tlsf_heap.specs.Run.{Step, Run}
use Rattle.tlsf_heap.specs.Within.{IsLargeEnough, IsWithin, StaysWithin}
use Rattle.tlsf_heap.specs.LastAsked.{bytes_asked, gives_at, first_of_two, last_asked, AreAsAsked}
use Rattle.tlsf_heap.proofs.Counts.{one_if, count-cons}
use Rattle.tlsf_heap.proofs.Content.ReallocCases.{realloc_freed}
use Rattle.tlsf_heap.proofs.Good.Implied.{few_blocks}
use Rattle.tlsf_heap.proofs.Good.GivenSizes.{IsRounded, malloc_sized, memalign_sized, moved_sized}
use Rattle.tlsf_heap.proofs.Good.LiveBlocks.{none_stands, stands_first_or_later, live_from_malloc, live_from_memalign, live_from_free, live_from_realloc, live_from_realloc_none}
use Rattle.tlsf_heap.proofs.Good.Within.{IsEnough, step_enough}

-- what was asked for at a place once a request had its answer
abbrev asked_then : Request → Answer → (ℕ → Option ℕ) → ℕ → Option ℕ
asked_then request answer before place = cond (gives_at answer place) (Some (bytes_asked request)) (before place)

-- a block that the answer gives has what was asked for, and each other one was there
abbrev IsGivenOrOld : Request → Answer → Content ℕ → Block ℕ → Type 0
IsGivenOrOld request answer old block = ((gives_at answer block.place ≡ true) × IsRounded (bytes_asked request) block) ⊎ ((gives_at answer block.place ≡ false) × Contains (blocks_of old.pools) block)

abbrev AreGivenOrOld : Request → Answer → (old new : Content ℕ) → Type 0
AreGivenOrOld request answer old new = (block : Block ℕ) → Contains (blocks_of new.pools) block → is_free block ≡ false → IsGivenOrOld request answer old block

-- a block that stood before, or begins where one was given
at_or_old : (request : Request) (answer : Answer) (old : Content ℕ) (block : Block ℕ) (place : ℕ) → gives_at answer block.place ≡ (place == block.place)
    → (block.place ≡ place → IsRounded (bytes_asked request) block) → Contains (blocks_of old.pools) block ⊎ (block.place ≡ place) → IsGivenOrOld request answer old block
at_or_old request answer old block place gives sized stood = elim (cases_Bool (place == block.place)) [
  | inl here ↦ inl (gives ∙ here, sized (sym (eqb-true place block.place here)))
  | inr away ↦ elim stood [
    | inl was ↦ inr (gives ∙ away, was)
    | inr at ↦ absurd (let e : true ≡ false = sym (eq-eqb place block.place (sym at)) ∙ away in cc)
  ]
]

none_moved : {X : Type 0} (freed new : Content ℕ) (given : ℕ × ℕ) → (let one : Result (Option (ℕ × ℕ) × Content ℕ) Refusal = Ok (None, freed) in one ≡ Ok (Some given, new)) → X
none_moved freed new given is =
    let pair : (None, freed) ≡ (Some given, new) = cc in
    let first : None ≡ Some given = ap (λ (a : Option (ℕ × ℕ) × Content ℕ). a.0) pair in
    absurd (cc)

none_anew : {X : Type 0} (answer : Result (ℕ × Content ℕ) Refusal) (new : Content ℕ) → given_anew 0 answer ≡ Ok (None, new) → X
none_anew (Err refusal) new is = absurd (cc)
none_anew (Ok given) new is = none_moved new given.1 (given.0, 0) (sym is)

module _ (blocks bytes size : ℕ) where
  -- a record is left wherever a request keeps to the bounds
  room_left : (content : Content ℕ) → IsEnough blocks bytes size content → live_blocks content ≤ blocks → used_records content < content.records
  room_left content enough few = omega (arith, few_blocks content.pools 0 enough.good.pools_good, few, enough.large.records)

  -- what realloc gives for a live block
  moved_rounded : (pointer given : Pointer) (n : ℕ) (old new : Content ℕ) → IsEnough blocks bytes size old → IsWithin blocks bytes size (Realloc (Some pointer) n) old
      → realloc_ptr (Some pointer) n given.slot old ≡ Ok (Some (given.place, given.slot), new) → (block : Block ℕ) → Contains (blocks_of new.pools) block → is_free block ≡ false → block.place ≡ given.place → IsRounded n block
  moved_rounded pointer given n old new enough within served block has live at = elim (cases_Bool (is_live (λ slot. slot == pointer.slot) pointer.place (blocks_of old.pools))) [
    | inr stale ↦ (let bad : realloc_ptr (Some pointer) n given.slot old ≡ Err BadPointer = rw stale refl in absurd (cc (bad, served)))
    | inl there ↦ elim (cases_eq n 0) [
      | inl nothing ↦ (let freed = realloc_freed (λ a b. a == b) given.slot pointer.slot pointer.place n old there nothing in none_moved (after_free pointer.place old) new (given.place, given.slot) (sym freed ∙ served))
      | inr some ↦
          moved_sized (λ a b. a == b) given.slot pointer.slot pointer.place n old enough.good (room_left old enough (within there some).few)
          (Some (given.place, given.slot), new) served given.place given.slot refl block has live at
    ]
  ]

  -- what malloc gives by a realloc of nothing
  anew_is_malloc : (owner n : ℕ) (old : Content ℕ) (answer : Result (ℕ × Content ℕ) Refusal) (given : Pointer) (new : Content ℕ) → given_anew owner answer ≡ Ok (Some (given.place, given.slot), new) → answer ≡ Ok (given.place, new)
  anew_is_malloc owner n old (Err refusal) given new is = absurd (cc)
  anew_is_malloc owner n old (Ok (place, left)) given new is =
      let same : (Some (place, owner), left) ≡ (Some (given.place, given.slot), new) = cc in
      let some : Some (place, owner) ≡ Some (given.place, given.slot) = ap (λ (a : Option (ℕ × ℕ) × Content ℕ). a.0) same in
      let at : place ≡ given.place = (let pair : (place, owner) ≡ (given.place, given.slot) = cc in ap (λ (p : ℕ × ℕ). p.0) pair) in
      let there : left ≡ new = ap (λ (a : Option (ℕ × ℕ) × Content ℕ). a.1) same in
      ap (λ p. Ok (p, left)) at ∙ ap (λ c. Ok (given.place, c)) there

  -- a step leaves what it gives, and what was there
  step_gives : (lacks : Type 0) (request : Request) (answer : Answer) (old new : Content ℕ) → IsEnough blocks bytes size old → IsWithin blocks bytes size request old → Step lacks request answer old new → AreGivenOrOld request answer old new
  step_gives lacks request (Refused refusal) old new enough within step block has live = inr (refl, subst (λ (c : Content ℕ). Contains (blocks_of c.pools) block) step.0 has)
  step_gives lacks (AddPool base pool) Done old new enough within step block has live = absurd within
  step_gives lacks (RemovePool base) Done old new enough within step block has live = absurd within
  step_gives lacks (Malloc n) (Given pointer) old new enough within step block has live =
      at_or_old (Malloc n) (Given pointer) old block pointer.place refl (malloc_sized pointer.slot n old (pointer.place, new) step.ok block has live)
      (live_from_malloc pointer.slot n pointer.place old new block step.ok has live)
  step_gives lacks (Memalign align n) (Given pointer) old new enough within step block has live =
      at_or_old (Memalign align n) (Given pointer) old block pointer.place refl (memalign_sized pointer.slot align n old (pointer.place, new) enough.good step.ok block has live)
      (live_from_memalign pointer.slot align n pointer.place old new block step.ok has live)
  step_gives lacks (Free pointer) Done old new enough within step block has live = inr (refl, live_from_free (λ slot. slot == pointer.slot) pointer.place old new block step has live)
  step_gives lacks (Realloc None n) (Moved None) old new enough within step block has live = none_anew (malloc 0 n old) new step.ok
  step_gives lacks (Realloc None n) (Moved (Some given)) old new enough within step block has live =
      let served = anew_is_malloc given.slot n old (malloc given.slot n old) given new step.ok in
      at_or_old (Realloc None n) (Moved (Some given)) old block given.place refl (malloc_sized given.slot n old (given.place, new) served block has live)
      (live_from_malloc given.slot n given.place old new block served has live)
  step_gives lacks (Realloc (Some pointer) n) (Moved None) old new enough within step block has live =
      inr (refl, live_from_realloc_none (λ a b. a == b) 0 pointer.slot pointer.place n old block new step.ok has live)
  step_gives lacks (Realloc (Some pointer) n) (Moved (Some given)) old new enough within step block has live =
      at_or_old (Realloc (Some pointer) n) (Moved (Some given)) old block given.place refl (moved_rounded pointer given n old new enough within step.ok block has live)
      (live_from_realloc (λ a b. a == b) given.slot pointer.slot pointer.place n old block given.place given.slot new step.ok has live)
  step_gives lacks (BlockSize pointer) (Size told) old new enough within step block has live = inr (refl, subst (λ (c : Content ℕ). Contains (blocks_of c.pools) block) step.1 has)
  step_gives lacks _ _ old new enough within step block has live = absurd step

  -- so the blocks are as asked still
  step_as_asked : (before : ℕ → Option ℕ) (request : Request) (answer : Answer) (old new : Content ℕ) → AreAsAsked before old → AreGivenOrOld request answer old new → AreAsAsked (asked_then request answer before) new
  step_as_asked before request answer old new were gives block has live = elim (gives block has live) [
    | inl given ↦ (bytes_asked request, ap (λ b. cond b (Some (bytes_asked request)) (before block.place)) given.0, given.1.1 ∙ ap (λ m. Some m) (sym given.1.2))
    | inr stood ↦ (let was = were block stood.1 live in (was.0, ap (λ b. cond b (Some (bytes_asked request)) (before block.place)) stood.0 ∙ was.1, was.2))
  ]

  -- what was asked before a run, or in it
  abbrev asked_in : (ℕ → Option ℕ) → List Request → List Answer → ℕ → Option ℕ
  asked_in before requests answers place = first_of_two (last_asked requests answers place) (before place)

  first_then : (b : Bool) (n : ℕ) (later before : Option ℕ) → first_of_two later (cond b (Some n) before) ≡ first_of_two (first_of_two later (cond b (Some n) None)) before
  first_then b n (Some m) before = refl
  first_then true n None before = refl
  first_then false n None before = refl

  run_as_asked : (lacks : Type 0) (before : ℕ → Option ℕ) (requests : List Request) (answers : List Answer) (old new : Content ℕ) (count after : ℕ) (run : Run lacks requests answers old new count after)
      → IsEnough blocks bytes size old → AreAsAsked before old → StaysWithin blocks bytes size lacks requests answers old new count after run → AreAsAsked (asked_in before requests answers) new
  run_as_asked lacks before [] [] old new count after run enough were within = subst (AreAsAsked before) (sym run.0) were
  run_as_asked lacks before [] (answer ∷ answers) old new count after run enough were within = absurd run
  run_as_asked lacks before (request ∷ requests) [] old new count after run enough were within = absurd run
  run_as_asked lacks before (request ∷ requests) (answer ∷ answers) old new count after run enough were within =
      let step = step_gives lacks request answer old run.0 enough within.0 run.2 in
      let later = run_as_asked lacks (asked_then request answer before) requests answers run.0 new run.1 after run.5 (step_enough blocks bytes size lacks request answer old run.0 enough within.0 run.2)
      (step_as_asked before request answer old run.0 were step) within.1 in
      λ block has live. (
      let is = later block has live in
      (is.0, sym (first_then (gives_at answer block.place) (bytes_asked request) (last_asked requests answers block.place) (before block.place)) ∙ is.1, is.2))

-- where no block is live each is as asked
none_live : (all : List (Block ℕ)) (block : Block ℕ) → count_by (λ (b : Block ℕ). not (is_free b)) all ≡ 0 → Contains all block → is_free block ≡ false → ⊥
none_live [] block none has live = none_stands block has
none_live (first ∷ rest) block none has live =
    let counted = count-cons (λ (b : Block ℕ). not (is_free b)) first rest in
    elim (stands_first_or_later first block rest has) [
      | inl same ↦ omega (arith, none, counted, ap (λ (b : Block ℕ). one_if (not (is_free b))) same, ap (λ f. one_if (not f)) live)
      | inr later ↦ none_live rest block (omega (arith, none, counted)) later live
    ]

none_after : (later : Option ℕ) → first_of_two later None ≡ later
none_after (Some n) = refl
none_after None = refl

pub blocks_are_as_asked : (blocks bytes size : ℕ) (lacks : Type 0) (requests : List Request) (answers : List Answer) (old new : Content ℕ) (before after : ℕ) (run : Run lacks requests answers old new before after)
    → IsGood old → IsLargeEnough blocks bytes size old → live_blocks old ≡ 0 → StaysWithin blocks bytes size lacks requests answers old new before after run → AreAsAsked (last_asked requests answers) new
blocks_are_as_asked blocks bytes size lacks requests answers old new before after run good large none within block has live =
    let is = run_as_asked blocks bytes size lacks (λ place. None) requests answers old new before after run (record { good = good; large = large })
    (λ block has live. absurd (none_live (blocks_of old.pools) block none has live)) within block has live in
    (is.0, sym (none_after (last_asked requests answers block.place)) ∙ is.1, is.2)
