-- A run that asks for blocks of one size alone is refused neither for want of a block nor for want of a record, where the pools
-- have the bytes of as many such blocks.
use Rattle.std.proofs.Common.{◌≡◌, ◌≢◌, ℕ, ◌+◌, ◌*◌, ◌≤◌, List, [], ◌∷◌, ◌++◌, Option, Some, None, option_map, option_and_then, Ok, Err, inl, inr, refl, sym, ap, ◌∙◌, subst, arith, All}
use Rattle.std.specs.Prelude.{◌==◌, IsTrue}
use Rattle.std.proofs.lemmas.Bool.{cases_Bool}
use Rattle.std.proofs.lemmas.List.Elements.{All-cons}
use Rattle.tlsf_class.specs.Classes.{unit, low, need}
use Rattle.tlsf_class.specs.Rounding.{round}
use Rattle.tlsf_class.proofs.ClassLaws.{le-low_need}
use Rattle.tlsf_class.proofs.RoundingLaws.{round-Some}
use Rattle.tlsf_heap.specs.declared.request.Request.{Request}
use Rattle.tlsf_heap.specs.declared.request.Request.TheVariants.{AddPool, RemovePool, Malloc, Memalign, Free, Realloc, BlockSize}
use Rattle.tlsf_heap.specs.declared.answer.Answer.{Answer}
use Rattle.tlsf_heap.specs.declared.answer.Answer.TheVariants.{Done, Given, Moved, Size, Refused}
use Rattle.tlsf_heap.specs.declared.refusal.Refusal.{Refusal}
use Rattle.tlsf_heap.specs.declared.refusal.Refusal.TheVariants.{ZeroSize, NoFit, TableFull, BadAlign}
use Rattle.tlsf_heap.specs.Content.{Content}
use Rattle.tlsf_heap.specs.Malloc.{gap, malloc}
use Rattle.tlsf_heap.specs.Memalign.{is_alignment, size_asked, memalign}
use Rattle.tlsf_heap.specs.Pools.{created, add_pool}
use Rattle.tlsf_heap.specs.Realloc.{realloc}
use Rattle.tlsf_heap.specs.Pointer.{place_and_slot, slot_of}
use Rattle.tlsf_heap.specs.Good.{IsGood}
use Rattle.tlsf_heap.specs.Sizing.{class_size}
use Rattle.tlsf_heap.specs.Run.{IsRefused, Step, Run}
use Rattle.tlsf_heap.specs.Within.{IsNotFull}
use Rattle.tlsf_heap.specs.OneSize.{HasRecords, TakesOne, IsOfSize, StaysOfSize}
use Rattle.tlsf_heap.proofs.Content.Given.{free_gave}
use Rattle.tlsf_heap.proofs.Content.MallocCases.{malloc_reasons}
use Rattle.tlsf_heap.proofs.Content.MemalignCases.{memalign_given, memalign_reasons}
use Rattle.tlsf_heap.proofs.Content.ReallocCases.{realloc_reasons}
use Rattle.tlsf_heap.proofs.Good.Cut.{at_base, IsCut, AreCut, gap_cut}
use Rattle.tlsf_heap.proofs.Good.MallocIsGood.{all-append, add_pool_is_good, created_is_good}
use Rattle.tlsf_heap.proofs.Good.Realloc.{realloc_is_good}
use Rattle.tlsf_heap.proofs.Good.Within.{IsWant, not_other, not_bad, realloc_keeps, free_refused, size_refused, some_bytes, some_aligned_bytes}
use Rattle.tlsf_heap.proofs.Content.PoolCases.{pool_added}
use Rattle.tlsf_heap.proofs.Good.OneSizePool.{are_same, IsLowest, IsForSize, malloc_fits, some_served, memalign_fits, malloc_for, anew_cut, freed_for, malloc_recorded, memalign_for, memalign_recorded, realloc_cut, realloc_fits, still_for}

module _ {A : Type 0} (blocks size base : ℕ) (lowest : IsLowest size) where
  -- a block is given: where some bytes are asked for, at a good alignment, nothing else is refused
  pub malloc_given : (owner : A) (n : ℕ) (content : Content A) → IsForSize blocks size base content → n ≢ 0 → TakesOne blocks size n content → (why : Refusal) → malloc owner n content ≡ Err why → ⊥
  malloc_given owner n content is some takes why refused = elim (malloc_reasons owner n content why refused) [
    | inl nothing ↦ some nothing
    | inr (inl fit) ↦ malloc_fits blocks size base lowest owner n content is takes (refused ∙ ap (λ r. Err r) fit)
    | inr (inr full) ↦ malloc_recorded blocks size base owner n content is some takes (refused ∙ ap (λ r. Err r) full)
  ]

  pub memalign_given_or_bad : (owner : A) (align n : ℕ) (content : Content A) → IsForSize blocks size base content → align ≤ unit → n ≢ 0 → TakesOne blocks size n content → (why : Refusal) → memalign owner align n content ≡ Err why → why ≡ BadAlign
  memalign_given_or_bad owner align n content is few some takes why refused = elim (memalign_reasons owner align n content why refused) [
    | inl bad ↦ bad
    | inr (inl nothing) ↦ absurd (some nothing)
    | inr (inr (inl fit)) ↦ absurd (memalign_fits blocks size base lowest owner align n content is few takes (refused ∙ ap (λ r. Err r) fit))
    | inr (inr (inr full)) ↦ absurd (memalign_recorded blocks size base owner align n content is few takes (refused ∙ ap (λ r. Err r) full))
  ]

module _ (blocks size base : ℕ) (lowest : IsLowest size) where
  -- no request is refused for want of a block, nor of a record
  malloc_served : (why : Refusal) → IsWant why → (owner n : ℕ) (content : Content ℕ) → IsForSize blocks size base content → (n ≢ 0 → TakesOne blocks size n content) → malloc owner n content ≡ Err why → ⊥
  malloc_served why want owner n content is takes refused = of want
    where
      some : n ≢ 0
      some = some_bytes owner n content why (not_other why ZeroSize (λ e. cc) (λ e. cc) want) refused

      of : IsWant why → ⊥
      of (inl fit) = malloc_fits blocks size base lowest owner n content is (takes some) (refused ∙ ap (λ r. Err r) fit)
      of (inr full) = malloc_recorded blocks size base owner n content is some (takes some) (refused ∙ ap (λ r. Err r) full)

  memalign_served : (why : Refusal) → IsWant why → (owner align n : ℕ) (content : Content ℕ) → IsForSize blocks size base content → (IsTrue (is_alignment align) → n ≢ 0 → (align ≤ unit) × TakesOne blocks size n content) → memalign owner align n content ≡ Err why → ⊥
  memalign_served why want owner align n content is takes refused = elim (cases_Bool (is_alignment align)) [
    | inl good ↦ of (takes good some) want
    | inr bad ↦ (let is_bad : memalign owner align n content ≡ Err BadAlign = rw bad refl in aligned (cc (is_bad, refused)))
  ]
    where
      aligned : why ≢ BadAlign
      aligned = not_other why BadAlign (λ e. cc) (λ e. cc) want

      some : n ≢ 0
      some = some_aligned_bytes owner align n content why aligned (not_other why ZeroSize (λ e. cc) (λ e. cc) want) refused

      of : (align ≤ unit) × TakesOne blocks size n content → IsWant why → ⊥
      of one (inl fit) = memalign_fits blocks size base lowest owner align n content is one.0 one.1 (refused ∙ ap (λ r. Err r) fit)
      of one (inr full) = memalign_recorded blocks size base owner align n content is one.0 one.1 (refused ∙ ap (λ r. Err r) full)

  anew_served : (why : Refusal) → IsWant why → (owner n : ℕ) (content : Content ℕ) → IsForSize blocks size base content → (n ≢ 0 → TakesOne blocks size n content) → realloc are_same owner None n content ≡ Err why → ⊥
  anew_served why want owner n content is takes refused =
      elim (realloc_reasons owner why are_same None n content (λ some. (size, (takes some).rounds)) refused) [
        | inl asked ↦ malloc_served why want owner n content is takes asked
        | inr bad ↦ not_bad why want bad
      ]

  request_served : (request : Request) (why : Refusal) → IsWant why → (content : Content ℕ) → IsForSize blocks size base content → IsOfSize blocks size request content → IsRefused request why content → ⊥
  request_served (AddPool place pool) why want content is within refused = within
  request_served (RemovePool place) why want content is within refused = within
  request_served (Malloc n) why want content is within refused = malloc_served why want 0 n content is within (refused 0)
  request_served (Memalign align n) why want content is within refused = memalign_served why want 0 align n content is within (refused 0)
  request_served (Free pointer) why want content is within refused = not_bad why want (free_refused (λ slot. slot == pointer.slot) pointer.place content why refused)
  request_served (Realloc None n) why want content is within refused = anew_served why want 0 n content is within (refused 0)
  request_served (Realloc (Some pointer) n) why want content is within refused = realloc_fits blocks size base are_same why want 0 pointer.place pointer.slot n content is within (refused 0)
  request_served (BlockSize pointer) why want content is within refused = not_bad why want (size_refused (λ slot. slot == pointer.slot) pointer.place content why refused)

  step_not_full : (lacks : Type 0) (request : Request) (answer : Answer) (old new : Content ℕ) → IsForSize blocks size base old → IsOfSize blocks size request old → Step lacks request answer old new → IsNotFull answer
  step_not_full lacks request answer old new is within step =
      let P : Answer → Type 0 = λ a. Step lacks request a old new in (
        λ fit. request_served request NoFit (inl refl) old is within ((subst P fit step).1 (λ e. cc)),
        λ full. request_served request TableFull (inr refl) old is within ((subst P full step).1 (λ e. cc)),
      )

  -- what a request leaves has such blocks still
  step_for : (lacks : Type 0) (request : Request) (answer : Answer) (old new : Content ℕ) → IsForSize blocks size base old → IsOfSize blocks size request old → Step lacks request answer old new → IsForSize blocks size base new
  step_for lacks request (Refused refusal) old new is within step = subst (IsForSize blocks size base) (sym step.0) is
  step_for lacks (AddPool place pool) Done old new is within step = absurd within
  step_for lacks (RemovePool place) Done old new is within step = absurd within
  step_for lacks (Malloc n) (Given pointer) old new is within step =
      let given : ℕ × Content ℕ = (pointer.place, new) in
      let some : n ≢ 0 = some_served blocks size base pointer.slot n old given step.ok in
      malloc_for blocks size base pointer.slot n old given is (within some).rounds step.ok
  step_for lacks (Memalign align n) (Given pointer) old new is within step =
      let given : ℕ × Content ℕ = (pointer.place, new) in
      let picked = (memalign_given pointer.slot align n old given step.ok).0 in
      let takes = within picked.is picked.some in
      memalign_for blocks size base pointer.slot align n old given is takes.0 takes.1.rounds step.ok
  step_for lacks (Free pointer) Done old new is within step =
      let gave = free_gave (λ slot. slot == pointer.slot) pointer.place old new step in
      subst (IsForSize blocks size base) gave.1 (freed_for blocks size base (λ slot. slot == pointer.slot) pointer.place old is gave.0)
  step_for lacks (Realloc None n) (Moved given) old new is within step =
      let left : Option (ℕ × ℕ) × Content ℕ = (place_and_slot given, new) in
      still_for blocks size base old new is (realloc_is_good are_same (slot_of given) None n old left is.good step.ok) (anew_cut blocks size base are_same (slot_of given) n old left is within step.ok) (realloc_keeps are_same (slot_of given) None n old left step.ok)
  step_for lacks (Realloc (Some pointer) n) (Moved given) old new is within step =
      let left : Option (ℕ × ℕ) × Content ℕ = (place_and_slot given, new) in
      let known : Option (ℕ × ℕ) = Some (pointer.place, pointer.slot) in
      still_for blocks size base old new is (realloc_is_good are_same (slot_of given) known n old left is.good step.ok)
      (realloc_cut blocks size base are_same (slot_of given) pointer.place pointer.slot n old left is within step.ok) (realloc_keeps are_same (slot_of given) known n old left step.ok)
  step_for lacks (BlockSize pointer) (Size told) old new is within step = subst (IsForSize blocks size base) (sym step.1) is
  step_for lacks _ _ old new is within step = absurd step

  run_of_size_fits : (lacks : Type 0) (requests : List Request) (answers : List Answer) (old new : Content ℕ) (before after : ℕ) (run : Run lacks requests answers old new before after)
      → IsForSize blocks size base old → StaysOfSize blocks size lacks requests answers old new before after run → All IsNotFull answers
  run_of_size_fits lacks [] [] old new before after run is within = λ k d less. absurd (omega (arith, less))
  run_of_size_fits lacks [] (answer ∷ answers) old new before after run is within = absurd run
  run_of_size_fits lacks (request ∷ requests) [] old new before after run is within = absurd run
  run_of_size_fits lacks (request ∷ requests) (answer ∷ answers) old new before after run is within =
      All-cons IsNotFull answer answers (step_not_full lacks request answer old run.0 is within.0 run.2)
      (run_of_size_fits lacks requests answers run.0 new run.1 after run.5 (step_for lacks request answer old run.0 is within.0 run.2) within.1)

-- one pool with the bytes of `blocks` such blocks is for it
pub one_pool_for : {A : Type 0} (blocks size records base pool : ℕ) (content : Content A) → add_pool base pool (created records) ≡ Ok content → blocks * size ≤ pool → HasRecords blocks size pool records → IsForSize blocks size base content
one_pool_for {A} blocks size records base pool content added large many =
    let good : IsGood content = add_pool_is_good base pool (created records) content (created_is_good records) added in
    let all : AreCut size base (gap {A = A} base pool ++ []) = all-append (IsCut size base) (gap base pool) [] (gap_cut size base A base pool (at_base size base)) tt in
    let bytes : pool ≡ pool + 0 = omega arith in
    subst (λ (c : Content A). IsGood c → IsForSize blocks size base c) (pool_added base pool (created records) content added).is
    (λ was_good. record { good = was_good; cut = all; one = refl; bytes = omega (arith, large); records = subst (λ n. HasRecords blocks size n records) bytes many }) good

-- a size that is its own class's lowest
pub own_class : (size : ℕ) → class_size 1 size ≡ Some size → IsLowest size
own_class size is = of (round size) refl is
  where
    of : (rounds : Option ℕ) → round size ≡ rounds → option_and_then (λ m. option_map low (need (size_asked 1 m))) rounds ≡ Some size → IsLowest size
    of None rounds e = absurd (cc)
    of (Some m) rounds e = at (need m) refl e
      where
        at : (class : Option ℕ) → need m ≡ class → option_map low class ≡ Some size → IsLowest size
        at None needed lows = absurd (cc)
        at (Some c) needed lows =
            let sized : low c ≡ size = cc in
            let same : m ≡ size = omega (arith, (round-Some size m rounds).least, le-low_need m c needed, sized) in
            record { c = c; needed = ap need (sym same) ∙ needed; sized = sized; rounds = rounds ∙ ap (λ n. Some n) same }

-- no request of a run for blocks of one size is refused for want of a block or of a record
pub run_of_size : (lacks : Type 0) (blocks size records base pool : ℕ) (requests : List Request) (answers : List Answer) (old new : Content ℕ) (before after : ℕ) (run : Run lacks requests answers old new before after)
    → add_pool base pool (created records) ≡ Ok old → class_size 1 size ≡ Some size → blocks * size ≤ pool → HasRecords blocks size pool records → StaysOfSize blocks size lacks requests answers old new before after run → All IsNotFull answers
run_of_size lacks blocks size records base pool requests answers old new before after run added sized large many within =
    run_of_size_fits blocks size base (own_class size sized) lacks requests answers old new before after run (one_pool_for blocks size records base pool old added large many) within
