-- A call for a block of the one size of a heap is a request of the heap for one. So it is served, and so is a run of such calls.
use Rattle.std.proofs.Common.{◌≡◌, ◌≢◌, ℕ, ◌+◌, List, [], ◌∷◌, All, Option, Some, Err, inl, inr, sym, ap, ◌∙◌, subst, arith}
use Rattle.std.specs.Prelude.{◌==◌}
use Rattle.std.proofs.lemmas.Bool.{cases_Bool, cases_eq, cases_lt}
use Rattle.tlsf_heap.specs.declared.refusal.Refusal.{Refusal}
use Rattle.tlsf_heap.specs.declared.refusal.Refusal.TheVariants.{ZeroSize}
use Rattle.tlsf_heap.specs.Content.{Content}
use Rattle.tlsf_heap.specs.Counted.{Counted}
use Rattle.tlsf_heap.specs.Malloc.{malloc}
use Rattle.tlsf_heap.specs.Memalign.{is_alignment, memalign}
use Rattle.tlsf_heap.specs.OneSize.{TakesOne}
use Rattle.tlsf_heap.specs.Pointer.{Pointer, place_and_slot}
use Rattle.tlsf_heap.proofs.Content.Given.{free_gave}
use Rattle.tlsf_heap.proofs.Content.MallocCases.{malloc_reasons}
use Rattle.tlsf_heap.proofs.Good.OneSize.{malloc_given, memalign_given_or_bad}
use Rattle.tlsf_heap.proofs.Good.OneSizePool.{are_same, IsLowest, IsForSize, malloc_for, freed_for, memalign_for, realloc_cut, realloc_fits, still_for}
use Rattle.tlsf_heap.proofs.Good.Realloc.{realloc_is_good}
use Rattle.tlsf_heap.proofs.Good.Within.{realloc_keeps}
use Rattle.tlsf_region.proofs.Sizes.{size_is}
use Rattle.tlsf_c.specs.declared.placed_pool.PlacedPool.{PlacedPool}
use Rattle.tlsf_c.specs.Fronts.{front, told_slot, told_size}
use Rattle.tlsf_c.specs.PlacedHeaps.{IsLiveAt, IsRefusedFor, told_block, malloc_with_front}
use Rattle.tlsf_c.specs.PlacedPools.{IsPlaced}
use Rattle.tlsf_c.specs.PlacedRuns.{Call, ask, ask_aligned, ask_again, give_back, Told, CallStep, CallRun, IsCallOfSize, CallsStayOfSize, IsServedCall, AreServedCalls}
use Rattle.tlsf_c.proofs.Alike.{aligns_none, aligns_bad, aligned_with_front, alike_in_units}
use Rattle.tlsf_c.proofs.PlacedLemmas.{with_front}
use Rattle.tlsf_c.proofs.PlacedRunLemmas.{served_same}
use Rattle.tlsf_c.proofs.Refusing.{never_bad, live_refused}

module _ (blocks size base : ℕ) (lowest : IsLowest size) where
  abbrev pub IsFor : Content ℕ → Type 0
  IsFor content = IsForSize blocks size base content

  more : (n : ℕ) → n + front ≢ 0
  more n = λ e. omega (arith, e)

  -- malloc with a front is malloc
  one_same : (owner n : ℕ) (content : Content ℕ) → IsFor content → n ≢ 0 → TakesOne blocks size (n + front) content → malloc_with_front owner n content ≡ malloc owner (n + front) content
  one_same owner n content is some takes = with_front owner n content some ∙ served_same owner (n + front) content (malloc_given blocks size base lowest owner (n + front) content is (more n) takes)

  one_serves : (pools : List PlacedPool) (call : Call) (told : Told) (old new : Counted) → All IsPlaced pools → IsFor old.content → IsCallOfSize blocks size pools call old.content → CallStep pools call told old new
      → IsServedCall pools call told old.content × IsFor new.content
  one_serves pools (ask n) told old new placed is within step = (
    (λ some. elim (cases_lt 0 told.address) [
      | inl there ↦ there
      | inr none ↦ (let why = step.1 (omega (arith, none)) in absurd (malloc_given blocks size base lowest 0 (n + front) old.content is (more n) (within some) why.refusal (sym (one_same 0 n old.content is some (within some)) ∙ why.refused 0)))
    ]),
    elim (cases_lt 0 told.address) [
      | inr none ↦ subst IsFor (sym (step.1 (omega (arith, none))).unchanged.content) is
      | inl there ↦ (let given = step.0 there in elim (cases_eq n 0) [
        | inl nothing ↦ (let none : malloc_with_front given.pointer.slot n old.content ≡ Err ZeroSize = ap (λ (k : ℕ). malloc_with_front given.pointer.slot k old.content) nothing in let ok = given.served.ok in absurd (cc))
        | inr some ↦ malloc_for blocks size base given.pointer.slot (n + front) old.content (given.pointer.place, new.content) is (within some).rounds (sym (one_same given.pointer.slot n old.content is some (within some)) ∙ given.served.ok)
      ])
    ],
  )
  one_serves pools (ask_aligned align n) told old new placed is within step = (
    (λ good some. elim (cases_lt 0 told.address) [
      | inl there ↦ there
      | inr none ↦ (
          let takes = within good some in
          let why = step.1 (omega (arith, none)) (alike_in_units align good takes.0 pools placed) in
          let refused : memalign 0 align (n + front) old.content ≡ Err why.refusal = sym (aligned_with_front align 0 n old.content some) ∙ why.refused 0 in
          let bad = memalign_given_or_bad blocks size base lowest 0 align (n + front) old.content is takes.0 (more n) takes.1 why.refusal refused in
          absurd (never_bad 0 align (n + front) old.content good (refused ∙ ap (λ r. Err r) bad)))
    ]),
    elim (cases_lt 0 told.address) [
      | inr none ↦ subst IsFor (sym (step.2 (omega (arith, none))).content) is
      | inl there ↦ (let given = step.0 there in elim (cases_Bool (is_alignment align)) [
        | inr bad ↦ (let none = aligns_bad align given.pointer.slot n old.content bad in let ok = given.served.ok in absurd (cc))
        | inl good ↦ elim (cases_eq n 0) [
          | inl nothing ↦ (let none = aligns_none align given.pointer.slot n old.content good nothing in let ok = given.served.ok in absurd (cc))
          | inr some ↦ memalign_for blocks size base given.pointer.slot align (n + front) old.content (given.pointer.place, new.content) is (within good some).0 (within good some).1.rounds (sym (aligned_with_front align given.pointer.slot n old.content some) ∙ given.served.ok)
        ]
      ])
    ],
  )
  one_serves pools (ask_again address word n) told old new placed is within step = (
    (λ live. elim (cases_lt 0 told.address) [
      | inl there ↦ there
      | inr none ↦ absurd (of live (step.1 (omega (arith, none))).refusal (step.1 (omega (arith, none))).refused)
    ]),
    elim (cases_lt 0 told.address) [
      | inr none ↦ subst IsFor (sym (step.1 (omega (arith, none))).unchanged.content) is
      | inl there ↦ (
          let given = step.0 there in
          let was : Pointer = told_block given.was.place address word in
          let left : Option (ℕ × ℕ) × Content ℕ = (place_and_slot (Some given.pointer), new.content) in
          still_for blocks size base old.content new.content is
          (realloc_is_good are_same given.pointer.slot (Some (was.place, was.slot)) (n + front) old.content left is.good given.moved.ok)
          (realloc_cut blocks size base are_same given.pointer.slot was.place was.slot (n + front) old.content left is (λ live some. within given.was) given.moved.ok)
          (realloc_keeps are_same given.pointer.slot (Some (was.place, was.slot)) (n + front) old.content left given.moved.ok))
    ],
  )
    where
      of : IsLiveAt address word pools old.content → (refusal : Refusal) → IsRefusedFor address word n pools old.content refusal → ⊥
      of live refusal (inl bad) = bad.0 live
      of live refusal (inr (found, refused)) =
          let known = size_is (told_block found.place address word) old.content (told_size word address) found.live in
          elim (malloc_reasons 0 (n + front) old.content refusal (live_refused 0 (told_slot word address) found.place (n + front) size old.content refusal (within found) (more n) known.0 (refused 0))) [
            | inl nothing ↦ more n nothing
            | inr want ↦ realloc_fits blocks size base are_same refusal want 0 found.place (told_slot word address) (n + front) old.content is (λ live some. within found) (refused 0)
          ]
  one_serves pools (give_back address word) told old new placed is within step = (
    step.0,
    elim (cases_eq told.word 0) [
      | inl served ↦ (
          let freed = step.1 served in
          let gave = free_gave (λ slot. slot == told_slot word address) freed.place old.content new.content freed.freed in
          subst IsFor gave.1 (freed_for blocks size base (λ slot. slot == told_slot word address) freed.place old.content is gave.0))
      | inr refused ↦ subst IsFor (sym (step.2 refused).content) is
    ],
  )

  -- so is each call of a run
  pub run_of_one_size : (pools : List PlacedPool) (calls : List Call) (tolds : List Told) (old new : Content ℕ) (run : CallRun pools calls tolds old new) → All IsPlaced pools → IsFor old
      → CallsStayOfSize blocks size pools calls tolds old new run → AreServedCalls pools calls tolds old new run
  run_of_one_size pools [] [] old new run placed is within = tt
  run_of_one_size pools [] (told ∷ tolds) old new run placed is within = absurd run
  run_of_one_size pools (call ∷ calls) [] old new run placed is within = absurd run
  run_of_one_size pools (call ∷ calls) (told ∷ tolds) old new run placed is within =
      let found : IsFor run.0.content = subst IsFor (sym run.2) is in
      let one : IsCallOfSize blocks size pools call run.0.content = subst (IsCallOfSize blocks size pools call) (sym run.2) within.0 in
      let serves = one_serves pools call told run.0 run.1 placed found one run.3 in (
        subst (λ (content : Content ℕ). IsServedCall pools call told content) run.2 serves.0,
        run_of_one_size pools calls tolds run.1.content new run.4 placed serves.1 within.1,
      )
