-- A call that keeps to bounds told beforehand is a request of the heap that does. So it is served, and so is a run of such calls.
use Rattle.std.proofs.Common.{◌≡◌, ◌≢◌, ℕ, ◌+◌, ◌*◌, ◌≤◌, true, List, [], ◌∷◌, All, Some, Ok, Err, inl, inr, refl, sym, ap, ◌∙◌, subst, arith}
use Rattle.std.specs.Prelude.{Result}
use Rattle.std.proofs.lemmas.Bool.{cases_Bool, cases_eq, cases_lt}
use Rattle.tlsf_class.specs.Classes.{unit}
use Rattle.tlsf_heap.specs.declared.refusal.Refusal.{Refusal}
use Rattle.tlsf_heap.specs.declared.refusal.Refusal.TheVariants.{ZeroSize}
use Rattle.tlsf_heap.specs.declared.request.Request.{Request}
use Rattle.tlsf_heap.specs.declared.request.Request.TheVariants.{Malloc, Memalign, Free, Realloc}
use Rattle.tlsf_heap.specs.declared.answer.Answer.{Answer}
use Rattle.tlsf_heap.specs.declared.answer.Answer.TheVariants.{Done, Given, Moved}
use Rattle.tlsf_heap.specs.Content.{Content}
use Rattle.tlsf_heap.specs.Counted.{Counted}
use Rattle.tlsf_heap.specs.Good.{IsGood}
use Rattle.tlsf_heap.specs.Malloc.{malloc}
use Rattle.tlsf_heap.specs.Memalign.{is_alignment, size_asked, memalign}
use Rattle.tlsf_heap.specs.OwnClass.{malloc_or_own}
use Rattle.tlsf_heap.specs.Room.{HasRoom, HasRoomAligned}
use Rattle.tlsf_heap.specs.Run.{Step}
use Rattle.tlsf_heap.specs.Sizing.{class_size}
use Rattle.tlsf_heap.specs.Within.{AsksAtMost, TakesWithin, IsWithin}
use Rattle.tlsf_heap.proofs.Content.OwnCases.{as_malloc}
use Rattle.tlsf_heap.proofs.Good.Room.{room_serves, or_own_room_serves, aligned_room_serves}
use Rattle.tlsf_heap.proofs.Good.Within.{IsEnough, room_within, step_enough}
use Rattle.tlsf_region.proofs.Sizes.{size_is}
use Rattle.tlsf_c.specs.declared.placed_pool.PlacedPool.{PlacedPool}
use Rattle.tlsf_c.specs.Fronts.{front, told_slot, told_size}
use Rattle.tlsf_c.specs.PlacedHeaps.{IsLiveAt, IsRefusedFor, told_block, malloc_with_front}
use Rattle.tlsf_c.specs.PlacedPools.{IsPlaced}
use Rattle.tlsf_c.specs.PlacedRuns.{Call, ask, ask_aligned, ask_again, give_back, Told, CallStep, CallRun, KeepsTo, IsCallWithin, CallsStayWithin, IsServedCall, AreServedCalls}
use Rattle.tlsf_c.proofs.Alike.{aligns_none, aligns_bad, aligned_with_front, alike_in_units}
use Rattle.tlsf_c.proofs.PlacedLemmas.{with_front}
use Rattle.tlsf_c.proofs.Refusing.{never_bad, live_refused}

-- where malloc isn't refused, malloc that may take a block of the bytes' own class is malloc
pub served_same : (owner n : ℕ) (content : Content ℕ) → ((why : Refusal) → malloc owner n content ≡ Err why → ⊥) → malloc_or_own owner n content ≡ malloc owner n content
served_same owner n content never = by (malloc owner n content) refl
  where
    by : (answer : Result (ℕ × Content ℕ) Refusal) → malloc owner n content ≡ answer → malloc_or_own owner n content ≡ malloc owner n content
    by (Ok new) is = as_malloc owner content n new is ∙ sym is
    by (Err why) is = absurd (never why is)

-- so it is where there is room
room_same : (owner n : ℕ) (content : Content ℕ) → IsGood content → HasRoom n content → malloc_or_own owner n content ≡ malloc owner n content
room_same owner n content good room = served_same owner n content (λ why is. room_serves owner n content why good room is)

-- a request for no more bytes, at no greater alignment, asks for no larger class
abbrev pub AsksLess : Type 0
AsksLess = (most_align most size align n : ℕ) → class_size most_align most ≡ Some size → is_alignment align ≡ true → align ≤ most_align → n ≢ 0 → n ≤ most → AsksAtMost size (size_asked align) n

module _ (asks_less : AsksLess) (blocks bytes largest size : ℕ) (sized : class_size 1 (largest + front) ≡ Some size) where
  abbrev total : ℕ
  total = bytes + blocks * unit

  abbrev pub IsEnoughFor : Content ℕ → Type 0
  IsEnoughFor content = IsEnough blocks total size content

  asks : (align n : ℕ) → is_alignment align ≡ true → align ≤ unit → n ≤ largest → AsksAtMost size (size_asked align) (n + front)
  asks align n is few least = asks_less unit (largest + front) size align (n + front) sized is few (λ e. omega (arith, e)) (omega (arith, least))

  takes : (asked : ℕ → ℕ) (n : ℕ) (content : Content ℕ) → AsksAtMost size asked (n + front) → KeepsTo blocks bytes largest n content → TakesWithin blocks total size asked (n + front) content
  takes asked n content asks keeps = record { few = keeps.few; small = omega (arith, keeps.small, keeps.few); asks = asks }

  takes_plain : (n : ℕ) (content : Content ℕ) → KeepsTo blocks bytes largest n content → TakesWithin blocks total size (λ m. m) (n + front) content
  takes_plain n content keeps = takes (λ m. m) n content (asks 1 n refl (omega arith) keeps.least) keeps

  room_of : (n : ℕ) (content : Content ℕ) → IsEnoughFor content → KeepsTo blocks bytes largest n content → HasRoom (n + front) content
  room_of n content enough keeps = room_within blocks total size (λ m. m) 1 (n + front) content (omega arith) enough.large (takes_plain n content keeps)

  -- what a request leaves is large enough still
  after : (request : Request) (answer : Answer) (old new : Content ℕ) → IsEnoughFor old → IsWithin blocks total size request old → Step ⊥ request answer old new → IsEnoughFor new
  after request answer old new enough within step = step_enough blocks total size ⊥ request answer old new enough within step

  -- a call is served, and so is what it leaves
  pub call_serves : (pools : List PlacedPool) (call : Call) (told : Told) (old new : Counted) → All IsPlaced pools → IsEnoughFor old.content → IsCallWithin blocks bytes largest pools call old.content → CallStep pools call told old new
      → IsServedCall pools call told old.content × IsEnoughFor new.content
  call_serves pools (ask n) told old new placed enough within step = (
    (λ some. elim (cases_lt 0 told.address) [
      | inl there ↦ there
      | inr none ↦ (
          let why = step.1 (omega (arith, none)) in
          absurd (or_own_room_serves 0 (n + front) old.content why.refusal enough.good (room_of n old.content enough (within some)) (sym (with_front 0 n old.content some) ∙ why.refused 0)))
    ]),
    elim (cases_lt 0 told.address) [
      | inr none ↦ subst IsEnoughFor (sym (step.1 (omega (arith, none))).unchanged.content) enough
      | inl there ↦ (let given = step.0 there in elim (cases_eq n 0) [
        | inl nothing ↦ (let none : malloc_with_front given.pointer.slot n old.content ≡ Err ZeroSize = ap (λ (k : ℕ). malloc_with_front given.pointer.slot k old.content) nothing in let is = given.served.ok in absurd (cc))
        | inr some ↦ after (Malloc (n + front)) (Given given.pointer) old.content new.content enough (λ more. takes_plain n old.content (within some)) (record {
          ok = sym (with_front given.pointer.slot n old.content some ∙ room_same given.pointer.slot (n + front) old.content enough.good (room_of n old.content enough (within some))) ∙ given.served.ok;
          slot_below = given.served.slot_below;
          slot_new = given.served.slot_new;
        })
      ])
    ],
  )
  call_serves pools (ask_aligned align n) told old new placed enough within step = (
    (λ is some. elim (cases_lt 0 told.address) [
      | inl there ↦ there
      | inr none ↦ (
          let keeps = within is some in
          let why = step.1 (omega (arith, none)) (alike_in_units align is keeps.0 pools placed) in
          let refused : memalign 0 align (n + front) old.content ≡ Err why.refusal = sym (aligned_with_front align 0 n old.content some) ∙ why.refused 0 in
          let room : HasRoomAligned align (n + front) old.content = room_within blocks total size (size_asked align) 2 (n + front) old.content (omega arith) enough.large (takes (size_asked align) n old.content (asks align n is keeps.0 keeps.1.least) keeps.1) in
          let bad = aligned_room_serves 0 align (n + front) old.content why.refusal enough.good room refused in
          absurd (never_bad 0 align (n + front) old.content is (refused ∙ ap (λ r. Err r) bad)))
    ]),
    elim (cases_lt 0 told.address) [
      | inr none ↦ subst IsEnoughFor (sym (step.2 (omega (arith, none))).content) enough
      | inl there ↦ (let given = step.0 there in elim (cases_Bool (is_alignment align)) [
        | inr bad ↦ (let none = aligns_bad align given.pointer.slot n old.content bad in let is = given.served.ok in absurd (cc))
        | inl is ↦ elim (cases_eq n 0) [
          | inl nothing ↦ (let none = aligns_none align given.pointer.slot n old.content is nothing in let is = given.served.ok in absurd (cc))
          | inr some ↦ after (Memalign align (n + front)) (Given given.pointer) old.content new.content enough
              (λ good more. (let keeps = within is some in takes (size_asked align) n old.content (asks align n is keeps.0 keeps.1.least) keeps.1))
              (record {
                ok = sym (aligned_with_front align given.pointer.slot n old.content some) ∙ given.served.ok;
                slot_below = given.served.slot_below;
                slot_new = given.served.slot_new;
              })
        ]
      ])
    ],
  )
  call_serves pools (ask_again address word n) told old new placed enough within step = (
    (λ live. elim (cases_lt 0 told.address) [
      | inl there ↦ there
      | inr none ↦ absurd (of live (step.1 (omega (arith, none))).refusal (step.1 (omega (arith, none))).refused)
    ]),
    elim (cases_lt 0 told.address) [
      | inr none ↦ subst IsEnoughFor (sym (step.1 (omega (arith, none))).unchanged.content) enough
      | inl there ↦ (let given = step.0 there in
          after (Realloc (Some (told_block given.was.place address word)) (n + front)) (Moved (Some given.pointer)) old.content new.content enough
          (λ named more. takes_plain n old.content (within given.was)) given.moved)
    ],
  )
    where
      of : IsLiveAt address word pools old.content → (refusal : Refusal) → IsRefusedFor address word n pools old.content refusal → ⊥
      of live refusal (inl bad) = bad.0 live
      of live refusal (inr (found, refused)) =
          let room = room_of n old.content enough (within found) in
          let is = size_is (told_block found.place address word) old.content (told_size word address) found.live in
          room_serves 0 (n + front) old.content refusal enough.good room
          (live_refused 0 (told_slot word address) found.place (n + front) room.m old.content refusal room.rounds (λ e. omega (arith, e)) is.0 (refused 0))
  call_serves pools (give_back address word) told old new placed enough within step = (
    step.0,
    elim (cases_eq told.word 0) [
      | inl served ↦ (let freed = step.1 served in after (Free (told_block freed.place address word)) Done old.content new.content enough tt freed.freed)
      | inr refused ↦ subst IsEnoughFor (sym (step.2 refused).content) enough
    ],
  )

  -- so is each call of a run
  pub run_serves : (pools : List PlacedPool) (calls : List Call) (tolds : List Told) (old new : Content ℕ) (run : CallRun pools calls tolds old new) → All IsPlaced pools → IsEnoughFor old
      → CallsStayWithin blocks bytes largest pools calls tolds old new run → AreServedCalls pools calls tolds old new run
  run_serves pools [] [] old new run placed enough within = tt
  run_serves pools [] (told ∷ tolds) old new run placed enough within = absurd run
  run_serves pools (call ∷ calls) [] old new run placed enough within = absurd run
  run_serves pools (call ∷ calls) (told ∷ tolds) old new run placed enough within =
      let found : IsEnoughFor run.0.content = subst IsEnoughFor (sym run.2) enough in
      let keeps : IsCallWithin blocks bytes largest pools call run.0.content = subst (IsCallWithin blocks bytes largest pools call) (sym run.2) within.0 in
      let serves = call_serves pools call told run.0 run.1 placed found keeps run.3 in (
        subst (λ (content : Content ℕ). IsServedCall pools call told content) run.2 serves.0,
        run_serves pools calls tolds run.1.content new run.4 placed serves.1 within.1,
      )
