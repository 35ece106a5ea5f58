-- What is never so where a call is refused: that there is room.
use Rattle.std.proofs.Common.{◌≡◌, ◌≢◌, ℕ, true, Option, Some, None, Result, Ok, Err, IfErr, OnErr, inl, inr, refl, sym, ap, ◌∙◌, arith}
use Rattle.std.specs.Prelude.{IsOk, nat_lt, ◌==◌}
use Rattle.std.specs.Int.{next_multiple_of}
use Rattle.std.proofs.lemmas.Bool.{cases_Bool, cases_eq, cases_lt, ne_eqb}
use Rattle.tlsf_class.specs.Rounding.{round}
use Rattle.tlsf_heap.specs.declared.refusal.Refusal.{Refusal}
use Rattle.tlsf_heap.specs.declared.refusal.Refusal.TheVariants.{ZeroSize, TableFull, BadAlign}
use Rattle.tlsf_heap.specs.Content.{Content, blocks_of, size_at, used_records}
use Rattle.tlsf_heap.specs.Free.{is_live}
use Rattle.tlsf_heap.specs.Good.{IsGood}
use Rattle.tlsf_heap.specs.Lists.{pick}
use Rattle.tlsf_heap.specs.Malloc.{malloc_rounded, malloc}
use Rattle.tlsf_heap.specs.Memalign.{is_alignment, size_asked, aligned, memalign_picked, memalign_rounded, memalign}
use Rattle.tlsf_heap.specs.Pointer.{Pointer, realloc_ptr, block_size_ptr}
use Rattle.tlsf_heap.specs.Realloc.{fits_in_place, moved, realloc_sized, realloc}
use Rattle.tlsf_heap.specs.Room.{HasRoom, HasRoomAligned}
use Rattle.tlsf_heap.proofs.Content.ReallocCases.{sized_same, sized_in_place, sized_kept, sized_moved, realloc_resized}
use Rattle.tlsf_heap.proofs.Good.Room.{room_serves}
use Rattle.tlsf_region.proofs.Sizes.{size_is}

pub never_on : {A E : Type 0} (P : Type 0) (result : Result A E) → (P → ⊥) → OnErr result (P → ⊥)
never_on P (Ok a) none = tt
never_on P (Err e) none = none

pub never_with : {A E : Type 0} (P : Type 0) (result : Result A E) → (P → IsOk result) → OnErr result (P → ⊥)
never_with P (Ok a) serves = tt
never_with P (Err e) serves = λ p. let never = serves p in absurd (cc)

-- at an alignment memalign has other reasons to refuse
pub never_bad : (owner align n : ℕ) (content : Content ℕ) → is_alignment align ≡ true → memalign owner align n content ≢ Err BadAlign
never_bad owner align n content is = λ bad. elim (cases_eq n 0) [
  | inl nothing ↦ let none : memalign owner align n content ≡ Err ZeroSize = ap (λ (k : ℕ). memalign owner align k content) nothing ∙ rw is refl in absurd (cc)
  | inr some ↦ by_round (round n) (sym (asked some) ∙ bad)
]
  where
    asked : n ≢ 0 → memalign owner align n content ≡ memalign_rounded owner align (round n) content
    asked some = rw (is, ne_eqb n 0 some) refl

    by_pick : (m : ℕ) (place : Option ℕ) → memalign_picked owner align m place content ≢ Err BadAlign
    by_pick m None e = absurd (cc)
    by_pick m (Some place) e = elim (cases_Bool (nat_lt (aligned owner (next_multiple_of place align) m place (size_at place (blocks_of content.pools)) content).records (used_records (aligned owner (next_multiple_of place align) m place (size_at place (blocks_of content.pools)) content)))) [
      | inl full ↦ let is : memalign_picked owner align m (Some place) content ≡ Err TableFull = rw full refl in absurd (cc)
      | inr room ↦ let is : memalign_picked owner align m (Some place) content ≡ Ok (next_multiple_of place align, aligned owner (next_multiple_of place align) m place (size_at place (blocks_of content.pools)) content) = rw room refl in absurd (cc)
    ]

    by_round : (m : Option ℕ) → memalign_rounded owner align m content ≢ Err BadAlign
    by_round None e = absurd (cc)
    by_round (Some m) e = by_pick m (pick (size_asked align m) content.lists) e

-- where a live block is refused some bytes, so is malloc
module _ (owner known place n m : ℕ) (content : Content ℕ) (refusal : Refusal) (rounds : round n ≡ Some m) (some : n ≢ 0) where
  from_moved : (answer : Result (ℕ × Content ℕ) Refusal) → moved owner place answer ≡ Err refusal → answer ≡ Err refusal
  from_moved (Err why) e = ap (λ r. Err r) (cc)
  from_moved (Ok given) e = absurd (cc)

  as_rounded : malloc owner n content ≡ malloc_rounded owner (Some m) content
  as_rounded =
      let asked : malloc owner n content ≡ malloc_rounded owner (round n) content = rw (ne_eqb n 0 some) refl in
      asked ∙ ap (λ (r : Option ℕ). malloc_rounded owner r content) rounds

  from_sized : realloc_sized owner place known m content ≡ Err refusal → malloc owner n content ≡ Err refusal
  from_sized e = elim (cases_eq m (size_at place (blocks_of content.pools))) [
    | inl same ↦ let is = sized_same owner known place m content same in absurd (cc)
    | inr other ↦ elim (cases_Bool (fits_in_place place m content)) [
      | inl fits ↦ let is = sized_in_place owner known place m content other fits in absurd (cc)
      | inr beyond ↦ elim (cases_lt m (size_at place (blocks_of content.pools))) [
        | inl less ↦ let is = sized_kept owner known place m content less beyond in absurd (cc)
        | inr more ↦ as_rounded ∙ from_moved (malloc_rounded owner (Some m) content) (sym (sized_moved owner known place m content (omega (arith, more, other)) beyond) ∙ e)
      ]
    ]
  ]

  pub live_refused : is_live (λ other. other == known) place (blocks_of content.pools) ≡ true → realloc (λ a b. a == b) owner (Some (place, known)) n content ≡ Err refusal → malloc owner n content ≡ Err refusal
  live_refused live e = from_sized (sym (realloc_resized (λ a b. a == b) owner known place n m content live some rounds) ∙ e)

-- where memalign is refused at an alignment, there is no room
pub aligned_without : {A : Type 0} (align n : ℕ) (content : Content ℕ) (result : Result A Refusal) → (HasRoomAligned align n content → IfErr result (λ why. why ≡ BadAlign)) → IfErr result (λ why. (slot : ℕ) → memalign slot align n content ≡ Err why)
    → OnErr result (is_alignment align ≡ true → HasRoomAligned align n content → ⊥)
aligned_without align n content (Ok a) room refused = tt
aligned_without align n content (Err why) room refused = λ is fits. never_bad 0 align n content is (refused 0 ∙ ap (λ r. Err r) (room fits))

-- where a live block is refused some bytes, there is no room for them
pub resized_without : (ptr : Pointer) (n size : ℕ) (content : Content ℕ) (why : Refusal) → IsGood content → n ≢ 0 → block_size_ptr ptr content ≡ Ok size → realloc_ptr (Some ptr) n ptr.slot content ≡ Err why → HasRoom n content → ⊥
resized_without ptr n size content why good some told refused room =
    let is = size_is ptr content size told in
    room_serves ptr.slot n content why good room (live_refused ptr.slot ptr.slot ptr.place n room.m content why room.rounds some is.0 refused)
