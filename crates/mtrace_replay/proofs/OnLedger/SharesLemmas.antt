-- What locations hold by their slots, against what is kept.
use Rattle.std.proofs.Common.{cond, Bool, true, false, Option, Some, None, is_some, ◌≡◌, ℕ, suc, ◌+◌, ◌<◌, ◌≤◌, List, [], ◌∷◌, length, slice_index_or, sum_by, inl, inr, refl, sym, ap, ◌∙◌, arith}
use Rattle.std.specs.Prelude.{◌==◌, slice_get, option_map, if◌then◌else◌}
use Rattle.std.specs.Option.{IsSome, unwrap_or}
use Rattle.std.specs.List.{All}
use Rattle.std.specs.List.Sorted.{IsPermutation}
use Rattle.std.specs.Map.{lookup, remove_entry, values_of}
use Rattle.std.proofs.lemmas.List.Sums.{sum_by-cons}
use Rattle.std.proofs.lemmas.Map.Entries.{sum_by_values_permutation, sum_by-remove_entry}
use Rattle.std.proofs.lemmas.Bool.{cases_eq, cases_lt, false≢true, eq-eqb, ne_eqb}
use Rattle.std.proofs.lemmas.List.{get_or_past}
use Rattle.std.proofs.lemmas.Option.{slice_get_past, slice_get_within, slice_get-get_or}
use Rattle.mtrace_replay.specs.declared.ledger.ledger.Kept.{Kept}
use Rattle.mtrace_replay.specs.declared.held.amount.Amount.{Amount}
use Rattle.mtrace_replay.specs.declared.ledger.shares.Share.{Share}
use Rattle.mtrace_replay.specs.Locations.{Extends, HasLocation}
use Rattle.mtrace_replay.specs.Shares.{ByLocation, no_share, nothing, amount_more, amount_less, now_at, marked_at, Changes, KeepsCounts, KeepsShares, Marks}
use Rattle.mtrace_replay.specs.declared.held.count.Count.{Count}
use Rattle.mtrace_replay.specs.Ledger.{slot_of, in_slot, AreShared, AreCalled}

-- ---- what is kept in a slot

abbrev pub in_its_slot : (Kept → ℕ) → ℕ → Kept → ℕ
in_its_slot measure slot kept = if slot_of kept.location == slot then measure kept else 0

module _ (measure : Kept → ℕ) (slot : ℕ) where
  abbrev its : Kept → ℕ
  its kept = if slot_of kept.location == slot then measure kept else 0

  pub in_slot-less : (old new : List (ℕ × Kept)) (test : ℕ → Bool) (h : Kept) → lookup test old ≡ Some h → IsPermutation (remove_entry test old) new
      → in_slot measure slot (values_of new) + its h ≡ in_slot measure slot (values_of old)
  in_slot-less old new test h is moved =
      let whole = sum_by-remove_entry its test old in
      let one : unwrap_or (option_map its (lookup test old)) 0 ≡ its h = ap (λ o. unwrap_or (option_map its o) 0) is in
      omega (arith, whole, one, sum_by_values_permutation its (remove_entry test old) new moved)

-- ---- a slot's amount changes

module _ (get : Amount → ℕ) (measure : Kept → ℕ) (before : ByLocation) (all : List Kept) (shared : (slot : ℕ) → get (now_at before slot) ≡ in_slot measure slot all) (amount : Amount) (h : Kept) where
  -- at the slot of what is kept more
  amount-more : get amount ≡ get (now_at before (slot_of h.location)) + measure h → (slot : ℕ)
      → get (if slot_of h.location == slot then amount else now_at before slot) ≡ (if slot_of h.location == slot then measure h else 0) + in_slot measure slot all
  amount-more is slot = elim (cases_eq (slot_of h.location) slot) [
    | inl same ↦
        ap (λ b. get (cond b amount (now_at before slot))) (eq-eqb (slot_of h.location) slot same) ∙ is ∙ ap (λ s. get (now_at before s) + measure h) same
        ∙ omega (arith, shared slot, ap (λ b. cond b (measure h) 0) (eq-eqb (slot_of h.location) slot same))
    | inr other ↦
        ap (λ b. get (cond b amount (now_at before slot))) (ne_eqb (slot_of h.location) slot other)
        ∙ omega (arith, shared slot, ap (λ b. cond b (measure h) 0) (ne_eqb (slot_of h.location) slot other))
  ]

  -- at the slot of what is kept no more
  amount-less : get amount + measure h ≡ get (now_at before (slot_of h.location)) → (slot : ℕ)
      → get (if slot_of h.location == slot then amount else now_at before slot) + (if slot_of h.location == slot then measure h else 0) ≡ in_slot measure slot all
  amount-less is slot = elim (cases_eq (slot_of h.location) slot) [
    | inl same ↦
        let now : get (if slot_of h.location == slot then amount else now_at before slot) ≡ get amount = ap (λ b. get (cond b amount (now_at before slot))) (eq-eqb (slot_of h.location) slot same) in
        omega (arith, now, is, ap (λ s. get (now_at before s)) same, shared slot, ap (λ b. cond b (measure h) 0) (eq-eqb (slot_of h.location) slot same))
    | inr other ↦
        let now : get (if slot_of h.location == slot then amount else now_at before slot) ≡ get (now_at before slot) = ap (λ b. get (cond b amount (now_at before slot))) (ne_eqb (slot_of h.location) slot other) in
        omega (arith, now, shared slot, ap (λ b. cond b (measure h) 0) (ne_eqb (slot_of h.location) slot other))
  ]

abbrev pub count_one : Kept → ℕ
count_one kept = 1

abbrev size_of : Kept → ℕ
size_of kept = kept.size

module _ (locations : List (List ℕ)) where
  -- one block more
  pub shared-added : (old new : List Kept) (h : Kept) → ((measure : Kept → ℕ) → sum_by measure new ≡ measure h + sum_by measure old) → (before after : ByLocation) → AreShared locations before old
      → Changes (slot_of h.location) (amount_more (now_at before (slot_of h.location)) h.size) before after → AreShared locations after new
  shared-added old new h more before after shared changes =
      let amount = amount_more (now_at before (slot_of h.location)) h.size in
      record {
        blocks = λ slot. ap (λ (a : Amount). a.blocks) (changes.now slot) ∙ amount-more (λ a. a.blocks) count_one before old shared.blocks amount h refl slot ∙ sym (more (in_its_slot count_one slot));
        bytes = λ slot. ap (λ (a : Amount). a.bytes) (changes.now slot) ∙ amount-more (λ a. a.bytes) size_of before old shared.bytes amount h refl slot ∙ sym (more (in_its_slot size_of slot));
        beyond = λ slot above. changes.marked slot ∙ shared.beyond slot above;
      }

  -- what is kept is counted
  one_there : (measure : Kept → ℕ) (old : List (ℕ × Kept)) (test : ℕ → Bool) (h : Kept) → lookup test old ≡ Some h → measure h ≤ in_slot measure (slot_of h.location) (values_of old)
  one_there measure old test h is =
      let slot = slot_of h.location in
      let whole = sum_by-remove_entry (in_its_slot measure slot) test old in
      let one : unwrap_or (option_map (in_its_slot measure slot) (lookup test old)) 0 ≡ in_its_slot measure slot h = ap (λ o. unwrap_or (option_map (in_its_slot measure slot) o) 0) is in
      let its : in_its_slot measure slot h ≡ measure h = ap (λ b. cond b (measure h) 0) (eq-eqb slot slot refl) in
      omega (arith, whole, one, its)

  pub some_there : (old : List (ℕ × Kept)) (test : ℕ → Bool) (h : Kept) → lookup test old ≡ Some h → (before : ByLocation) → AreShared locations before (values_of old)
      → (0 < (now_at before (slot_of h.location)).blocks) × (h.size ≤ (now_at before (slot_of h.location)).bytes)
  some_there old test h is before shared =
      (omega (arith, shared.blocks (slot_of h.location), one_there count_one old test h is), omega (arith, shared.bytes (slot_of h.location), one_there size_of old test h is))

  pub shared-less : (old new : List (ℕ × Kept)) (test : ℕ → Bool) (h : Kept) → lookup test old ≡ Some h → IsPermutation (remove_entry test old) new → (before after : ByLocation)
      → AreShared locations before (values_of old) → Changes (slot_of h.location) (amount_less (now_at before (slot_of h.location)) h.size) before after → AreShared locations after (values_of new)
  shared-less old new test h is moved before after shared changes =
      let amount = amount_less (now_at before (slot_of h.location)) h.size in
      let some = some_there old test h is before shared in
      record {
        blocks = λ slot. ap (λ (a : Amount). a.blocks) (changes.now slot)
            ∙ omega (arith, amount-less (λ a. a.blocks) count_one before (values_of old) shared.blocks amount h (omega (arith, some.0)) slot, in_slot-less count_one slot old new test h is moved);
        bytes = λ slot. ap (λ (a : Amount). a.bytes) (changes.now slot)
            ∙ omega (arith, amount-less (λ a. a.bytes) size_of before (values_of old) shared.bytes amount h (omega (arith, some.1)) slot, in_slot-less size_of slot old new test h is moved);
        beyond = λ slot above. changes.marked slot ∙ shared.beyond slot above;
      }

  pub shared-same : (all : List Kept) (before after : ByLocation) → AreShared locations before all → ((slot : ℕ) → now_at after slot ≡ now_at before slot)
      → ((slot : ℕ) → marked_at after slot ≡ marked_at before slot) → AreShared locations after all
  shared-same all before after shared now marked = record {
    blocks = λ slot. ap (λ (a : Amount). a.blocks) (now slot) ∙ shared.blocks slot;
    bytes = λ slot. ap (λ (a : Amount). a.bytes) (now slot) ∙ shared.bytes slot;
    beyond = λ slot above. marked slot ∙ shared.beyond slot above;
  }

  pub shared-kept : (all : List Kept) (before after : ByLocation) → AreShared locations before all → KeepsShares before after → AreShared locations after all
  shared-kept all before after shared kept = shared-same all before after shared kept.now kept.marked

  -- no more in a slot than in all
  pub in_slot-most : (measure : Kept → ℕ) (slot : ℕ) (all : List Kept) → in_slot measure slot all ≤ sum_by measure all
  in_slot-most measure slot [] = omega arith
  in_slot-most measure slot (h ∷ all) =
      omega (arith, in_slot-most measure slot all, sum_by-cons measure h all, sum_by-cons (in_its_slot measure slot) h all, least (slot_of h.location == slot))
    where
      least : (b : Bool) → cond b (measure h) 0 ≤ measure h
      least true = omega arith
      least false = omega arith

  -- no slot behind those of the locations has any
  pub slot_within : (h : Kept) → HasLocation locations h.location → slot_of h.location ≤ length locations
  slot_within h there = by h.location refl
    where
      by : (p : Option ℕ) → h.location ≡ p → slot_of p ≤ length locations
      by None is = omega arith
      by (Some number) is = by_bytes (slice_get locations number) refl (there number is)
        where
          by_bytes : (o : Option (List ℕ)) → slice_get locations number ≡ o → IsSome (slice_get locations number) → suc number ≤ length locations
          by_bytes None none some = absurd (false≢true (sym (ap is_some none) ∙ some))
          by_bytes (Some bytes) is some = slice_get_within locations number bytes is

  in_slot-beyond : (measure : Kept → ℕ) (slot : ℕ) (all : List Kept) → All (λ h. HasLocation locations h.location) all → length locations < slot → in_slot measure slot all ≡ 0
  in_slot-beyond measure slot [] there above = refl
  in_slot-beyond measure slot (h ∷ all) there above =
      let within = slot_within h (there 0 h (omega arith)) in
      let none : in_its_slot measure slot h ≡ 0 = ap (λ b. cond b (measure h) 0) (ne_eqb (slot_of h.location) slot (λ same. omega (arith, same, within, above))) in
      omega (arith, sum_by-cons (in_its_slot measure slot) h all, none, in_slot-beyond measure slot all (λ k d lt. there (suc k) d (omega (arith, lt))) above)

  -- the mark is set
  pub shared-marked : (line : ℕ) (all : List Kept) (before after : ByLocation) → All (λ h. HasLocation locations h.location) all → AreShared locations before all → Marks line before after → AreShared locations after all
  shared-marked line all before after there shared marks = record {
    blocks = λ slot. ap (λ (a : Amount). a.blocks) (marks.now slot) ∙ shared.blocks slot;
    bytes = λ slot. ap (λ (a : Amount). a.bytes) (marks.now slot) ∙ shared.bytes slot;
    beyond = λ slot above. marks.marked slot ∙ none slot above;
  }
    where
      none : (slot : ℕ) → length locations < slot → now_at before slot ≡ nothing
      none slot above =
          let x : (now_at before slot).blocks ≡ 0 = shared.blocks slot ∙ in_slot-beyond count_one slot all there above in
          let y : (now_at before slot).bytes ≡ 0 = shared.bytes slot ∙ in_slot-beyond size_of slot all there above in
          (λ i. record { blocks = x i; bytes = y i })

-- there are more locations
pub longer : (locations new : List (List ℕ)) → Extends locations new → length locations ≤ length new
longer locations new extends = elim (cases_lt (length new) (length locations)) [
  | inr few ↦ few
  | inl more ↦
      let last = length new in
      let is = slice_get-get_or locations last [] more in
      absurd (false≢true (sym (ap is_some (slice_get_past new last (omega arith))) ∙ ap is_some (extends last (slice_index_or locations last []) is)))
]

pub shared-longer : (locations new : List (List ℕ)) → Extends locations new → (all : List Kept) (shares : ByLocation) → AreShared locations shares all → AreShared new shares all
shared-longer locations new extends all shares shared = record {
  blocks = shared.blocks;
  bytes = shared.bytes;
  beyond = λ slot above. shared.beyond slot (omega (arith, above, longer locations new extends));
}

-- a slot that has a block is there
pub slot_there : (shares : ByLocation) (slot : ℕ) → 0 < (now_at shares slot).blocks → slot < length shares.all
slot_there shares slot some = elim (cases_lt slot (length shares.all)) [
  | inl within ↦ within
  | inr past ↦ absurd (omega (arith, some, ap (λ (share : Share). share.now.blocks) (get_or_past shares.all slot no_share past)))
]

-- each location has what it had, and asked for what it asked for
pub called-kept : (locations : List (List ℕ)) (many : ℕ) (before after : ByLocation) → AreCalled locations before many → ((slot : ℕ) → now_at after slot ≡ now_at before slot)
    → KeepsCounts before after → AreCalled locations after many
called-kept locations many before after called now counts = record {
  held = λ slot. rw (now slot, counts.now slot) (called.held slot);
  total = rw counts.total called.total;
  words = λ slot. rw (counts.now slot) (called.words slot);
  beyond = λ slot above. ap (λ (count : Count). count.calls) (counts.now slot) ∙ called.beyond slot above;
}

-- there are more locations
pub called-longer : (locations new : List (List ℕ)) → Extends locations new → (many : ℕ) (shares : ByLocation) → AreCalled locations shares many → AreCalled new shares many
called-longer locations new extends many shares called = record {
  held = called.held;
  total = called.total;
  words = called.words;
  beyond = λ slot above. called.beyond slot (omega (arith, above, longer locations new extends));
}
