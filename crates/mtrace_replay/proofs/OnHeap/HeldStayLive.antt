-- The blocks that are held stay live through each call of the heap.
use Rattle.std.proofs.Common.{◌≡◌, ◌≢◌, ◌≤◌, ◌<◌, arith, ℕ, Bool, true, false, cond, List, [], Option, Some, None, refl, sym, ap, ◌∙◌, subst, inl, inr, Ok}
use Rattle.std.specs.Prelude.{◌==◌}
use Rattle.std.proofs.lemmas.Bool.{cases_Bool, eqb-true, eq-eqb}
use Rattle.tlsf_heap.specs.Content.{Content}
use Rattle.tlsf_heap.specs.Free.{free}
use Rattle.tlsf_heap.specs.Realloc.{realloc}
use Rattle.tlsf_heap.specs.Good.{IsGood}
use Rattle.tlsf_heap.proofs.Good.StaysLive.{live_through_free, live_through_realloc, moved_elsewhere, live_moved}
use Rattle.tlsf_class.specs.Classes.{greatest_size}
use Rattle.tlsf_heap.specs.Pools.{most_records}
use Rattle.mtrace_replay.specs.Holding.{Holding}
use Rattle.mtrace_replay.specs.Index.{held_at}
use Rattle.mtrace_replay.specs.Moment.{asked_block}
use Rattle.mtrace_replay.specs.Step.{IsLive, AreLive}
use Rattle.mtrace_replay.proofs.OnHeap.AskedBlock.{asked_small, asked_records, live_asked, live_through_asked, asked_elsewhere}
use Rattle.mtrace_replay.proofs.OnHeap.FreeAndRealloc.{freed_records, moved_small, moved_records}

-- nothing is held
pub none_live : (content : Content ℕ) → content.records ≤ most_records → AreLive [] content
none_live content few = record {
  live = (λ address holding is. absurd (cc));
  apart = (λ one other first second is is_too same. absurd (cc));
  small = (λ address holding is. absurd (cc));
  records = few;
}

-- no two addresses are held under one block
abbrev Apart : (ℕ → Option Holding) → Type 0
Apart held = (one other : ℕ) (first second : Holding) → held one ≡ Some first → held other ≡ Some second → first.ptr.place ≡ second.ptr.place → one ≡ other

-- what is held, but for one address
abbrev but_for : ℕ → List Holding → ℕ → Option Holding
but_for address holdings other = cond (address == other) None (held_at holdings other)

-- an address is held under a new block, which stands apart from the others
live_with : (held : ℕ → Option Holding) (new : List Holding) (after : Content ℕ) (holding : Holding) → Apart held
    → ((other : ℕ) → held_at new other ≡ cond (holding.entry.addr == other) (Some holding) (held other))
    → IsLive holding after → holding.entry.size ≤ greatest_size → after.records ≤ most_records
    → ((other : ℕ) (found : Holding) → held other ≡ Some found → IsLive found after × (holding.ptr.place ≢ found.ptr.place) × (found.entry.size ≤ greatest_size))
    → AreLive new after
live_with held new after holding were_apart changed live_now small_now few others = record { live = live; apart = apart; small = small; records = few }
  where
    here : (other : ℕ) (found : Holding) → (holding.entry.addr == other) ≡ true → held_at new other ≡ Some found → found ≡ holding
    here other found is at = let e : Some found ≡ Some holding = sym at ∙ changed other ∙ ap (λ b. cond b (Some holding) (held other)) is in cc

    elsewhere : (other : ℕ) (found : Holding) → (holding.entry.addr == other) ≡ false → held_at new other ≡ Some found → held other ≡ Some found
    elsewhere other found is at = sym (changed other ∙ ap (λ b. cond b (Some holding) (held other)) is) ∙ at

    live : (other : ℕ) (found : Holding) → held_at new other ≡ Some found → IsLive found after
    live other found at = elim (cases_Bool (holding.entry.addr == other)) [
      | inl is ↦ subst (λ (h : Holding). IsLive h after) (sym (here other found is at)) live_now
      | inr is ↦ (others other found (elsewhere other found is at)).0
    ]

    small : (other : ℕ) (found : Holding) → held_at new other ≡ Some found → found.entry.size ≤ greatest_size
    small other found at = elim (cases_Bool (holding.entry.addr == other)) [
      | inl is ↦ subst (λ (h : Holding). h.entry.size ≤ greatest_size) (sym (here other found is at)) small_now
      | inr is ↦ (others other found (elsewhere other found is at)).2
    ]

    apart : (one other : ℕ) (first second : Holding) → held_at new one ≡ Some first → held_at new other ≡ Some second → first.ptr.place ≡ second.ptr.place → one ≡ other
    apart one other first second at at_too same = elim (cases_Bool (holding.entry.addr == one)) [
      | inl is ↦ elim (cases_Bool (holding.entry.addr == other)) [
        | inl is_too ↦ sym (eqb-true holding.entry.addr one is) ∙ eqb-true holding.entry.addr other is_too
        | inr is_not ↦ absurd ((others other second (elsewhere other second is_not at_too)).1 (ap (λ (h : Holding). h.ptr.place) (sym (here one first is at)) ∙ same))
      ]
      | inr is_not ↦ elim (cases_Bool (holding.entry.addr == other)) [
        | inl is ↦ absurd ((others one first (elsewhere one first is_not at)).1 (ap (λ (h : Holding). h.ptr.place) (sym (here other second is at_too)) ∙ sym same))
        | inr is_not_too ↦ were_apart one other first second (elsewhere one first is_not at) (elsewhere other second is_not_too at_too) same
      ]
    ]

module _ (old new : List Holding) (before after : Content ℕ) (good : IsGood before) (are : AreLive old before) where
  -- a block was given
  pub live_after_asked : (holding : Holding) (align : Option ℕ) (n : ℕ) → asked_block holding.ptr.slot align n before ≡ Ok (holding.ptr.place, after)
      → holding.entry.size ≤ n → ((other : ℕ) → held_at new other ≡ cond (holding.entry.addr == other) (Some holding) (held_at old other)) → AreLive new after
  live_after_asked holding align n served asked changed =
      let meant : ℕ → ℕ → Bool = λ slot other. other == slot in
      live_with (held_at old) new after holding are.apart changed
      (live_asked (meant holding.ptr.slot) holding.ptr.slot align n holding.ptr.place before after good served (eq-eqb holding.ptr.slot holding.ptr.slot refl))
      (let most = asked_small holding.ptr.slot align n before (holding.ptr.place, after) served in omega (arith, asked, most))
      (let same = asked_records holding.ptr.slot align n before (holding.ptr.place, after) served in omega (arith, same, are.records))
      (λ other found at.
      let live = are.live other found at in (
        live_through_asked (meant found.ptr.slot) holding.ptr.slot align found.ptr.place n holding.ptr.place before after good live served,
        asked_elsewhere (meant found.ptr.slot) holding.ptr.slot align found.ptr.place n holding.ptr.place before after good live served,
        are.small other found at,
      ))

  module _ (address : ℕ) (from : Holding) (at_address : held_at old address ≡ Some from) where
    -- what else is held is another block
    other_block : (other : ℕ) (found : Holding) → but_for address old other ≡ Some found → (held_at old other ≡ Some found) × (found.ptr.place ≢ from.ptr.place)
    other_block other found at = elim (cases_Bool (address == other)) [
      | inl here ↦ absurd (let e : None ≡ Some found = sym (ap (λ b. cond b None (held_at old other)) here) ∙ at in cc)
      | inr there ↦
          let is = sym (ap (λ b. cond b None (held_at old other)) there) ∙ at in
          (is, (λ same. let e : true ≡ false = sym (eq-eqb address other (are.apart address other from found at_address is (sym same))) ∙ there in cc))
    ]

    others_apart : Apart (but_for address old)
    others_apart one other first second at at_too same = are.apart one other first second (other_block one first at).0 (other_block other second at_too).0 same

    -- a block was freed
    pub live_after_free : free (λ slot. slot == from.ptr.slot) from.ptr.place before ≡ Ok after → ((other : ℕ) → held_at new other ≡ but_for address old other) → AreLive new after
    live_after_free freed changed = record {
      live = (λ other found at.
          let is = other_block other found (sym (changed other) ∙ at) in
          live_through_free (λ slot. slot == found.ptr.slot) (λ slot. slot == from.ptr.slot) found.ptr.place from.ptr.place before after good (are.live other found is.0) is.1 freed);
      apart = (λ one other first second at at_too. others_apart one other first second (sym (changed one) ∙ at) (sym (changed other) ∙ at_too));
      small = (λ other found at. are.small other found (other_block other found (sym (changed other) ∙ at)).0);
      records = (let same = freed_records (λ slot. slot == from.ptr.slot) from.ptr.place before after freed in omega (arith, same, are.records));
    }

    -- a block was reallocated: another address is held under it, and this one no more
    pub live_after_realloc : (holding : Holding) (n : ℕ)
        → realloc (λ a b. a == b) holding.ptr.slot (Some (from.ptr.place, from.ptr.slot)) n before ≡ Ok (Some (holding.ptr.place, holding.ptr.slot), after)
        → holding.entry.size ≤ n → 0 < n
        → ((other : ℕ) → held_at new other ≡ cond (holding.entry.addr == other) (Some holding) (but_for address old other)) → AreLive new after
    live_after_realloc holding n served asked some changed =
        let given : Option (ℕ × ℕ) = Some (holding.ptr.place, holding.ptr.slot) in
        let same : ℕ → ℕ → Bool = λ a b. a == b in
        live_with (but_for address old) new after holding others_apart changed
        (live_moved same holding.ptr.slot from.ptr.slot from.ptr.place n before holding.ptr.place holding.ptr.slot after (λ a. eq-eqb a a refl) good served)
        (let most = moved_small same holding.ptr.slot from.ptr.slot from.ptr.place n before (given, after) (λ none. omega (arith, some, none)) served in omega (arith, asked, most))
        (let as_many = moved_records same holding.ptr.slot from.ptr.slot from.ptr.place n before (given, after) served in omega (arith, as_many, are.records))
        (λ other found at.
        let is = other_block other found at in
        let live = are.live other found is.0 in
        let meant : ℕ → Bool = λ slot. slot == found.ptr.slot in (
          live_through_realloc meant same holding.ptr.slot from.ptr.slot found.ptr.place from.ptr.place n given before after good live is.1 served,
          moved_elsewhere meant same holding.ptr.slot from.ptr.slot found.ptr.place from.ptr.place n holding.ptr.place holding.ptr.slot given before after good live is.1 served refl,
          are.small other found is.0,
        ))
