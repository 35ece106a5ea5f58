-- The calls that locations made by their slots: what a line adds to them.
use Rattle.std.proofs.Common.{cond, Bool, true, false, Option, ◌≡◌, ℕ, suc, ◌+◌, ◌*◌, ◌^◌, ◌<◌, ◌≤◌, List, length, inl, inr, refl, sym, ap, ◌∙◌, subst, arith, add-zero}
use Rattle.std.specs.Prelude.{MatchBool}
use Rattle.std.specs.List.{AllByRecursion}
use Rattle.std.specs.Map.{values_of}
use Rattle.std.proofs.lemmas.Bool.{cases_eq, eq-eqb, ne_eqb, eqb-true}
use Rattle.mtrace_replay.specs.Sites.{Origin, weigh}
use Rattle.mtrace_replay.specs.declared.ledger.ledger.Kept.{Kept}
use Rattle.mtrace_replay.specs.declared.held.count.Count.{Count}
use Rattle.mtrace_replay.specs.declared.held.amount.Amount.{Amount}
use Rattle.mtrace_replay.specs.Calls.{Caller, Called, called_at, has_no_call, caller_of, count_more, count_temporary, CountsMore}
use Rattle.mtrace_replay.specs.Locations.{Extends, location_of, HasLocation}
use Rattle.mtrace_replay.specs.Shares.{ByLocation, amount_more, amount_less, now_at, count_at, origins, callers_of, Changes, Counts, CountsOne, KeepsAmounts, KeepsCounts, IsOfWords}
use Rattle.mtrace_replay.specs.Ledger.{slot_of, AreShared, AreCalled}
use Rattle.mtrace_replay.proofs.OnLedger.RowsBySlot.{weighed, weighed-same, weighed-add, weighed-its, one_slot, one_slot-here, one_slot-other, rows_weigh, rows_by-some, above_zero}
use Rattle.mtrace_replay.proofs.OnLedger.SharesLemmas.{in_its_slot, count_one, slot_within}
use Rattle.mtrace_replay.proofs.OnLedger.LedgerPeak.{IsRest, callers_stay}

abbrev pub called_of : List (List ℕ) → ByLocation → Called
called_of locations shares = record { callers = callers_of (count_at shares) locations; total = shares.total }

-- where there is no call, there is nothing
pub record IsFull (shares : ByLocation) : Type 0 where
  pub bytes : (slot : ℕ) → (count_at shares slot).calls ≡ 0 → (count_at shares slot).bytes ≡ 0
  pub temporary : (slot : ℕ) → (count_at shares slot).calls ≡ 0 → (count_at shares slot).temporary ≡ 0

pub full : (locations : List (List ℕ)) (shares : ByLocation) (many : ℕ) → AreCalled locations shares many → IsFull shares
full locations shares many called = record {
  bytes = λ slot none. omega (arith, called.words slot, none, ap (λ n. n * 2 ^ 64) none);
  temporary = λ slot none. omega (arith, called.held slot, none);
}

-- each caller has a call
pub callers_of-some : (f : ℕ → Count) (locations : List (List ℕ)) → AllByRecursion (λ (c : Caller). 0 < c.calls) (callers_of f locations)
callers_of-some f locations = rows_by-some has_no_call caller_of (λ (c : Caller). c.calls) (λ at count. above_zero count.calls) f (origins locations) 0

-- a measure of the callers at an origin, by their slots
module _ (locations : List (List ℕ)) (shares : ByLocation) (is_full : IsFull shares) (p : Origin) where
  by_calls : called_at (λ c. c.calls) p (callers_of (count_at shares) locations) ≡ weighed p (origins locations) 0 (λ s. (count_at shares s).calls)
  by_calls =
      rows_weigh p has_no_call caller_of (λ c. c.at) (λ at count. refl) (count_at shares) (λ count. count.calls) (λ c. c.calls) (λ at count some. refl)
      (λ slot none. eqb-true (count_at shares slot).calls 0 none) (origins locations) 0

  by_bytes : called_at (λ c. c.bytes) p (callers_of (count_at shares) locations) ≡ weighed p (origins locations) 0 (λ s. (count_at shares s).bytes)
  by_bytes =
      rows_weigh p has_no_call caller_of (λ c. c.at) (λ at count. refl) (count_at shares) (λ count. count.bytes) (λ c. c.bytes) (λ at count some. refl)
      (λ slot none. is_full.bytes slot (eqb-true (count_at shares slot).calls 0 none)) (origins locations) 0

  by_temporary : called_at (λ c. c.temporary) p (callers_of (count_at shares) locations) ≡ weighed p (origins locations) 0 (λ s. (count_at shares s).temporary)
  by_temporary =
      rows_weigh p has_no_call caller_of (λ c. c.at) (λ at count. refl) (count_at shares) (λ count. count.temporary) (λ c. c.temporary) (λ at count some. refl)
      (λ slot none. is_full.temporary slot (eqb-true (count_at shares slot).calls 0 none)) (origins locations) 0

-- one slot has more
module _ (locations : List (List ℕ)) (location : Option ℕ) (there : HasLocation locations location) (before after : ByLocation) (count : Count) (counts : Counts (slot_of location) count before after) where
  abbrev here : ℕ
  here = slot_of location

  grows : (get : Count → ℕ) (n : ℕ) → get count ≡ n + get (count_at before here) → (p : Origin)
      → weighed p (origins locations) 0 (λ s. get (count_at after s)) ≡ weigh p (location_of locations location) n + weighed p (origins locations) 0 (λ s. get (count_at before s))
  grows get n is p =
      weighed-same p (origins locations) 0 (λ s. get (count_at after s)) (λ s. one_slot here n s + get (count_at before s)) at_slot
      ∙ weighed-add p (origins locations) 0 (one_slot here n) (λ s. get (count_at before s))
      ∙ ap (λ w. w + weighed p (origins locations) 0 (λ s. get (count_at before s))) (weighed-its p locations location n there)
    where
      at_slot : (s : ℕ) → get (count_at after s) ≡ one_slot here n s + get (count_at before s)
      at_slot s = elim (cases_eq here s) [
        | inl same ↦
            let now : get (count_at after s) ≡ get count = ap get (counts s) ∙ ap (λ b. get (cond b count (count_at before s))) (eq-eqb here s same) in
            let one : one_slot here n s ≡ n = ap (one_slot here n) (sym same) ∙ one_slot-here here n in
            let was : get (count_at before here) ≡ get (count_at before s) = ap (λ k. get (count_at before k)) same in
            omega (arith, now, is, one, was)
        | inr other ↦
            let now : get (count_at after s) ≡ get (count_at before s) = ap get (counts s) ∙ ap (λ b. get (cond b count (count_at before s))) (ne_eqb here s other) in
            omega (arith, now, one_slot-other here n s other)
      ]

  pub counts_more : (calls bytes temporary : ℕ) → count.calls ≡ calls + (count_at before here).calls → count.bytes ≡ bytes + (count_at before here).bytes
      → count.temporary ≡ temporary + (count_at before here).temporary → IsFull before → IsFull after
      → after.total ≡ record { calls = before.total.calls + calls; bytes = before.total.bytes + bytes; temporary = before.total.temporary + temporary }
      → CountsMore (location_of locations location) calls bytes temporary (called_of locations before) (called_of locations after)
  counts_more calls bytes temporary calls_are bytes_are temporary_are full_before full_after total = record {
    calls_are = λ p.
        by_calls locations after full_after p ∙ grows (λ c. c.calls) calls calls_are p
        ∙ ap (λ w. weigh p (location_of locations location) calls + w) (sym (by_calls locations before full_before p));
    bytes_are = λ p.
        by_bytes locations after full_after p ∙ grows (λ c. c.bytes) bytes bytes_are p
        ∙ ap (λ w. weigh p (location_of locations location) bytes + w) (sym (by_bytes locations before full_before p));
    temporary_are = λ p.
        by_temporary locations after full_after p ∙ grows (λ c. c.temporary) temporary temporary_are p
        ∙ ap (λ w. weigh p (location_of locations location) temporary + w) (sym (by_temporary locations before full_before p));
    total = total;
  }

-- ---- a call more

module _ (locations : List (List ℕ)) (old new : List (ℕ × Kept)) (h : Kept) (there : HasLocation locations h.location) (size : h.size < 2 ^ 64) (before shares after : ByLocation) (bytes : ℕ)
    (rest : IsRest locations old new h before shares bytes) (shared : AreShared locations before (values_of old)) (called : AreCalled locations before (length old))
    (amounts : Changes (slot_of h.location) (amount_more (now_at shares (slot_of h.location)) h.size) shares after)
    (counts : Counts (slot_of h.location) (count_more (count_at shares (slot_of h.location)) h.size) shares after) (total : after.total ≡ count_more shares.total h.size) where
  pub called-more : length new ≤ suc (length old) → AreCalled locations after (length new)
  called-more few = record {
    held = held;
    total = omega (arith, few, called.total, ap (λ (c : Count). c.calls) total, ap (λ (c : Count). c.temporary) total, ap (λ (c : Count). c.calls) rest.counts.total, ap (λ (c : Count). c.temporary) rest.counts.total);
    words = words;
    beyond = beyond;
  }
    where
      fewer : (slot : ℕ) → (now_at shares slot).blocks ≤ (now_at before slot).blocks
      fewer slot = omega (arith, rest.shared.blocks slot, rest.fewer (in_its_slot count_one slot), shared.blocks slot)

      held : (slot : ℕ) → (now_at after slot).blocks + (count_at after slot).temporary ≤ (count_at after slot).calls
      held slot = elim (cases_eq (slot_of h.location) slot) [
        | inl same ↦
            let amount = ap (λ (a : Amount). a.blocks) (amounts.now slot ∙ ap (λ b. cond b (amount_more (now_at shares (slot_of h.location)) h.size) (now_at shares slot)) (eq-eqb (slot_of h.location) slot same)
            ∙ ap (λ s. amount_more (now_at shares s) h.size) same) in
            let count = counts slot ∙ ap (λ b. cond b (count_more (count_at shares (slot_of h.location)) h.size) (count_at shares slot)) (eq-eqb (slot_of h.location) slot same)
            ∙ ap (λ s. count_more (count_at shares s) h.size) same ∙ ap (λ c. count_more c h.size) (rest.counts.now slot) in
            omega (arith, amount, ap (λ (c : Count). c.calls) count, ap (λ (c : Count). c.temporary) count, fewer slot, called.held slot)
        | inr other ↦
            let amount = ap (λ (a : Amount). a.blocks) (amounts.now slot ∙ ap (λ b. cond b (amount_more (now_at shares (slot_of h.location)) h.size) (now_at shares slot)) (ne_eqb (slot_of h.location) slot other)) in
            let count = counts slot ∙ ap (λ b. cond b (count_more (count_at shares (slot_of h.location)) h.size) (count_at shares slot)) (ne_eqb (slot_of h.location) slot other) ∙ rest.counts.now slot in
            omega (arith, amount, ap (λ (c : Count). c.calls) count, ap (λ (c : Count). c.temporary) count, fewer slot, called.held slot)
      ]

      words : (slot : ℕ) → IsOfWords (count_at after slot)
      words slot = elim (cases_eq (slot_of h.location) slot) [
        | inl same ↦
            let count = counts slot ∙ ap (λ b. cond b (count_more (count_at shares (slot_of h.location)) h.size) (count_at shares slot)) (eq-eqb (slot_of h.location) slot same)
            ∙ ap (λ s. count_more (count_at shares s) h.size) same ∙ ap (λ c. count_more c h.size) (rest.counts.now slot) in
            omega (arith, ap (λ (c : Count). c.calls) count, ap (λ (c : Count). c.bytes) count, called.words slot, size)
        | inr other ↦
            let count = counts slot ∙ ap (λ b. cond b (count_more (count_at shares (slot_of h.location)) h.size) (count_at shares slot)) (ne_eqb (slot_of h.location) slot other) ∙ rest.counts.now slot in
            subst IsOfWords (sym count) (called.words slot)
      ]

      beyond : (slot : ℕ) → length locations < slot → (count_at after slot).calls ≡ 0
      beyond slot above =
          let within = slot_within locations h there in
          let other : slot_of h.location ≡ slot → ⊥ = λ same. omega (arith, same, within, above) in
          ap (λ (c : Count). c.calls) (counts slot ∙ ap (λ b. cond b (count_more (count_at shares (slot_of h.location)) h.size) (count_at shares slot)) (ne_eqb (slot_of h.location) slot other) ∙ rest.counts.now slot)
          ∙ called.beyond slot above

-- ---- a block less

module _ (locations : List (List ℕ)) (many left : ℕ) (one_less : left + 1 ≡ many) (h : Kept) (before taken : ByLocation) (called : AreCalled locations before many)
    (some : 0 < (now_at before (slot_of h.location)).blocks) (amounts : Changes (slot_of h.location) (amount_less (now_at before (slot_of h.location)) h.size) before taken)
    (counts : KeepsCounts before taken) where
  pub some_calls : (count_at taken (slot_of h.location)).temporary < (count_at taken (slot_of h.location)).calls
  some_calls =
      let same = counts.now (slot_of h.location) in
      omega (arith, called.held (slot_of h.location), some, ap (λ (c : Count). c.calls) same, ap (λ (c : Count). c.temporary) same)

  pub some_in_all : taken.total.temporary < taken.total.calls
  some_in_all = omega (arith, called.total, one_less, ap (λ (c : Count). c.calls) counts.total, ap (λ (c : Count). c.temporary) counts.total)

  -- what a slot asked for, with a temporary call more or without one
  record Stays (after : ByLocation) (slot : ℕ) : Type 0 where
    pub calls : (count_at after slot).calls ≡ (count_at before slot).calls
    pub bytes : (count_at after slot).bytes ≡ (count_at before slot).bytes
    pub most : (count_at after slot).temporary ≤ (count_at before slot).temporary + 1
    pub elsewhere : (slot_of h.location ≡ slot → ⊥) → (count_at after slot).temporary ≡ (count_at before slot).temporary

  stays : (after : ByLocation) (b : Bool) → MatchBool b (CountsOne (slot_of h.location) taken after) (after ≡ taken) → (slot : ℕ) → Stays after slot
  stays after false same slot =
      let is = ap (λ (shares : ByLocation). count_at shares slot) same ∙ counts.now slot in
      record {
        calls = ap (λ (c : Count). c.calls) is;
        bytes = ap (λ (c : Count). c.bytes) is;
        most = omega (arith, ap (λ (c : Count). c.temporary) is);
        elsewhere = λ other. ap (λ (c : Count). c.temporary) is;
      }
  stays after true one slot = elim (cases_eq (slot_of h.location) slot) [
    | inl same ↦
        let is = one.count slot ∙ ap (λ b. cond b (count_temporary (count_at taken (slot_of h.location))) (count_at taken slot)) (eq-eqb (slot_of h.location) slot same)
        ∙ ap (λ s. count_temporary (count_at taken s)) same ∙ ap count_temporary (counts.now slot) in
        record {
          calls = ap (λ (c : Count). c.calls) is;
          bytes = ap (λ (c : Count). c.bytes) is;
          most = omega (arith, ap (λ (c : Count). c.temporary) is);
          elsewhere = λ other. absurd (other same);
        }
    | inr other ↦
        let is = one.count slot ∙ ap (λ b. cond b (count_temporary (count_at taken (slot_of h.location))) (count_at taken slot)) (ne_eqb (slot_of h.location) slot other) ∙ counts.now slot in
        record {
          calls = ap (λ (c : Count). c.calls) is;
          bytes = ap (λ (c : Count). c.bytes) is;
          most = omega (arith, ap (λ (c : Count). c.temporary) is);
          elsewhere = λ other. ap (λ (c : Count). c.temporary) is;
        }
  ]

  in_all : (after : ByLocation) (b : Bool) → MatchBool b (CountsOne (slot_of h.location) taken after) (after ≡ taken) → left + after.total.temporary ≤ after.total.calls
  in_all after false same =
      let is = ap (λ (shares : ByLocation). shares.total) same ∙ counts.total in
      omega (arith, ap (λ (c : Count). c.calls) is, ap (λ (c : Count). c.temporary) is, called.total, one_less)
  in_all after true one =
      let is = one.total ∙ ap count_temporary counts.total in
      omega (arith, ap (λ (c : Count). c.calls) is, ap (λ (c : Count). c.temporary) is, called.total, one_less)

  pub called-less : (after : ByLocation) (b : Bool) → KeepsAmounts taken after → MatchBool b (CountsOne (slot_of h.location) taken after) (after ≡ taken) → AreCalled locations after left
  called-less after b kept counted = record {
    held = held;
    total = in_all after b counted;
    words = λ slot. let stays = stays after b counted slot in omega (arith, stays.calls, stays.bytes, called.words slot);
    beyond = λ slot above. (stays after b counted slot).calls ∙ called.beyond slot above;
  }
    where
      held : (slot : ℕ) → (now_at after slot).blocks + (count_at after slot).temporary ≤ (count_at after slot).calls
      held slot = elim (cases_eq (slot_of h.location) slot) [
        | inl same ↦
            let amount = ap (λ (a : Amount). a.blocks) (kept.now slot ∙ amounts.now slot
            ∙ ap (λ b. cond b (amount_less (now_at before (slot_of h.location)) h.size) (now_at before slot)) (eq-eqb (slot_of h.location) slot same)
            ∙ ap (λ s. amount_less (now_at before s) h.size) same) in
            let some_here : 0 < (now_at before slot).blocks = subst (λ s. 0 < (now_at before s).blocks) same some in
            let stays = stays after b counted slot in
            omega (arith, amount, some_here, stays.calls, stays.most, called.held slot)
        | inr other ↦
            let amount = ap (λ (a : Amount). a.blocks) (kept.now slot ∙ amounts.now slot
            ∙ ap (λ b. cond b (amount_less (now_at before (slot_of h.location)) h.size) (now_at before slot)) (ne_eqb (slot_of h.location) slot other)) in
            let stays = stays after b counted slot in
            omega (arith, amount, stays.calls, stays.elsewhere other, called.held slot)
      ]

-- ---- what a line adds

-- a call is given, and its location may be new
pub more_called : (locations new : List (List ℕ)) → Extends locations new → (location : Option ℕ) → HasLocation new location → (before shares after : ByLocation) (many more : ℕ)
    → AreCalled locations before many → AreCalled new after more → (size : ℕ) (at : Origin) → at ≡ location_of new location
    → ((slot : ℕ) → count_at shares slot ≡ count_at before slot) → shares.total ≡ before.total
    → Counts (slot_of location) (count_more (count_at shares (slot_of location)) size) shares after → after.total ≡ count_more shares.total size
    → (old : Called) → called_of locations before ≡ old → CountsMore at 1 size 0 old (called_of new after)
more_called locations new extends location there before shares after many more was now size at at_is same total_same counts total old is =
    let full_shares : IsFull shares = record {
      bytes = λ slot none. ap (λ (c : Count). c.bytes) (same slot) ∙ (full locations before many was).bytes slot (sym (ap (λ (c : Count). c.calls) (same slot)) ∙ none);
      temporary = λ slot none. ap (λ (c : Count). c.temporary) (same slot) ∙ (full locations before many was).temporary slot (sym (ap (λ (c : Count). c.calls) (same slot)) ∙ none);
    } in
    let callers = callers_stay locations new extends before shares was.beyond same in
    let stays : called_of new shares ≡ old = (λ i. record { callers = callers i; total = total_same i }) ∙ is in
    subst (λ (o : Origin). CountsMore o 1 size 0 old (called_of new after)) (sym at_is)
    (subst (λ (c : Called). CountsMore (location_of new location) 1 size 0 c (called_of new after)) stays
    (counts_more new location there shares after _ counts 1 size 0 (omega arith) (omega arith) (omega arith) full_shares (full new after more now)
    (total ∙ (λ i. record { calls = shares.total.calls + 1; bytes = shares.total.bytes + size; temporary = sym (add-zero shares.total.temporary) i }))))

-- what was held is released
pub released : (locations : List (List ℕ)) (location : Option ℕ) → HasLocation locations location → (before taken after : ByLocation) (many left : ℕ) → AreCalled locations before many → AreCalled locations after left
    → KeepsCounts before taken → (b : Bool) → MatchBool b (CountsOne (slot_of location) taken after) (after ≡ taken) → (old : Called) → called_of locations before ≡ old
    → MatchBool b (CountsMore (location_of locations location) 0 0 1 old (called_of locations after)) (called_of locations after ≡ old)
released locations location there before taken after many left was now kept false same old is =
    let callers = callers_stay locations locations (λ number bytes is. is) before taken was.beyond kept.now in
    let stays : called_of locations taken ≡ called_of locations before = (λ i. record { callers = callers i; total = kept.total i }) in
    ap (called_of locations) same ∙ stays ∙ is
released locations location there before taken after many left was now kept true one old is =
    let full_taken : IsFull taken = record {
      bytes = λ slot none. ap (λ (c : Count). c.bytes) (kept.now slot) ∙ (full locations before many was).bytes slot (sym (ap (λ (c : Count). c.calls) (kept.now slot)) ∙ none);
      temporary = λ slot none. ap (λ (c : Count). c.temporary) (kept.now slot) ∙ (full locations before many was).temporary slot (sym (ap (λ (c : Count). c.calls) (kept.now slot)) ∙ none);
    } in
    let callers = callers_stay locations locations (λ number bytes is. is) before taken was.beyond kept.now in
    let stays : called_of locations taken ≡ old = (λ i. record { callers = callers i; total = kept.total i }) ∙ is in
    subst (λ (c : Called). CountsMore (location_of locations location) 0 0 1 c (called_of locations after)) stays
    (counts_more locations location there taken after _ one.count 0 0 1 (omega arith) (omega arith) (omega arith) full_taken (full locations after left now)
    (one.total ∙ (λ i. record { calls = sym (add-zero taken.total.calls) i; bytes = sym (add-zero taken.total.bytes) i; temporary = taken.total.temporary + 1 })))
