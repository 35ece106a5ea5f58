-- Live blocks have slots of their own.
use Rattle.std.proofs.Common.{◌≡◌, ◌≢◌, ◌≤◌, ℕ, Bool, true, false, ◌&&◌, ◌||◌, cond, List, [], ◌∷◌, length, Option, Some, None, inl, inr, arith, refl, sym, ap, ◌∙◌, subst}
use Rattle.std.specs.Prelude.{◌==◌}
use Rattle.std.specs.List.{filter}
use Rattle.std.proofs.lemmas.List.Sums.{length-filter}
use Rattle.std.proofs.lemmas.Bool.{cases_Bool, cases_eq}
use Rattle.std.proofs.lemmas.Bool.Decides.{nat_tests}
use Rattle.tlsf_heap.specs.Content.{Block, Content, blocks_of, is_at}
use Rattle.tlsf_heap.specs.Free.{is_owned_by, is_live}
use Rattle.tlsf_heap.specs.GoodSlots.{is_slot, slot_times, HasGoodSlots}
use Rattle.tlsf_heap.specs.Pointer.{Pointer}
use Rattle.mtrace_replay.specs.Holding.{Holding}
use Rattle.mtrace_replay.specs.Index.{held_at, IsNewSlot}
use Rattle.mtrace_replay.specs.Step.{IsUnder, AreLive}

module _ (slot : ℕ) where
  abbrev with_slot : List (Block ℕ) → List (Block ℕ)
  with_slot blocks = filter (λ (block : Block ℕ). is_slot slot block.owner) blocks

  abbrev is_here : ℕ → Block ℕ → Bool
  is_here place block = is_at place block && is_owned_by (λ other. other == slot) block.owner

  here_slot : (place : ℕ) (block : Block ℕ) → is_here place block ≡ true → (block.place ≡ place) × (is_slot slot block.owner ≡ true)
  here_slot place block is = by_owner (is_at place block) block.owner refl is
    where
      by_owner : (at : Bool) (owner : Option ℕ) → is_at place block ≡ at → (at && is_owned_by (λ other. other == slot) owner) ≡ true → (block.place ≡ place) × (is_slot slot owner ≡ true)
      by_owner true (Some owner) at meant = (grind (arith, nat_tests, at), meant)
      by_owner true None at meant = absurd (cc)
      by_owner false owner at meant = absurd (cc)

  more : (block : Block ℕ) (blocks : List (Block ℕ)) → length (with_slot blocks) ≤ length (with_slot (block ∷ blocks))
  more block blocks = by_slot (is_slot slot block.owner)
    where
      by_slot : (is : Bool) → length (with_slot blocks) ≤ length (cond is (block ∷ with_slot blocks) (with_slot blocks))
      by_slot true = omega arith
      by_slot false = omega arith

  -- a block that is live has its slot
  one_live : (place : ℕ) (blocks : List (Block ℕ)) → is_live (λ other. other == slot) place blocks ≡ true → 1 ≤ length (with_slot blocks)
  one_live place [] live = absurd (cc)
  one_live place (block ∷ blocks) live = by_here (λ rest. one_live place blocks rest)
    where
      by_here : (is_live (λ other. other == slot) place blocks ≡ true → 1 ≤ length (with_slot blocks)) → 1 ≤ length (with_slot (block ∷ blocks))
      by_here later = elim (cases_Bool (is_here place block)) [
        | inl here ↦ subst (λ is. 1 ≤ length (cond is (block ∷ with_slot blocks) (with_slot blocks))) (sym (here_slot place block here).1) (omega arith)
        | inr elsewhere ↦ let rest = later (sym (ap (λ b. b || is_live (λ other. other == slot) place blocks) elsewhere) ∙ live) in omega (arith, rest, more block blocks)
      ]

  -- two that are live at two places have two
  two_live : (one other : ℕ) (blocks : List (Block ℕ)) → one ≢ other → is_live (λ s. s == slot) one blocks ≡ true → is_live (λ s. s == slot) other blocks ≡ true → 2 ≤ length (with_slot blocks)
  two_live one other [] differ live live_too = absurd (cc)
  two_live one other (block ∷ blocks) differ live live_too = by_here (λ rest rest_too. two_live one other blocks differ rest rest_too)
    where
      rest_of : (place : ℕ) → is_here place block ≡ false → is_live (λ s. s == slot) place (block ∷ blocks) ≡ true → is_live (λ s. s == slot) place blocks ≡ true
      rest_of place elsewhere is = sym (ap (λ b. b || is_live (λ s. s == slot) place blocks) elsewhere) ∙ is

      with_first : (place : ℕ) → is_here place block ≡ true → (rest : ℕ) → is_live (λ s. s == slot) rest blocks ≡ true → 2 ≤ length (with_slot (block ∷ blocks))
      with_first place here rest is = subst (λ first. 2 ≤ length (cond first (block ∷ with_slot blocks) (with_slot blocks))) (sym (here_slot place block here).1) (let some = one_live rest blocks is in omega (arith, some))

      by_here : (is_live (λ s. s == slot) one blocks ≡ true → is_live (λ s. s == slot) other blocks ≡ true → 2 ≤ length (with_slot blocks)) → 2 ≤ length (with_slot (block ∷ blocks))
      by_here later = elim (cases_Bool (is_here one block)) [
        | inl here ↦ elim (cases_Bool (is_here other block)) [
          | inl here_too ↦ absurd (differ (sym (here_slot one block here).0 ∙ (here_slot other block here_too).0))
          | inr elsewhere ↦ with_first one here other (rest_of other elsewhere live_too)
        ]
        | inr elsewhere ↦ elim (cases_Bool (is_here other block)) [
          | inl here ↦ with_first other here one (rest_of one elsewhere live)
          | inr elsewhere_too ↦ let rest = later (rest_of one elsewhere live) (rest_of other elsewhere_too live_too) in omega (arith, rest, more block blocks)
        ]
      ]

module _ (all : List Holding) (content : Content ℕ) (are : AreLive all content) where
  -- a slot that no live block has is new to all that is held
  pub new_slot : (slot address : ℕ) → slot_times slot (blocks_of content.pools) ≡ 0 → IsNewSlot slot address all
  new_slot slot address none other holding at differ same =
      let some = one_live holding.ptr.slot holding.ptr.place (blocks_of content.pools) (are.live other holding at) in
      let times = length-filter (λ (block : Block ℕ). is_slot holding.ptr.slot block.owner) (blocks_of content.pools) in
      let here = ap (λ (s : ℕ). slot_times s (blocks_of content.pools)) same in
      omega (arith, some, times, here, none)

  -- and so is that of a block which is moved: it has its own slot, or a new one
  pub moved_slot : (ptr : Pointer) (slot address : ℕ) → HasGoodSlots content → IsUnder ptr (held_at all address) → (slot ≢ ptr.slot → slot_times slot (blocks_of content.pools) ≡ 0) → IsNewSlot slot address all
  moved_slot ptr slot address good under moved = elim (cases_eq slot ptr.slot) [
    | inl same ↦ subst (λ s. IsNewSlot s address all) (ap (λ (p : Pointer). p.slot) under.2 ∙ sym same) own
    | inr differ ↦ new_slot slot address (moved differ)
  ]
    where
      from : Holding
      from = under.0

      own : IsNewSlot under.0.ptr.slot address all
      own other holding at differ same =
          let two = two_live holding.ptr.slot holding.ptr.place under.0.ptr.place (blocks_of content.pools) (λ place. differ (are.apart other address holding under.0 at under.1 place))
          (are.live other holding at) (subst (λ (s : ℕ). is_live (λ o. o == s) under.0.ptr.place (blocks_of content.pools) ≡ true) (sym same) (are.live address under.0 under.1)) in
          let times = length-filter (λ (block : Block ℕ). is_slot holding.ptr.slot block.owner) (blocks_of content.pools) in
          let few = good.distinct holding.ptr.slot in
          omega (arith, two, times, few)
