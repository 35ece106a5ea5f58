-- What the plain heap's realloc leaves.
use Rattle.std.proofs.Common.{◌≡◌, ◌≢◌, ℕ, ◌+◌, ◌-◌, ◌%◌, ◌<◌, ◌≤◌, Bool, true, false, cond, [], ◌∷◌, map, refl, sym, ap, ◌∙◌, arith, Option, Some, None, inl, inr}
use Rattle.std.specs.Prelude.{◌==◌, ◌&&◌, ◌||◌, is_some, nat_lt, nat_le}
use Rattle.std.proofs.lemmas.Bool.{cases_Bool, cases_lt, ltb-true, leb-true}
use Rattle.tlsf_class.specs.Classes.{unit}
use Rattle.tlsf_heap.specs.Content.{Block, Content, blocks_of, is_at, size_at, used_records, IsSize}
use Rattle.tlsf_heap.specs.Lists.{link}
use Rattle.tlsf_heap.specs.Malloc.{replaced_in}
use Rattle.tlsf_heap.specs.Free.{is_owned_by, is_live, free_next, size_of, free_block}
use Rattle.tlsf_heap.specs.Realloc.{size_with_next, fits_in_place, resized}
use Rattle.tlsf_heap.specs.Pools.{end_of_places}
use Rattle.tlsf_heap.specs.PlainHeap.{IsPlain, gap_block, link_block, blocks_among}
use Rattle.tlsf_heap.specs.GoodSlots.{is_slot, slot_times}
use Rattle.tlsf_heap.proofs.Counts.{any_counts, count_and, count_same}
use Rattle.tlsf_heap.proofs.Meaning.ResizedIsGood.{resized_is_good, resized_slots, size_with_next_whole}
use Rattle.tlsf_heap.proofs.Plain.Free.{removed}

fits_within : (place m : ℕ) (content : Content ℕ) → fits_in_place place m content ≡ true → m ≤ size_with_next place content
fits_within place m content fits =
    let size : ℕ = size_at place (blocks_of content.pools) in
    let room : Bool = is_some (free_next place content) || nat_lt (used_records content) content.records in
    elim (cases_Bool (nat_lt m size)) [
      | inl less ↦ omega (arith, ltb-true m size less)
      | inr most ↦
          let is : cond (nat_lt m size) room (nat_le m (size_with_next place content)) ≡ nat_le m (size_with_next place content) = rw most refl in
          leb-true m (size_with_next place content) (sym is ∙ fits)
    ]

-- what the code has to know of the live block that gets another size in its place
pub record IsResized (place asked size : ℕ) : Type 0 where
  pub asked_size : IsSize asked
  pub within : asked ≤ size
  pub rest_size : 0 < size - asked → IsSize (size - asked)
  pub ends : place + size ≤ end_of_places

module _ (known place : ℕ) (content : Content ℕ) (plain : IsPlain content) (live : is_live (λ slot. slot == known) place (blocks_of content.pools) ≡ true) where
  owned_slot : (owner : Option ℕ) → is_owned_by (λ slot. slot == known) owner ≡ is_slot known owner
  owned_slot None = refl
  owned_slot (Some slot) = refl

  -- its slot is below the number of records
  pub live_below : known < content.records
  live_below =
      let owned : Block ℕ → Bool = λ block. is_owned_by (λ slot. slot == known) block.owner in
      let blocks = blocks_of content.pools in
      let some : 1 ≤ slot_times known blocks = omega (
        arith,
        any_counts (λ block. is_at place block && owned block) blocks live,
        count_and (is_at place) owned blocks,
        count_same owned (λ block. is_slot known block.owner) (λ block. owned_slot block.owner) blocks,
      ) in
      elim (cases_lt known content.records) [
        | inl below ↦ below
        | inr past ↦ absurd (omega (arith, some, plain.slots.below known past))
      ]

  -- its size and that of a free block behind it
  pub both_fit : (here behind : ℕ) (next : Option (Block ℕ)) → here ≡ size_at place (blocks_of content.pools) → next ≡ free_next place content → behind ≡ size_of next → here + behind < 4294967296
  both_fit here behind next a b c = let all = size_with_next_whole (λ slot. slot == known) place content plain.good live in omega (arith, all.1, a, c, ap size_of b)

  module _ (asked : ℕ) (fits : fits_in_place place asked content ≡ true) (other : asked ≢ size_at place (blocks_of content.pools)) (whole : asked % unit ≡ 0) (some : 0 < asked) where
    pub is_resized : (here behind : ℕ) (next : Option (Block ℕ)) → here ≡ size_at place (blocks_of content.pools) → next ≡ free_next place content → behind ≡ size_of next → IsResized place asked (here + behind)
    is_resized here behind next a b c =
        let all = size_with_next_whole (λ slot. slot == known) place content plain.good live in
        let same : here + behind ≡ size_with_next place content = omega (arith, a, c, ap size_of b) in
        let within = fits_within place asked content fits in
        record {
          asked_size = record { positive = some; in_units = whole; at_most = omega (arith, within, all.1) };
          within = omega (arith, within, same);
          rest_size = (λ left. record { positive = left; in_units = omega (arith, all.0, whole, within, same); at_most = omega (arith, all.1, same) });
          ends = omega (arith, all.2, same);
        }

    -- the plain heap keeps what it keeps
    pub resized_is_plain : IsPlain (resized known place asked content)
    resized_is_plain = record {
      good = resized_is_good (λ slot. slot == known) known place asked content plain.good live some whole fits other;
      slots = resized_slots known place asked content plain.good live plain.slots;
      records_few = plain.records_few;
    }

-- the steps of the code are those of the definition
pub resized_by : (slot place asked here behind : ℕ) (next rest : Option (Block ℕ)) (content copy first linked after : Content ℕ)
    → copy ≡ content → first ≡ removed next copy
    → linked ≡ record first { lists = link_block rest first.lists }
    → after ≡ record linked { pools = map (replaced_in place (blocks_among (Some (record { place = place; size = asked; owner = Some slot }) ∷ rest ∷ []))) linked.pools }
    → next ≡ free_next place content → here ≡ size_at place (blocks_of content.pools) → behind ≡ size_of next
    → rest ≡ gap_block (place + asked) ((here + behind) - asked)
    → after ≡ resized slot place asked content
resized_by slot place asked here behind next rest content copy first linked after a b c d next_is here_is behind_is rest_is =
    let live : Block ℕ = record { place = place; size = asked; owner = Some slot } in
    let of : Option (Block ℕ) → Content ℕ → Content ℕ = λ o x. record x { pools = map (replaced_in place (blocks_among (Some live ∷ o ∷ []))) x.pools; lists = link_block o x.lists } in
    let size : ℕ = size_with_next place content in
    let gone : Content ℕ = removed (free_next place content) content in
    let left_over : Block ℕ = free_block (place + asked) (size - asked) in
    let total : here + behind ≡ size = omega (arith, here_is, behind_is, ap size_of next_is) in
    d
    ∙ ap (λ (x : Content ℕ). record x { pools = map (replaced_in place (blocks_among (Some live ∷ rest ∷ []))) x.pools }) c
    ∙ ap (of rest) (b ∙ ap (removed next) a ∙ ap (λ o. removed o content) next_is)
    ∙ ap (λ o. of o gone) (rest_is ∙ ap (λ n. gap_block (place + asked) (n - asked)) total)
    ∙ elim ((size - asked) == 0) as (λ t. of (cond t None (Some left_over)) gone ≡ record gone {
      pools = map (replaced_in place (live ∷ cond t [] (left_over ∷ []))) gone.pools;
      lists = cond t gone.lists (link (place + asked) (size - asked) gone.lists);
    }) [ true ↦ refl | false ↦ refl ]
