-- A pointer's live block, as a node at its position: its size and the free block behind it. What stands once it has
-- another size in its place.
use Rattle.std.proofs.Common.{◌≡◌, ◌≢◌, ℕ, ◌+◌, ◌%◌, ◌<◌, ◌≤◌, Bool, true, false, cond, List, ◌∷◌, length, refl, sym, ap, ◌∙◌, arith, Option, Some, None, Ok, Err, option_map, inl, inr, [], unwrap_or, ◌-◌}
use Rattle.std.specs.Prelude.{◌||◌, is_some, nat_lt, nat_le, ◌==◌, ◌⊎◌}
use Rattle.std.proofs.lemmas.Bool.{cases_Bool, ltb-true, ltb-false, leb-true, lt-ltb, le-ltb, le-leb, lt-leb, leb-false}
use Rattle.tlsf_class.specs.Classes.{unit}
use Rattle.tlsf_store.specs.Records.{record_at, vacant_count}
use Rattle.tlsf_store.specs.Cells.{Cells}
use Rattle.tlsf_heap.specs.declared.refusal.Refusal.TheVariants.{BadPointer}
use Rattle.tlsf_heap.specs.Pointer.{block_size_ptr}
use Rattle.tlsf_heap.specs.Content.{Block, Content, blocks_of, size_at, used_records}
use Rattle.tlsf_heap.specs.Free.{is_live, if_free, free_next, size_of}
use Rattle.tlsf_heap.specs.Realloc.{fits_in_place, resized}
use Rattle.tlsf_heap.specs.Inner.Nodes.{InUse, Node, Layout, turned, block_of, content_by, nodes_of, is_listed_state}
use Rattle.tlsf_heap.specs.Inner.Positions.{filled, is_loose, listed_first, past, merged_with_behind}
use Rattle.tlsf_heap.specs.Inner.Following.{content_of, Stands}
use Rattle.tlsf_heap.specs.Inner.At.{areas_at, layout_at, StandsAt, next_merged, at_split_rest}
use Rattle.tlsf_heap.proofs.Counts.{count_all}
use Rattle.tlsf_heap.proofs.Inner.Plugs.{count-filled}
use Rattle.tlsf_heap.proofs.Inner.Sums.{all_records}
use Rattle.tlsf_heap.proofs.Inner.Followed.{stood_for, records_are}
use Rattle.tlsf_heap.proofs.Inner.Steps.{size_read, slot_used}
use Rattle.tlsf_heap.proofs.Inner.TakenBlock.{used_is}
use Rattle.tlsf_heap.proofs.Inner.Live.{NodeAt, node_stood, node_good, node_agrees_once, node_size, node_taken, live_at, stands_with}
use Rattle.tlsf_heap.proofs.Inner.Standing.{content_is_good, vacant_there}
use Rattle.tlsf_heap.proofs.Meaning.Places.{AgreeOnce, alone}
use Rattle.tlsf_heap.proofs.Meaning.NodeBlocks.{back_is}
use Rattle.tlsf_heap.proofs.Meaning.Freed.{NoneLoose, listed_is_free}
use Rattle.tlsf_heap.proofs.Meaning.Resized.{rest_split_is}
use Rattle.tlsf_heap.proofs.Meaning.ResizedIsGood.{resized_is_good}
use Rattle.tlsf_store.specs.declared.records.Record.{Record}

module _ (cells : Cells) (stands : Stands cells) (place slot : ℕ) (by : NodeAt place slot InUse cells stands.layout) where
  agreed : AgreeOnce (filled by.at.position (turned InUse by.at.node ∷ by.at.nodes)) by.at.lists
  agreed = node_agrees_once cells stands place slot InUse by

  none_loose : NoneLoose by.at.nodes
  none_loose =
      let loose : Node → Bool = λ n. is_loose n.state in
      omega (arith, by.stands.1.others_settled, count-filled loose by.at.position by.at.nodes)

  -- its size
  -- and the free block behind it
  pub next_there : free_next place (content_of cells) ≡ option_map block_of (listed_first by.at.nodes)
  next_there =
      ap (free_next place) (node_stood cells stands place slot InUse by)
      ∙ ap (λ p. free_next p (content_by (layout_at (record by.at { node = turned InUse by.at.node })))) (sym by.place_is)
      ∙ ap if_free (back_is by.at.position (turned InUse by.at.node) by.at.nodes (alone by.at.position (turned InUse by.at.node) by.at.nodes agreed.places))
      ∙ listed_is_free by.at.nodes none_loose

  -- where it fits, by the node and the one behind it
  pub fits_there : (m : ℕ) → fits_in_place place m (content_of cells) ≡ cond (nat_lt m by.at.node.size) (is_some (listed_first by.at.nodes) || nat_lt (used_records (content_of cells)) (content_of cells).records) (nat_le m (by.at.node.size + size_of (option_map block_of (listed_first by.at.nodes))))
  fits_there m =
      let room : Option (Block ℕ) → Bool = λ o. is_some o || nat_lt (used_records (content_of cells)) (content_of cells).records in
      ap (λ n. cond (nat_lt m n) (room (free_next place (content_of cells))) (nat_le m (n + size_of (free_next place (content_of cells))))) (node_size cells stands place slot InUse by)
      ∙ ap (λ o. cond (nat_lt m by.at.node.size) (room o) (nat_le m (by.at.node.size + size_of o))) next_there
      ∙ ap (λ b. cond (nat_lt m by.at.node.size) (b || nat_lt (used_records (content_of cells)) (content_of cells).records) (nat_le m (by.at.node.size + size_of (option_map block_of (listed_first by.at.nodes))))) (some_alike (listed_first by.at.nodes))
    where
      some_alike : (o : Option Node) → is_some (option_map block_of o) ≡ is_some o
      some_alike None = refl
      some_alike (Some b) = refl

  -- once it was merged with the free one behind it and split
  pub resized_stands : (new : Cells) (m rest : ℕ) → is_live (λ owner. owner == slot) place (blocks_of (content_of cells).pools) ≡ true → fits_in_place place m (content_of cells) ≡ true → m ≢ size_at place (blocks_of (content_of cells).pools) → 0 < m → m % unit ≡ 0
      → StandsAt slot InUse new (at_split_rest rest m (next_merged by.at)) → Stands new × (content_of new ≡ resized slot place m (content_of cells))
  resized_stands new m rest live fits other some whole after =
      let is : content_by (layout_at (at_split_rest rest m (next_merged by.at))) ≡ resized slot place m (content_of cells) =
      ap (λ s. content_by (layout_at (at_split_rest rest m (next_merged (record by.at { node = turned s by.at.node }))))) by.stands.1.node_state_is
      ∙ rest_split_is by.at.count by.at.position by.at.node by.at.nodes by.at.lists by.at.taken agreed none_loose (node_good cells stands place slot InUse by) rest m by.at.taken
      ∙ ap (λ s. resized s by.at.node.place m (content_by (layout_at (record by.at { node = turned InUse by.at.node })))) by.stands.1.slot_is
      ∙ ap (λ p. resized slot p m (content_by (layout_at (record by.at { node = turned InUse by.at.node })))) by.place_is
      ∙ ap (resized slot place m) (sym (node_stood cells stands place slot InUse by)) in
      stands_with new slot InUse (at_split_rest rest m (next_merged by.at)) (resized slot place m (content_of cells)) after refl (node_taken cells stands place slot InUse by) is
      (resized_is_good (λ owner. owner == slot) slot place m (content_of cells) (content_is_good cells stands) live some whole fits other)

  grown_size : (node : Node) (o : Option Node) → (merged_with_behind o node).size ≡ node.size + size_of (option_map block_of o)
  grown_size node None = omega arith
  grown_size node (Some b) = refl

  past_length : (nodes : List Node) → length (past nodes) + cond {A = ℕ} (is_some (listed_first nodes)) 1 0 ≡ length nodes
  past_length [] = refl
  past_length (node ∷ nodes) = elim (is_listed_state node.state) as (λ b. length (cond b nodes (node ∷ nodes)) + cond {A = ℕ} (is_some (cond b (Some node) None)) 1 0 ≡ length (node ∷ nodes)) [ true ↦ omega arith | false ↦ omega arith ]

  -- after the merge there are the bytes asked for, and a record for what is left
  pub merged_holds : (new : Cells) (m : ℕ) → fits_in_place place m (content_of cells) ≡ true → StandsAt slot InUse new (next_merged by.at) → (m ≤ (next_merged by.at).node.size) × (m < (record_at new.records slot).size → 0 < vacant_count new.records)
  merged_holds new m fits after = (most, room)
    where
      next : Option Node
      next = listed_first by.at.nodes

      size : ℕ
      size = by.at.node.size

      grown : (next_merged by.at).node.size ≡ by.at.node.size + size_of (option_map block_of (listed_first by.at.nodes))
      grown = grown_size by.at.node (listed_first by.at.nodes)

      told_so : cond (nat_lt m by.at.node.size) (is_some (listed_first by.at.nodes) || nat_lt (used_records (content_of cells)) (content_of cells).records) (nat_le m (by.at.node.size + size_of (option_map block_of (listed_first by.at.nodes)))) ≡ true
      told_so = sym (fits_there m) ∙ fits

      most : m ≤ (next_merged by.at).node.size
      most = elim (cases_Bool (nat_lt m by.at.node.size)) [
        | inl less ↦ omega (arith, ltb-true m by.at.node.size less, grown)
        | inr more ↦
            let is : nat_le m (by.at.node.size + size_of (option_map block_of (listed_first by.at.nodes))) ≡ true = rw more at told_so in
            omega (arith, leb-true m (by.at.node.size + size_of (option_map block_of (listed_first by.at.nodes))) is, grown)
      ]

      -- the blocks before and after
      counted : length (nodes_of (areas_at (next_merged by.at))) + cond {A = ℕ} (is_some (listed_first by.at.nodes)) 1 0 ≡ length (nodes_of (areas_at by.at))
      counted =
          let all : Node → Bool = λ n. true in
          omega (
            arith,
            count_all (nodes_of (areas_at (next_merged by.at))),
            count_all (nodes_of (areas_at by.at)),
            count-filled all by.at.position ((next_merged by.at).node ∷ past by.at.nodes),
            count-filled all by.at.position (by.at.node ∷ by.at.nodes),
            count_all ((next_merged by.at).node ∷ past by.at.nodes),
            count_all (by.at.node ∷ by.at.nodes),
            past_length by.at.nodes,
          )

      vacant_after : length (nodes_of (areas_at (next_merged by.at))) + vacant_count new.records ≡ (content_of cells).records
      vacant_after =
          omega (
            arith,
            all_records new (layout_at (next_merged by.at)) after.0,
            after.0.count,
            ap (λ (xs : List ℕ). length xs) (node_taken cells stands place slot InUse by),
            ap (λ (x : Content ℕ). x.records) (stood_for cells stands),
            ap (λ (l : Layout). l.count) by.layout_is,
          )

      used_there : used_records (content_of cells) ≡ length (nodes_of (areas_at by.at))
      used_there = ap used_records (stood_for cells stands) ∙ used_is stands.layout ∙ ap (λ (l : Layout). length (nodes_of l.areas)) by.layout_is

      room : m < (record_at new.records slot).size → 0 < vacant_count new.records
      room less = go (cases_Bool (is_some (listed_first by.at.nodes)))
        where
          sized : (record_at new.records slot).size ≡ (next_merged by.at).node.size
          sized = size_read new slot InUse (next_merged by.at) after

          size_none : (o : Option Node) → is_some o ≡ false → size_of (option_map block_of o) ≡ 0
          size_none None none = refl
          size_none (Some b) none = absurd (cc)

          go : (is_some (listed_first by.at.nodes) ≡ true) ⊎ (is_some (listed_first by.at.nodes) ≡ false) → 0 < vacant_count new.records
          go (inl there) = omega (arith, counted, ap (λ b. cond {A = ℕ} b 1 0) there, vacant_after, used_there, vacant_there cells stands)
          go (inr none) =
              let shorter : nat_lt m by.at.node.size ≡ true = lt-ltb m by.at.node.size (omega (arith, less, sized, grown, size_none (listed_first by.at.nodes) none)) in
              let left : nat_lt (used_records (content_of cells)) (content_of cells).records ≡ true = rw (shorter, none) at told_so in
              omega (arith, counted, ap (λ b. cond {A = ℕ} b 1 0) none, vacant_after, used_there, vacant_there cells stands, ltb-true (used_records (content_of cells)) (content_of cells).records left)

  -- it fits where the bytes that are missing are behind it, or a record is left for those given back
  pub fits_larger : (m : ℕ) (behind : Option ℕ) → behind ≡ option_map (λ (node : Node). node.size) (listed_first by.at.nodes) → by.at.node.size ≤ m → nat_le (m - by.at.node.size) (unwrap_or behind 0) ≡ fits_in_place place m (content_of cells)
  fits_larger m behind is larger =
      let size : ℕ = by.at.node.size in
      let o : Option Node = listed_first by.at.nodes in
      let not_less : nat_lt m size ≡ false = le-ltb m size larger in
      let right : fits_in_place place m (content_of cells) ≡ nat_le m (size + size_of (option_map block_of o)) = fits_there m ∙ rw not_less refl in
      let same : unwrap_or behind 0 ≡ size_of (option_map block_of o) = ap (λ (b : Option ℕ). unwrap_or b 0) is ∙ bytes_of o in
      elim (cases_Bool (nat_le (m - size) (unwrap_or behind 0))) [
        | inl fits ↦ fits ∙ sym (right ∙ le-leb m (size + size_of (option_map block_of o)) (omega (arith, leb-true (m - size) (unwrap_or behind 0) fits, same, larger)))
        | inr beyond ↦ beyond ∙ sym (right ∙ lt-leb m (size + size_of (option_map block_of o)) (omega (arith, leb-false (m - size) (unwrap_or behind 0) beyond, same, larger)))
      ]
    where
      bytes_of : (o : Option Node) → unwrap_or (option_map (λ (node : Node). node.size) o) 0 ≡ size_of (option_map block_of o)
      bytes_of None = refl
      bytes_of (Some b) = refl

  pub fits_smaller : (m : ℕ) (behind : Option ℕ) → behind ≡ option_map (λ (node : Node). node.size) (listed_first by.at.nodes) → m < by.at.node.size
      → fits_in_place place m (content_of cells) ≡ (is_some behind || nat_lt 0 (vacant_count cells.records))
  fits_smaller m behind is less =
      let shorter : nat_lt m by.at.node.size ≡ true = lt-ltb m by.at.node.size less in
      let right : fits_in_place place m (content_of cells) ≡ (is_some (listed_first by.at.nodes) || nat_lt (used_records (content_of cells)) (content_of cells).records) = fits_there m ∙ rw shorter refl in
      right ∙ ap (λ b. b || nat_lt (used_records (content_of cells)) (content_of cells).records) (sym (ap (λ (b : Option ℕ). is_some b) is ∙ there (listed_first by.at.nodes))) ∙ ap (λ b. is_some behind || b) room
    where
      there : (o : Option Node) → is_some (option_map (λ (node : Node). node.size) o) ≡ is_some o
      there None = refl
      there (Some b) = refl

      room : nat_lt (used_records (content_of cells)) (content_of cells).records ≡ nat_lt 0 (vacant_count cells.records)
      room = elim (cases_Bool (nat_lt 0 (vacant_count cells.records))) [
        | inl some ↦ lt-ltb (used_records (content_of cells)) (content_of cells).records (omega (arith, vacant_there cells stands, ltb-true 0 (vacant_count cells.records) some)) ∙ sym some
        | inr none ↦ le-ltb (used_records (content_of cells)) (content_of cells).records (omega (arith, vacant_there cells stands, ltb-false 0 (vacant_count cells.records) none)) ∙ sym none
      ]

-- what has a size is live
pub size_live : (cells : Cells) (place slot size : ℕ) → block_size_ptr (record { place = place; slot = slot }) (content_of cells) ≡ Ok size → is_live (λ owner. owner == slot) place (blocks_of (content_of cells).pools) ≡ true
size_live cells place slot size is = elim (cases_Bool (is_live (λ owner. owner == slot) place (blocks_of (content_of cells).pools))) [
  | inl live ↦ live
  | inr none ↦ absurd (let e : Err BadPointer ≡ Ok size = sym (ap (λ b. cond b (Ok (size_at place (blocks_of (content_of cells).pools))) (Err BadPointer)) none) ∙ is in cc)
]

-- what is known of the block of a live pointer: its size, and that its slot is of a record
pub size_known : (cells : Cells) (stands : Stands cells) (place slot : ℕ) → is_live (λ owner. owner == slot) place (blocks_of (content_of cells).pools) ≡ true → (block : Record) → block ≡ record_at cells.records slot → block.size ≡ size_at place (blocks_of (content_of cells).pools)
size_known cells stands place slot live block read =
    let by = live_at cells stands place slot live in
    ap (λ (r : Record). r.size) read ∙ size_read cells slot InUse by.at by.stands ∙ sym (node_size cells stands place slot InUse by)

pub live_below : (cells : Cells) (stands : Stands cells) (place slot : ℕ) → is_live (λ owner. owner == slot) place (blocks_of (content_of cells).pools) ≡ true → (slot < length cells.records) × (slot < (content_of cells).records)
live_below cells stands place slot live =
    let by = live_at cells stands place slot live in
    let used = slot_used cells slot InUse by.at by.stands in
    (used.0, omega (arith, used.0, records_are cells))
