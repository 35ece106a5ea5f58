-- What stands after a free block was taken, whole or in part, and that it is what malloc gives.
use Rattle.std.proofs.Common.{◌≡◌, ℕ, ◌+◌, ◌-◌, ◌++◌, ◌%◌, ◌<◌, ◌≤◌, Bool, true, false, cond, ◌&&◌, List, ◌∷◌, length, refl, sym, ap, ◌∙◌, subst, arith, Option, Some, Ok, Err, inl, inr}
use Rattle.std.specs.Prelude.{nat_lt, nat_le}
use Rattle.std.proofs.lemmas.Bool.{ne_eqb, cases_lt, eq-eqb, lt-ltb, le-ltb, le-leb, lt-leb, and_left, and_right}
use Rattle.std.proofs.lemmas.List.{length-map}
use Rattle.tlsf_class.specs.Classes.{unit}
use Rattle.tlsf_store.specs.declared.records.State.TheVariants.{Free}
use Rattle.tlsf_store.specs.Records.{blank, blank_in, record_at, vacant_count}
use Rattle.tlsf_store.specs.Cells.{Cells, head_at}
use Rattle.tlsf_store.proofs.RecordLaws.{vacant_count-take}
use Rattle.tlsf_heap.specs.declared.refusal.Refusal.TheVariants.{TableFull}
use Rattle.tlsf_heap.specs.GoodSlots.{is_slot, slot_times}
use Rattle.tlsf_heap.specs.Content.{Block, Content, blocks_of, used_records}
use Rattle.tlsf_heap.specs.Malloc.{allocated, malloc_picked}
use Rattle.tlsf_heap.specs.Good.{IsGood}
use Rattle.tlsf_heap.specs.Inner.Nodes.{NodeState, InUse, Listed, Node, Layout, turned, owner_of, block_of, content_by, nodes_of, has_slot, gap_nodes, entered_gap}
use Rattle.tlsf_heap.specs.Inner.Following.{content_of, Stands}
use Rattle.tlsf_heap.specs.Inner.Answers.{IsPick, IsPickOf, IsTakeable, IsTakenFor, IsFirstFor}
use Rattle.tlsf_heap.specs.Inner.At.{At, areas_at, layout_at, StandsAt, at_taken, at_split_off, at_split_rest}
use Rattle.tlsf_heap.proofs.Good.MallocIsGood.{Picked, listed_picked, pick_listed, allocated_is_good}
use Rattle.tlsf_heap.specs.Inner.Positions.{is_loose}
use Rattle.tlsf_heap.proofs.Counts.{one_if, count-cons, count-map}
use Rattle.tlsf_heap.proofs.Inner.Plugs.{count-filled}
use Rattle.tlsf_heap.proofs.Inner.Followed.{stood_for, records_are}
use Rattle.tlsf_heap.proofs.Inner.Chains.{uses_most}
use Rattle.tlsf_heap.proofs.Inner.Steps.{slot_used}
use Rattle.tlsf_heap.proofs.Inner.Live.{NodeAt, node_stood, node_agrees_once, node_size, node_taken, stands_with}
use Rattle.tlsf_heap.proofs.Inner.Standing.{used_are, content_is_good, owners_few}
use Rattle.tlsf_heap.proofs.Meaning.Places.{blocks_of_areas}
use Rattle.tlsf_heap.proofs.Meaning.Aligned.{allocated_is}

-- a content of nodes uses a record for each
pub used_is : (layout : Layout) → used_records (content_by layout) ≡ length (nodes_of layout.areas)
used_is layout = ap length (blocks_of_areas layout.areas) ∙ length-map (nodes_of layout.areas) block_of

-- where a record is vacant, or none is
pub room_left : (cells : Cells) (stands : Stands cells) (rest : ℕ) → rest < length cells.records → record_at cells.records rest ≡ blank → used_records (content_of cells) < (content_of cells).records
room_left cells stands rest within vacant = omega (arith, used_are cells stands, records_are cells, vacant_count-take cells.records rest (blank_in Free) within vacant (λ e. absurd (cc)))

no_room : (cells : Cells) (stands : Stands cells) → vacant_count cells.records ≡ 0 → (content_of cells).records ≤ used_records (content_of cells)
no_room cells stands none = omega (arith, none, used_are cells stands, records_are cells)

-- a block that may be taken is one that may be picked
pub takeable_picked : (cells : Cells) (stands : Stands cells) (asked class slot : ℕ) → IsTakeable asked class slot cells → Picked asked (record_at cells.records slot).place (content_of cells)
takeable_picked cells stands asked class slot is = listed_picked asked (record_at cells.records slot).place is.number (content_of cells) (content_is_good cells stands) is.below is.stands is.holds

-- the block picked may be taken
pub pick_takeable : (cells : Cells) (stands : Stands cells) (asked class slot : ℕ) → IsPick asked class slot cells → IsTakeable asked class slot cells
pick_takeable cells stands asked class slot is =
    let listed = pick_listed asked (record_at cells.records slot).place (content_of cells) (content_is_good cells stands) is.found in
    record { of_class = is.of_class; first = is.first; free = is.free; number = listed.0; below = listed.1; stands = listed.2; holds = listed.3 }

-- the first block that is read is the one that is told
first_same : (heads : List (Option ℕ)) (class slot other : ℕ) → head_at heads class ≡ Some slot → head_at heads class ≡ Some other → slot ≡ other
first_same heads class slot other is too = cc

-- the first block of the class that is picked
pub first_picked : (old new : Cells) (asked class slot : ℕ) → IsPickOf asked class old → head_at old.heads class ≡ Some slot → new ≡ old → IsPick asked class slot new
first_picked old new asked class slot is head same =
    subst (λ cells. IsPick asked class slot cells) (sym same) (subst (λ s. IsPick asked class s old) (first_same old.heads class is.0 slot is.1 head) is.2)

-- and of the one that may be taken
pub first_taken : (old new : Cells) (asked : ℕ) (place : Option ℕ) (class slot : ℕ) → IsFirstFor asked place class old → head_at old.heads class ≡ Some slot → new ≡ old → IsTakenFor asked place class slot new
first_taken old new asked place class slot is head same =
    subst (λ cells. IsTakenFor asked place class slot cells) (sym same) (subst (λ s. IsTakenFor asked place class s old) (first_same old.heads class is.0 slot is.1 head) is.2)

module _ (cells : Cells) (stands : Stands cells) (place slot asked : ℕ) (by : NodeAt place slot Listed cells stands.layout) (some : 0 < asked) (whole : asked % unit ≡ 0) (is : Picked asked place (content_of cells)) where
  pub holds : asked ≤ by.at.node.size
  holds = omega (arith, is.holds, node_size cells stands place slot Listed by)

  -- what malloc gives, where a rest has a record
  gives : (asked < by.at.node.size → used_records (content_of cells) < (content_of cells).records)
      → (malloc_picked slot asked (Some place) (content_of cells) ≡ Ok (place, allocated slot place asked by.at.node.size (content_of cells))) × IsGood (allocated slot place asked by.at.node.size (content_of cells))
  gives room =
      let P : ℕ → Type 0 = λ n. IsGood (allocated slot place asked n (content_of cells)) in
      let served : (nat_lt asked by.at.node.size && nat_le (content_of cells).records (used_records (content_of cells))) ≡ false = (elim (cases_lt asked by.at.node.size) [
        | inl larger ↦ and_right (nat_lt asked by.at.node.size) _ (lt-leb (content_of cells).records (used_records (content_of cells)) (room larger))
        | inr as_large ↦ and_left _ _ (le-ltb asked by.at.node.size as_large)
      ]) in (
        ap (λ n. cond (nat_lt asked n && nat_le (content_of cells).records (used_records (content_of cells))) (Err TableFull) (Ok (place, allocated slot place asked n (content_of cells)))) (node_size cells stands place slot Listed by)
            ∙ ap (λ b. cond b (Err TableFull) (Ok (place, allocated slot place asked by.at.node.size (content_of cells)))) served,
        subst P (node_size cells stands place slot Listed by) (allocated_is_good slot asked place (content_of cells) (content_is_good cells stands) is some whole (λ larger. room (omega (arith, larger, node_size cells stands place slot Listed by)))),
      )

  -- the block taken is the slot's, at its place
  renamed : (bytes : ℕ) → allocated by.at.node.slot by.at.node.place bytes by.at.node.size (content_by (layout_at (record by.at { node = turned Listed by.at.node }))) ≡ allocated slot place bytes by.at.node.size (content_of cells)
  renamed bytes =
      ap (λ x. allocated by.at.node.slot by.at.node.place bytes by.at.node.size x) (sym (node_stood cells stands place slot Listed by))
      ∙ ap (λ s. allocated s by.at.node.place bytes by.at.node.size (content_of cells)) by.stands.1.slot_is
      ∙ ap (λ p. allocated slot p bytes by.at.node.size (content_of cells)) by.place_is

  -- what stands where the node keeps the bytes asked for
  served : (new : Cells) (rest s : ℕ) (node_state : NodeState) (left_at : At) → StandsAt s node_state new left_at → is_loose node_state ≡ false → left_at.taken ≡ by.at.taken → layout_at left_at ≡ layout_at (at_split_rest rest asked (at_taken by.at))
      → (asked < by.at.node.size → used_records (content_of cells) < (content_of cells).records) → Stands new × (malloc_picked slot asked (Some place) (content_of cells) ≡ Ok (place, content_of new))
  served new rest s node_state left_at after settled kept same_left room =
      let given = gives room in
      let is : content_by (layout_at left_at) ≡ allocated slot place asked by.at.node.size (content_of cells) =
      ap content_by same_left ∙ allocated_is by.at.count by.at.position (turned Listed by.at.node) by.at.nodes by.at.lists (node_agrees_once cells stands place slot Listed by) rest asked by.at.taken by.at.taken ∙ renamed asked in
      let after_all = stands_with new s node_state left_at (allocated slot place asked by.at.node.size (content_of cells)) after settled (kept ∙ node_taken cells stands place slot Listed by) is given.1 in
      (after_all.0, given.0 ∙ ap (λ x. Ok (place, x)) (sym after_all.1))

  pub whole_stands : (new : Cells) → StandsAt slot InUse new (at_taken by.at) → asked ≡ by.at.node.size → Stands new × (malloc_picked slot asked (Some place) (content_of cells) ≡ Ok (place, content_of new))
  whole_stands new after all =
      let nothing : 0 ≡ by.at.node.size - asked = omega (arith, all) in
      let of : ℕ → ℕ → Layout = λ bytes more. layout_at (record (at_taken by.at) {
        node = record (turned InUse by.at.node) { size = bytes };
        nodes = gap_nodes 0 (by.at.node.place + bytes) more ++ by.at.nodes;
        lists = entered_gap 0 (by.at.node.place + bytes) more (at_taken by.at).lists;
      }) in
      let same_left : of by.at.node.size 0 ≡ of asked (by.at.node.size - asked) = λ i. of (sym all i) (nothing i) in
      served new 0 slot InUse (at_taken by.at) after refl refl same_left (λ larger. absurd (omega (arith, larger, all)))

  pub part_stands : (new : Cells) (rest : ℕ) → StandsAt rest Listed new (at_split_off rest asked (at_taken by.at)) → asked < by.at.node.size → used_records (content_of cells) < (content_of cells).records
      → Stands new × (malloc_picked slot asked (Some place) (content_of cells) ≡ Ok (place, content_of new))
  part_stands new rest after less room =
      let some = ne_eqb (by.at.node.size - asked) 0 (λ e. omega (arith, e, less)) in
      served new rest rest Listed (at_split_off rest asked (at_taken by.at)) after refl refl (rw some refl) (λ larger. room)

  pub full_refused : vacant_count cells.records ≡ 0 → asked < by.at.node.size → (owner : ℕ) → malloc_picked owner asked (Some place) (content_of cells) ≡ Err TableFull
  full_refused no_vacant less owner =
      let refused : (nat_lt asked by.at.node.size && nat_le (content_of cells).records (used_records (content_of cells))) ≡ true =
      rw (lt-ltb asked by.at.node.size less, le-leb (content_of cells).records (used_records (content_of cells)) (no_room cells stands no_vacant)) refl in
      ap (λ n. cond (nat_lt asked n && nat_le (content_of cells).records (used_records (content_of cells))) (Err TableFull) (Ok (place, allocated owner place asked n (content_of cells)))) (node_size cells stands place slot Listed by)
      ∙ ap (λ b. cond b (Err TableFull) (Ok (place, allocated owner place asked by.at.node.size (content_of cells)))) refused

-- the slot of a listed node is of no live block
pub slot_new : (cells : Cells) (stands : Stands cells) (place slot : ℕ) → NodeAt place slot Listed cells stands.layout → slot_times slot (blocks_of (content_of cells).pools) ≡ 0
slot_new cells stands place slot by =
    let at : At = by.at in
    let owns : Node → Bool = λ n. is_slot slot (owner_of n.state n.slot) in
    let blocks = ap (λ (x : Content ℕ). slot_times slot (blocks_of x.pools)) (stood_for cells stands ∙ ap content_by by.layout_is) ∙ ap (slot_times slot) (blocks_of_areas (areas_at at)) ∙ count-map (λ (b : Block ℕ). is_slot slot b.owner) block_of (nodes_of (areas_at at)) in
    let free : one_if (owns at.node) ≡ 0 = ap (λ s. one_if (is_slot slot (owner_of s at.node.slot))) by.stands.1.node_state_is in
    omega (
      arith,
      blocks,
      count-filled owns at.position (at.node ∷ at.nodes),
      count-cons owns at.node at.nodes,
      free,
      owners_few slot (nodes_of at.position.areas_before),
      owners_few slot at.position.before,
      owners_few slot (nodes_of at.position.areas_behind),
      owners_few slot at.nodes,
      by.stands.0.chains.once slot,
      uses_most (record_at cells.records slot).state,
      count-filled (has_slot slot) at.position (at.node ∷ at.nodes),
      count-cons (has_slot slot) at.node at.nodes,
      ap one_if (eq-eqb at.node.slot slot by.stands.1.slot_is),
    )

pub slot_below : (cells : Cells) (stands : Stands cells) (place slot : ℕ) → NodeAt place slot Listed cells stands.layout → slot < (content_of cells).records
slot_below cells stands place slot by = omega (arith, (slot_used cells slot Listed by.at by.stands).0, records_are cells)
