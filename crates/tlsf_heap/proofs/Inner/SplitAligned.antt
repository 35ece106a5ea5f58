-- What stands after a free block was split for an alignment, and that it is what memalign gives.
use Rattle.std.proofs.Common.{◌≡◌, ℕ, ◌+◌, ◌-◌, ◌%◌, ◌<◌, ◌≤◌, Bool, true, false, cond, List, [], ◌∷◌, ◌++◌, length, refl, sym, ap, ◌∙◌, subst, arith, Some, Ok, Err}
use Rattle.std.specs.Prelude.{◌==◌, nat_lt}
use Rattle.std.specs.Int.{next_multiple_of}
use Rattle.std.proofs.lemmas.Bool.{lt-ltb, le-ltb, ne_eqb}
use Rattle.tlsf_class.specs.Classes.{unit}
use Rattle.tlsf_store.specs.Records.{vacant_count, blank, record_at}
use Rattle.tlsf_store.specs.Cells.{Cells}
use Rattle.tlsf_heap.specs.declared.refusal.Refusal.TheVariants.{TableFull}
use Rattle.tlsf_heap.specs.Content.{Block, Content, blocks_of, used_records}
use Rattle.tlsf_heap.specs.Lists.{pick}
use Rattle.tlsf_heap.specs.Memalign.{is_alignment, size_asked, gap_records, aligned, if_recorded, memalign_picked}
use Rattle.tlsf_heap.specs.Good.{IsGood}
use Rattle.tlsf_heap.specs.Inner.Nodes.{InUse, Listed, Node, turned, content_by, nodes_of, owner_of, block_of, has_slot, gap_nodes}
use Rattle.tlsf_heap.specs.Inner.Represents.{uses_in}
use Rattle.tlsf_heap.specs.Inner.Following.{content_of, Stands}
use Rattle.tlsf_heap.specs.Inner.At.{layout_at, StandsAt, at_taken, at_split_rest, at_gapped, areas_at}
use Rattle.tlsf_heap.proofs.Counts.{count_all, count-cons, count-append, count-map}
use Rattle.tlsf_heap.proofs.Content.MemalignCases.{used_aligned}
use Rattle.tlsf_heap.proofs.Inner.Sums.{all_records}
use Rattle.tlsf_heap.proofs.Inner.Followed.{stood_for}
use Rattle.tlsf_heap.proofs.Inner.Live.{NodeAt, node_stood, node_agrees_once, node_size, node_taken, stands_with, free_at}
use Rattle.tlsf_heap.proofs.Inner.Standing.{vacant_there, content_is_good, owners_few}
use Rattle.tlsf_heap.proofs.Meaning.Places.{blocks_of_areas}
use Rattle.tlsf_heap.proofs.Meaning.Aligned.{aligned_is}
use Rattle.tlsf_heap.proofs.Meaning.AlignedIsGood.{CanSplitAligned, can_split_aligned}
use Rattle.tlsf_heap.proofs.Meaning.SplitInThree.{aligned_is_good}
use Rattle.tlsf_store.specs.declared.records.Record.{Record}
use Rattle.tlsf_heap.specs.GoodSlots.{is_slot, slot_times}
use Rattle.tlsf_heap.proofs.Inner.Plugs.{count-filled}
use Rattle.tlsf_store.specs.declared.records.State.TheVariants.{Free}
use Rattle.tlsf_heap.specs.Pools.{end_of_places}
use Rattle.tlsf_heap.proofs.Inner.Steps.{size_read, whole_at}

module _ (cells : Cells) (stands : Stands cells) (place slot align asked : ℕ) (by : NodeAt place slot Listed cells stands.layout) (is : is_alignment align ≡ true) (some : 0 < asked) (whole : asked % unit ≡ 0)
    (found : pick (size_asked align asked) (content_of cells).lists ≡ Some place) where
  abbrev start : ℕ
  start = next_multiple_of place align

  abbrev front : ℕ
  front = next_multiple_of place align - place

  abbrev left_over : ℕ
  left_over = (by.at.node.size - (next_multiple_of place align - place)) - asked

  pub can_split : CanSplitAligned align asked place (content_of cells)
  can_split = can_split_aligned align asked place (content_of cells) (content_is_good cells stands) is found

  -- how many blocks there are after
  used_after : (owner : ℕ) → used_records (aligned owner start asked place by.at.node.size (content_of cells)) ≡ used_records (content_of cells) + (gap_records front + gap_records left_over)
  used_after owner = used_aligned owner start asked place by.at.node.size (content_of cells) can_split.picked.found

  -- where too few records are vacant
  pub split_aligned_full : vacant_count cells.records < gap_records front + gap_records left_over → (owner : ℕ) → memalign_picked owner align asked (Some place) (content_of cells) ≡ Err TableFull
  split_aligned_full few owner =
      let after : ℕ → Content ℕ = λ n. aligned owner start asked place n (content_of cells) in
      let full : nat_lt (content_of cells).records (used_records (after by.at.node.size)) ≡ true = lt-ltb (content_of cells).records (used_records (after by.at.node.size)) (omega (arith, few, vacant_there cells stands, used_after owner)) in
      ap (λ n. if_recorded start (after n)) (node_size cells stands place slot Listed by) ∙ ap (λ b. cond b (Err TableFull) (Ok (start, after by.at.node.size))) full

  -- where there are enough
  pub split_aligned_stands : (new : Cells) (live rest : ℕ) → gap_records front + gap_records left_over ≤ vacant_count cells.records → StandsAt live InUse new (at_split_rest rest asked (at_gapped live front (at_taken by.at)))
      → Stands new × (memalign_picked live align asked (Some place) (content_of cells) ≡ Ok (start, content_of new))
  split_aligned_stands new live rest enough after =
      let of : ℕ → Content ℕ = λ n. aligned live start asked place n (content_of cells) in
      let room : used_records (of by.at.node.size) ≤ (content_of cells).records = omega (arith, enough, vacant_there cells stands, used_after live) in
      let given : memalign_picked live align asked (Some place) (content_of cells) ≡ Ok (start, of by.at.node.size) =
      ap (λ n. if_recorded start (of n)) (node_size cells stands place slot Listed by) ∙ ap (λ b. cond b (Err TableFull) (Ok (start, of by.at.node.size))) (le-ltb (content_of cells).records (used_records (of by.at.node.size)) room) in
      let P : ℕ → Type 0 = λ n. used_records (of n) ≤ (content_of cells).records → IsGood (of n) in
      let good_after : IsGood (of by.at.node.size) =
      subst P (node_size cells stands place slot Listed by) (λ few. aligned_is_good live start asked place (content_of cells) (content_is_good cells stands) can_split.picked.once can_split.start.begins can_split.fits some whole can_split.start.gap_whole few) room in
      let begins : by.at.node.place + front ≡ start = omega (arith, by.place_is, can_split.start.begins) in
      let is_so : content_by (layout_at (at_split_rest rest asked (at_gapped live front (at_taken by.at)))) ≡ of by.at.node.size =
      aligned_is by.at.count by.at.position by.at.node by.at.nodes by.at.lists (node_agrees_once cells stands place slot Listed by) live rest front asked by.at.taken by.at.taken
      ∙ ap (λ x. aligned live (by.at.node.place + front) asked by.at.node.place by.at.node.size x) (sym (node_stood cells stands place slot Listed by))
      ∙ ap (λ s. aligned live s asked by.at.node.place by.at.node.size (content_of cells)) begins
      ∙ ap (λ p. aligned live start asked p by.at.node.size (content_of cells)) by.place_is in
      let end = stands_with new live InUse (at_split_rest rest asked (at_gapped live front (at_taken by.at))) (of by.at.node.size) after refl (node_taken cells stands place slot Listed by) is_so good_after in
      (end.0, given ∙ ap (λ x. Ok (start, x)) (sym end.1))

  -- a slot that is vacant once the block was taken is of no live block
  pub vacant_new : (taken : Cells) → StandsAt slot InUse taken (at_taken by.at) → (q : ℕ) → record_at taken.records q ≡ blank → slot_times q (blocks_of (content_of cells).pools) ≡ 0
  vacant_new taken after q vacant =
      let owns : Node → Bool = λ n. is_slot q (owner_of n.state n.slot) in
      let blocks = ap (λ (x : Content ℕ). slot_times q (blocks_of x.pools)) (stood_for cells stands ∙ ap content_by by.layout_is) ∙ ap (slot_times q) (blocks_of_areas (areas_at by.at)) ∙ count-map (λ (b : Block ℕ). is_slot q b.owner) block_of (nodes_of (areas_at by.at)) in
      omega (
        arith,
        blocks,
        owners_few q (nodes_of (areas_at by.at)),
        after.0.chains.once q,
        ap (λ (r : Record). uses_in r.state) vacant,
        count-filled (has_slot q) by.at.position (by.at.node ∷ by.at.nodes),
        count-filled (has_slot q) by.at.position (turned InUse by.at.node ∷ by.at.nodes),
        count-cons (has_slot q) by.at.node by.at.nodes,
        count-cons (has_slot q) (turned InUse by.at.node) by.at.nodes,
      )

  -- as many records are vacant once the gap was left as it leaves
  pub vacant_after : (new : Cells) (live : ℕ) → StandsAt live InUse new (at_gapped live front (at_taken by.at)) → vacant_count new.records + gap_records front ≡ vacant_count cells.records
  vacant_after new live after =
      let all : Node → Bool = λ n. true in
      let gap_node : Node = record { slot = by.at.node.slot; place = by.at.node.place; size = front; state = Listed } in
      let kept : Node = record by.at.node { slot = live; place = by.at.node.place + front; size = by.at.node.size - front; state = InUse } in
      let gapped : List Node = gap_nodes by.at.node.slot by.at.node.place front in
      let counted : length gapped ≡ gap_records front = elim (front == 0) as (λ b. length (cond b [] (gap_node ∷ [])) ≡ cond b 0 1) [ true ↦ refl | false ↦ refl ] in
      omega (
        arith,
        all_records new (layout_at (at_gapped live front (at_taken by.at))) after.0,
        after.0.count,
        all_records cells (layout_at by.at) by.stands.0,
        by.stands.0.count,
        ap (λ (xs : List ℕ). length xs) (node_taken cells stands place slot Listed by),
        count_all (nodes_of (areas_at (at_gapped live front (at_taken by.at)))),
        count_all (nodes_of (areas_at by.at)),
        count-filled all (record by.at.position { before = gapped ++ by.at.position.before }) (kept ∷ by.at.nodes),
        count-filled all by.at.position (by.at.node ∷ by.at.nodes),
        count-cons all kept by.at.nodes,
        count-cons all by.at.node by.at.nodes,
        count-append all gapped by.at.position.before,
        count_all gapped,
        counted,
      )

  -- as many records are vacant once it was taken
  pub vacant_taken : (taken : Cells) → StandsAt slot InUse taken (at_taken by.at) → vacant_count taken.records ≡ vacant_count cells.records
  vacant_taken taken after =
      let all : Node → Bool = λ n. true in
      omega (
        arith,
        all_records taken (layout_at (at_taken by.at)) after.0,
        after.0.count,
        all_records cells (layout_at by.at) by.stands.0,
        by.stands.0.count,
        count_all (nodes_of (areas_at (at_taken by.at))),
        count_all (nodes_of (areas_at by.at)),
        count-filled all by.at.position (turned InUse by.at.node ∷ by.at.nodes),
        count-filled all by.at.position (by.at.node ∷ by.at.nodes),
        count-cons all (turned InUse by.at.node) by.at.nodes,
        count-cons all by.at.node by.at.nodes,
      )

-- a gap of some bytes takes one
pub gap_of_some : (bytes : ℕ) → 0 < bytes → gap_records bytes ≡ 1
gap_of_some bytes some = ap (λ b. cond {A = ℕ} b 0 1) (ne_eqb bytes 0 (λ e. omega (arith, e, some)))

-- what is known of the block picked, as it was read
pub record SplitKnown (cells : Cells) (stands : Stands cells) (slot align asked size place : ℕ) : Type 0 where
  pub by : NodeAt (record_at cells.records slot).place slot Listed cells stands.layout
  pub place_is : place ≡ (record_at cells.records slot).place
  pub size_is : size ≡ by.at.node.size
  pub begins : place ≤ next_multiple_of place align
  pub fits : (next_multiple_of place align - place) + asked ≤ size
  pub ends : place + size ≤ end_of_places
  pub gap_whole : (next_multiple_of place align - place) % unit ≡ 0

pub known : (cells : Cells) (stands : Stands cells) (slot align asked : ℕ) → is_alignment align ≡ true → 0 < asked → asked % unit ≡ 0 → (record_at cells.records slot).state ≡ Free
    → pick (size_asked align asked) (content_of cells).lists ≡ Some (record_at cells.records slot).place → (block : Record) → block ≡ record_at cells.records slot → SplitKnown cells stands slot align asked block.size block.place
known cells stands slot align asked is some whole free found block read =
    let by = free_at cells stands slot free in
    let place : ℕ = (record_at cells.records slot).place in
    let can = can_split cells stands place slot align asked by is some whole found in
    let size = ap (λ (r : Record). r.size) read ∙ size_read cells slot Listed by.at by.stands in
    let place_is = ap (λ (r : Record). r.place) read in
    let there = node_size cells stands place slot Listed by in
    let P : ℕ → Type 0 = λ p. p ≤ next_multiple_of p align in
    let Q : ℕ → Type 0 = λ p. (next_multiple_of p align - p) + asked ≤ block.size in
    let R : ℕ → Type 0 = λ p. (next_multiple_of p align - p) % unit ≡ 0 in
    record {
      by = by;
      place_is = place_is;
      size_is = size;
      begins = subst P (sym place_is) can.start.begins;
      fits = subst Q (sym place_is) (omega (arith, can.fits, there, size));
      ends = omega (arith, (whole_at cells slot Listed by.at by.stands).ends, size, place_is, by.place_is);
      gap_whole = subst R (sym place_is) can.start.gap_whole;
    }
