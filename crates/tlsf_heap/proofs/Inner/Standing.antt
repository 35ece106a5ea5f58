-- What is read off cells that stand: their entries, how many records are in use, and that their content is good.
use Rattle.std.proofs.Common.{◌≡◌, ℕ, ◌+◌, ◌≤◌, false, ◌&&◌, eqb, List, [], ◌∷◌, length, map, refl, sym, ap, ◌∙◌, subst, arith, count_by}
use Rattle.std.specs.List.{list_all}
use Rattle.std.proofs.lemmas.List.{length-map, get_or_past}
use Rattle.tlsf_store.specs.declared.records.Record.{Record}
use Rattle.tlsf_store.specs.Records.{blank, record_at, vacant_count}
use Rattle.tlsf_store.specs.Cells.{Cells}
use Rattle.tlsf_heap.specs.Content.{Block, Content, blocks_of, used_records}
use Rattle.tlsf_heap.specs.Pools.{is_apart}
use Rattle.tlsf_heap.specs.Good.{IsGood}
use Rattle.tlsf_heap.specs.GoodSlots.{is_slot, slot_times, HasGoodSlots}
use Rattle.tlsf_heap.specs.Counted.{range_of}
use Rattle.tlsf_heap.specs.Inner.Entries.{is_entry_apart, entry_range, entries_of}
use Rattle.tlsf_heap.specs.Inner.Nodes.{NodeState, InUse, Listed, Loose, Node, Area, owner_of, block_of, pool_of, nodes_of, has_slot, entries_in}
use Rattle.tlsf_heap.specs.Inner.Represents.{uses_in}
use Rattle.tlsf_heap.specs.Inner.Following.{content_of, Stands}
use Rattle.tlsf_heap.proofs.Inner.EntryLists.{entries_of-padded}
use Rattle.tlsf_heap.proofs.Counts.{one_if, count_apart, count-map}
use Rattle.tlsf_heap.proofs.Inner.Chains.{uses_most}
use Rattle.tlsf_heap.proofs.Inner.Followed.{stood_for, records_are}
use Rattle.tlsf_heap.proofs.Inner.Sums.{all_records}
use Rattle.tlsf_heap.proofs.Meaning.Places.{blocks_of_areas}

apart_areas : (base bytes : ℕ) (areas : List Area) → list_all (is_apart base bytes) (map pool_of areas) ≡ list_all (is_entry_apart base bytes) (entries_in areas)
apart_areas base bytes [] = refl
apart_areas base bytes (area ∷ areas) = ap (λ b. is_entry_apart base bytes area.entry && b) (apart_areas base bytes areas)

ranges_areas : (areas : List Area) → map entry_range (entries_in areas) ≡ map range_of (map pool_of areas)
ranges_areas [] = refl
ranges_areas (area ∷ areas) = ap (λ ranges. (area.entry.base, area.entry.bytes) ∷ ranges) (ranges_areas areas)

-- a live block's slot is that of its node
owner_is : (slot q : ℕ) (node_state : NodeState) → one_if (is_slot slot (owner_of node_state q)) ≤ one_if (eqb q slot)
owner_is slot q InUse = omega arith
owner_is slot q Listed = omega arith
owner_is slot q Loose = omega arith

pub owners_few : (slot : ℕ) (nodes : List Node) → count_by (λ node. is_slot slot (owner_of node.state node.slot)) nodes ≤ count_by (has_slot slot) nodes
owners_few slot nodes = omega (arith, count_apart (λ (node : Node). is_slot slot (owner_of node.state node.slot)) (λ node. false) (has_slot slot) (λ node. omega (arith, owner_is slot node.slot node.state)) nodes)

module _ (cells : Cells) (stands : Stands cells) where
  pub entries_are : entries_of cells.pools ≡ entries_in stands.layout.areas
  entries_are = ap entries_of stands.represented.entries ∙ entries_of-padded (entries_in stands.layout.areas)

  pub pools_length : length (content_of cells).pools ≡ length (entries_of cells.pools)
  pools_length =
      ap (λ content. length content.pools) (stood_for cells stands) ∙ length-map stands.layout.areas pool_of ∙ sym (ap length entries_are ∙ length-map stands.layout.areas (λ (area : Area). area.entry))

  pub apart_is : (base bytes : ℕ) → list_all (is_apart base bytes) (content_of cells).pools ≡ list_all (is_entry_apart base bytes) (entries_of cells.pools)
  apart_is base bytes =
      ap (λ content. list_all (is_apart base bytes) content.pools) (stood_for cells stands) ∙ apart_areas base bytes stands.layout.areas ∙ sym (ap (list_all (is_entry_apart base bytes)) entries_are)

  -- the entries tell where the pools are
  pub ranges_are : map entry_range (entries_of cells.pools) ≡ map range_of (content_of cells).pools
  ranges_are = ap (map entry_range) entries_are ∙ ranges_areas stands.layout.areas ∙ sym (ap (λ content. map range_of content.pools) (stood_for cells stands))

  -- each record is of a block, or vacant
  pub used_are : used_records (content_of cells) + vacant_count cells.records ≡ length cells.records
  used_are = omega (
    arith,
    ap used_records (stood_for cells stands),
    ap length (blocks_of_areas stands.layout.areas),
    length-map (nodes_of stands.layout.areas) block_of,
    all_records cells stands.layout stands.represented,
    ap length stands.none_taken,
  )

  pub vacant_there : used_records (content_of cells) + vacant_count cells.records ≡ (content_of cells).records
  vacant_there = omega (arith, used_are, records_are cells)

  -- what cells stand for is good
  pub content_is_good : IsGood (content_of cells)
  content_is_good = let P : Content ℕ → Type 0 = λ x. IsGood x in subst P (sym (stood_for cells stands)) stands.good

  -- live slots are distinct and in range
  pub slots_are_good : HasGoodSlots (content_of cells)
  slots_are_good =
      let areas : List Area = stands.layout.areas in
      let few : (slot : ℕ) → slot_times slot (blocks_of (map pool_of areas)) ≤ count_by (has_slot slot) (nodes_of areas) =
      λ slot. omega (arith, ap (slot_times slot) (blocks_of_areas areas), count-map (λ (block : Block ℕ). is_slot slot block.owner) block_of (nodes_of areas), owners_few slot (nodes_of areas)) in
      let P : Content ℕ → Type 0 = λ x. HasGoodSlots x in
      subst P (sym (stood_for cells stands)) (record {
        distinct = λ slot. omega (arith, few slot, stands.represented.chains.once slot, uses_most (record_at cells.records slot).state);
        below = λ slot past. omega (
          arith,
          few slot,
          stands.represented.chains.once slot,
          stands.represented.count,
          past,
          ap (λ (r : Record). uses_in r.state) (get_or_past cells.records slot blank (omega (arith, past, stands.represented.count))),
        );
      })
