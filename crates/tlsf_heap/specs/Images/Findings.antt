-- A table that is only read, and what is found where its chains and lists are followed.
use Rattle.std.specs.Prelude.{ℕ, ◌+◌, ◌&&◌, ◌==◌, not, Bool, true, false, List, length, Option, Some, None, if◌then◌else◌, nat_eq, ◌≡◌, ◌<◌, ◌≤◌}
use Rattle.tlsf_class.specs.Classes.{greatest_size, class}
use Rattle.std.specs.Option.{option_eq}
use Rattle.std.specs.List.{list_all, flat_map, count_by}
use Rattle.tlsf_store.specs.declared.pools.Pool.{Pool}
use Rattle.tlsf_store.specs.declared.records.Record.{Record}
use Rattle.tlsf_store.specs.Records.{is_free_state}
use Rattle.tlsf_heap.specs.declared.image.chains.Tally.{Tally}
use Rattle.tlsf_heap.specs.declared.image.chains.Front.{Front}
use Rattle.tlsf_heap.specs.declared.image.links.Blocks.{Blocks}
use Rattle.tlsf_heap.specs.Images.Image.{Sections}
use Rattle.tlsf_heap.specs.Images.Rules.{has_record_links, has_links, at, is_used, is_chain, chain_of, covers, are_merged, is_list, are_lists, slots_in_list}
use Rattle.tlsf_heap.specs.Inner.Entries.{entries_of}
use Rattle.tlsf_store.specs.Cells.{Cells}

-- what stands in it stays, and so do the cells behind it; its touches don't fall
pub record OnlyReads {T : Type 0} (sections : T → Sections) (cells : T → Cells) (touches : T → ℕ) (old new : T) : Type 0 where
  pub same : sections new ≡ sections old
  pub kept : cells new ≡ cells old
  pub floor : touches old ≤ touches new

-- what is found is this, and the table is only read
pub record Finds {T R : Type 0} (found told : R) (sections : T → Sections) (cells : T → Cells) (touches : T → ℕ) (old new : T) : Type 0 where
  pub value : found ≡ told
  pub read : OnlyReads sections cells touches old new

-- a pool's chain: how many blocks it has, whether they cover the pool, and whether no two free ones are neighbours
abbrev pub chain_found : Sections → Pool → Option Tally
chain_found sections pool =
    if is_chain sections pool
    then Some (record {
      blocks = length (chain_of sections pool);
      covers = covers sections pool.base (pool.base + pool.bytes) (chain_of sections pool);
      is_merged = are_merged sections false (chain_of sections pool);
    })
    else None

-- the chains of these pools together, where each is one, with the tally of those before
abbrev pub tally_with : Sections → Tally → List (Option Pool) → Option Tally
tally_with sections tally pools =
    if list_all (is_chain sections) (entries_of pools)
    then Some (record {
      blocks = tally.blocks + length (flat_map (chain_of sections) (entries_of pools));
      covers = tally.covers && list_all (λ pool. covers sections pool.base (pool.base + pool.bytes) (chain_of sections pool)) (entries_of pools);
      is_merged = tally.is_merged && list_all (λ pool. are_merged sections false (chain_of sections pool)) (entries_of pools);
    })
    else None

-- all chains, where each is one
abbrev pub chains_found : Sections → Option Tally
chains_found sections = tally_with sections (record { blocks = 0; covers = true; is_merged = true }) sections.pools

-- two tallies together
abbrev pub both : Tally → Tally → Tally
both one other = record { blocks = one.blocks + other.blocks; covers = one.covers && other.covers; is_merged = one.is_merged && other.is_merged }

-- what stands in front of the block behind this one
abbrev pub front_of : ℕ → Record → Front
front_of slot block = record { block = Some slot; end = block.place + block.size; is_free = is_free_state block.state }

-- the tally with a block behind a front
abbrev pub tally_and : Front → Record → Tally → Tally
tally_and front block tally = record {
  blocks = tally.blocks + 1;
  covers = tally.covers && (block.place == front.end);
  is_merged = tally.is_merged && not (front.is_free && is_free_state block.state);
}

-- whether a record is of a block that this stands in front of
abbrev pub is_before : Front → Record → Bool
is_before front block = is_used block.state && option_eq nat_eq block.prev front.block

-- the list of a class: how many blocks it has, where it is one
abbrev pub list_found : Sections → ℕ → Option ℕ → Option ℕ
list_found sections number first = if is_list sections number first then Some (length (slots_in_list sections first)) else None

-- the lists of the classes from this number on, where each is one, with this many blocks before
abbrev pub lists_with : Sections → ℕ → ℕ → List (Option ℕ) → Option ℕ
lists_with sections blocks number heads = if are_lists sections number heads then Some (blocks + length (flat_map (slots_in_list sections) heads)) else None

-- no block has more bytes than a block can have
abbrev pub HasSizes : Sections → Type 0
HasSizes sections = (slot : ℕ) → slot < length sections.records → is_used (at sections slot).state ≡ true → (at sections slot).size ≤ greatest_size

-- whether a record is of a free block of the class, behind this one in its list
abbrev pub is_behind : Option ℕ → ℕ → Record → Bool
is_behind before number block = (is_free_state block.state && (class block.size == number)) && option_eq nat_eq block.prev_free before

-- the count of blocks, of those before and of these records, where each record passes `has_record_links`
abbrev pub blocks_with : ℕ → Blocks → List Record → Option Blocks
blocks_with count blocks records =
    if list_all (has_record_links count) records
    then Some (record { all = blocks.all + count_by (λ r. is_used r.state) records; free = blocks.free + count_by (λ r. is_free_state r.state) records })
    else None

-- the count of blocks of all records, where `has_links` holds
abbrev pub links_found : Sections → Option Blocks
links_found sections =
    if has_links sections
    then Some (record { all = count_by (λ r. is_used r.state) sections.records; free = count_by (λ r. is_free_state r.state) sections.records })
    else None

-- the blocks and one record more
abbrev pub blocks_and : Record → Blocks → Blocks
blocks_and r blocks = record {
  all = (if is_used r.state then blocks.all + 1 else blocks.all);
  free = (if is_free_state r.state then blocks.free + 1 else blocks.free);
}
