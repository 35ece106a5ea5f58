-- The content that cells stand for, by following the links of their records; and when they stand.
use Rattle.std.specs.Prelude.{◌≡◌, ℕ, List, [], length, map, count_by, Option, Some, None}
use Rattle.tlsf_store.specs.declared.records.State.{State}
use Rattle.tlsf_store.specs.declared.records.State.TheVariants.{Live}
use Rattle.tlsf_store.specs.declared.records.Record.{Record}
use Rattle.tlsf_store.specs.Records.{record_at}
use Rattle.tlsf_store.specs.Cells.{Cells}
pub use Rattle.tlsf_heap.specs.Images.Links.{follow, chain_from, list_from}
use Rattle.tlsf_store.specs.declared.pools.Pool.{Pool as StoredPool}
use Rattle.tlsf_heap.specs.Content.{Block, Pool, Content}
use Rattle.tlsf_heap.specs.Good.{IsGood}
use Rattle.tlsf_heap.specs.Inner.Entries.{entries_of}
use Rattle.tlsf_heap.specs.Inner.Nodes.{Layout, content_by, nodes_of}
use Rattle.tlsf_heap.specs.Inner.Positions.{is_loose}
use Rattle.tlsf_heap.specs.Inner.Represents.{Represents}

-- a live block is known by its slot
abbrev pub owner_in : State → ℕ → Option ℕ
owner_in Live slot = Some slot
owner_in other slot = None

-- the block of a slot
abbrev pub block_at : List Record → ℕ → Block ℕ
block_at records slot =
    let r = record_at records slot in
    record { place = r.place; size = r.size; owner = owner_in r.state slot }

-- the pool of an entry
abbrev pub pool_from : List Record → StoredPool → Pool ℕ
pool_from records entry = record { base = entry.base; bytes = entry.bytes; blocks = map (block_at records) (chain_from records (Some entry.first)) }

-- the content of records, entries and heads
abbrev pub content_from : List Record → List StoredPool → List (Option ℕ) → Content ℕ
content_from records entries heads = record {
  records = length records;
  pools = map (pool_from records) entries;
  lists = map (λ first. map (λ slot. (record_at records slot).place) (list_from records first)) heads;
}

-- the content that cells stand for
unfoldable pub content_of : Cells → Content ℕ
content_of cells = content_from cells.records (entries_of cells.pools) cells.heads

-- the cells represent a layout with no loose node, for which nothing is taken and whose content is good
pub record Stands (cells : Cells) : Type 0 where
  pub layout : Layout
  pub represented : Represents cells layout
  pub settled : count_by (λ node. is_loose node.state) (nodes_of layout.areas) ≡ 0
  pub none_taken : layout.taken ≡ []
  pub good : IsGood (content_by layout)
