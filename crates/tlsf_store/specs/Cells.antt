-- The cells of a store, and what is written into them.
use Rattle.std.specs.Prelude.{ℕ, ◌<◌, ◌≤◌, ◌^◌, List, Option, Some, None, All, replicate, slice_index_or, slice_set}
use Rattle.tlsf_class.specs.Classes.{classes, levels}
use Rattle.tlsf_store.specs.declared.records.Record.{Record}
use Rattle.tlsf_store.specs.declared.records.State.TheVariants.{Free}
use Rattle.tlsf_store.specs.declared.pools.Pool.{Pool}
use Rattle.tlsf_store.specs.Records.{most_records, blank, blank_in, IsBelow}

-- the most pools: there is an entry for each
abbrev pub most_pools : ℕ
most_pools = 8

-- the cells of a store
pub record Cells : Type 0 where
  -- by slot; a vacant record is blank
  pub records : List Record
  -- by class: the first slot of its list
  pub heads : List (Option ℕ)
  -- a bit for each first level
  pub level_word : ℕ
  -- by first level: a bit for each of its classes
  pub step_words : List ℕ
  -- by number
  pub pools : List (Option Pool)

-- the cells with one of them changed
abbrev pub with_record : Cells → ℕ → Record → Cells
with_record cells slot value = record cells { records = slice_set cells.records slot value }

abbrev pub with_head : Cells → ℕ → Option ℕ → Cells
with_head cells class first = record cells { heads = slice_set cells.heads class first }

abbrev pub with_level_word : Cells → ℕ → Cells
with_level_word cells word = record cells { level_word = word }

abbrev pub with_step_word : Cells → ℕ → ℕ → Cells
with_step_word cells level word = record cells { step_words = slice_set cells.step_words level word }

abbrev pub with_pool : Cells → ℕ → Option Pool → Cells
with_pool cells number pool = record cells { pools = slice_set cells.pools number pool }

-- the cells with a vacant record, if one was found, made that of a free block to come
abbrev pub with_taken : Cells → Option ℕ → Cells
with_taken cells None = cells
with_taken cells (Some slot) = with_record cells slot (blank_in Free)

-- the head of a class's list
abbrev pub head_at : List (Option ℕ) → ℕ → Option ℕ
head_at heads c = slice_index_or heads c None

-- the pool of an entry
abbrev pub pool_at : List (Option Pool) → ℕ → Option Pool
pool_at pools number = slice_index_or pools number None

-- the first block of an entry's pool, if there is one, is a slot below `count`
abbrev pub IsPoolBelow : ℕ → Option Pool → Type 0
IsPoolBelow count None = Unit {0}
IsPoolBelow count (Some pool) = pool.first < count

-- a store of `count` vacant records, with nothing in it
abbrev pub empty_cells : ℕ → Cells
empty_cells count =
    record {
      records = replicate count blank;
      heads = replicate classes None;
      level_word = 0;
      step_words = replicate levels 0;
      pools = replicate most_pools None;
    }

-- the cells beside the table, over a table of `count` records
pub record AreCells (count : ℕ) (heads : List (Option ℕ)) (level_word : ℕ) (pools : List (Option Pool)) : Type 0 where
  pub some : 0 < count
  pub few : count ≤ most_records
  pub heads_below : All (IsBelow count) heads
  pub level : level_word < 2 ^ levels
  pub pools_below : All (IsPoolBelow count) pools
