-- The words of a table as they stand in memory, whatever they are, and what is kept of those of a store.
use Rattle.std.specs.Prelude.{ℕ, List, Option, length, map}
use Rattle.tlsf_store.specs.declared.records.Record.{Record}
use Rattle.tlsf_store.specs.declared.pools.Pool.{Pool}
use Rattle.tlsf_store.specs.Cells.{Cells, AreCells}
use Rattle.tlsf_store.specs.Table.{seen, IsTable}

-- the words of a table, each read as what it stands for: nothing is known of them
pub record Words : Type 0 where
  -- by slot; a vacant record keeps the chain of vacant ones in its link `next`
  pub records : List Record
  -- the first slot of the chain of vacant records, and how many are counted
  pub first_vacant : Option ℕ
  pub vacant : ℕ
  pub heads : List (Option ℕ)
  pub level_word : ℕ
  pub step_words : List ℕ
  pub pools : List (Option Pool)

-- the cells that callers of a store of these words see
abbrev pub cells_of : Words → Cells
cells_of words =
    record {
      records = map seen words.records;
      heads = words.heads;
      level_word = words.level_word;
      step_words = words.step_words;
      pools = words.pools;
    }

-- the words are those of a store: a table with its chain of vacant records, and the cells beside it
pub record AreStoreWords (words : Words) : Type 0 where
  pub table : IsTable words.records words.first_vacant words.vacant
  pub cells : AreCells (length words.records) words.heads words.level_word words.pools
