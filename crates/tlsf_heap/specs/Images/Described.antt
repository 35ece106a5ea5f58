-- What an image of a heap describes, what it tells of a store, and what saving a heap writes.
use Rattle.std.specs.Prelude.{◌≡◌, ℕ, List, length, None, Result, map}
use Rattle.mtrace_log.specs.Shown.{WriterState}
use Rattle.mtrace_log.specs.Output.{Puts}
use Rattle.tlsf_store.specs.Cells.{Cells, AreCells}
use Rattle.tlsf_store.specs.Table.{IsTable}
use Rattle.tlsf_store.specs.Words.{Words, cells_of}
use Rattle.tlsf_heap.specs.Images.Image.{Sections, sections_in}
use Rattle.tlsf_heap.specs.Images.Rules.{first_broken, first_unmet, rules_of_table}
use Rattle.tlsf_heap.specs.Content.{Content}
use Rattle.tlsf_heap.specs.Inner.Entries.{entries_of}
use Rattle.tlsf_heap.specs.Inner.Following.{content_from}
use Rattle.tlsf_store.specs.declared.records.State.{State}
use Rattle.tlsf_store.specs.declared.records.State.TheVariants.{Vacant, Free, Live}
use Rattle.tlsf_store.specs.declared.records.Record.{Record}
use Rattle.tlsf_store.specs.Records.{blank}
use Rattle.tlsf_heap.specs.Images.Bitmaps.{AreBitmapsOf}

-- the content that the sections of an image stand for
abbrev pub described : List ℕ → Content ℕ
described bytes = content_from (sections_in bytes).records (entries_of (sections_in bytes).pools) (sections_in bytes).heads

-- the sections of an image that a store's cells have
abbrev pub sections_of : Cells → Sections
sections_of cells = record { pools = cells.pools; heads = cells.heads; records = cells.records }

-- an image of a content: it breaks no rule, and describes it
pub record IsImageOf (content : Content ℕ) (image : List ℕ) : Type 0 where
  pub unbroken : first_broken image ≡ None
  pub describes : described image ≡ content

-- what saving a heap of this content leaves: all of an image of it is put, or a beginning where the call fails
pub record Saves {T E : Type 0} (result : Result T E) (content : Content ℕ) (old new : WriterState) : Type 0 where
  pub image : List ℕ
  pub is_image : IsImageOf content image
  pub put : Puts result image old new

-- what is told of a record in this state: nothing of a vacant one, and of a live one no neighbours in a list
abbrev pub told_in : State → Record → Record
told_in Vacant r = blank
told_in Free r = r
told_in Live r = record r { prev_free = None; next_free = None }

abbrev pub told_record : Record → Record
told_record r = told_in r.state r

-- the sections that the image of a store's cells is to have
abbrev pub told_sections : Cells → Sections
told_sections cells = record { pools = cells.pools; heads = cells.heads; records = map told_record cells.records }

-- a table of these words is that of a heap. Its records keep places, sizes, links and the chain of vacant records, each of
-- them once. The cells beside them are below the count. The bitmaps agree with the heads, and an image of it breaks no rule
pub record IsWholeTable (words : Words) : Type 0 where
  pub table : IsTable words.records words.first_vacant words.vacant
  pub cells : AreCells (length words.records) words.heads words.level_word words.pools
  pub bitmaps : AreBitmapsOf words.heads words.step_words words.level_word
  pub rules : first_unmet (rules_of_table (told_sections (cells_of words))) ≡ None
