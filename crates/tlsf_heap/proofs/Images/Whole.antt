-- Words whose cells stand are what a check looks for.
use Rattle.std.proofs.Common.{◌≡◌, ◌∙◌, sym, ap, subst, Bool, Some}
use Rattle.std.specs.Prelude.{if◌then◌else◌}
use Rattle.tlsf_store.specs.Cells.{Cells}
use Rattle.tlsf_store.specs.Words.{Words, cells_of, AreStoreWords}
use Rattle.tlsf_heap.specs.declared.image.rule.Rule.TheVariants.{Pools}
use Rattle.tlsf_heap.specs.Images.Rules.{first_unmet, rules_of_sections}
use Rattle.tlsf_heap.specs.Images.Described.{told_sections, IsWholeTable}
use Rattle.tlsf_heap.specs.Inner.Following.{Stands}
use Rattle.tlsf_heap.proofs.Images.PackedPools.{stand_packed}
use Rattle.tlsf_heap.proofs.Images.Saved.{told_unbroken}

pub stand_whole : (words : Words) (cells : Cells) → AreStoreWords words → cells_of words ≡ cells → Stands cells → IsWholeTable words
stand_whole words cells kept are stood =
    let stands : Stands (cells_of words) = subst Stands (sym are) stood in
    record {
      table = kept.table;
      cells = kept.cells;
      bitmaps = stands.represented.index.bitmaps;
      rules = ap (λ (b : Bool). if b then first_unmet (rules_of_sections (told_sections (cells_of words))) else Some Pools) (stand_packed (cells_of words) stands) ∙ told_unbroken (cells_of words) stands;
    }
