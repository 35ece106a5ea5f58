-- What an image tells of cells that stand: it breaks no rule, and describes their content.
use Rattle.std.proofs.Common.{◌≡◌, true, List, length, map, refl, ◌∙◌, None}
use Rattle.tlsf_store.specs.declared.records.Record.{Record}
use Rattle.tlsf_store.specs.Cells.{Cells}
use Rattle.tlsf_heap.specs.Images.Rules.{are_pools, first_unmet, rules_of_sections}
use Rattle.tlsf_heap.proofs.Images.UnbrokenRules.{none_broken}
use Rattle.tlsf_heap.specs.Images.Described.{sections_of, told_record, told_sections}
use Rattle.tlsf_heap.specs.Inner.Entries.{entries_of}
use Rattle.tlsf_heap.specs.Inner.Following.{content_from, content_of, Stands}
use Rattle.tlsf_heap.proofs.Images.Alike.{AreAlike, LiveAlone, alike_stand, alike_content}
use Rattle.tlsf_heap.proofs.Images.Told.{told_alike, told_alone}
use Rattle.tlsf_heap.proofs.Images.Unbroken.{stand_unbroken, pools_ordered}

module _ (cells : Cells) (stands : Stands cells) (others : List Record) (alike : AreAlike cells.records others) where
  pub saved_unbroken : LiveAlone others → first_unmet (rules_of_sections (sections_of (record cells { records = others }))) ≡ None
  saved_unbroken alone = none_broken (sections_of (record cells { records = others })) (stand_unbroken (record cells { records = others }) (alike_stand cells others alike stands) alone)

  pub saved_ordered : are_pools (length others) 0 (entries_of cells.pools) ≡ true
  saved_ordered = pools_ordered (record cells { records = others }) (alike_stand cells others alike stands)

  content_read : content_from others (entries_of cells.pools) cells.heads ≡ content_of (record cells { records = others })
  unfolding content_of
  content_read = refl

  pub saved_content : content_from others (entries_of cells.pools) cells.heads ≡ content_of cells
  saved_content = content_read ∙ alike_content cells others alike stands

-- what an image tells of the records of cells that stand
module _ (cells : Cells) (stands : Stands cells) where
  pub told_unbroken : first_unmet (rules_of_sections (told_sections cells)) ≡ None
  told_unbroken = saved_unbroken cells stands (map told_record cells.records) (told_alike cells.records) (told_alone cells.records)

  pub told_ordered : are_pools (length (told_sections cells).records) 0 (entries_of (told_sections cells).pools) ≡ true
  told_ordered = saved_ordered cells stands (map told_record cells.records) (told_alike cells.records)

  pub told_content : content_from (told_sections cells).records (entries_of (told_sections cells).pools) (told_sections cells).heads ≡ content_of cells
  told_content = saved_content cells stands (map told_record cells.records) (told_alike cells.records)
