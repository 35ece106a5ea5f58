-- The first broken rule is none exactly where each holds.
use Rattle.std.proofs.Common.{◌≡◌, Bool, true, false, Option, Some, None, refl}
use Rattle.std.specs.Prelude.{if◌then◌else◌}
use Rattle.tlsf_heap.specs.declared.image.rule.Rule.{Rule}
use Rattle.tlsf_heap.specs.declared.image.rule.Rule.TheVariants.{Links, Chains, Cover, OnChains, Merged, Lists, OnLists}
use Rattle.tlsf_heap.specs.Images.Image.{Sections}
use Rattle.tlsf_heap.specs.Images.Rules.{has_links, has_chains, has_cover, has_all_on_chains, has_merged, has_lists, has_all_on_lists, first_unmet, rules_of_sections}

-- the rules of sections
pub record IsUnbroken (sections : Sections) : Type 0 where
  pub links : has_links sections ≡ true
  pub chains : has_chains sections ≡ true
  pub cover : has_cover sections ≡ true
  pub on_chains : has_all_on_chains sections ≡ true
  pub merged : has_merged sections ≡ true
  pub lists : has_lists sections ≡ true
  pub on_lists : has_all_on_lists sections ≡ true

pub holds_first : (holds : Bool) (rule : Rule) (rest : Option Rule) → (if holds then rest else Some rule) ≡ None → (holds ≡ true) × (rest ≡ None)
holds_first true rule rest none = (refl, none)
holds_first false rule rest none = absurd (cc)

pub unbroken : (sections : Sections) → first_unmet (rules_of_sections sections) ≡ None → IsUnbroken sections
unbroken sections none =
    let links = holds_first (has_links sections) Links _ none in
    let chains = holds_first (has_chains sections) Chains _ links.1 in
    let cover = holds_first (has_cover sections) Cover _ chains.1 in
    let on_chains = holds_first (has_all_on_chains sections) OnChains _ cover.1 in
    let merged = holds_first (has_merged sections) Merged _ on_chains.1 in
    let lists = holds_first (has_lists sections) Lists _ merged.1 in
    let on_lists = holds_first (has_all_on_lists sections) OnLists _ lists.1 in
    record { links = links.0; chains = chains.0; cover = cover.0; on_chains = on_chains.0; merged = merged.0; lists = lists.0; on_lists = on_lists.0 }

first_on : (holds : Bool) (rule : Rule) (rest : Option Rule) → holds ≡ true → rest ≡ None → (if holds then rest else Some rule) ≡ None
first_on true rule rest is none = none
first_on false rule rest is none = absurd (cc)

pub none_broken : (sections : Sections) → IsUnbroken sections → first_unmet (rules_of_sections sections) ≡ None
none_broken sections is =
    first_on (has_links sections) Links _ is.links (
    first_on (has_chains sections) Chains _ is.chains (
    first_on (has_cover sections) Cover _ is.cover (
    first_on (has_all_on_chains sections) OnChains _ is.on_chains (
    first_on (has_merged sections) Merged _ is.merged (
    first_on (has_lists sections) Lists _ is.lists (
    first_on (has_all_on_lists sections) OnLists _ is.on_lists refl
    )
    )
    )
    )
    )
    )
