-- Entries behind an empty one break the rule of pools.
use Rattle.std.proofs.Common.{◌≡◌, ◌∙◌, sym, ap, true, Bool, Some}
use Rattle.std.specs.Prelude.{if◌then◌else◌}
use Rattle.tlsf_heap.specs.declared.image.rule.Rule.TheVariants.{Pools}
use Rattle.tlsf_heap.specs.Images.Image.{Sections}
use Rattle.tlsf_heap.specs.Images.Rules.{first_unmet, has_packed_pools, rules_of_sections}
use Rattle.tlsf_heap.proofs.image.rules.first_broken.Goals as goal

pub returns-then-has_packed_pools-clause-value : goal.returns-then-has_packed_pools-clause-value
returns-then-has_packed_pools-clause-value g c =
    let sections : Sections = g.T.HasSections.sections c.args.table.now in
    let packed : has_packed_pools sections ≡ true = sym c.has_packed_pools.ensures.value ∙ c.if-has_packed_pools.true in
    c.first_behind_pools.ensures.value
    ∙ ap (λ (p : Sections). first_unmet (rules_of_sections p)) c.has_packed_pools.ensures.read.same
    ∙ ap (λ (b : Bool). if b then first_unmet (rules_of_sections sections) else Some Pools) (sym packed)
