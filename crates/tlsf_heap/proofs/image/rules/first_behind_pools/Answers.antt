-- The rules in their order, each by what was counted.
use Rattle.std.proofs.Common.{rules, ◌∙◌, sym, ap, subst}
use Rattle.std.proofs.lemmas.Bool.{ne_eqb, eq-eqb, not-true, not-false}
use Rattle.tlsf_heap.specs.Images.Image.{Sections}
use Rattle.tlsf_heap.specs.Images.Findings.{chains_found, lists_with, HasSizes}
use Rattle.tlsf_heap.proofs.Images.RuleLemmas.{not_on_chains, not_merged, their_sizes, not_lists, not_on_lists, none_broken}
use Rattle.tlsf_heap.proofs.image.rules.first_behind_pools.Goals as goal

pub returns-then-tally-blocks : goal.returns-then-tally-blocks
returns-then-tally-blocks g c = record {
  value =
      let sections : Sections = g.T.HasSections.sections c.args.table.now in
      let linked = sym c.in-Some.ensures.value in
      let chained = sym (c.in-Some-look_at_chains.ensures.value ∙ ap chains_found c.look_at_links.ensures.read.same) in
      sym (not_on_chains sections c.requires c.in-Some.blocks linked c.in-Some-look_at_chains.tally chained (not-false _ c.if-not-tally.false) (ne_eqb _ _ c.if-tally-blocks.true));
  read = search rules;
}

pub returns-then-not-tally-2 : goal.returns-then-not-tally-2
returns-then-not-tally-2 g c = record {
  value =
      let sections : Sections = g.T.HasSections.sections c.args.table.now in
      let linked = sym c.in-Some.ensures.value in
      let chained = sym (c.in-Some-look_at_chains.ensures.value ∙ ap chains_found c.look_at_links.ensures.read.same) in
      sym (not_merged sections c.requires c.in-Some.blocks linked c.in-Some-look_at_chains.tally chained (not-false _ c.if-not-tally.false) (eq-eqb _ _ c.if-tally-blocks.false) (not-true _ c.if-not-tally-2.true));
  read = search rules;
}

pub look_at_lists-requires-clause-sizes : goal.look_at_lists-requires-clause-sizes
look_at_lists-requires-clause-sizes g c =
    let sections : Sections = g.T.HasSections.sections c.args.table.now in
    let linked = sym c.in-Some.ensures.value in
    let chained = sym (c.in-Some-look_at_chains.ensures.value ∙ ap chains_found c.look_at_links.ensures.read.same) in
    let same = c.look_at_chains.ensures.read.same ∙ c.look_at_links.ensures.read.same in
    subst HasSizes (sym same) (their_sizes sections c.requires c.in-Some.blocks linked c.in-Some-look_at_chains.tally chained (not-false _ c.if-not-tally.false) (eq-eqb _ _ c.if-tally-blocks.false))

pub returns-in_default-look_at_lists : goal.returns-in_default-look_at_lists
returns-in_default-look_at_lists g c = record {
  value =
      let sections : Sections = g.T.HasSections.sections c.args.table.now in
      let linked = sym c.in-Some.ensures.value in
      let chained = sym (c.in-Some-look_at_chains.ensures.value ∙ ap chains_found c.look_at_links.ensures.read.same) in
      let listed = sym (c.in_default-look_at_lists.ensures.value ∙ ap (λ (p : Sections). lists_with p 0 0 p.heads) (c.look_at_chains.ensures.read.same ∙ c.look_at_links.ensures.read.same)) in
      sym (not_lists sections c.requires c.in-Some.blocks linked c.in-Some-look_at_chains.tally chained (not-false _ c.if-not-tally.false) (eq-eqb _ _ c.if-tally-blocks.false) (not-false _ c.if-not-tally-2.false) listed);
  read = search rules;
}

pub returns-then-listed-blocks : goal.returns-then-listed-blocks
returns-then-listed-blocks g c = record {
  value =
      let sections : Sections = g.T.HasSections.sections c.args.table.now in
      let linked = sym c.in-Some.ensures.value in
      let chained = sym (c.in-Some-look_at_chains.ensures.value ∙ ap chains_found c.look_at_links.ensures.read.same) in
      let listed = sym (c.in-Some-look_at_lists.ensures.value ∙ ap (λ (p : Sections). lists_with p 0 0 p.heads) (c.look_at_chains.ensures.read.same ∙ c.look_at_links.ensures.read.same)) in
      sym (not_on_lists sections c.requires c.in-Some.blocks linked c.in-Some-look_at_chains.tally chained (not-false _ c.if-not-tally.false) (eq-eqb _ _ c.if-tally-blocks.false) (not-false _ c.if-not-tally-2.false) c.in-Some-look_at_lists.listed listed (ne_eqb _ _ c.if-listed-blocks.true));
  read = search rules;
}

pub returns : goal.returns
returns g c = record {
  value =
      let sections : Sections = g.T.HasSections.sections c.args.table.now in
      let linked = sym c.in-Some.ensures.value in
      let chained = sym (c.in-Some-look_at_chains.ensures.value ∙ ap chains_found c.look_at_links.ensures.read.same) in
      let listed = sym (c.in-Some-look_at_lists.ensures.value ∙ ap (λ (p : Sections). lists_with p 0 0 p.heads) (c.look_at_chains.ensures.read.same ∙ c.look_at_links.ensures.read.same)) in
      sym (none_broken sections c.requires c.in-Some.blocks linked c.in-Some-look_at_chains.tally chained (not-false _ c.if-not-tally.false) (eq-eqb _ _ c.if-tally-blocks.false) (not-false _ c.if-not-tally-2.false) c.in-Some-look_at_lists.listed listed (eq-eqb _ _ c.if-listed-blocks.false));
  read = search rules;
}
