-- What was found tells which rule is the first broken one.
use Rattle.std.proofs.Common.{◌≡◌, ℕ, ◌+◌, true, false, length, Some, None, refl, sym, ap, ◌∙◌, arith}
use Rattle.std.specs.Prelude.{nat_eq}
use Rattle.std.specs.List.{flat_map, count_by}
use Rattle.tlsf_store.specs.Records.{is_free_state}
use Rattle.tlsf_heap.specs.declared.image.rule.Rule.TheVariants.{OnChains, Merged, Lists, OnLists}
use Rattle.tlsf_heap.specs.declared.image.chains.Tally.{Tally}
use Rattle.tlsf_heap.specs.declared.image.links.Blocks.{Blocks}
use Rattle.tlsf_heap.specs.Images.Image.{Sections}
use Rattle.tlsf_heap.specs.Images.Rules.{is_used, chain_of, slots_in_list, has_links, has_chains, has_cover, has_merged, has_lists, has_all_on_chains, has_all_on_lists, are_pools, first_unmet, rules_of_sections}
use Rattle.tlsf_heap.specs.Images.Findings.{links_found, chains_found, lists_with, HasSizes}
use Rattle.tlsf_heap.proofs.Images.Totals.{was_found, was_missed, chains_counted, lists_counted}
use Rattle.tlsf_heap.proofs.Images.SizeLemmas.{sizes}
use Rattle.tlsf_heap.specs.Inner.Entries.{entries_of}

module _ (sections : Sections) where
  pub links_are : (blocks : Blocks) → links_found sections ≡ Some blocks → (has_links sections ≡ true) × ((blocks.all ≡ count_by (λ r. is_used r.state) sections.records) × (blocks.free ≡ count_by (λ r. is_free_state r.state) sections.records))
  links_are blocks is =
      let there = was_found (has_links sections) (record { all = count_by (λ r. is_used r.state) sections.records; free = count_by (λ r. is_free_state r.state) sections.records }) blocks is in
      (there.0, (ap (λ (b : Blocks). b.all) (sym there.1), ap (λ (b : Blocks). b.free) (sym there.1)))

  abbrev all_tally : Tally
  all_tally = record { blocks = 0 + length (flat_map (chain_of sections) (entries_of sections.pools)); covers = has_cover sections; is_merged = has_merged sections }

  pub chains_are : (tally : Tally) → chains_found sections ≡ Some tally → (has_chains sections ≡ true) × ((tally.blocks ≡ length (flat_map (chain_of sections) (entries_of sections.pools))) × ((tally.covers ≡ has_cover sections) × (tally.is_merged ≡ has_merged sections)))
  chains_are tally is =
      let there = was_found (has_chains sections) all_tally tally is in
      let none : 0 + length (flat_map (chain_of sections) (entries_of sections.pools)) ≡ length (flat_map (chain_of sections) (entries_of sections.pools)) = omega arith in
      (there.0, (ap (λ (t : Tally). t.blocks) (sym there.1) ∙ none, (ap (λ (t : Tally). t.covers) (sym there.1), ap (λ (t : Tally). t.is_merged) (sym there.1))))

  pub lists_are : (listed : ℕ) → lists_with sections 0 0 sections.heads ≡ Some listed → (has_lists sections ≡ true) × (listed ≡ length (flat_map (slots_in_list sections) sections.heads))
  lists_are listed is =
      let there = was_found (has_lists sections) (0 + length (flat_map (slots_in_list sections) sections.heads)) listed is in
      let none : 0 + length (flat_map (slots_in_list sections) sections.heads) ≡ length (flat_map (slots_in_list sections) sections.heads) = omega arith in
      (there.0, sym there.1 ∙ none)

  pub lists_arent : lists_with sections 0 0 sections.heads ≡ None → has_lists sections ≡ false
  lists_arent is = was_missed (has_lists sections) (0 + length (flat_map (slots_in_list sections) sections.heads)) is

  -- the way through the rules, as far as it is gone
  module _ (ordered : are_pools (length sections.records) 0 (entries_of sections.pools) ≡ true) (blocks : Blocks) (linked : links_found sections ≡ Some blocks) (tally : Tally) (chained : chains_found sections ≡ Some tally) (covers : tally.covers ≡ true) where
    links : has_links sections ≡ true
    links = (links_are blocks linked).0

    chains : has_chains sections ≡ true
    chains = (chains_are tally chained).0

    cover : has_cover sections ≡ true
    cover = sym (chains_are tally chained).1.1.0 ∙ covers

    on_chains : has_all_on_chains sections ≡ nat_eq tally.blocks blocks.all
    on_chains =
        let same : nat_eq (length (flat_map (chain_of sections) (entries_of sections.pools))) (count_by (λ r. is_used r.state) sections.records) ≡ nat_eq tally.blocks blocks.all =
        rw ((chains_are tally chained).1.0, (links_are blocks linked).1.0) refl in
        sym (chains_counted sections links chains cover ordered) ∙ same

    pub not_on_chains : nat_eq tally.blocks blocks.all ≡ false → first_unmet (rules_of_sections sections) ≡ Some OnChains
    not_on_chains other = rw (links, chains, cover, on_chains ∙ other) refl

    module _ (all : nat_eq tally.blocks blocks.all ≡ true) where
      pub not_merged : tally.is_merged ≡ false → first_unmet (rules_of_sections sections) ≡ Some Merged
      not_merged other = rw (links, chains, cover, on_chains ∙ all, sym (chains_are tally chained).1.1.1 ∙ other) refl

      pub their_sizes : HasSizes sections
      their_sizes = sizes sections (length sections.records) ordered cover (on_chains ∙ all)

      module _ (are_merged : tally.is_merged ≡ true) where
        merged : has_merged sections ≡ true
        merged = sym (chains_are tally chained).1.1.1 ∙ are_merged

        pub not_lists : lists_with sections 0 0 sections.heads ≡ None → first_unmet (rules_of_sections sections) ≡ Some Lists
        not_lists other = rw (links, chains, cover, on_chains ∙ all, merged, lists_arent other) refl

        module _ (listed : ℕ) (found : lists_with sections 0 0 sections.heads ≡ Some listed) where
          lists : has_lists sections ≡ true
          lists = (lists_are listed found).0

          on_lists : has_all_on_lists sections ≡ nat_eq listed blocks.free
          on_lists =
              let same : nat_eq (length (flat_map (slots_in_list sections) sections.heads)) (count_by (λ r. is_free_state r.state) sections.records) ≡ nat_eq listed blocks.free =
              rw ((lists_are listed found).1, (links_are blocks linked).1.1) refl in
              sym (lists_counted sections lists) ∙ same

          pub not_on_lists : nat_eq listed blocks.free ≡ false → first_unmet (rules_of_sections sections) ≡ Some OnLists
          not_on_lists other = rw (links, chains, cover, on_chains ∙ all, merged, lists, on_lists ∙ other) refl

          pub none_broken : nat_eq listed blocks.free ≡ true → first_unmet (rules_of_sections sections) ≡ None
          none_broken same = rw (links, chains, cover, on_chains ∙ all, merged, lists, on_lists ∙ same) refl
