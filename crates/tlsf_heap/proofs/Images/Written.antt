-- The bytes of what an image tells of cells that stand break no rule, and describe the cells' content.
use Rattle.std.proofs.Common.{◌≡◌, ℕ, ◌<◌, ◌≤◌, ◌%◌, true, false, List, length, map, refl, sym, ap, ◌∙◌, arith, Some, None, inl, inr}
use Rattle.std.specs.Prelude.{is_some, nat_lt}
use Rattle.std.proofs.lemmas.Bool.{and_parts, cases_lt, lt-ltb, le-ltb, eqb-true}
use Rattle.std.proofs.lemmas.List.{get_or-map, get_or_past, length-map}
use Rattle.std.proofs.lemmas.List.Sums.{AllPass-from_list_all}
use Rattle.tlsf_class.specs.Classes.{unit, classes}
use Rattle.tlsf_store.specs.declared.records.State.{State}
use Rattle.tlsf_store.specs.declared.records.State.TheVariants.{Vacant, Free, Live}
use Rattle.tlsf_store.specs.declared.records.Record.{Record}
use Rattle.tlsf_store.specs.Records.{blank, record_at, most_records}
use Rattle.tlsf_store.specs.Cells.{Cells, pool_at, head_at, most_pools}
use Rattle.tlsf_heap.specs.Images.Image.{Sections}
use Rattle.tlsf_heap.specs.Images.Rules.{is_used, is_below, has_record_links, first_broken}
use Rattle.tlsf_heap.specs.Images.Writing.{image_of}
use Rattle.tlsf_heap.proofs.Images.UnbrokenRules.{IsUnbroken, unbroken}
use Rattle.tlsf_heap.proofs.Images.ReadBack.{IsWritten}
use Rattle.tlsf_heap.proofs.Images.Writable.{below_written, block_written}
use Rattle.tlsf_heap.proofs.Images.ImageBack.{AreWritable, sections_back}
use Rattle.tlsf_heap.proofs.Images.RulesBack.{written_first}
use Rattle.tlsf_store.specs.declared.pools.Pool.{Pool as StoredPool}
use Rattle.tlsf_heap.specs.Images.Described.{described, told_record, told_in, told_sections}
use Rattle.tlsf_heap.specs.Inner.Entries.{entries_of}
use Rattle.tlsf_heap.specs.Inner.Nodes.{has_slot}
use Rattle.tlsf_heap.specs.Inner.Represents.{InPool, pool_views, first_slot}
use Rattle.tlsf_heap.specs.Inner.Following.{content_of, content_from, Stands}
use Rattle.tlsf_heap.proofs.Inner.EntryLists.{length-padded, entries_of-padded}
use Rattle.tlsf_heap.proofs.Inner.RowsRead.{few_entries, entry_at}
use Rattle.tlsf_heap.proofs.Images.FoundNodes.{found, used_stands}
use Rattle.tlsf_heap.proofs.Images.Told.{told_at, told_states, told_alike}
use Rattle.tlsf_heap.proofs.Images.Saved.{told_unbroken, told_ordered, told_content}
use Rattle.tlsf_heap.proofs.Images.Unbroken.{uses_one}

nothing_told : (state : State) (r : Record) → is_used state ≡ false → told_in state r ≡ blank
nothing_told Vacant r unused = refl
nothing_told Free r unused = absurd (cc)
nothing_told Live r unused = absurd (cc)

module _ (cells : Cells) (stands : Stands cells) (few : length cells.records ≤ most_records) where
  abbrev sections : Sections
  sections = told_sections cells

  abbrev entries : List StoredPool
  entries = map (λ area. area.entry) stands.layout.areas

  rules : IsUnbroken sections
  rules = unbroken sections (told_unbroken cells stands)

  count : length sections.records ≡ length cells.records
  count = length-map cells.records told_record

  heads_count : length cells.heads ≡ classes
  heads_count = ap length stands.represented.index.heads_are ∙ length-map stands.layout.lists first_slot ∙ stands.represented.index.lists_count

  pools_count : length cells.pools ≡ most_pools
  pools_count = ap length stands.represented.entries ∙ length-padded entries (few_entries cells stands)

  present_count : length (entries_of cells.pools) ≡ length entries
  present_count = ap (λ ps. length (entries_of ps)) stands.represented.entries ∙ ap length (entries_of-padded entries)

  packed : (number : ℕ) → number < most_pools → is_some (pool_at cells.pools number) ≡ nat_lt number (length (entries_of cells.pools))
  packed number within = elim (cases_lt number (length entries)) [
    | inl below ↦
        ap is_some (entry_at cells stands number within ∙ get_or-map (λ (e : StoredPool). Some e) entries number (record { base = 0; bytes = 0; first = 0 }) None below)
        ∙ sym (lt-ltb number (length (entries_of cells.pools)) (omega (arith, below, present_count)))
    | inr past ↦
        ap is_some (entry_at cells stands number within ∙ get_or_past (map (λ (e : StoredPool). Some e) entries) number None (omega (arith, past, length-map entries (λ (e : StoredPool). Some e))))
        ∙ sym (le-ltb number (length (entries_of cells.pools)) (omega (arith, past, present_count)))
  ]

  head_written : (class : ℕ) → class < classes → IsWritten (head_at cells.heads class)
  head_written class within =
      below_written (length sections.records) (head_at cells.heads class) (omega (arith, few, count))
      (AllPass-from_list_all (is_below (length sections.records)) cells.heads (and_parts _ _ rules.links).0 class None (omega (arith, within, heads_count)))

  in_units : (slot : ℕ) → is_used (record_at sections.records slot).state ≡ true → (record_at sections.records slot).size % unit ≡ 0
  in_units slot used =
      let was : is_used (record_at cells.records slot).state ≡ true = ap is_used (told_states cells.records slot) ∙ used in
      let here = found cells stands (has_slot slot) (used_stands cells stands slot (uses_one (record_at cells.records slot).state was)) in
      let same : here.node.slot ≡ slot = eqb-true here.node.slot slot here.passes in
      let size : (record_at sections.records slot).size ≡ here.node.size =
      ap (λ (v : InPool). v.size) (sym ((told_alike cells.records).in_pool slot was) ∙ ap (pool_views cells.records) (sym same) ∙ here.says) in
      ap (λ (n : ℕ). n % unit) size ∙ here.whole.in_units

  pub writable : AreWritable sections
  writable = record {
    pools_count = pools_count;
    heads_count = heads_count;
    packed = packed;
    heads = head_written;
    blocks = λ slot within used. (
      block_written (length sections.records) (record_at sections.records slot) (omega (arith, few, count)) used
          (AllPass-from_list_all (has_record_links (length sections.records)) sections.records (and_parts _ _ rules.links).1 slot blank within),
      in_units slot used,
    );
    vacant = λ slot within unused.
        let r = record_at cells.records slot in
        told_at cells.records slot ∙ nothing_told r.state r (ap is_used (told_states cells.records slot) ∙ unused);
  }

  module _ (some : 0 < length cells.records) where
    pub written_unbroken : first_broken (image_of sections) ≡ None
    written_unbroken =
        written_first sections writable (omega (arith, some, count)) (told_ordered cells stands) (omega (arith, present_count, few_entries cells stands))
        ∙ told_unbroken cells stands

    pub written_content : described (image_of sections) ≡ content_of cells
    written_content = ap (λ (p : Sections). content_from p.records (entries_of p.pools) p.heads) (sections_back sections writable) ∙ told_content cells stands
