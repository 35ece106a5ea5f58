-- What is found in lists, block after block.
use Rattle.std.proofs.Common.{◌≡◌, ℕ, suc, ◌+◌, ◌-◌, ◌<◌, ◌≤◌, Bool, true, ◌&&◌, ◌∷◌, ◌++◌, length, drop, Option, Some, None, refl, sym, ◌∙◌, subst, arith}
use Rattle.std.specs.Prelude.{if◌then◌else◌, ◌==◌}
use Rattle.std.specs.List.{flat_map}
use Rattle.std.proofs.lemmas.Bool.{and_parts}
use Rattle.std.proofs.lemmas.List.{length-append, at_drop_more, at_drop_all}
use Rattle.tlsf_class.specs.Classes.{class}
use Rattle.tlsf_store.specs.Records.{IsBelow, is_free_state}
use Rattle.tlsf_store.specs.Cells.{head_at}
use Rattle.tlsf_store.specs.declared.records.State.{State}
use Rattle.tlsf_store.specs.declared.records.State.TheVariants.{Vacant, Free, Live}
use Rattle.tlsf_store.specs.declared.records.Record.{Record}
use Rattle.tlsf_heap.specs.Images.Image.{Sections}
use Rattle.tlsf_heap.specs.Images.Links.{follow, is_linked}
use Rattle.tlsf_heap.specs.Images.Rules.{at, is_list, slots_in_list, has_links, has_links_in, is_below}
use Rattle.tlsf_heap.specs.Images.Findings.{list_found, lists_with, is_behind}
use Rattle.tlsf_heap.proofs.Images.Totals.{was_found, was_missed}
use Rattle.tlsf_heap.proofs.Images.LinkLemmas.{linked_on, linked_end, follow_none}
use Rattle.tlsf_heap.proofs.Images.ChainLemmas.{record_links, below, free_is_used}

free_links : (state : State) (count : ℕ) (r : Record) → is_free_state state ≡ true → has_links_in state count r ≡ true → is_below count r.next_free ≡ true
free_links Vacant count r e linked = absurd (cc)
free_links Free count r e linked = (and_parts _ _ linked).1
free_links Live count r e linked = absurd (cc)

module _ (sections : Sections) where
  abbrev next_of : ℕ → Option ℕ
  next_of slot = (at sections slot).next_free

  abbrev is_list_from : ℕ → ℕ → (before first : Option ℕ) → Bool
  is_list_from number n before first =
      is_linked (λ slot. is_free_state (at sections slot).state && (class (at sections slot).size == number)) next_of (λ slot. (at sections slot).prev_free) n before first

  -- what is found of a list of which some blocks were seen, where at most `n` are left
  abbrev found_with : ℕ → ℕ → ℕ → (before next : Option ℕ) → Option ℕ
  found_with number n blocks before next = if is_list_from number n before next then Some (blocks + length (follow n next_of next)) else None

  abbrev pub rest_found : ℕ → ℕ → (before next : Option ℕ) → Option ℕ
  rest_found number blocks before next = found_with number (length sections.records - blocks) blocks before next

  module _ (number blocks : ℕ) (before : Option ℕ) (slot : ℕ) where
    on_by : (n : ℕ) → is_behind before number (at sections slot) ≡ true → found_with number (suc n) blocks before (Some slot) ≡ found_with number n (blocks + 1) (Some slot) (next_of slot)
    on_by n on =
        let whole = linked_on (λ slot. is_free_state (at sections slot).state && (class (at sections slot).size == number)) next_of (λ slot. (at sections slot).prev_free) n before slot on in
        let one : blocks + suc (length (follow n next_of (next_of slot))) ≡ blocks + 1 + length (follow n next_of (next_of slot)) = omega arith in
        rw (whole, one) refl

    -- a block behind the one before
    pub found_on : blocks < length sections.records → is_behind before number (at sections slot) ≡ true → rest_found number blocks before (Some slot) ≡ rest_found number (blocks + 1) (Some slot) (next_of slot)
    found_on few on =
        let P : ℕ → Type 0 = λ left. found_with number left blocks before (Some slot) ≡ found_with number (length sections.records - (blocks + 1)) (blocks + 1) (Some slot) (next_of slot) in
        let one : suc (length sections.records - (blocks + 1)) ≡ length sections.records - blocks = omega (arith, few) in
        subst P one (on_by (length sections.records - (blocks + 1)) on)

    -- the block behind one of the list is of the table
    pub next_below : has_links sections ≡ true → slot < length sections.records → is_behind before number (at sections slot) ≡ true → IsBelow (length sections.records) (next_of slot)
    next_below linked within behind =
        let free = (and_parts _ _ (and_parts _ _ behind).0).0 in
        let links = record_links sections linked slot within (free_is_used (at sections slot).state free) in
        below (length sections.records) (next_of slot) (free_links (at sections slot).state (length sections.records) (at sections slot) free (and_parts _ _ links).1)

  -- no block is left
  pub found_end : (number blocks : ℕ) (before next : Option ℕ) → next ≡ None → rest_found number blocks before next ≡ Some blocks
  found_end number blocks before next is =
      let n = length sections.records - blocks in
      let P : Option ℕ → Type 0 = λ o. found_with number n blocks before o ≡ Some blocks in
      let none : blocks + 0 ≡ blocks = omega arith in
      subst P (sym is) (rw (linked_end (λ slot. is_free_state (at sections slot).state && (class (at sections slot).size == number)) next_of (λ slot. (at sections slot).prev_free) n before, follow_none n next_of, none) refl)

  -- ---- the lists of all classes

  module _ (blocks number : ℕ) where
    left_at : number < length sections.heads → lists_with sections blocks number (drop number sections.heads) ≡ lists_with sections blocks number (head_at sections.heads number ∷ drop (number + 1) sections.heads)
    left_at within = at_drop_more (lists_with sections blocks number) sections.heads number None within

    -- one list more
    pub list_on : (found : ℕ) → number < length sections.heads → list_found sections number (head_at sections.heads number) ≡ Some found → lists_with sections blocks number (drop number sections.heads) ≡ lists_with sections (blocks + found) (number + 1) (drop (number + 1) sections.heads)
    list_on found within is =
        let first = head_at sections.heads number in
        let more = drop (number + 1) sections.heads in
        let there = was_found (is_list sections number first) (length (slots_in_list sections first)) found is in
        let slots = flat_map (slots_in_list sections) more in
        let sum : blocks + length (slots_in_list sections first ++ slots) ≡ blocks + found + length slots = omega (arith, length-append (slots_in_list sections first) slots, there.1) in
        left_at within ∙ (rw (there.0, sum) refl)

    -- one that is no list
    pub list_off : number < length sections.heads → list_found sections number (head_at sections.heads number) ≡ None → lists_with sections blocks number (drop number sections.heads) ≡ None
    list_off within is = left_at within ∙ (rw (was_missed (is_list sections number (head_at sections.heads number)) (length (slots_in_list sections (head_at sections.heads number))) is) refl)

    -- no list is left
    pub lists_end : length sections.heads ≤ number → lists_with sections blocks number (drop number sections.heads) ≡ Some blocks
    lists_end all =
        let none : blocks + 0 ≡ blocks = omega arith in
        at_drop_all (lists_with sections blocks number) sections.heads number all ∙ (rw none refl)
