-- What is found in a chain, block after block.
use Rattle.std.proofs.Common.{◌≡◌, ℕ, zero, suc, ◌+◌, ◌-◌, ◌<◌, ◌≤◌, Bool, true, false, not, ◌&&◌, List, ◌∷◌, ◌++◌, length, drop, Option, Some, None, refl, sym, ap, ◌∙◌, subst, arith, inl, inr}
use Rattle.std.specs.Prelude.{if◌then◌else◌, ◌==◌, nat_eq}
use Rattle.std.proofs.lemmas.Bool.{cases_Bool, eqb-true, and_left, and_parts, both_ways, ltb-true}
use Rattle.std.specs.List.{list_all, flat_map}
use Rattle.std.proofs.Math.Bool.{and-true}
use Rattle.std.proofs.lemmas.List.Folds.{list_all_at}
use Rattle.std.proofs.lemmas.List.{length-append, at_drop_more, at_drop_all}
use Rattle.tlsf_store.specs.Cells.{pool_at}
use Rattle.tlsf_store.specs.declared.pools.Pool.{Pool}
use Rattle.tlsf_store.specs.declared.records.State.{State}
use Rattle.tlsf_store.specs.declared.records.State.TheVariants.{Vacant, Free, Live}
use Rattle.tlsf_store.specs.Records.{IsBelow, blank, is_free_state}
use Rattle.tlsf_heap.specs.declared.image.chains.Tally.{Tally}
use Rattle.tlsf_heap.specs.declared.image.chains.Front.{Front}
use Rattle.tlsf_heap.specs.Images.Image.{Sections}
use Rattle.tlsf_heap.specs.Images.Links.{follow, is_linked}
use Rattle.tlsf_heap.specs.Images.Rules.{at, is_used, is_chain, chain_of, is_below, has_links_in, has_record_links, has_links, covers, are_merged}
use Rattle.tlsf_heap.specs.Images.Findings.{chain_found, tally_with, both, front_of, is_before, tally_and}
use Rattle.tlsf_heap.proofs.Images.Totals.{not_or, was_found}
use Rattle.tlsf_heap.proofs.Images.LinkLemmas.{linked_on, linked_not_on, linked_end, follow_none}
use Rattle.tlsf_heap.specs.Inner.Entries.{entries_of}

pub free_is_used : (state : State) → is_free_state state ≡ true → is_used state ≡ true
free_is_used Vacant e = absurd (cc)
free_is_used Free e = refl
free_is_used Live e = absurd (cc)

pub below : (count : ℕ) (link : Option ℕ) → is_below count link ≡ true → IsBelow count link
below count None e = tt
below count (Some slot) e = ltb-true slot count e

module _ (sections : Sections) where
  abbrev next_of : ℕ → Option ℕ
  next_of slot = (at sections slot).next

  abbrev is_chain_from : ℕ → (before first : Option ℕ) → Bool
  is_chain_from n before first = is_linked (λ slot. is_used (at sections slot).state) next_of (λ slot. (at sections slot).prev) n before first

  -- the finding of a chain up to an end, where these blocks were seen and these slots are left behind a front
  abbrev seen_with : ℕ → Tally → Front → List ℕ → Tally
  seen_with end tally front rest = record {
    blocks = tally.blocks + length rest;
    covers = tally.covers && covers sections front.end end rest;
    is_merged = tally.is_merged && are_merged sections front.is_free rest;
  }

  -- the same where at most this many slots are left, from the next one on
  abbrev found_with : ℕ → ℕ → Tally → Front → Option ℕ → Option Tally
  found_with end n tally front next = if is_chain_from n front.block next then Some (seen_with end tally front (follow n next_of next)) else None

  abbrev pub rest_found : ℕ → Tally → Front → Option ℕ → Option Tally
  rest_found end tally front next = found_with end (length sections.records - tally.blocks) tally front next

  -- covers: a place that isn't the front's end spoils it whatever comes
  covers_on : (c : Bool) (place from size end : ℕ) (rest : List ℕ) → (c && ((place == from) && covers sections (from + size) end rest)) ≡ ((c && (place == from)) && covers sections (place + size) end rest)
  covers_on false place from size end rest = refl
  covers_on true place from size end rest = elim (cases_Bool (nat_eq place from)) [
    | inl e ↦ ap (λ f. (place == from) && covers sections (f + size) end rest) (sym (eqb-true place from e))
    | inr e ↦ and_left (nat_eq place from) (covers sections (from + size) end rest) e ∙ sym (and_left (nat_eq place from) (covers sections (place + size) end rest) e)
  ]

  and_on : (a b c : Bool) → (a && (b && c)) ≡ ((a && b) && c)
  and_on true b c = refl
  and_on false b c = refl

  seen_on : (end : ℕ) (tally : Tally) (front : Front) (slot : ℕ) (rest : List ℕ) → seen_with end tally front (slot ∷ rest) ≡ seen_with end (tally_and front (at sections slot) tally) (front_of slot (at sections slot)) rest
  seen_on end tally front slot rest =
      let r = at sections slot in
      let blocks : tally.blocks + length (slot ∷ rest) ≡ tally.blocks + 1 + length rest = omega arith in
      let covered = covers_on tally.covers r.place front.end r.size end rest in
      let merged = and_on tally.is_merged (not (front.is_free && is_free_state r.state)) (are_merged sections (is_free_state r.state) rest) in
      cc

  module _ (end : ℕ) (tally : Tally) (front : Front) (slot : ℕ) where
    on_by : (n : ℕ) → is_before front (at sections slot) ≡ true → found_with end (suc n) tally front (Some slot) ≡ found_with end n (tally_and front (at sections slot) tally) (front_of slot (at sections slot)) (next_of slot)
    on_by n on =
        let whole = linked_on (λ slot. is_used (at sections slot).state) next_of (λ slot. (at sections slot).prev) n front.block slot on in
        let seen = seen_on end tally front slot (follow n next_of (next_of slot)) in
        rw (whole, seen) refl

    stops_by : (n : ℕ) → is_before front (at sections slot) ≡ false → found_with end n tally front (Some slot) ≡ None
    stops_by zero off = refl
    stops_by (suc n) off = rw (linked_not_on (λ slot. is_used (at sections slot).state) next_of (λ slot. (at sections slot).prev) n front.block slot off) refl

    -- a block behind the front
    pub found_on : tally.blocks < length sections.records → is_before front (at sections slot) ≡ true → rest_found end tally front (Some slot) ≡ rest_found end (tally_and front (at sections slot) tally) (front_of slot (at sections slot)) (next_of slot)
    found_on few on =
        let P : ℕ → Type 0 = λ left. found_with end left tally front (Some slot) ≡ found_with end (length sections.records - (tally.blocks + 1)) (tally_and front (at sections slot) tally) (front_of slot (at sections slot)) (next_of slot) in
        let one : suc (length sections.records - (tally.blocks + 1)) ≡ length sections.records - tally.blocks = omega (arith, few) in
        subst P one (on_by (length sections.records - (tally.blocks + 1)) on)

    -- nothing that can stand behind it
    pub found_off : is_before front (at sections slot) ≡ false → rest_found end tally front (Some slot) ≡ None
    found_off off = stops_by (length sections.records - tally.blocks) off

    -- more slots than records
    pub found_more : length sections.records ≤ tally.blocks → rest_found end tally front (Some slot) ≡ None
    found_more many =
        let P : ℕ → Type 0 = λ left. found_with end left tally front (Some slot) ≡ None in
        let none : 0 ≡ length sections.records - tally.blocks = omega (arith, many) in
        subst P none refl

  ends_by : (end : ℕ) (tally : Tally) (front : Front) (n : ℕ) → found_with end n tally front None ≡ Some (record tally { covers = tally.covers && (front.end == end) })
  ends_by end tally front n =
      let merged : (tally.is_merged && true) ≡ tally.is_merged = and-true tally.is_merged in
      let blocks : tally.blocks + 0 ≡ tally.blocks = omega arith in
      rw (linked_end (λ slot. is_used (at sections slot).state) next_of (λ slot. (at sections slot).prev) n front.block, follow_none n next_of, merged, blocks) refl

  module _ (end : ℕ) (tally : Tally) (front : Front) (next : Option ℕ) (is : next ≡ None) where
    at_end : rest_found end tally front next ≡ Some (record tally { covers = tally.covers && (front.end == end) })
    at_end = let P : Option ℕ → Type 0 = λ o. rest_found end tally front o ≡ Some (record tally { covers = tally.covers && (front.end == end) }) in subst P (sym is) (ends_by end tally front (length sections.records - tally.blocks))

    -- no block is left, and those before cover all up to the front
    pub found_covered : tally.covers ≡ true → rest_found end tally front next ≡ Some (record tally { covers = front.end == end })
    found_covered covers = at_end ∙ ap (λ c. Some (record tally { covers = c && (front.end == end) })) covers

    -- the same where they don't
    pub found_uncovered : tally.covers ≡ false → rest_found end tally front next ≡ Some (record tally { covers = false })
    found_uncovered covers = at_end ∙ ap (λ c. Some (record tally { covers = c && (front.end == end) })) covers

  first_by : (pool : Pool) → found_with (pool.base + pool.bytes) (length sections.records) (record { blocks = 0; covers = true; is_merged = true }) (record { block = None; end = pool.base; is_free = false }) (Some pool.first) ≡ chain_found sections pool
  first_by pool =
      let rest = follow (length sections.records) next_of (Some pool.first) in
      let none : 0 + length rest ≡ length rest = omega arith in
      rw none refl

  -- all is left
  pub found_first : (pool : Pool) → rest_found (pool.base + pool.bytes) (record { blocks = 0; covers = true; is_merged = true }) (record { block = None; end = pool.base; is_free = false }) (Some pool.first) ≡ chain_found sections pool
  found_first pool =
      let P : ℕ → Type 0 = λ left. found_with (pool.base + pool.bytes) left (record { blocks = 0; covers = true; is_merged = true }) (record { block = None; end = pool.base; is_free = false }) (Some pool.first) ≡ chain_found sections pool in
      let all : length sections.records ≡ length sections.records - 0 = omega arith in
      subst P all (first_by pool)

  -- a block of the table has bytes and links of the table
  pub record_links : has_links sections ≡ true → (slot : ℕ) → slot < length sections.records → is_used (at sections slot).state ≡ true → ((is_below (length sections.records) (at sections slot).prev && is_below (length sections.records) (next_of slot)) && has_links_in (at sections slot).state (length sections.records) (at sections slot)) ≡ true
  record_links linked slot within used =
      let r = at sections slot in
      elim (cases_Bool (has_record_links (length sections.records) r)) [
        | inl e ↦ (and_parts _ _ (not_or (is_used r.state) _ e used)).1
        | inr e ↦ absurd (both_ways _ (list_all_at (has_record_links (length sections.records)) sections.records slot blank within e) (and_parts _ _ linked).1)
      ]

  -- the block behind a block of the table is of the table
  pub next_below : has_links sections ≡ true → (slot : ℕ) → slot < length sections.records → is_used (at sections slot).state ≡ true → IsBelow (length sections.records) (next_of slot)
  next_below linked slot within used = below (length sections.records) (next_of slot) (and_parts _ _ (and_parts _ _ (record_links linked slot within used)).0).1

  -- ---- the chains of all pools

  abbrev tally_of : Pool → Tally
  tally_of pool = record {
    blocks = length (chain_of sections pool);
    covers = covers sections pool.base (pool.base + pool.bytes) (chain_of sections pool);
    is_merged = are_merged sections false (chain_of sections pool);
  }

  module _ (tally : Tally) (pool : Pool) (pools : List (Option Pool)) where
    both_on : is_chain sections pool ≡ true → tally_with sections tally (Some pool ∷ pools) ≡ tally_with sections (both tally (tally_of pool)) pools
    both_on is =
        let one = tally_of pool in
        let rest = entries_of pools in
        let slots = flat_map (chain_of sections) rest in
        let blocks : tally.blocks + length (chain_of sections pool ++ slots) ≡ tally.blocks + one.blocks + length slots = omega (arith, length-append (chain_of sections pool) slots) in
        let covered = and_on tally.covers one.covers (list_all (λ pool. covers sections pool.base (pool.base + pool.bytes) (chain_of sections pool)) rest) in
        let merged = and_on tally.is_merged one.is_merged (list_all (λ pool. are_merged sections false (chain_of sections pool)) rest) in
        rw (is, blocks, covered, merged) refl

    -- one chain more
    pub tally_on : (found : Tally) → chain_found sections pool ≡ Some found → tally_with sections tally (Some pool ∷ pools) ≡ tally_with sections (both tally found) pools
    tally_on found is =
        let there = was_found (is_chain sections pool) (tally_of pool) found is in
        let P : Tally → Type 0 = λ found. tally_with sections tally (Some pool ∷ pools) ≡ tally_with sections (both tally found) pools in
        subst P there.1 (both_on there.0)

  module _ (tally : Tally) (number : ℕ) where
    left_at : (pool : Option Pool) → number < length sections.pools → pool_at sections.pools number ≡ pool → tally_with sections tally (drop number sections.pools) ≡ tally_with sections tally (pool ∷ drop (number + 1) sections.pools)
    left_at pool within is =
        at_drop_more (tally_with sections tally) sections.pools number None within ∙ ap (λ p. tally_with sections tally (p ∷ drop (number + 1) sections.pools)) is

    -- the pool of the number has a chain, or a chain that is none; or there is no pool
    pub pool_on : (pool : Pool) (found : Tally) → number < length sections.pools → pool_at sections.pools number ≡ Some pool → chain_found sections pool ≡ Some found → tally_with sections tally (drop number sections.pools) ≡ tally_with sections (both tally found) (drop (number + 1) sections.pools)
    pool_on pool found within is chain = left_at (Some pool) within is ∙ tally_on tally pool (drop (number + 1) sections.pools) found chain

    pub pool_none : number < length sections.pools → pool_at sections.pools number ≡ None → tally_with sections tally (drop number sections.pools) ≡ tally_with sections tally (drop (number + 1) sections.pools)
    pool_none within is = left_at None within is

    -- no pool is left
    pub pools_end : length sections.pools ≤ number → tally_with sections tally (drop number sections.pools) ≡ Some tally
    pools_end all =
        let blocks : tally.blocks + 0 ≡ tally.blocks = omega arith in
        at_drop_all (tally_with sections tally) sections.pools number all ∙ (rw (blocks, and-true tally.covers, and-true tally.is_merged) refl)
