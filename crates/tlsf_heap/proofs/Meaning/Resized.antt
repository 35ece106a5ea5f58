-- What a layout stands for after the node at a position got another size in its place.
use Rattle.std.proofs.Common.{◌≡◌, ℕ, ◌+◌, ◌-◌, List, [], ◌∷◌, ◌++◌, length, map, refl, sym, ap, ◌∙◌, arith, Option, Some, None, option_map, subst, true, false, cond}
use Rattle.tlsf_class.specs.Classes.{classes}
use Rattle.tlsf_heap.specs.Content.{Block, Content}
use Rattle.tlsf_heap.specs.Lists.{link}
use Rattle.tlsf_heap.specs.Malloc.{gap, link_gap, split}
use Rattle.tlsf_heap.specs.Free.{unlink_block, size_of}
use Rattle.tlsf_heap.specs.Realloc.{resized}
use Rattle.tlsf_heap.specs.Good.{IsGood}
use Rattle.tlsf_heap.specs.Inner.Nodes.{InUse, Listed, Node, turned, block_of, content_by, entered, gap_nodes, entered_gap}
use Rattle.tlsf_heap.specs.Inner.Positions.{Position, filled, laid, listed_first, past, left_by, merged_with_behind}
use Rattle.tlsf_heap.proofs.Meaning.BlockPositions.{filled_pools}
use Rattle.tlsf_heap.proofs.Meaning.FreeFirst.{past_free}
use Rattle.tlsf_heap.proofs.Meaning.Places.{block_position, pools_are, AgreeOnce, by_places, places-entered}
use Rattle.tlsf_heap.proofs.Meaning.Freed.{NoneLoose, listed_is_free, past_is, full_front, lists_back}
use Rattle.tlsf_heap.proofs.Meaning.ResizedIsGood.{resized_is}
use Rattle.std.specs.Prelude.{◌==◌}
use Rattle.std.proofs.lemmas.List.{map-append}
use Rattle.tlsf_heap.specs.Inner.At.{layout_at, next_merged, at_split_rest}

-- a gap as a node and as a block
pub gap_is : (slot place size : ℕ) → map block_of (gap_nodes slot place size) ≡ gap place size
gap_is slot place size = elim (size == 0) as (λ b. map block_of (cond b [] (record { slot = slot; place = place; size = size; state = Listed } ∷ [])) ≡ cond b [] (record { place = place; size = size; owner = None } ∷ [])) [ true ↦ refl | false ↦ refl ]

pub gap_entered : (slot place size : ℕ) (lists : List (List Node)) → length lists ≡ classes → by_places (entered_gap slot place size lists) ≡ link_gap place size (by_places lists)
gap_entered slot place size lists full =
    let node : Node = record { slot = slot; place = place; size = size; state = Listed } in
    elim (size == 0) as (λ b. by_places (cond b lists (entered node lists)) ≡ cond b (by_places lists) (link place size (by_places lists))) [ true ↦ refl | false ↦ places-entered node lists full ]

module _ (count : ℕ) (position : Position) (node : Node) (nodes : List Node) (lists : List (List Node)) (taken : List ℕ) (agreed : AgreeOnce (filled position (turned InUse node ∷ nodes)) lists) (settled : NoneLoose nodes)
    (good : IsGood (content_by (laid count position (turned InUse node ∷ nodes) lists taken))) where
  abbrev next : Option Node
  next = listed_first nodes

  -- the bytes of the node and of the listed one behind it
  abbrev size : ℕ
  size = node.size + size_of (option_map block_of next)

  -- where these are the next block and what is behind it
  abbrev after : ℕ → Option (Block ℕ) → List (Block ℕ) → Content ℕ
  after m o others = record {
    records = count;
    pools = filled_pools (block_position position) (split node.slot node.place m (node.size + size_of o) ++ others);
    lists = link_gap (node.place + m) ((node.size + size_of o) - m) (unlink_block o (by_places lists));
  }

  resized_by : (m : ℕ) → resized node.slot node.place m (content_by (laid count position (turned InUse node ∷ nodes) lists taken)) ≡ after m (option_map block_of next) (map block_of (past nodes))
  resized_by m =
      let P : Content ℕ → Type 0 = λ x. IsGood x in
      let old : Content ℕ = record { records = count; pools = filled_pools (block_position position) (block_of (turned InUse node) ∷ map block_of nodes); lists = by_places lists } in
      let is : content_by (laid count position (turned InUse node ∷ nodes) lists taken) ≡ old = ap (λ pools. record { records = count; pools = pools; lists = by_places lists }) (pools_are position (turned InUse node ∷ nodes)) in
      ap (resized node.slot node.place m) is
      ∙ resized_is node.slot m (block_of (turned InUse node)) (map block_of nodes) (by_places lists) count (block_position position) (subst P is good)
      ∙ ap (λ o. after m o (past_free (map block_of nodes))) (listed_is_free nodes settled)
      ∙ ap (after m (option_map block_of next)) (past_is nodes settled)

  -- the same, where these are the bytes of both
  abbrev with_bytes : ℕ → ℕ → Option (Block ℕ) → List (Block ℕ) → Content ℕ
  with_bytes m n o others = record {
    records = count;
    pools = filled_pools (block_position position) (split node.slot node.place m n ++ others);
    lists = link_gap (node.place + m) (n - m) (unlink_block o (by_places lists));
  }

  -- the node keeps its first bytes, and what is left is linked, where anything is
  rest_split : (m rest n : ℕ) (kept : List ℕ) (o : Option (Block ℕ)) (others : List Node) (left : List (List Node)) → length left ≡ classes → by_places left ≡ unlink_block o (by_places lists)
      → content_by (laid count position (record (turned InUse node) { size = m } ∷ (gap_nodes rest (node.place + m) (n - m) ++ others)) (entered_gap rest (node.place + m) (n - m) left) kept)
      ≡ with_bytes m n o (map block_of others)
  rest_split m rest n kept o others left full out =
      let first : Node = record (turned InUse node) { size = m } in
      let gaps : List Node = gap_nodes rest (node.place + m) (n - m) in
      let blocks : map block_of (gaps ++ others) ≡ gap (node.place + m) (n - m) ++ map block_of others = map-append block_of gaps others ∙ ap (λ b. b ++ map block_of others) (gap_is rest (node.place + m) (n - m)) in
      let by_pools = pools_are position (first ∷ (gaps ++ others)) ∙ ap (λ b. filled_pools (block_position position) (block_of first ∷ b)) blocks in
      let by_lists = gap_entered rest (node.place + m) (n - m) left full ∙ ap (link_gap (node.place + m) (n - m)) out in
      λ i. record { records = count; pools = by_pools i; lists = by_lists i }

  -- the node with the listed one behind it, where one is, keeps its first bytes
  pub rest_split_is : (rest m : ℕ) (kept : List ℕ) → content_by (layout_at (at_split_rest rest m (next_merged (record { count = count; position = position; node = turned InUse node; nodes = nodes; lists = lists; taken = kept }))))
      ≡ resized node.slot node.place m (content_by (laid count position (turned InUse node ∷ nodes) lists taken))
  rest_split_is rest m kept = go next (past nodes) (left_by next lists) (full_front position (turned InUse node) nodes lists agreed next) (lists_back position (turned InUse node) nodes lists agreed None) ∙ sym (resized_by m)
    where
      go : (o : Option Node) (others : List Node) (left : List (List Node)) → length left ≡ classes → by_places left ≡ unlink_block (option_map block_of o) (by_places lists)
          → content_by (layout_at (at_split_rest rest m (record { count = count; position = position; node = merged_with_behind o (turned InUse node); nodes = others; lists = left; taken = kept })))
          ≡ after m (option_map block_of o) (map block_of others)
      go None others left full out =
          let own : node.size ≡ node.size + 0 = omega arith in
          rest_split m rest node.size kept None others left full out ∙ ap (λ n. with_bytes m n None (map block_of others)) own
      go (Some b) others left full out = rest_split m rest (node.size + b.size) kept (Some (block_of b)) others left full out
