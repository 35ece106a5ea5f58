-- What a layout stands for after the node at a position was split: for an alignment, or as malloc splits it.
use Rattle.std.proofs.Common.{◌≡◌, ℕ, ◌+◌, ◌-◌, List, [], ◌∷◌, ◌++◌, length, map, refl, sym, ap, ◌∙◌, arith, true, false, cond}
use Rattle.std.proofs.lemmas.List.{map-append, append_assoc}
use Rattle.tlsf_class.specs.Classes.{classes}
use Rattle.tlsf_heap.specs.Content.{Pool, Content}
use Rattle.tlsf_heap.specs.Lists.{unlink}
use Rattle.tlsf_heap.specs.Malloc.{gap, link_gap, replaced_in, split, allocated}
use Rattle.tlsf_heap.specs.Memalign.{aligned}
use Rattle.tlsf_heap.specs.Inner.Nodes.{Node, InUse, Listed, turned, block_of, pool_of, content_by, left, gap_nodes, entered_gap, entered}
use Rattle.tlsf_heap.specs.Inner.Positions.{Position, filled}
use Rattle.tlsf_heap.specs.Inner.At.{At, layout_at, at_taken, at_split_rest, at_gapped}
use Rattle.tlsf_heap.proofs.Inner.Lists.{length-left, length-entered}
use Rattle.tlsf_heap.proofs.Meaning.Places.{AgreeOnce, alone, alike, by_places, places-left}
use Rattle.tlsf_heap.proofs.Meaning.NodeBlocks.{pools_replaced}
use Rattle.tlsf_heap.proofs.Meaning.Resized.{gap_is, gap_entered}
use Rattle.std.specs.Prelude.{◌==◌}
use Rattle.std.proofs.Math.Nat.{sub-zero}
use Rattle.tlsf_heap.proofs.Meaning.SplitInThree.{aligned_here}

module _ (count : ℕ) (position : Position) (node : Node) (nodes : List Node) (lists : List (List Node)) (agreed : AgreeOnce (filled position (turned Listed node ∷ nodes)) lists) where
  abbrev pools : List (Pool ℕ)
  pools = map pool_of (filled position (turned Listed node ∷ nodes))

  abbrev old_at : List ℕ → At
  old_at taken = record { count = count; position = position; node = turned Listed node; nodes = nodes; lists = lists; taken = taken }

  -- where the gap has these bytes
  abbrev aligned_by : (live start m g : ℕ) → List ℕ → Content ℕ
  aligned_by live start m g taken = record (content_by (layout_at (old_at taken))) {
    pools = map (replaced_in node.place (gap node.place g ++ split live start m (node.size - g))) pools;
    lists = link_gap (start + m) ((node.size - g) - m) (link_gap node.place g (unlink node.place node.size (by_places lists)));
  }

  -- a gap of the first bytes, a live block of m bytes, and what is left behind it
  pub aligned_is : (live rest front m : ℕ) (taken kept : List ℕ)
      → content_by (layout_at (at_split_rest rest m (at_gapped live front (at_taken (old_at kept))))) ≡ aligned live (node.place + front) m node.place node.size (content_by (layout_at (old_at taken)))
  aligned_is live rest front m taken kept =
      let start : ℕ = node.place + front in
      let left_over : ℕ = (node.size - front) - m in
      let block : Node = record { slot = live; place = start; size = m; state = InUse } in
      let gaps : List Node = gap_nodes node.slot node.place front in
      let rests : List Node = gap_nodes rest (start + m) left_over in
      let news : map block_of (gaps ++ (block ∷ rests)) ≡ gap node.place front ++ split live start m (node.size - front) =
      map-append block_of gaps (block ∷ rests)
      ∙ ap (λ b. b ++ (block_of block ∷ map block_of rests)) (gap_is node.slot node.place front)
      ∙ ap (λ b. gap node.place front ++ (block_of block ∷ b)) (gap_is rest (start + m) left_over) in
      let by_pools : map pool_of (filled (record position { before = gaps ++ position.before }) (block ∷ (rests ++ nodes))) ≡ map (replaced_in node.place (gap node.place front ++ split live start m (node.size - front))) pools =
      ap (map pool_of) (behind_gap (block ∷ (rests ++ nodes)) node.slot node.place front)
      ∙ ap (λ ns. map pool_of (filled position ns)) (sym (append_assoc gaps (block ∷ rests) nodes))
      ∙ sym (pools_replaced position (turned Listed node) nodes (alone position (turned Listed node) nodes agreed.places) (gaps ++ (block ∷ rests)))
      ∙ ap (λ blocks. map (replaced_in node.place blocks) pools) news in
      let out = length-left (turned Listed node) lists agreed.full in
      let by_lists : by_places (entered_gap rest (start + m) left_over (entered_gap node.slot node.place front (left (turned Listed node) lists))) ≡ link_gap (start + m) left_over (link_gap node.place front (unlink node.place node.size (by_places lists))) =
      gap_entered rest (start + m) left_over (entered_gap node.slot node.place front (left (turned Listed node) lists)) (full_gap node.slot node.place front (left (turned Listed node) lists) out)
      ∙ ap (link_gap (start + m) left_over) (gap_entered node.slot node.place front (left (turned Listed node) lists) out ∙ ap (link_gap node.place front) (places-left (turned Listed node) lists agreed.full (alike (turned Listed node) lists position (turned Listed node) nodes refl refl agreed))) in
      let front_is : (node.place + front) - node.place ≡ front = omega arith in
      (λ i. record { records = count; pools = by_pools i; lists = by_lists i }) ∙ sym (ap (λ g. aligned_by live start m g taken) front_is)
    where
      -- what stands behind a gap in front of a position
      behind_gap : (ns : List Node) (slot place size : ℕ) → filled (record position { before = gap_nodes slot place size ++ position.before }) ns ≡ filled position (gap_nodes slot place size ++ ns)
      behind_gap ns slot place size =
          let gap_node : Node = record { slot = slot; place = place; size = size; state = Listed } in
          elim (size == 0) as (λ b. filled (record position { before = cond b [] (gap_node ∷ []) ++ position.before }) ns ≡ filled position (cond b [] (gap_node ∷ []) ++ ns)) [ true ↦ refl | false ↦ refl ]

      full_gap : (slot place size : ℕ) (ls : List (List Node)) → length ls ≡ classes → length (entered_gap slot place size ls) ≡ classes
      full_gap slot place size ls full =
          let gap_node : Node = record { slot = slot; place = place; size = size; state = Listed } in
          elim (size == 0) as (λ b. length (cond b ls (entered gap_node ls)) ≡ classes) [ true ↦ full | false ↦ length-entered gap_node ls full ]

  -- with no gap in front it is taken as malloc takes it: whole, or split at m bytes
  pub allocated_is : (rest m : ℕ) (taken kept : List ℕ) → content_by (layout_at (at_split_rest rest m (at_taken (old_at kept)))) ≡ allocated node.slot node.place m node.size (content_by (layout_at (old_at taken)))
  allocated_is rest m taken kept =
      let here : node.place + 0 ≡ node.place = omega arith in
      let all : node.size - 0 ≡ node.size = sub-zero node.size in
      let of : ℕ → ℕ → Content ℕ = λ place size. content_by (layout_at (at_split_rest rest m (record (at_taken (old_at kept)) { node = record (turned InUse node) { place = place; size = size } }))) in
      let same : of (node.place + 0) (node.size - 0) ≡ of node.place node.size = λ i. of (here i) (all i) in
      sym same
      ∙ aligned_is node.slot rest 0 m taken kept
      ∙ ap (λ start. aligned node.slot start m node.place node.size (content_by (layout_at (old_at taken)))) here
      ∙ aligned_here node.slot m node.place node.size (content_by (layout_at (old_at taken)))
