-- The block of a node at a position, in what the layout stands for.
use Rattle.std.proofs.Common.{◌≡◌, ℕ, List, ◌∷◌, ◌++◌, map, sym, ap, ◌∙◌, Option}
use Rattle.std.proofs.lemmas.List.{map-append}
use Rattle.tlsf_heap.specs.Content.{Block, blocks_of, size_at}
use Rattle.tlsf_heap.specs.Malloc.{replaced_in}
use Rattle.tlsf_heap.specs.Free.{next_of, first_in_pools}
use Rattle.tlsf_heap.specs.Inner.Nodes.{Node, block_of, pool_of}
use Rattle.tlsf_heap.specs.Inner.Positions.{Position, filled}
use Rattle.tlsf_heap.proofs.Meaning.BlockPositions.{leading_block, filled_pools, IsAlone, replaced_at, back_at, size_here}
use Rattle.tlsf_heap.proofs.Meaning.Places.{block_position, pools_are}

-- the block of the first node
abbrev pub first_block : List Node → Option (Block ℕ)
first_block nodes = leading_block (map block_of nodes)

module _ (position : Position) (node : Node) (nodes : List Node) (alone : IsAlone (block_position position) (block_of node) (map block_of nodes)) where
  -- the node gives way to other nodes
  pub pools_replaced : (news : List Node) → map (replaced_in node.place (map block_of news)) (map pool_of (filled position (node ∷ nodes))) ≡ map pool_of (filled position (news ++ nodes))
  pools_replaced news =
      ap (map (replaced_in node.place (map block_of news))) (pools_are position (node ∷ nodes))
      ∙ replaced_at (block_position position) (block_of node) (map block_of nodes) alone (map block_of news)
      ∙ ap (filled_pools (block_position position)) (sym (map-append block_of news nodes))
      ∙ sym (pools_are position (news ++ nodes))

  -- the block behind it is that of the next node
  pub back_is : first_in_pools (next_of node.place) (map pool_of (filled position (node ∷ nodes))) ≡ first_block nodes
  back_is = ap (first_in_pools (next_of node.place)) (pools_are position (node ∷ nodes)) ∙ back_at (block_position position) (block_of node) (map block_of nodes) alone

  pub size_is : size_at node.place (blocks_of (map pool_of (filled position (node ∷ nodes)))) ≡ node.size
  size_is = ap (λ pools. size_at node.place (blocks_of pools)) (pools_are position (node ∷ nodes)) ∙ size_here (block_position position) (block_of node) (map block_of nodes) alone
