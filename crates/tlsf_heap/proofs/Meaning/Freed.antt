-- What a layout stands for after the node at a position was freed.
use Rattle.std.proofs.Common.{◌≡◌, ℕ, ◌+◌, true, false, cond, List, [], ◌∷◌, length, map, refl, sym, ap, ◌∙◌, subst, arith, count_by, Option, Some, None, option_map, inl, inr}
use Rattle.std.specs.Prelude.{is_none}
use Rattle.std.proofs.lemmas.Bool.{cases_Bool}
use Rattle.tlsf_class.specs.Classes.{classes}
use Rattle.tlsf_heap.specs.Content.{Block, Pool, Content}
use Rattle.tlsf_heap.specs.Lists.{link}
use Rattle.tlsf_heap.specs.Free.{if_free, unlink_block, size_of, start_of, free_block, after_free}
use Rattle.tlsf_heap.specs.Good.{IsGood}
use Rattle.tlsf_heap.specs.Inner.Nodes.{NodeState, InUse, Listed, Loose, Node, turned, owner_of, block_of, pool_of, content_by, is_listed_state, Layout, entered}
use Rattle.tlsf_heap.specs.Inner.Positions.{Position, filled, laid, is_loose, listed_first, past, left_by, merged_with_front, merged_with_behind, position_past}
use Rattle.tlsf_heap.proofs.Counts.{one_if, count-cons}
use Rattle.tlsf_heap.proofs.Inner.Lists.{length-left}
use Rattle.tlsf_heap.proofs.Meaning.BlockPositions.{filled_pools}
use Rattle.tlsf_heap.proofs.Meaning.Places.{block_position, pools_are, AgreeOnce, Alike, alike, alike-left, by_places, places-entered, places-left}
use Rattle.tlsf_heap.proofs.Meaning.NodeBlocks.{first_block}
use Rattle.tlsf_heap.proofs.Meaning.FreeFirst.{past_free, free_first, merged_of}
use Rattle.tlsf_heap.proofs.Meaning.FreedIsGood.{after_is}

-- the node that is left of a node and those beside it
abbrev pub merged_node : Position → Node → List Node → Node
merged_node position node nodes = merged_with_behind (listed_first nodes) (merged_with_front (listed_first position.before) node)

-- the layout after the node at the position was freed: one listed node is left of it and those beside it
abbrev pub freed_layout : ℕ → Position → Node → List Node → List (List Node) → List ℕ → Layout
freed_layout count position node nodes lists taken =
    let merged = turned Listed (merged_node position node nodes) in
    laid count (position_past position) (merged ∷ past nodes) (entered merged (left_by (listed_first nodes) (left_by (listed_first position.before) lists))) taken

-- no node is loose
abbrev pub NoneLoose : List Node → Type 0
NoneLoose nodes = count_by (λ node. is_loose node.state) nodes ≡ 0

-- where no node is loose, the free ones are listed
free_is : (node : Node) (nodes : List Node) → NoneLoose (node ∷ nodes) → is_none (owner_of node.state node.slot) ≡ is_listed_state node.state
free_is node nodes none = by_node_state node.state (elim (cases_Bool (is_loose node.state)) [
  | inl loose ↦ absurd (omega (arith, none, count-cons (λ n. is_loose n.state) node nodes, ap one_if loose))
  | inr settled ↦ settled
])
  where
    by_node_state : (node_state : NodeState) → is_loose node_state ≡ false → is_none (owner_of node_state node.slot) ≡ is_listed_state node_state
    by_node_state InUse settled = refl
    by_node_state Listed settled = refl
    by_node_state Loose settled = absurd (cc)

pub listed_is_free : (nodes : List Node) → NoneLoose nodes → if_free (first_block nodes) ≡ option_map block_of (listed_first nodes)
listed_is_free [] none = refl
listed_is_free (node ∷ nodes) none =
    ap (λ b. cond b (Some (block_of node)) None) (free_is node nodes none)
    ∙ elim (is_listed_state node.state) as (λ b. cond b (Some (block_of node)) None ≡ option_map block_of (cond b (Some node) None)) [ true ↦ refl | false ↦ refl ]

-- and what is behind the first is the same
pub past_is : (nodes : List Node) → NoneLoose nodes → past_free (map block_of nodes) ≡ map block_of (past nodes)
past_is [] none = refl
past_is (node ∷ nodes) none =
    ap (λ b. cond b (map block_of nodes) (block_of node ∷ map block_of nodes)) (free_is node nodes none)
    ∙ elim (is_listed_state node.state) as (λ b. cond b (map block_of nodes) (block_of node ∷ map block_of nodes) ≡ map block_of (cond b nodes (node ∷ nodes))) [ true ↦ refl | false ↦ refl ]

module _ (position : Position) (node : Node) (nodes : List Node) (lists : List (List Node)) (agreed : AgreeOnce (filled position (node ∷ nodes)) lists) where
  abbrev front : Option Node
  front = listed_first position.before

  abbrev back : Option Node
  back = listed_first nodes

  pub full_front : (o : Option Node) → length (left_by o lists) ≡ classes
  full_front None = agreed.full
  full_front (Some f) = length-left f lists agreed.full

  full_back : (o p : Option Node) → length (left_by p (left_by o lists)) ≡ classes
  full_back o None = full_front o
  full_back o (Some b) = length-left b (left_by o lists) (full_front o)

  still_alike : (b : Node) (o : Option Node) → Alike b lists → Alike b (left_by o lists)
  still_alike b None same = same
  still_alike b (Some f) same = alike-left b f lists agreed.full same

  -- a listed neighbour leaves its list, also where the other left
  neighbour_left : (at : Position) (n : Node) (others : List Node) (o : Option Node) → AgreeOnce (filled at (n ∷ others)) lists
      → by_places (left_by (cond (is_listed_state n.state) (Some n) None) (left_by o lists)) ≡ unlink_block (option_map block_of (cond (is_listed_state n.state) (Some n) None)) (by_places (left_by o lists))
  neighbour_left at n others o there = elim (is_listed_state n.state) as (λ b. by_places (left_by (cond b (Some n) None) (left_by o lists)) ≡ unlink_block (option_map block_of (cond b (Some n) None)) (by_places (left_by o lists))) [
    | true ↦ places-left n (left_by o lists) (full_front o) (still_alike n o (alike n lists at n others refl refl there))
    | false ↦ refl
  ]

  lists_front : by_places (left_by front lists) ≡ unlink_block (option_map block_of front) (by_places lists)
  lists_front = go position.before agreed
    where
      go : (before : List Node) → AgreeOnce (filled (record position { before = before }) (node ∷ nodes)) lists → by_places (left_by (listed_first before) lists) ≡ unlink_block (option_map block_of (listed_first before)) (by_places lists)
      go [] there = refl
      go (f ∷ before) there = neighbour_left (record position { before = before }) f (node ∷ nodes) None there

  pub lists_back : (o : Option Node) → by_places (left_by back (left_by o lists)) ≡ unlink_block (option_map block_of back) (by_places (left_by o lists))
  lists_back o = go nodes agreed
    where
      go : (others : List Node) → AgreeOnce (filled position (node ∷ others)) lists → by_places (left_by (listed_first others) (left_by o lists)) ≡ unlink_block (option_map block_of (listed_first others)) (by_places (left_by o lists))
      go [] there = refl
      go (b ∷ others) there = neighbour_left (record position { before = node ∷ position.before }) b others o there

  -- the block that is left
  block_merged : (f b : Option Node) → block_of (turned Listed (merged_with_behind b (merged_with_front f node))) ≡ merged_of (option_map block_of f) (block_of node) (option_map block_of b)
  block_merged None None = let n : node.size ≡ 0 + node.size + 0 = omega arith in ap (free_block node.place) n
  block_merged None (Some b) = let n : node.size + b.size ≡ 0 + node.size + b.size = omega arith in ap (free_block node.place) n
  block_merged (Some f) None = let n : f.size + node.size ≡ f.size + node.size + 0 = omega arith in ap (free_block f.place) n
  block_merged (Some f) (Some b) = refl

  -- the content after free, where these are the neighbours and these the blocks beside them
  abbrev after : ℕ → (f b : Option (Block ℕ)) → (before behind : List (Block ℕ)) → Content ℕ
  after count f b before behind = record {
    records = count;
    pools = filled_pools (record (block_position position) { before = before }) (merged_of f (block_of node) b ∷ behind);
    lists = link (start_of f node.place) (size_of f + node.size + size_of b) (unlink_block b (unlink_block f (by_places lists)));
  }

  pub freed_is : (count : ℕ) (taken kept : List ℕ) → node.state ≡ InUse → NoneLoose position.before → NoneLoose nodes → IsGood (content_by (laid count position (node ∷ nodes) lists taken))
      → content_by (freed_layout count position node nodes lists kept) ≡ after_free node.place (content_by (laid count position (node ∷ nodes) lists taken))
  freed_is count taken kept in_use before_settled behind_settled good =
      let merged : Node = turned Listed (merged_node position node nodes) in
      let block_is = block_merged front back in
      let by_pools = pools_are (position_past position) (merged ∷ past nodes) ∙ ap (λ block. filled_pools (block_position (position_past position)) (block ∷ map block_of (past nodes))) block_is in
      let by_lists =
      places-entered merged (left_by back (left_by front lists)) (full_back front back)
      ∙ ap (λ (block : Block ℕ). link block.place block.size (by_places (left_by back (left_by front lists)))) block_is
      ∙ ap (link (start_of (option_map block_of front) node.place) (size_of (option_map block_of front) + node.size + size_of (option_map block_of back))) (lists_back front ∙ ap (unlink_block (option_map block_of back)) lists_front) in
      let new_is : content_by (freed_layout count position node nodes lists kept) ≡ after count (option_map block_of front) (option_map block_of back) (map block_of (past position.before)) (map block_of (past nodes)) = λ i. record { records = count; pools = by_pools i; lists = by_lists i } in
      let by_blocks : after count (free_first (map block_of position.before)) (free_first (map block_of nodes)) (past_free (map block_of position.before)) (past_free (map block_of nodes))
      ≡ after count (option_map block_of front) (option_map block_of back) (map block_of (past position.before)) (map block_of (past nodes)) =
      λ i. after count (listed_is_free position.before before_settled i) (listed_is_free nodes behind_settled i) (past_is position.before before_settled i) (past_is nodes behind_settled i) in
      let of : List (Pool ℕ) → Content ℕ = λ pools. record { records = count; pools = pools; lists = by_places lists } in
      let P : Content ℕ → Type 0 = λ x. IsGood x in
      let is : of (map pool_of (filled position (node ∷ nodes))) ≡ of (filled_pools (block_position position) (map block_of (node ∷ nodes))) = ap of (pools_are position (node ∷ nodes)) in
      let live : is_none (owner_of node.state node.slot) ≡ false = ap (λ s. is_none (owner_of s node.slot)) in_use in
      new_is ∙ sym by_blocks ∙ sym (ap (after_free node.place) is ∙ after_is count (block_position position) (block_of node) (map block_of nodes) (by_places lists) (subst P is good) live)
