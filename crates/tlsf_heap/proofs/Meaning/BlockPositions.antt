-- A block at a position among the blocks of all pools: it gives way to others, its size, and the blocks beside it.
use Rattle.std.proofs.Common.{◌≡◌, ℕ, ◌+◌, ◌≤◌, Bool, true, false, List, [], ◌∷◌, ◌++◌, map, find, refl, ap, ◌∙◌, arith, count_by, Option, Some, None, option_map, unwrap_or, inl, inr}
use Rattle.std.specs.Option.{option_or}
use Rattle.std.proofs.lemmas.Bool.{cases_Bool, cases_lt, eq-eqb, eqb-true}
use Rattle.tlsf_heap.specs.Content.{Block, Pool, blocks_of, is_at, size_at}
use Rattle.tlsf_heap.specs.Malloc.{replaced, replaced_in}
use Rattle.tlsf_heap.specs.Free.{previous_of, next_of, first_in_pools}
use Rattle.tlsf_heap.specs.Inner.Positions.{plug}
use Rattle.tlsf_heap.proofs.Content.Blocks.{Ascends, NoneAt, NoneAt-below}
use Rattle.tlsf_heap.proofs.Counts.{one_if, count-cons, count-append, count-plug, FirstPassing, first_passing}
use Rattle.tlsf_heap.proofs.Inner.Plugs.{map-plug}

option_or-None : {B : Type 0} (o : Option B) → option_or o None ≡ o
option_or-None None = refl
option_or-None (Some b) = refl

-- a place between the blocks of a pool, what is in front nearest first
pub record BlockPosition (A : Type 0) : Type 0 where
  pub pools_before : List (Pool A)
  pub base : ℕ
  pub bytes : ℕ
  pub before : List (Block A)
  pub pools_behind : List (Pool A)

-- the first of the blocks
abbrev pub leading_block : {A : Type 0} → List (Block A) → Option (Block A)
leading_block [] = None
leading_block (block ∷ blocks) = Some block

module _ {A : Type 0} where
  abbrev pub pool_at : BlockPosition A → List (Block A) → Pool A
  pool_at position blocks = record { base = position.base; bytes = position.bytes; blocks = plug position.before blocks }

  -- the pools with these blocks at the position
  abbrev pub filled_pools : BlockPosition A → List (Block A) → List (Pool A)
  filled_pools position blocks = plug position.pools_before (pool_at position blocks ∷ position.pools_behind)

  abbrev pub around_blocks : (Block A → Bool) → BlockPosition A → ℕ
  around_blocks p position = count_by p (blocks_of position.pools_before) + count_by p position.before + count_by p (blocks_of position.pools_behind)

  pub count-blocks : (p : Block A → Bool) (pool : Pool A) (pools : List (Pool A)) → count_by p (blocks_of (pool ∷ pools)) ≡ count_by p pool.blocks + count_by p (blocks_of pools)
  count-blocks p pool pools = count-append p pool.blocks (blocks_of pools)

  count-blocks-plug : (p : Block A → Bool) (front behind : List (Pool A)) → count_by p (blocks_of (plug front behind)) ≡ count_by p (blocks_of front) + count_by p (blocks_of behind)
  count-blocks-plug p [] behind = omega arith
  count-blocks-plug p (pool ∷ front) behind = omega (arith, count-blocks-plug p front (pool ∷ behind), count-blocks p pool behind, count-blocks p pool front)

  pub count-filled_pools : (p : Block A → Bool) (position : BlockPosition A) (blocks : List (Block A)) → count_by p (blocks_of (filled_pools position blocks)) ≡ around_blocks p position + count_by p blocks
  count-filled_pools p position blocks =
      omega (arith, count-blocks-plug p position.pools_before (pool_at position blocks ∷ position.pools_behind), count-blocks p (pool_at position blocks) position.pools_behind, count-plug p position.before blocks)

  -- the first block that passes the test, at its position
  pub record LocatedBlock (test : Block A → Bool) (pools : List (Pool A)) : Type 0 where
    pub position : BlockPosition A
    pub block : Block A
    pub blocks : List (Block A)
    pub whole : pools ≡ filled_pools position (block ∷ blocks)
    pub passes : test block ≡ true

  located_behind : (test : Block A → Bool) (front pools : List (Pool A)) → 1 ≤ count_by test (blocks_of pools) → LocatedBlock test (plug front pools)
  located_behind test front [] some = absurd (omega (arith, some))
  located_behind test front (pool ∷ pools) some = elim (cases_lt 0 (count_by test pool.blocks)) [
    | inl here ↦
        let at : FirstPassing test pool.blocks = first_passing test pool.blocks (omega (arith, here)) in
        record {
          position = record { pools_before = front; base = pool.base; bytes = pool.bytes; before = at.front; pools_behind = pools };
          block = at.item;
          blocks = at.behind;
          whole = ap (λ blocks. plug front (record pool { blocks = blocks } ∷ pools)) at.whole;
          passes = at.passes;
        }
    | inr later ↦ located_behind test (pool ∷ front) pools (omega (arith, some, later, count-blocks test pool pools))
  ]

  pub located_block : (test : Block A → Bool) (pools : List (Pool A)) → 1 ≤ count_by test (blocks_of pools) → LocatedBlock test pools
  located_block test pools some = located_behind test [] pools some

  -- blocks that are elsewhere
  module _ (place : ℕ) where
    apart_first : (block : Block A) (blocks : List (Block A)) → count_by (is_at place) (block ∷ blocks) ≡ 0 → is_at place block ≡ false
    apart_first block blocks none = elim (cases_Bool (is_at place block)) [
      | inl here ↦ absurd (omega (arith, none, count-cons (is_at place) block blocks, ap one_if here))
      | inr apart ↦ apart
    ]

    later : (block : Block A) (blocks : List (Block A)) → count_by (is_at place) (block ∷ blocks) ≡ 0 → count_by (is_at place) blocks ≡ 0
    later block blocks none = omega (arith, none, count-cons (is_at place) block blocks)

    replaced_none : (others blocks : List (Block A)) → count_by (is_at place) blocks ≡ 0 → replaced place others blocks ≡ blocks
    replaced_none others [] none = refl
    replaced_none others (block ∷ blocks) none = rw (apart_first block blocks none) (ap (λ bs. block ∷ bs) (replaced_none others blocks (later block blocks none)))

    replaced_plug : (others front blocks : List (Block A)) → count_by (is_at place) front ≡ 0 → replaced place others (plug front blocks) ≡ plug front (replaced place others blocks)
    replaced_plug others [] blocks none = refl
    replaced_plug others (block ∷ front) blocks none =
        let step : replaced place others (block ∷ blocks) ≡ block ∷ replaced place others blocks = rw (apart_first block front none) refl in
        replaced_plug others front (block ∷ blocks) (later block front none) ∙ ap (plug front) step

    replaced_pools : (others : List (Block A)) (pools : List (Pool A)) → count_by (is_at place) (blocks_of pools) ≡ 0 → map (replaced_in place others) pools ≡ pools
    replaced_pools others [] none = refl
    replaced_pools others (pool ∷ pools) none =
        let counts = count-blocks (is_at place) pool pools in
        ap (λ blocks. record pool { blocks = blocks } ∷ map (replaced_in place others) pools) (replaced_none others pool.blocks (omega (arith, none, counts)))
        ∙ ap (λ others_too. pool ∷ others_too) (replaced_pools others pools (omega (arith, none, counts)))

    none_in_front : (block : Block A) (blocks : List (Block A)) → count_by (is_at place) blocks ≡ 0 → previous_of place (block ∷ blocks) ≡ None
    none_in_front block [] none = refl
    none_in_front block (next ∷ blocks) none = rw (apart_first next blocks none) (none_in_front next blocks (later next blocks none))

    none_at_all : (blocks : List (Block A)) → count_by (is_at place) blocks ≡ 0 → previous_of place blocks ≡ None
    none_at_all [] none = refl
    none_at_all (block ∷ blocks) none = none_in_front block blocks (later block blocks none)

    none_behind : (blocks : List (Block A)) → count_by (is_at place) blocks ≡ 0 → next_of place blocks ≡ None
    none_behind [] none = refl
    none_behind (block ∷ []) none = refl
    none_behind (block ∷ next ∷ blocks) none = rw (apart_first block (next ∷ blocks) none) (none_behind (next ∷ blocks) (later block (next ∷ blocks) none))

    in_front_plug : (front : List (Block A)) (block : Block A) (blocks : List (Block A)) → count_by (is_at place) front ≡ 0 → is_at place block ≡ false → previous_of place (plug front (block ∷ blocks)) ≡ previous_of place (block ∷ blocks)
    in_front_plug [] block blocks none apart = refl
    in_front_plug (f ∷ front) block blocks none apart = in_front_plug front f (block ∷ blocks) (later f front none) (apart_first f front none) ∙ rw apart refl

    behind_plug : (front : List (Block A)) (block : Block A) (blocks : List (Block A)) → count_by (is_at place) front ≡ 0 → next_of place (plug front (block ∷ blocks)) ≡ next_of place (block ∷ blocks)
    behind_plug [] block blocks none = refl
    behind_plug (f ∷ front) block blocks none = behind_plug front f (block ∷ blocks) (later f front none) ∙ rw (apart_first f front none) refl

    tells_none : (tell : List (Block A) → Option (Block A)) → ((blocks : List (Block A)) → count_by (is_at place) blocks ≡ 0 → tell blocks ≡ None) → (pools : List (Pool A)) → count_by (is_at place) (blocks_of pools) ≡ 0 → first_in_pools tell pools ≡ None
    tells_none tell tells [] none = refl
    tells_none tell tells (pool ∷ pools) none =
        let counts = count-blocks (is_at place) pool pools in
        ap (λ o. option_or o (first_in_pools tell pools)) (tells pool.blocks (omega (arith, none, counts))) ∙ tells_none tell tells pools (omega (arith, none, counts))

    tells_later : (tell : List (Block A) → Option (Block A)) → ((blocks : List (Block A)) → count_by (is_at place) blocks ≡ 0 → tell blocks ≡ None) → (front pools : List (Pool A)) → count_by (is_at place) (blocks_of front) ≡ 0 → first_in_pools tell (plug front pools) ≡ first_in_pools tell pools
    tells_later tell tells [] pools none = refl
    tells_later tell tells (pool ∷ front) pools none =
        let counts = count-blocks (is_at place) pool front in
        tells_later tell tells front (pool ∷ pools) (omega (arith, none, counts)) ∙ ap (λ o. option_or o (first_in_pools tell pools)) (tells pool.blocks (omega (arith, none, counts)))

    find_within : (front blocks more : List (Block A)) → count_by (is_at place) front ≡ 0 → find (is_at place) (plug front blocks ++ more) ≡ find (is_at place) (blocks ++ more)
    find_within [] blocks more none = refl
    find_within (f ∷ front) blocks more none = find_within front (f ∷ blocks) more (later f front none) ∙ rw (apart_first f front none) refl

    find_behind : (blocks more : List (Block A)) → count_by (is_at place) blocks ≡ 0 → find (is_at place) (blocks ++ more) ≡ find (is_at place) more
    find_behind [] more none = refl
    find_behind (block ∷ blocks) more none = rw (apart_first block blocks none) (find_behind blocks more (later block blocks none))

    find_pools : (front pools : List (Pool A)) → count_by (is_at place) (blocks_of front) ≡ 0 → find (is_at place) (blocks_of (plug front pools)) ≡ find (is_at place) (blocks_of pools)
    find_pools [] pools none = refl
    find_pools (pool ∷ front) pools none =
        let counts = count-blocks (is_at place) pool front in
        find_pools front (pool ∷ pools) (omega (arith, none, counts)) ∙ find_behind pool.blocks (blocks_of pools) (omega (arith, none, counts))

  -- of blocks in order of place, one at most begins at a place
  none_at : (place : ℕ) (blocks : List (Block A)) → NoneAt place blocks → count_by (is_at place) blocks ≡ 0
  none_at place [] none = refl
  none_at place (block ∷ blocks) none = omega (arith, count-cons (is_at place) block blocks, ap one_if none.0, none_at place blocks none.1)

  pub at_most_one : (from : ℕ) (blocks : List (Block A)) → Ascends from blocks → (place : ℕ) → count_by (is_at place) blocks ≤ 1
  at_most_one from [] a place = omega arith
  at_most_one from (block ∷ blocks) a place = elim (cases_Bool (is_at place block)) [
    | inl here ↦
        let at : block.place ≡ place = eqb-true block.place place here in
        omega (arith, count-cons (is_at place) block blocks, ap one_if here, none_at place blocks (NoneAt-below place (block.place + block.size) blocks (omega (arith, a.1, at)) a.2))
    | inr elsewhere ↦ omega (arith, count-cons (is_at place) block blocks, ap one_if elsewhere, at_most_one (block.place + block.size) blocks a.2 place)
  ]

  -- the block at the position begins where no other does
  pub record IsAlone (position : BlockPosition A) (block : Block A) (blocks : List (Block A)) : Type 0 where
    pub outside : around_blocks (is_at block.place) position ≡ 0
    pub behind : count_by (is_at block.place) blocks ≡ 0

  pub block_alone : (position : BlockPosition A) (block : Block A) (blocks : List (Block A)) → ((place : ℕ) → count_by (is_at place) (blocks_of (filled_pools position (block ∷ blocks))) ≤ 1) → IsAlone position block blocks
  block_alone position block blocks once =
      let all = once block.place in
      let parts = count-filled_pools (is_at block.place) position (block ∷ blocks) in
      let here = count-cons (is_at block.place) block blocks in
      let own = ap one_if (eq-eqb block.place block.place refl) in
      record { outside = omega (arith, all, parts, here, own); behind = omega (arith, all, parts, here, own) }

  module _ (position : BlockPosition A) (block : Block A) (blocks : List (Block A)) (alone : IsAlone position block blocks) where
    -- it gives way to others
    pub replaced_at : (others : List (Block A)) → map (replaced_in block.place others) (filled_pools position (block ∷ blocks)) ≡ filled_pools position (others ++ blocks)
    replaced_at others =
        let here : replaced block.place others (block ∷ blocks) ≡ others ++ blocks = rw (eq-eqb block.place block.place refl) (ap (λ bs. others ++ bs) (replaced_none block.place others blocks alone.behind)) in
        map-plug (replaced_in block.place others) position.pools_before (pool_at position (block ∷ blocks) ∷ position.pools_behind)
        ∙ ap (λ pools. plug pools (map (replaced_in block.place others) (pool_at position (block ∷ blocks) ∷ position.pools_behind))) (replaced_pools block.place others position.pools_before (omega (arith, alone.outside)))
        ∙ ap (λ bs. plug position.pools_before (record { base = position.base; bytes = position.bytes; blocks = bs } ∷ map (replaced_in block.place others) position.pools_behind))
        (replaced_plug block.place others position.before (block ∷ blocks) (omega (arith, alone.outside)) ∙ ap (plug position.before) here)
        ∙ ap (λ pools. plug position.pools_before (pool_at position (others ++ blocks) ∷ pools)) (replaced_pools block.place others position.pools_behind (omega (arith, alone.outside)))

    told : (tell : List (Block A) → Option (Block A)) → ((others : List (Block A)) → count_by (is_at block.place) others ≡ 0 → tell others ≡ None) → first_in_pools tell (filled_pools position (block ∷ blocks)) ≡ tell (plug position.before (block ∷ blocks))
    told tell tells =
        tells_later block.place tell tells position.pools_before (pool_at position (block ∷ blocks) ∷ position.pools_behind) (omega (arith, alone.outside))
        ∙ ap (option_or (tell (plug position.before (block ∷ blocks)))) (tells_none block.place tell tells position.pools_behind (omega (arith, alone.outside)))
        ∙ option_or-None (tell (plug position.before (block ∷ blocks)))

    -- the block in front of it is the nearest
    pub front_at : first_in_pools (previous_of block.place) (filled_pools position (block ∷ blocks)) ≡ leading_block position.before
    front_at = told (previous_of block.place) (none_at_all block.place) ∙ nearest position.before (omega (arith, alone.outside))
      where
        nearest : (front : List (Block A)) → count_by (is_at block.place) front ≡ 0 → previous_of block.place (plug front (block ∷ blocks)) ≡ leading_block front
        nearest [] none = none_in_front block.place block blocks alone.behind
        nearest (f ∷ front) none = in_front_plug block.place front f (block ∷ blocks) (later block.place f front none) (apart_first block.place f front none) ∙ rw (eq-eqb block.place block.place refl) refl

    -- and the one behind it the next
    pub back_at : first_in_pools (next_of block.place) (filled_pools position (block ∷ blocks)) ≡ leading_block blocks
    back_at = told (next_of block.place) (none_behind block.place) ∙ behind_plug block.place position.before block blocks (omega (arith, alone.outside)) ∙ next blocks
      where
        next : (others : List (Block A)) → next_of block.place (block ∷ others) ≡ leading_block others
        next [] = refl
        next (n ∷ others) = rw (eq-eqb block.place block.place refl) refl

    -- its size
    pub size_here : size_at block.place (blocks_of (filled_pools position (block ∷ blocks))) ≡ block.size
    size_here =
        let found : find (is_at block.place) (block ∷ blocks ++ blocks_of position.pools_behind) ≡ Some block = rw (eq-eqb block.place block.place refl) refl in
        ap (λ (o : Option (Block A)). unwrap_or (option_map (λ b. b.size) o) 0)
        (
        find_pools block.place position.pools_before (pool_at position (block ∷ blocks) ∷ position.pools_behind) (omega (arith, alone.outside))
        ∙ find_within block.place position.before (block ∷ blocks) (blocks_of position.pools_behind) (omega (arith, alone.outside))
        ∙ found
        )
