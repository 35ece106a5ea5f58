-- Blocks of one pool that each begin a whole multiple of one size behind a base, the live ones of just that size: what calls for
-- that size leave, and how many such blocks there are.
use Rattle.std.proofs.Common.{◌≡◌, ℕ, suc, ◌+◌, ◌-◌, ◌*◌, ◌<◌, ◌≤◌, Bool, true, false, cond, not, List, [], ◌∷◌, length, map, count_by, Option, Some, None, inl, inr, refl, sym, ap, subst, arith}
use Rattle.std.specs.Prelude.{◌==◌, ⊤, IsTrue, nat_lt}
use Rattle.std.specs.List.{AllByRecursion, Contains}
use Rattle.std.specs.Option.{option_or}
use Rattle.std.proofs.lemmas.Bool.{cases_Bool, cases_lt, ltb-true}
use Rattle.tlsf_heap.specs.Content.{Block, Pool, Content, blocks_of, is_free, is_at, size_at}
use Rattle.tlsf_heap.specs.Malloc.{gap, replaced, replaced_in, split, allocated}
use Rattle.tlsf_heap.specs.Free.{is_live, previous_of, if_free, first_in_pools, free_previous, free_next, size_of, start_of, free_block, without_block, after_free}
use Rattle.tlsf_heap.specs.Good.{Covers}
use Rattle.tlsf_heap.proofs.Counts.{count-cons, one_if}
use Rattle.tlsf_heap.proofs.Content.Blocks.{Found}
use Rattle.tlsf_heap.proofs.Content.Replacing.{replaced-here, blocks_of-replaced}
use Rattle.tlsf_heap.proofs.Good.LiveBlocks.{none_stands, stands_first_or_later, live_here}
use Rattle.tlsf_heap.proofs.Good.MallocIsGood.{all-append}
use Rattle.tlsf_heap.proofs.Good.Room.{product_le, add_product, front_of, back_of}

module _ (size base : ℕ) where
  -- a whole multiple of the size behind the base
  pub record IsAt (place : ℕ) : Type 0 where
    pub count : ℕ
    pub is : place ≡ base + count * size

  pub at_base : IsAt base
  at_base = record { count = 0; is = omega arith }

  at_next : (place : ℕ) → IsAt place → IsAt (place + size)
  at_next place at = record { count = suc at.count; is = omega (arith, at.is) }

  -- what lies between two such places has the size
  between : (place n : ℕ) → 0 < n → IsAt place → IsAt (place + n) → size ≤ n
  between place n some at behind = elim (cases_lt at.count behind.count) [
    | inl less ↦ omega (arith, at.is, behind.is, product_le (1 + at.count) behind.count size (omega (arith, less)), add_product 1 at.count size)
    | inr most ↦ absurd (omega (arith, some, at.is, behind.is, product_le behind.count at.count size most))
  ]

  -- and where it is more it has it twice
  between_twice : (place n : ℕ) → size < n → IsAt place → IsAt (place + n) → size + size ≤ n
  between_twice place n more at behind = elim (cases_lt (1 + at.count) behind.count) [
    | inl less ↦ omega (arith, at.is, behind.is, product_le (2 + at.count) behind.count size (omega (arith, less)), add_product 2 at.count size)
    | inr most ↦ absurd (omega (arith, more, at.is, behind.is, product_le behind.count (1 + at.count) size most, add_product 1 at.count size))
  ]

  module _ {A : Type 0} where
    -- a block begins at such a place, and has the size where it is live
    pub record IsCut (block : Block A) : Type 0 where
      pub at : IsAt block.place
      pub live : is_free block ≡ false → block.size ≡ size

    abbrev pub AreCut : List (Block A) → Type 0
    AreCut blocks = AllByRecursion IsCut blocks

    free_cut : (place n : ℕ) → IsAt place → IsCut (free_block place n)
    free_cut place n at = record { at = at; live = (λ e. absurd (cc)) }

  pub gap_cut : (A : Type 0) (place n : ℕ) → IsAt place → AreCut (gap {A = A} place n)
  gap_cut A place n at = elim (n == 0) as (λ b. AreCut (cond b [] (free_block {A = A} place n ∷ []))) [ true ↦ tt | false ↦ (free_cut place n at, tt) ]

  module _ {A : Type 0} where
    split_cut : (owner : A) (place n : ℕ) → IsAt place → AreCut (split owner place size n)
    split_cut owner place n at = (record { at = at; live = (λ e. refl) }, gap_cut A (place + size) (n - size) (at_next place at))

    -- others come in where a block gives way
    replaced_cut : (place : ℕ) (others blocks : List (Block A)) → AreCut others → AreCut blocks → AreCut (replaced place others blocks)
    replaced_cut place others [] new all = tt
    replaced_cut place others (block ∷ blocks) new all = elim (cases_Bool (is_at place block)) [
      | inl here ↦ subst AreCut (sym (replaced-here place others block blocks here)) (all-append IsCut others (replaced place others blocks) new (replaced_cut place others blocks new all.1))
      | inr elsewhere ↦
          let left : replaced place others (block ∷ blocks) ≡ block ∷ replaced place others blocks = rw elsewhere refl in
          subst AreCut (sym left) (all.0, replaced_cut place others blocks new all.1)
    ]

    pools_replaced_cut : (place : ℕ) (others : List (Block A)) (pools : List (Pool A)) → AreCut others → AreCut (blocks_of pools) → AreCut (blocks_of (map (replaced_in place others) pools))
    pools_replaced_cut place others pools new all = subst AreCut (sym (blocks_of-replaced place others pools)) (replaced_cut place others (blocks_of pools) new all)

    without_cut : (gone : Option (Block A)) (pools : List (Pool A)) → AreCut (blocks_of pools) → AreCut (blocks_of (without_block gone pools))
    without_cut None pools all = all
    without_cut (Some block) pools all = pools_replaced_cut block.place [] pools tt all

    -- the block in front, where there is one
    abbrev IsCutIfAny : Option (Block A) → Type 0
    IsCutIfAny None = ⊤
    IsCutIfAny (Some block) = IsCut block

    previous_cut : (place : ℕ) (blocks : List (Block A)) → AreCut blocks → IsCutIfAny (previous_of place blocks)
    previous_cut place [] all = tt
    previous_cut place (block ∷ []) all = tt
    previous_cut place (block ∷ next ∷ blocks) all = elim (is_at place next) as (λ b. IsCutIfAny (cond b (Some block) (previous_of place (next ∷ blocks)))) [
      | true ↦ all.0
      | false ↦ previous_cut place (next ∷ blocks) all.1
    ]

    either_cut : (one other : Option (Block A)) → IsCutIfAny one → IsCutIfAny other → IsCutIfAny (option_or one other)
    either_cut None other one_is other_is = other_is
    either_cut (Some block) other one_is other_is = one_is

    first_cut : (place : ℕ) (pools : List (Pool A)) → AreCut (blocks_of pools) → IsCutIfAny (first_in_pools (previous_of place) pools)
    first_cut place [] all = tt
    first_cut place (pool ∷ pools) all =
        either_cut (previous_of place pool.blocks) (first_in_pools (previous_of place) pools) (previous_cut place pool.blocks (front_of IsCut pool.blocks (blocks_of pools) all)) (first_cut place pools (back_of IsCut pool.blocks (blocks_of pools) all))

    start_at : (place : ℕ) (block : Option (Block A)) → IsAt place → IsCutIfAny block → IsAt (start_of (if_free block) place)
    start_at place None here is = here
    start_at place (Some block) here is = elim (is_free block) as (λ b. IsAt (start_of (cond b (Some block) None) place)) [ true ↦ is.at | false ↦ here ]

    -- what malloc leaves of the block found, and free of a live one
    pub found_at : (place : ℕ) (blocks : List (Block A)) → AreCut blocks → Found place blocks → IsAt place
    found_at place blocks all found =
        let here : AreCut (found.block ∷ found.back) = back_of IsCut found.front (found.block ∷ found.back) (subst AreCut found.whole all) in
        subst IsAt found.here here.0.at

    pub allocated_cut : (owner : A) (place : ℕ) (content : Content A) → AreCut (blocks_of content.pools) → IsAt place → AreCut (blocks_of (allocated owner place size (size_at place (blocks_of content.pools)) content).pools)
    allocated_cut owner place content all at =
        let bytes : ℕ = size_at place (blocks_of content.pools) in
        pools_replaced_cut place (split owner place size bytes) content.pools (split_cut owner place bytes at) all

    pub cut_stands : (all : List (Block A)) (block : Block A) → AreCut all → Contains all block → IsCut block
    cut_stands [] block cut has = none_stands block has
    cut_stands (first ∷ rest) block cut has = elim (stands_first_or_later first block rest has) [
      | inl same ↦ subst (λ (b : Block A). IsCut b) same cut.0
      | inr later ↦ cut_stands rest block cut.1 later
    ]

    pub freed_cut : (meant : A → Bool) (place : ℕ) (content : Content A) → is_live meant place (blocks_of content.pools) ≡ true → AreCut (blocks_of content.pools) → AreCut (blocks_of (after_free place content).pools)
    freed_cut meant place content live all =
        let previous = free_previous place content in
        let next = free_next place content in
        let bytes : ℕ = size_of previous + size_at place (blocks_of content.pools) + size_of next in
        let block = live_here meant place content live in
        let here : IsAt place = subst IsAt block.2 (cut_stands (blocks_of content.pools) block.0 all block.1).at in
        let start : IsAt (start_of previous place) = start_at place (first_in_pools (previous_of place) content.pools) here (first_cut place content.pools all) in
        pools_replaced_cut place (free_block (start_of previous place) bytes ∷ []) (without_block next (without_block previous content.pools)) (free_cut (start_of previous place) bytes start, tt)
        (without_cut next (without_block previous content.pools) (without_cut previous content.pools all))

    -- whether a block is larger
    abbrev pub is_larger : Block A → Bool
    is_larger block = nat_lt size block.size

    -- a block with another behind it has the size
    first_most : (from to : ℕ) (block next : Block A) (blocks : List (Block A)) → Covers from to (block ∷ next ∷ blocks) → AreCut (block ∷ next ∷ blocks) → size ≤ block.size
    first_most from to block next blocks c all = between block.place block.size c.1 all.0.at (subst IsAt (omega (arith, c.0, c.3.0)) all.1.0.at)

    -- each block but the last has the size
    sizes_most : (from to : ℕ) (blocks : List (Block A)) → 0 < size → Covers from to blocks → AreCut blocks → from + length blocks * size < to + size
    sizes_most from to [] some c all = omega (arith, c, some)
    sizes_most from to (block ∷ []) some c all = omega (arith, c.1, c.3)
    sizes_most from to (block ∷ next ∷ blocks) some c all =
        omega (arith, first_most from to block next blocks c all, sizes_most (from + block.size) to (next ∷ blocks) some c.3 all.1, add_product 1 (length (next ∷ blocks)) size)

    -- where one is larger, all have it and a byte
    pub sizes_more : (from to : ℕ) (blocks : List (Block A)) → 0 < size → Covers from to blocks → AreCut blocks → 1 ≤ count_by is_larger blocks → from + length blocks * size < to
    sizes_more from to [] some c all larger = absurd (omega (arith, larger))
    sizes_more from to (block ∷ []) some c all larger = elim (cases_Bool (is_larger block)) [
      | inl more ↦ omega (arith, c.3, ltb-true size block.size more)
      | inr other ↦ absurd (omega (arith, larger, count-cons is_larger block [], ap one_if other))
    ]
    sizes_more from to (block ∷ next ∷ blocks) some c all larger = elim (cases_Bool (is_larger block)) [
      | inl more ↦
          let twice : size + size ≤ block.size = between_twice block.place block.size (ltb-true size block.size more) all.0.at (subst IsAt (omega (arith, c.0, c.3.0)) all.1.0.at) in
          omega (arith, twice, sizes_most (from + block.size) to (next ∷ blocks) some c.3 all.1, add_product 1 (length (next ∷ blocks)) size)
      | inr other ↦
          let rest = sizes_more (from + block.size) to (next ∷ blocks) some c.3 all.1 (omega (arith, larger, count-cons is_larger block (next ∷ blocks), ap one_if other)) in
          omega (arith, first_most from to block next blocks c all, rest, add_product 1 (length (next ∷ blocks)) size)
    ]

    abbrev is_used : Block A → Bool
    is_used block = not (is_free block)

    -- where each free block is smaller than the size, only the last is free, and all bytes but its are in live ones
    pub sizes_least : (from to : ℕ) (blocks : List (Block A)) → 0 < size → Covers from to blocks → AreCut blocks → AllByRecursion (λ block. IsTrue (is_free block) → block.size < size) blocks
        → to < from + count_by is_used blocks * size + size
    sizes_least from to [] some c all below = omega (arith, c, some)
    sizes_least from to (block ∷ blocks) some c all below = elim (cases_Bool (is_free block)) [
      | inr live ↦
          let rest = sizes_least (from + block.size) to blocks some c.3 all.1 below.1 in
          let product : count_by is_used (block ∷ blocks) * size ≡ (1 + count_by is_used blocks) * size = ap (λ n. n * size) (omega (arith, count-cons is_used block blocks, ap (λ b. one_if (not b)) live)) in
          omega (arith, rest, product, add_product 1 (count_by is_used blocks) size, all.0.live live)
      | inl free ↦ last blocks c all below free
    ]
      where
        last : (rest : List (Block A)) → Covers from to (block ∷ rest) → AreCut (block ∷ rest) → AllByRecursion (λ block. IsTrue (is_free block) → block.size < size) (block ∷ rest) → is_free block ≡ true
            → to < from + count_by is_used (block ∷ rest) * size + size
        last [] c all below free = omega (arith, c.3, below.0 free)
        last (next ∷ rest) c all below free = absurd (omega (arith, below.0 free, first_most from to block next rest c all))
