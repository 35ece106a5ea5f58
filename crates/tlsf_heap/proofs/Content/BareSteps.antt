-- Each call does the same to a content, whatever its live blocks are known by.
use Rattle.std.proofs.Common.{◌≡◌, ℕ, ◌+◌, ◌-◌, Bool, true, false, cond, ◌&&◌, List, [], ◌∷◌, ◌++◌, length, map, refl, sym, ap, ◌∙◌, find, Option, Some, None, option_map, Result, Ok, Err, unwrap_or}
use Rattle.std.specs.Prelude.{nat_lt, nat_le, ◌==◌, not}
use Rattle.std.specs.List.{list_all}
use Rattle.std.proofs.lemmas.List.{map-append, length-map}
use Rattle.tlsf_class.specs.Rounding.{round}
use Rattle.tlsf_heap.specs.declared.refusal.Refusal.{Refusal}
use Rattle.tlsf_heap.specs.declared.refusal.Refusal.TheVariants.{ZeroSize, TableFull, BadPool, PoolsFull}
use Rattle.tlsf_heap.specs.Content.{Block, Pool, Content, blocks_of, is_at, size_at, used_records}
use Rattle.tlsf_heap.specs.Lists.{pick}
use Rattle.tlsf_heap.specs.Malloc.{gap, split, replaced, replaced_in, allocated, allocate, malloc_picked, malloc_rounded, malloc}
use Rattle.tlsf_heap.specs.Pools.{is_apart, can_be_pool, in_order_of_base, with_pool, add_pool, most_pools}
use Rattle.tlsf_heap.specs.Bare.{renamed_block, renamed_pool, renamed, renamed_result, renamed_given}
use Rattle.tlsf_heap.proofs.Inserted.{map-inserted}

-- a function of a choice is the choice of what it gives
pub ap-cond : {X Y : Type 0} (f : X → Y) (b : Bool) (x y : X) → f (cond b x y) ≡ cond b (f x) (f y)
ap-cond f b x y = elim b as (λ v. f (cond v x y) ≡ cond v (f x) (f y)) [ true ↦ refl | false ↦ refl ]

module _ {A B : Type 0} (rename : A → B) where
  pub blocks_of-renamed : (pools : List (Pool A)) → blocks_of (map (renamed_pool rename) pools) ≡ map (renamed_block rename) (blocks_of pools)
  blocks_of-renamed [] = refl
  blocks_of-renamed (pool ∷ pools) =
      ap (λ blocks. map (renamed_block rename) pool.blocks ++ blocks) (blocks_of-renamed pools) ∙ sym (map-append (renamed_block rename) pool.blocks (blocks_of pools))

  size_at-renamed_blocks : (place : ℕ) (blocks : List (Block A)) → size_at place (map (renamed_block rename) blocks) ≡ size_at place blocks
  size_at-renamed_blocks place [] = refl
  size_at-renamed_blocks place (block ∷ blocks) =
      elim (is_at place block) as (λ here. unwrap_or (option_map (λ block. block.size) (cond here (Some (renamed_block rename block)) (find (is_at place) (map (renamed_block rename) blocks)))) 0
      ≡ unwrap_or (option_map (λ block. block.size) (cond here (Some block) (find (is_at place) blocks))) 0) [
        | true ↦ refl
        | false ↦ size_at-renamed_blocks place blocks
      ]

  pub size_at-renamed : (place : ℕ) (pools : List (Pool A)) → size_at place (blocks_of (map (renamed_pool rename) pools)) ≡ size_at place (blocks_of pools)
  size_at-renamed place pools = ap (size_at place) (blocks_of-renamed pools) ∙ size_at-renamed_blocks place (blocks_of pools)

  pub used_records-renamed : (content : Content A) → used_records (renamed rename content) ≡ used_records content
  used_records-renamed content = ap length (blocks_of-renamed content.pools) ∙ length-map (blocks_of content.pools) (renamed_block rename)

  pub gap-renamed : (place size : ℕ) → map (renamed_block rename) (gap place size) ≡ gap place size
  gap-renamed place size = ap-cond (map (renamed_block rename)) (size == 0) [] (record { place = place; size = size; owner = None } ∷ [])

  pub split-renamed : (owner : A) (place m size : ℕ) → map (renamed_block rename) (split owner place m size) ≡ split (rename owner) place m size
  split-renamed owner place m size = ap (λ blocks. record { place = place; size = m; owner = Some (rename owner) } ∷ blocks) (gap-renamed (place + m) (size - m))

  replaced-renamed : (place : ℕ) (others blocks : List (Block A))
      → replaced place (map (renamed_block rename) others) (map (renamed_block rename) blocks) ≡ map (renamed_block rename) (replaced place others blocks)
  replaced-renamed place others [] = refl
  replaced-renamed place others (block ∷ blocks) =
      ap (λ front. front ++ replaced place (map (renamed_block rename) others) (map (renamed_block rename) blocks)) (sym (ap-cond (map (renamed_block rename)) (is_at place block) others (block ∷ [])))
      ∙ ap (λ back. map (renamed_block rename) (cond (is_at place block) others (block ∷ [])) ++ back) (replaced-renamed place others blocks)
      ∙ sym (map-append (renamed_block rename) (cond (is_at place block) others (block ∷ [])) (replaced place others blocks))

  pub replaced_in-renamed : (place : ℕ) (others : List (Block A)) (renamed_others : List (Block B)) → map (renamed_block rename) others ≡ renamed_others → (pools : List (Pool A))
      → map (replaced_in place renamed_others) (map (renamed_pool rename) pools) ≡ map (renamed_pool rename) (map (replaced_in place others) pools)
  replaced_in-renamed place others renamed_others same [] = refl
  replaced_in-renamed place others renamed_others same (pool ∷ pools) =
      let blocks = ap (λ o. replaced place o (map (renamed_block rename) pool.blocks)) (sym same) ∙ replaced-renamed place others pool.blocks in
      ap (λ b. record { base = pool.base; bytes = pool.bytes; blocks = b } ∷ map (replaced_in place renamed_others) (map (renamed_pool rename) pools)) blocks
      ∙ ap (λ more. record { base = pool.base; bytes = pool.bytes; blocks = map (renamed_block rename) (replaced place others pool.blocks) } ∷ more) (replaced_in-renamed place others renamed_others same pools)

  allocated-renamed : (owner : A) (place m size : ℕ) (content : Content A)
      → allocated (rename owner) place m size (renamed rename content) ≡ renamed rename (allocated owner place m size content)
  allocated-renamed owner place m size content =
      ap (λ pools. record { records = content.records; pools = pools; lists = (allocated owner place m size content).lists })
      (replaced_in-renamed place (split owner place m size) (split (rename owner) place m size) (split-renamed owner place m size) content.pools)

  allocate-renamed : (owner : A) (place m size : ℕ) (content : Content A)
      → allocate (rename owner) place m size (renamed rename content) ≡ renamed_given rename (allocate owner place m size content)
  allocate-renamed owner place m size content =
      ap (λ used. cond (nat_lt m size && nat_le content.records used) (Err TableFull) (Ok (place, allocated (rename owner) place m size (renamed rename content)))) (used_records-renamed content)
      ∙ ap (λ after. cond (nat_lt m size && nat_le content.records (used_records content)) (Err TableFull) (Ok (place, after))) (allocated-renamed owner place m size content)
      ∙ sym (ap-cond (renamed_given rename) (nat_lt m size && nat_le content.records (used_records content)) (Err TableFull) (Ok (place, allocated owner place m size content)))

  malloc_picked-renamed : (owner : A) (m : ℕ) (picked : Option ℕ) (content : Content A)
      → malloc_picked (rename owner) m picked (renamed rename content) ≡ renamed_given rename (malloc_picked owner m picked content)
  malloc_picked-renamed owner m None content = refl
  malloc_picked-renamed owner m (Some place) content =
      ap (λ size. allocate (rename owner) place m size (renamed rename content)) (size_at-renamed place content.pools)
      ∙ allocate-renamed owner place m (size_at place (blocks_of content.pools)) content

  pub malloc_rounded-renamed : (owner : A) (rounded : Option ℕ) (content : Content A)
      → malloc_rounded (rename owner) rounded (renamed rename content) ≡ renamed_given rename (malloc_rounded owner rounded content)
  malloc_rounded-renamed owner None content = refl
  malloc_rounded-renamed owner (Some m) content = malloc_picked-renamed owner m (pick m content.lists) content

  -- malloc gives the same place, or refuses for the same reason
  pub malloc-renamed : (owner : A) (n : ℕ) (content : Content A) → malloc (rename owner) n (renamed rename content) ≡ renamed_given rename (malloc owner n content)
  malloc-renamed owner n content =
      ap (λ served. cond (n == 0) (Err ZeroSize) served) (malloc_rounded-renamed owner (round n) content)
      ∙ sym (ap-cond (renamed_given rename) (n == 0) (Err ZeroSize) (malloc_rounded owner (round n) content))

  list_all-renamed : (base bytes : ℕ) (pools : List (Pool A)) → list_all (is_apart base bytes) (map (renamed_pool rename) pools) ≡ list_all (is_apart base bytes) pools
  list_all-renamed base bytes [] = refl
  list_all-renamed base bytes (pool ∷ pools) = ap (λ more. is_apart base bytes pool && more) (list_all-renamed base bytes pools)

  with_pool-renamed : (base bytes : ℕ) (content : Content A) → with_pool base bytes (renamed rename content) ≡ renamed rename (with_pool base bytes content)
  with_pool-renamed base bytes content =
      let pool_of : List (Block B) → Pool B = λ blocks. record { base = base; bytes = bytes; blocks = blocks } in
      ap (λ pools. record { records = content.records; pools = pools; lists = (with_pool base bytes content).lists })
      (ap (λ blocks. in_order_of_base (pool_of blocks) (map (renamed_pool rename) content.pools)) (sym (gap-renamed base bytes))
      ∙ sym (map-inserted (renamed_pool rename) (λ (pool : Pool A). pool.base) (λ (pool : Pool B). pool.base) (λ pool. refl) (record { base = base; bytes = bytes; blocks = gap base bytes }) content.pools))

  -- add_pool leaves the same, or refuses for the same reason
  pub add_pool-renamed : (base bytes : ℕ) (content : Content A) → add_pool base bytes (renamed rename content) ≡ renamed_result rename (add_pool base bytes content)
  add_pool-renamed base bytes content =
      let full = nat_le content.records (used_records content) in
      let many = nat_le most_pools (length content.pools) in
      let bad = not (can_be_pool base bytes && list_all (is_apart base bytes) content.pools) in
      let on_records : Result (Content A) Refusal = cond full (Err TableFull) (Ok (with_pool base bytes content)) in
      let on_pools : Result (Content A) Refusal = cond many (Err PoolsFull) on_records in
      let last = cond full (Err TableFull) (Ok (renamed rename (with_pool base bytes content))) in
      ap (λ apart. cond (not (can_be_pool base bytes && apart)) (Err BadPool) (cond (nat_le most_pools (length (map (renamed_pool rename) content.pools))) (Err PoolsFull)
      (cond (nat_le content.records (used_records (renamed rename content))) (Err TableFull) (Ok (with_pool base bytes (renamed rename content)))))) (list_all-renamed base bytes content.pools)
      ∙ ap (λ count. cond bad (Err BadPool) (cond (nat_le most_pools count) (Err PoolsFull)
      (cond (nat_le content.records (used_records (renamed rename content))) (Err TableFull) (Ok (with_pool base bytes (renamed rename content)))))) (length-map content.pools (renamed_pool rename))
      ∙ ap (λ used. cond bad (Err BadPool) (cond many (Err PoolsFull) (cond (nat_le content.records used) (Err TableFull) (Ok (with_pool base bytes (renamed rename content)))))) (used_records-renamed content)
      ∙ ap (λ after. cond bad (Err BadPool) (cond many (Err PoolsFull) (cond full (Err TableFull) (Ok after)))) (with_pool-renamed base bytes content)
      ∙ ap (λ r. cond bad (Err BadPool) (cond many (Err PoolsFull) r)) (sym (ap-cond (renamed_result rename) full (Err TableFull) (Ok (with_pool base bytes content))))
      ∙ ap (λ r. cond bad (Err BadPool) r) (sym (ap-cond (renamed_result rename) many (Err PoolsFull) on_records))
      ∙ sym (ap-cond (renamed_result rename) bad (Err BadPool) on_pools)
