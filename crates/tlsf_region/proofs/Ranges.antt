-- Where the pools lie: malloc, memalign, free and realloc leave it; add_pool and remove_pool leave where the others do.
use Rattle.std.proofs.Common.{◌≡◌, ℕ, ◌+◌, ◌≤◌, Bool, true, false, cond, not, List, [], ◌∷◌, map, length, refl, sym, ap, ◌∙◌, subst, Option, Some, None, Result, Ok, Err, IfOk, OnOk, OnErr, filter, find}
use Rattle.std.specs.Prelude.{◌==◌, nat_lt, nat_le, ◌&&◌}
use Rattle.std.specs.List.{list_all}
use Rattle.std.specs.Int.{next_multiple_of}
use Rattle.tlsf_class.specs.Rounding.{round}
use Rattle.tlsf_heap.specs.declared.refusal.Refusal.{Refusal}
use Rattle.tlsf_heap.specs.declared.refusal.Refusal.TheVariants.{ZeroSize, TableFull, BadPointer, BadPool, PoolsFull, BadAlign, PoolInUse}
use Rattle.tlsf_heap.specs.Content.{Block, Pool, Content, blocks_of, size_at, used_records}
use Rattle.tlsf_heap.specs.Counted.{Counted, IsUnchanged, range_of}
use Rattle.tlsf_heap.specs.Lists.{pick}
use Rattle.tlsf_heap.specs.OwnClass.{picked_or_own, malloc_or_own_rounded, malloc_or_own}
use Rattle.tlsf_heap.specs.Malloc.{gap, replaced_in, split, allocated, malloc_picked, malloc_rounded, malloc}
use Rattle.tlsf_heap.specs.Free.{is_live, free_next, without_block, after_free, free}
use Rattle.tlsf_heap.specs.Realloc.{fits_in_place, resized, moved, realloc_sized, realloc_rounded, given_anew, realloc}
use Rattle.tlsf_heap.specs.Memalign.{is_alignment, size_asked, aligned, memalign_picked, memalign_rounded, memalign}
use Rattle.tlsf_heap.specs.Pools.{is_based, is_unused, without_pool, remove_found, remove_pool, end_of_places, most_pools, can_be_pool, is_apart, in_order_of_base, with_pool, add_pool}
use Rattle.tlsf_region.specs.Region.{EndBelow, IsWithin}

abbrev pub ranges : {A : Type 0} → Content A → List (ℕ × ℕ)
ranges content = map range_of content.pools

-- one of two results, by a test
pub by_test : {X : Type 0} (b : Bool) (yes_result no_result : Result X Refusal) (P : X → Type 0) → (b ≡ true → IfOk yes_result P) → (b ≡ false → IfOk no_result P) → IfOk (cond b yes_result no_result) P
by_test true yes_result no_result P if_true if_false = if_true refl
by_test false yes_result no_result P if_true if_false = if_false refl

-- a result, unless it is refused
pub unless : {X : Type 0} (b : Bool) (why : Refusal) (result : Result X Refusal) (P : X → Type 0) → IfOk result P → IfOk (cond b (Err why) result) P
unless b why result P h = by_test b (Err why) result P (λ e. tt) (λ e. h)

module _ {A : Type 0} where
  ranges-replaced : (place : ℕ) (others : List (Block A)) (pools : List (Pool A)) → map range_of (map (replaced_in place others) pools) ≡ map range_of pools
  ranges-replaced place others [] = refl
  ranges-replaced place others (pool ∷ pools) = ap (λ rest. range_of pool ∷ rest) (ranges-replaced place others pools)

  ranges-without : (block : Option (Block A)) (pools : List (Pool A)) → map range_of (without_block block pools) ≡ map range_of pools
  ranges-without None pools = refl
  ranges-without (Some block) pools = ranges-replaced block.place [] pools

  -- malloc
  picked_ranges : (owner : A) (m : ℕ) (found : Option ℕ) (content : Content A) → IfOk (malloc_picked owner m found content) (λ given. ranges given.1 ≡ ranges content)
  picked_ranges owner m None content = tt
  picked_ranges owner m (Some place) content =
      let size : ℕ = size_at place (blocks_of content.pools) in
      unless (nat_lt m size && nat_le content.records (used_records content)) TableFull (Ok (place, allocated owner place m size content)) (λ given. ranges given.1 ≡ ranges content) (ranges-replaced place (split owner place m size) content.pools)

  rounded_ranges : (owner : A) (m : Option ℕ) (content : Content A) → IfOk (malloc_rounded owner m content) (λ given. ranges given.1 ≡ ranges content)
  rounded_ranges owner None content = tt
  rounded_ranges owner (Some m) content = picked_ranges owner m (pick m content.lists) content

  pub malloc_ranges : (owner : A) (n : ℕ) (content : Content A) → IfOk (malloc owner n content) (λ given. ranges given.1 ≡ ranges content)
  malloc_ranges owner n content = unless (n == 0) ZeroSize (malloc_rounded owner (round n) content) (λ given. ranges given.1 ≡ ranges content) (rounded_ranges owner (round n) content)

  -- malloc that may take a block of the bytes' own class
  rounded_or_own_ranges : (owner : A) (m : Option ℕ) (content : Content A) → IfOk (malloc_or_own_rounded owner m content) (λ given. ranges given.1 ≡ ranges content)
  rounded_or_own_ranges owner None content = tt
  rounded_or_own_ranges owner (Some m) content = picked_ranges owner m (picked_or_own m content (pick m content.lists)) content

  pub malloc_or_own_ranges : (owner : A) (n : ℕ) (content : Content A) → IfOk (malloc_or_own owner n content) (λ given. ranges given.1 ≡ ranges content)
  malloc_or_own_ranges owner n content = unless (n == 0) ZeroSize (malloc_or_own_rounded owner (round n) content) (λ given. ranges given.1 ≡ ranges content) (rounded_or_own_ranges owner (round n) content)

  -- free
  pub freed_ranges : (place : ℕ) (content : Content A) → ranges (after_free place content) ≡ ranges content
  freed_ranges place content = ranges-replaced place _ (without_block _ (without_block _ content.pools)) ∙ ranges-without _ (without_block _ content.pools) ∙ ranges-without _ content.pools

  pub free_ranges : (is_meant : A → Bool) (place : ℕ) (content : Content A) → IfOk (free is_meant place content) (λ after. ranges after ≡ ranges content)
  free_ranges is_meant place content = by_test (is_live is_meant place (blocks_of content.pools)) (Ok (after_free place content)) (Err BadPointer) (λ after. ranges after ≡ ranges content) (λ e. freed_ranges place content) (λ e. tt)

  -- realloc
  resized_ranges : (owner : A) (place m : ℕ) (content : Content A) → ranges (resized owner place m content) ≡ ranges content
  resized_ranges owner place m content = ranges-replaced place _ (without_block (free_next place content) content.pools) ∙ ranges-without (free_next place content) content.pools

  moved_ranges : (owner : A) (place : ℕ) (content : Content A) (given : Result (ℕ × Content A) Refusal) → IfOk given (λ new. ranges new.1 ≡ ranges content) → IfOk (moved owner place given) (λ new. ranges new.1 ≡ ranges content)
  moved_ranges owner place content (Err why) same = tt
  moved_ranges owner place content (Ok new) same = freed_ranges place new.1 ∙ same

  sized_ranges : (owner : A) (place : ℕ) (known : A) (m : ℕ) (content : Content A) → IfOk (realloc_sized owner place known m content) (λ new. ranges new.1 ≡ ranges content)
  sized_ranges owner place known m content =
      let P : Option (ℕ × A) × Content A → Type 0 = λ new. ranges new.1 ≡ ranges content in
      let size : ℕ = size_at place (blocks_of content.pools) in
      let there : Result (Option (ℕ × A) × Content A) Refusal = Ok (Some (place, known), content) in
      let elsewhere = moved owner place (malloc_rounded owner (Some m) content) in
      let smaller = cond (nat_lt m size) there elsewhere in
      by_test (m == size) there _ P (λ e. refl) (λ e.
      by_test (fits_in_place place m content) (Ok (Some (place, known), resized known place m content)) smaller P (λ e. resized_ranges known place m content) (λ e.
      by_test (nat_lt m size) there elsewhere P (λ e. refl) (λ e.
      moved_ranges owner place content (malloc_rounded owner (Some m) content) (rounded_ranges owner (Some m) content))))

  pub realloc_ranges : (same : A → A → Bool) (owner : A) (pointer : Option (ℕ × A)) (n : ℕ) (content : Content A) → IfOk (realloc same owner pointer n content) (λ new. ranges new.1 ≡ ranges content)
  realloc_ranges same owner None n content = of (malloc owner n content) (malloc_ranges owner n content)
    where
      of : (given : Result (ℕ × Content A) Refusal) → IfOk given (λ new. ranges new.1 ≡ ranges content) → IfOk (given_anew owner given) (λ new. ranges new.1 ≡ ranges content)
      of (Err why) same = tt
      of (Ok new) same = same
  realloc_ranges same owner (Some (place, known)) n content =
      let P : Option (ℕ × A) × Content A → Type 0 = λ new. ranges new.1 ≡ ranges content in
      unless (not (is_live (λ other. same other known) place (blocks_of content.pools))) BadPointer _ P
      (by_test (n == 0) (Ok (None, after_free place content)) (realloc_rounded owner place known (round n) content) P (λ e. freed_ranges place content) (λ e. of (round n)))
    where
      of : (m : Option ℕ) → IfOk (realloc_rounded owner place known m content) (λ new. ranges new.1 ≡ ranges content)
      of None = tt
      of (Some m) = sized_ranges owner place known m content

  -- memalign
  memalign_picked_ranges : (owner : A) (align m : ℕ) (found : Option ℕ) (content : Content A) → IfOk (memalign_picked owner align m found content) (λ given. ranges given.1 ≡ ranges content)
  memalign_picked_ranges owner align m None content = tt
  memalign_picked_ranges owner align m (Some place) content =
      let start = next_multiple_of place align in
      let after = aligned owner start m place (size_at place (blocks_of content.pools)) content in
      unless (nat_lt after.records (used_records after)) TableFull (Ok (start, after)) (λ given. ranges given.1 ≡ ranges content) (ranges-replaced place _ content.pools)

  pub memalign_ranges : (owner : A) (align n : ℕ) (content : Content A) → IfOk (memalign owner align n content) (λ given. ranges given.1 ≡ ranges content)
  memalign_ranges owner align n content =
      let P : ℕ × Content A → Type 0 = λ given. ranges given.1 ≡ ranges content in
      unless (not (is_alignment align)) BadAlign _ P (unless (n == 0) ZeroSize (memalign_rounded owner align (round n) content) P (of (round n)))
    where
      of : (m : Option ℕ) → IfOk (memalign_rounded owner align m content) (λ given. ranges given.1 ≡ ranges content)
      of None = tt
      of (Some m) = memalign_picked_ranges owner align m (pick (size_asked align m) content.lists) content

  -- remove_pool
  ends-filter : (end : ℕ) (test : Pool A → Bool) (pools : List (Pool A)) → EndBelow end (map range_of pools) → EndBelow end (map range_of (filter test pools))
  ends-filter end test [] ends = tt
  ends-filter end test (pool ∷ pools) ends = elim (test pool) as (λ b. EndBelow end (map range_of (cond b (pool ∷ filter test pools) (filter test pools)))) [
    | true ↦ (ends.0, ends-filter end test pools ends.1)
    | false ↦ ends-filter end test pools ends.1
  ]

  pub remove_pool_ends : (end base : ℕ) (content : Content A) → EndBelow end (ranges content) → IfOk (remove_pool base content) (λ after. EndBelow end (ranges after))
  remove_pool_ends end base content ends = of (find (is_based base) content.pools)
    where
      of : (found : Option (Pool A)) → IfOk (remove_found found content) (λ after. EndBelow end (ranges after))
      of None = tt
      of (Some pool) =
          by_test (is_unused pool) (Ok (without_pool pool content)) (Err PoolInUse) (λ after. EndBelow end (ranges after)) (λ e. ends-filter end (λ other. not (is_based pool.base other)) content.pools ends) (λ e. tt)

  -- add_pool
  ends_in_order : (end : ℕ) (pool : Pool A) (pools : List (Pool A)) → pool.base + pool.bytes ≤ end → EndBelow end (map range_of pools) → EndBelow end (map range_of (in_order_of_base pool pools))
  ends_in_order end pool [] below ends = (below, tt)
  ends_in_order end pool (other ∷ pools) below ends = elim (nat_lt pool.base other.base) as (λ b. EndBelow end (map range_of (cond b (pool ∷ other ∷ pools) (other ∷ in_order_of_base pool pools)))) [
    | true ↦ (below, ends)
    | false ↦ (ends.0, ends_in_order end pool pools below ends.1)
  ]

  pub add_pool_ends : (end base bytes : ℕ) (content : Content A) → base + bytes ≤ end → EndBelow end (ranges content) → IfOk (add_pool base bytes content) (λ after. EndBelow end (ranges after))
  add_pool_ends end base bytes content below ends =
      let P : Content A → Type 0 = λ after. EndBelow end (ranges after) in
      unless (not (can_be_pool base bytes && list_all (is_apart base bytes) content.pools)) BadPool _ P
      (unless (nat_le most_pools (length content.pools)) PoolsFull _ P
      (unless (nat_le content.records (used_records content)) TableFull (Ok (with_pool base bytes content)) P
      (ends_in_order end (record { base = base; bytes = bytes; blocks = gap base bytes }) content.pools below ends)))

-- what a call that leaves where the pools lie, or is refused, leaves of a region
pub still_within : {X : Type 0} (result : Result X Refusal) (old new : Counted) (bytes : List ℕ) → OnOk result (ranges new.content ≡ ranges old.content) → OnErr result (IsUnchanged old new) → IsWithin old.content bytes → IsWithin new.content bytes
still_within (Ok x) old new bytes ok err within = record { places = within.places; pools = subst (EndBelow (length bytes)) (sym ok) within.pools }
still_within (Err why) old new bytes ok err within = subst (λ content. IsWithin content bytes) (sym err.content) within

-- what a call leaves that leaves each pool's end below the region's, or is refused
pub ends_within : {X : Type 0} (result : Result X Refusal) (old new : Counted) (bytes : List ℕ) → OnOk result (EndBelow (length bytes) (ranges new.content)) → OnErr result (IsUnchanged old new) → IsWithin old.content bytes → IsWithin new.content bytes
ends_within (Ok x) old new bytes ok err within = record { places = within.places; pools = ok }
ends_within (Err why) old new bytes ok err within = subst (λ content. IsWithin content bytes) (sym err.content) within

-- where the pools lie as they did, the region stays as it was to be
pub within_kept : (old new : Content ℕ) (bytes : List ℕ) → ranges new ≡ ranges old → IsWithin old bytes → IsWithin new bytes
within_kept old new bytes same within = record { places = within.places; pools = subst (EndBelow (length bytes)) (sym same) within.pools }

-- and where there are as many bytes
pub within_long : (content : Content ℕ) (old new : List ℕ) → length new ≡ length old → IsWithin content old → IsWithin content new
within_long content old new same within =
    record { places = subst (λ n. n ≤ end_of_places) (sym same) within.places; pools = subst (λ n. EndBelow n (ranges content)) (sym same) within.pools }

-- realloc leaves where the pools lie
pub reallocated_ranges : (slot : ℕ) (pointer : Option (ℕ × ℕ)) (n : ℕ) (old new : Content ℕ) (given : Option (ℕ × ℕ)) → realloc (λ a b. a == b) slot pointer n old ≡ Ok (given, new) → ranges new ≡ ranges old
reallocated_ranges slot pointer n old new given e = subst (λ answer. IfOk answer (λ new. ranges new.1 ≡ ranges old)) e (realloc_ranges (λ a b. a == b) slot pointer n old)
