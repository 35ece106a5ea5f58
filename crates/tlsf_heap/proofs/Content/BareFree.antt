-- free does the same to a content, whatever its live blocks are known by.
use Rattle.std.proofs.Common.{◌≡◌, ℕ, ◌+◌, Bool, cond, List, [], ◌∷◌, map, refl, sym, ap, ◌∙◌, Option, Some, None, option_map, Ok, Err}
use Rattle.std.specs.Prelude.{is_none}
use Rattle.std.specs.Option.{option_or}
use Rattle.tlsf_heap.specs.declared.refusal.Refusal.TheVariants.{BadPointer}
use Rattle.tlsf_heap.specs.Content.{Block, Pool, Content, blocks_of, is_free, is_at, size_at}
use Rattle.tlsf_heap.specs.Lists.{link}
use Rattle.tlsf_heap.specs.Malloc.{replaced_in}
use Rattle.tlsf_heap.specs.Free.{is_live, previous_of, next_of, if_free, first_in_pools, free_previous, free_next, unlink_block, size_of, start_of, free_block, without_block, after_free, free}
use Rattle.tlsf_heap.specs.Bare.{renamed_block, renamed_pool, renamed, renamed_result}
use Rattle.tlsf_heap.proofs.Content.BareSteps.{ap-cond, size_at-renamed, replaced_in-renamed}

-- the pools and the lists once a block of this size is free, by its free neighbours
module _ {A : Type 0} (place size : ℕ) (front back : Option (Block A)) where
  abbrev whole_size : ℕ
  whole_size = size_of front + size + size_of back

  abbrev pools_after : List (Pool A) → List (Pool A)
  pools_after pools = map (replaced_in place (free_block (start_of front place) whole_size ∷ [])) (without_block back (without_block front pools))

  abbrev lists_after : List (List ℕ) → List (List ℕ)
  lists_after lists = link (start_of front place) whole_size (unlink_block back (unlink_block front lists))

module _ {A B : Type 0} (rename : A → B) where
  is_none-renamed : (owner : Option A) → is_none (option_map rename owner) ≡ is_none owner
  is_none-renamed None = refl
  is_none-renamed (Some owner) = refl

  is_free-renamed : (block : Block A) → is_free (renamed_block rename block) ≡ is_free block
  is_free-renamed block = is_none-renamed block.owner

  previous_of-renamed : (place : ℕ) (blocks : List (Block A)) → previous_of place (map (renamed_block rename) blocks) ≡ option_map (renamed_block rename) (previous_of place blocks)
  previous_of-renamed place [] = refl
  previous_of-renamed place (block ∷ []) = refl
  previous_of-renamed place (block ∷ next ∷ blocks) =
      ap (cond (is_at place next) (Some (renamed_block rename block))) (previous_of-renamed place (next ∷ blocks))
      ∙ sym (ap-cond (option_map (renamed_block rename)) (is_at place next) (Some block) (previous_of place (next ∷ blocks)))

  next_of-renamed : (place : ℕ) (blocks : List (Block A)) → next_of place (map (renamed_block rename) blocks) ≡ option_map (renamed_block rename) (next_of place blocks)
  next_of-renamed place [] = refl
  next_of-renamed place (block ∷ []) = refl
  next_of-renamed place (block ∷ next ∷ blocks) =
      ap (cond (is_at place block) (Some (renamed_block rename next))) (next_of-renamed place (next ∷ blocks))
      ∙ sym (ap-cond (option_map (renamed_block rename)) (is_at place block) (Some next) (next_of place (next ∷ blocks)))

  if_free-renamed : (block : Option (Block A)) → if_free (option_map (renamed_block rename) block) ≡ option_map (renamed_block rename) (if_free block)
  if_free-renamed None = refl
  if_free-renamed (Some block) =
      ap (λ free. cond free (Some (renamed_block rename block)) None) (is_free-renamed block)
      ∙ sym (ap-cond (option_map (renamed_block rename)) (is_free block) (Some block) None)

  option_or-renamed : (first second : Option (Block A))
      → option_or (option_map (renamed_block rename) first) (option_map (renamed_block rename) second) ≡ option_map (renamed_block rename) (option_or first second)
  option_or-renamed None second = refl
  option_or-renamed (Some block) second = refl

  first_in_pools-renamed : (tell : List (Block B) → Option (Block B)) (told : List (Block A) → Option (Block A))
      → ((blocks : List (Block A)) → tell (map (renamed_block rename) blocks) ≡ option_map (renamed_block rename) (told blocks))
      → (pools : List (Pool A)) → first_in_pools tell (map (renamed_pool rename) pools) ≡ option_map (renamed_block rename) (first_in_pools told pools)
  first_in_pools-renamed tell told same [] = refl
  first_in_pools-renamed tell told same (pool ∷ pools) =
      ap (λ first. option_or first (first_in_pools tell (map (renamed_pool rename) pools))) (same pool.blocks)
      ∙ ap (option_or (option_map (renamed_block rename) (told pool.blocks))) (first_in_pools-renamed tell told same pools)
      ∙ option_or-renamed (told pool.blocks) (first_in_pools told pools)

  free_previous-renamed : (place : ℕ) (content : Content A) → free_previous place (renamed rename content) ≡ option_map (renamed_block rename) (free_previous place content)
  free_previous-renamed place content =
      ap if_free (first_in_pools-renamed (previous_of place) (previous_of place) (previous_of-renamed place) content.pools) ∙ if_free-renamed (first_in_pools (previous_of place) content.pools)

  pub free_next-renamed : (place : ℕ) (content : Content A) → free_next place (renamed rename content) ≡ option_map (renamed_block rename) (free_next place content)
  free_next-renamed place content =
      ap if_free (first_in_pools-renamed (next_of place) (next_of place) (next_of-renamed place) content.pools) ∙ if_free-renamed (first_in_pools (next_of place) content.pools)

  lists_after-renamed : (place size : ℕ) (front back : Option (Block A)) (lists : List (List ℕ))
      → lists_after place size (option_map (renamed_block rename) front) (option_map (renamed_block rename) back) lists ≡ lists_after place size front back lists
  lists_after-renamed place size None None lists = refl
  lists_after-renamed place size None (Some back) lists = refl
  lists_after-renamed place size (Some front) None lists = refl
  lists_after-renamed place size (Some front) (Some back) lists = refl

  pub without_block-renamed : (block : Option (Block A)) (pools : List (Pool A)) → without_block (option_map (renamed_block rename) block) (map (renamed_pool rename) pools) ≡ map (renamed_pool rename) (without_block block pools)
  without_block-renamed None pools = refl
  without_block-renamed (Some block) pools = replaced_in-renamed rename block.place [] [] refl pools

  -- the place and the size of a neighbour are told by no owner
  start_of-renamed : (block : Option (Block A)) (place : ℕ) → start_of (option_map (renamed_block rename) block) place ≡ start_of block place
  start_of-renamed None place = refl
  start_of-renamed (Some block) place = refl

  pub size_of-renamed : (block : Option (Block A)) → size_of (option_map (renamed_block rename) block) ≡ size_of block
  size_of-renamed None = refl
  size_of-renamed (Some block) = refl

  pools_after-renamed : (place size : ℕ) (front back : Option (Block A)) (pools : List (Pool A))
      → pools_after place size (option_map (renamed_block rename) front) (option_map (renamed_block rename) back) (map (renamed_pool rename) pools) ≡ map (renamed_pool rename) (pools_after place size front back pools)
  pools_after-renamed place size front back pools =
      let one : ℕ → ℕ → List (Block B) = λ start n. free_block start n ∷ [] in
      let left : List (Pool B) = without_block (option_map (renamed_block rename) back) (without_block (option_map (renamed_block rename) front) (map (renamed_pool rename) pools)) in
      ap (λ start. map (replaced_in place (one start (size_of (option_map (renamed_block rename) front) + size + size_of (option_map (renamed_block rename) back)))) left) (start_of-renamed front place)
      ∙ ap (λ n. map (replaced_in place (one (start_of front place) (n + size + size_of (option_map (renamed_block rename) back)))) left) (size_of-renamed front)
      ∙ ap (λ n. map (replaced_in place (one (start_of front place) (size_of front + size + n))) left) (size_of-renamed back)
      ∙ ap (λ ps. map (replaced_in place (one (start_of front place) (size_of front + size + size_of back))) (without_block (option_map (renamed_block rename) back) ps)) (without_block-renamed front pools)
      ∙ ap (map (replaced_in place (one (start_of front place) (size_of front + size + size_of back)))) (without_block-renamed back (without_block front pools))
      ∙ replaced_in-renamed rename place (free_block (start_of front place) (size_of front + size + size_of back) ∷ []) (one (start_of front place) (size_of front + size + size_of back)) refl (without_block back (without_block front pools))

  pub after_free-renamed : (place : ℕ) (content : Content A) → after_free place (renamed rename content) ≡ renamed rename (after_free place content)
  after_free-renamed place content =
      let size = size_at place (blocks_of content.pools) in
      let pools = map (renamed_pool rename) content.pools in
      let of : ℕ → Option (Block B) → Option (Block B) → Content B = λ s front back. record { records = content.records; pools = pools_after place s front back pools; lists = lists_after place s front back content.lists } in
      ap (λ s. of s (free_previous place (renamed rename content)) (free_next place (renamed rename content))) (size_at-renamed rename place content.pools)
      ∙ ap (λ front. of size front (free_next place (renamed rename content))) (free_previous-renamed place content)
      ∙ ap (of size (option_map (renamed_block rename) (free_previous place content))) (free_next-renamed place content)
      ∙ ap (λ ps. record { records = content.records; pools = ps; lists = lists_after place size (option_map (renamed_block rename) (free_previous place content)) (option_map (renamed_block rename) (free_next place content)) content.lists })
      (pools_after-renamed place size (free_previous place content) (free_next place content) content.pools)
      ∙ ap (λ (ls : List (List ℕ)). record { records = content.records; pools = map (renamed_pool rename) (pools_after place size (free_previous place content) (free_next place content) content.pools); lists = ls })
      (lists_after-renamed place size (free_previous place content) (free_next place content) content.lists)

  -- free leaves the same, or refuses, where the block that is meant is live in both
  pub free-renamed : (is_meant : A → Bool) (is_meant_too : B → Bool) (place : ℕ) (content : Content A)
      → is_live is_meant_too place (blocks_of (renamed rename content).pools) ≡ is_live is_meant place (blocks_of content.pools)
      → free is_meant_too place (renamed rename content) ≡ renamed_result rename (free is_meant place content)
  free-renamed is_meant is_meant_too place content same =
      ap (λ live. cond live (Ok (after_free place (renamed rename content))) (Err BadPointer)) same
      ∙ ap (λ after. cond (is_live is_meant place (blocks_of content.pools)) (Ok after) (Err BadPointer)) (after_free-renamed place content)
      ∙ sym (ap-cond (renamed_result rename) (is_live is_meant place (blocks_of content.pools)) (Ok (after_free place content)) (Err BadPointer))
