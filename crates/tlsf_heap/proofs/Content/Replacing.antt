-- The block at a place gives way to others: what is counted; and the size at a place.
use Rattle.std.proofs.Common.{◌≡◌, ℕ, ◌+◌, Bool, true, cond, List, [], ◌∷◌, ◌++◌, length, map, refl, sym, ap, ◌∙◌, arith, count_by, find, Some, option_map, unwrap_or}
use Rattle.std.proofs.lemmas.Grind.{flat_map-append}
use Rattle.std.proofs.lemmas.Bool.{eq-eqb}
use Rattle.tlsf_heap.specs.Content.{Block, Pool, blocks_of, is_at, size_at}
use Rattle.tlsf_heap.specs.Malloc.{replaced, replaced_in}
use Rattle.tlsf_heap.proofs.Counts.{count-cons, count-append, count_all, one_if}
use Rattle.tlsf_heap.proofs.Content.Blocks.{NoneAt, Found}

module _ {A : Type 0} where
  pub replaced-append : (place : ℕ) (others blocks more : List (Block A)) → replaced place others (blocks ++ more) ≡ replaced place others blocks ++ replaced place others more
  replaced-append place others blocks more = flat_map-append (λ block. cond (is_at place block) others (block ∷ [])) blocks more

  pub replaced-none : (place : ℕ) (others blocks : List (Block A)) → NoneAt place blocks → replaced place others blocks ≡ blocks
  replaced-none place others [] n = refl
  replaced-none place others (block ∷ blocks) n = rw (n.0, replaced-none place others blocks n.1) refl

  pub replaced-here : (place : ℕ) (others : List (Block A)) (block : Block A) (blocks : List (Block A)) → is_at place block ≡ true → replaced place others (block ∷ blocks) ≡ others ++ replaced place others blocks
  replaced-here place others block blocks h = rw h refl

  -- the block found gives way, the others stay
  pub replaced-found : (place : ℕ) (others blocks : List (Block A)) (found : Found place blocks) → replaced place others blocks ≡ found.front ++ (others ++ found.back)
  replaced-found place others blocks found =
      ap (replaced place others) found.whole
      ∙ replaced-append place others found.front (found.block ∷ found.back)
      ∙ ap (λ xs. xs ++ replaced place others (found.block ∷ found.back)) (replaced-none place others found.front found.none_before)
      ∙ ap (λ xs. found.front ++ xs) (replaced-here place others found.block found.back (eq-eqb _ _ found.here) ∙ ap (λ xs. others ++ xs) (replaced-none place others found.back found.none_behind))

  pub count_by-replaced : (place : ℕ) (others blocks : List (Block A)) (kind : Block A → Bool) (found : Found place blocks)
      → count_by kind (replaced place others blocks) + one_if (kind found.block) ≡ count_by kind blocks + count_by kind others
  count_by-replaced place others blocks kind found =
      let after = ap (count_by kind) (replaced-found place others blocks found) in
      let before = ap (count_by kind) found.whole in
      let one = count-append kind found.front (found.block ∷ found.back) in
      let two = count-cons kind found.block found.back in
      let three = count-append kind found.front (others ++ found.back) in
      let four = count-append kind others found.back in
      omega (arith, after, before, one, two, three, four)

  pub find-none : (place : ℕ) (blocks more : List (Block A)) → NoneAt place blocks → find (is_at place) (blocks ++ more) ≡ find (is_at place) more
  find-none place [] more n = refl
  find-none place (block ∷ blocks) more n = rw n.0 (find-none place blocks more n.1)

  -- the size at a place is that of the block found there
  pub size_at-found : (place : ℕ) (blocks : List (Block A)) (found : Found place blocks) → size_at place blocks ≡ found.block.size
  size_at-found place blocks found =
      let first : find (is_at place) (found.block ∷ found.back) ≡ Some found.block = rw (eq-eqb _ _ found.here) refl in
      ap (λ o. unwrap_or (option_map (λ (block : Block A). block.size) o) 0)
      (ap (find (is_at place)) found.whole ∙ find-none place found.front (found.block ∷ found.back) found.none_before ∙ first)

  -- pool by pool is all at once
  pub blocks_of-replaced : (place : ℕ) (others : List (Block A)) (pools : List (Pool A)) → blocks_of (map (replaced_in place others) pools) ≡ replaced place others (blocks_of pools)
  blocks_of-replaced place others [] = refl
  blocks_of-replaced place others (pool ∷ pools) =
      ap (λ xs. replaced place others pool.blocks ++ xs) (blocks_of-replaced place others pools) ∙ sym (replaced-append place others pool.blocks (blocks_of pools))

  -- how many blocks there are then
  pub length-replaced : (place : ℕ) (others : List (Block A)) (pools : List (Pool A)) → Found place (blocks_of pools) → length (blocks_of (map (replaced_in place others) pools)) + 1 ≡ length (blocks_of pools) + length others
  length-replaced place others pools found =
      let all : Block A → Bool = λ block. true in
      omega (
        arith,
        ap length (blocks_of-replaced place others pools),
        count_by-replaced place others (blocks_of pools) all found,
        count_all (replaced place others (blocks_of pools)),
        count_all (blocks_of pools),
        count_all others,
      )
