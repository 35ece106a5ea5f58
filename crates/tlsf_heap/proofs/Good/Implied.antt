-- A good content's blocks are aligned, disjoint and listed once where they are free; and what a refusal implies of them.
use Rattle.std.proofs.Common.{◌≡◌, ℕ, zero, suc, ◌+◌, ◌-◌, ◌*◌, ◌%◌, ◌<◌, ◌≤◌, Bool, true, false, ◌&&◌, not, List, [], ◌∷◌, length, get_or, refl, sym, ap, ◌∙◌, arith, count_by, Some, None, drop, option_and_then, inl, inr, length-append}
use Rattle.std.specs.Prelude.{Err, Any, All, AllPairs, IsTrue}
use Rattle.std.specs.List.{AllByRecursion}
use Rattle.std.proofs.lemmas.Bool.{cases_lt, eq-eqb}
use Rattle.std.proofs.lemmas.List.{get_or-drop}
use Rattle.std.proofs.Math.Seq.{get_or-append_seam}
use Rattle.std.proofs.lemmas.List.Elements.{All-from_recursion, All-append}
use Rattle.std.proofs.lemmas.List.Kept.{AllPairs-cons}
use Rattle.tlsf_class.specs.Classes.{unit, classes, low, class, need}
use Rattle.tlsf_class.proofs.ClassLaws.{class-lt, lt-low_above, need-lt}
use Rattle.tlsf_heap.specs.declared.refusal.Refusal.TheVariants.{NoFit, TableFull}
use Rattle.tlsf_heap.specs.Content.{Block, Pool, Content, blocks_of, is_free, is_at, used_records}
use Rattle.tlsf_heap.specs.Lists.{list_of, first_of_lists, pick}
use Rattle.tlsf_heap.specs.Malloc.{malloc}
use Rattle.tlsf_heap.specs.Pools.{add_pool}
use Rattle.tlsf_heap.specs.Good.{Covers, NoFreeNeighbours, AreGoodPools, IsGood, times, is_listed}
use Rattle.tlsf_heap.specs.Implied.{IsAligned, AreDisjoint, AreFreeBelow, NoneFits, HasFewRecords}
use Rattle.tlsf_heap.proofs.Counts.{count-cons, count-append, one_if}
use Rattle.tlsf_heap.proofs.Content.Blocks.{Ascends, Ascends-higher, Ascends-pools, found_listed}
use Rattle.tlsf_heap.proofs.Meaning.FreeFirst.{listed_once}
use Rattle.tlsf_heap.proofs.Content.MallocCases.{malloc_cases}
use Rattle.tlsf_heap.proofs.Content.PoolCases.{pool_cases}

-- lists of which none is the first that isn't empty are empty
no_first : (lists : List (List ℕ)) → first_of_lists lists ≡ None → (k : ℕ) → list_of k lists ≡ []
no_first [] h k = refl
no_first ([] ∷ lists) h zero = refl
no_first ([] ∷ lists) h (suc k) = no_first lists h k
no_first ((place ∷ places) ∷ lists) h k = absurd (cc)

-- where nothing is picked, the lists from the class needed on are empty
pick_none : (m c : ℕ) (lists : List (List ℕ)) → pick m lists ≡ None → need m ≡ Some c → (k : ℕ) → c ≤ k → list_of k lists ≡ []
pick_none m c lists none is k above =
    let first : first_of_lists (drop c lists) ≡ None = sym (ap (option_and_then (λ number. first_of_lists (drop number lists))) is) ∙ none in
    let same : c + (k - c) ≡ k = omega (arith, above) in
    ap (λ n. list_of n lists) (sym same) ∙ sym (get_or-drop c lists (k - c) []) ∙ no_first (drop c lists) first (k - c)

one_at_most : (b : Bool) → one_if b ≤ 1
one_at_most true = omega arith
one_at_most false = omega arith

none_after : (after free : Bool) → not (after && free) ≡ true → free ≡ true → one_if after ≡ 0
none_after true true n is = absurd (cc)
none_after true false n is = absurd (cc)
none_after false free n is = refl

module _ {A : Type 0} where
  -- a free block is listed at its place in its class
  listed_itself : (block : Block A) → is_free block ≡ true → is_listed (class block.size) block.place block ≡ true
  listed_itself block free = rw (free, eq-eqb block.place block.place refl, eq-eqb (class block.size) (class block.size) refl) refl

  -- blocks of which none is listed from a class on are below its lowest size where they are free
  below_class : (c : ℕ) (blocks : List (Block A)) → c < classes → ((k place : ℕ) → c ≤ k → k < classes → count_by (is_listed k place) blocks ≡ 0)
      → AllByRecursion (λ block. IsTrue (is_free block) → block.size < low c) blocks
  below_class c [] within none = tt
  below_class c (block ∷ blocks) within none = (
    λ free. elim (cases_lt (class block.size) c) [
      | inl less ↦ lt-low_above block.size c less within
      | inr most ↦
          let kind : Block A → Bool = is_listed (class block.size) block.place in
          let here : is_at block.place block ≡ true = eq-eqb block.place block.place refl in
          let listed : kind block ≡ true = rw (free, here, eq-eqb (class block.size) (class block.size) refl) refl in
          absurd (omega (arith, none (class block.size) block.place most (class-lt block.size), count-cons kind block blocks, ap one_if (listed_itself block free)))
    ],
    below_class c blocks within (λ k place above below. omega (arith, none k place above below, count-cons (is_listed k place) block blocks)),
  )

  -- where nothing is picked for m bytes, the free blocks are smaller than the class needed
  pub none_picked : (m c : ℕ) (content : Content A) → IsGood content → pick m content.lists ≡ None → need m ≡ Some c → AreFreeBelow (low c) (blocks_of content.pools)
  none_picked m c content good none is =
      All-from_recursion (λ block. IsTrue (is_free block) → block.size < low c) (blocks_of content.pools)
      (below_class c (blocks_of content.pools) (need-lt m c is)
      (λ k place above below. sym (good.listed k place below) ∙ ap (times place) (pick_none m c content.lists none is k above)))

  -- where malloc finds no fit, no free block is of the class needed
  pub no_fit : (owner : A) (n : ℕ) (content : Content A) → IsGood content → malloc owner n content ≡ Err NoFit → NoneFits n content
  no_fit owner n content good =
      malloc_cases owner content n (λ r. r ≡ Err NoFit → NoneFits n content)
      (λ nothing e. absurd (cc))
      (λ some none e m c rounds needed. none_picked m c content good (none m rounds) needed)
      (λ p full e. absurd (cc))
      (λ p e. absurd (cc))

  -- each block begins at or above the place from which the blocks ascend
  begins_from : (from : ℕ) (blocks : List (Block A)) → Ascends from blocks → AllByRecursion (λ block. from ≤ block.place) blocks
  begins_from from [] a = tt
  begins_from from (block ∷ blocks) a =
      let behind : Ascends from blocks = Ascends-higher (block.place + block.size) from blocks (omega (arith, a.0)) a.2 in
      (a.0, begins_from from blocks behind)

  disjoint : (from : ℕ) (blocks : List (Block A)) → Ascends from blocks → AllPairs AreDisjoint blocks
  disjoint from [] a = λ i j d less within. absurd (omega (arith, within))
  disjoint from (block ∷ blocks) a =
      let next : ℕ = block.place + block.size in
      AllPairs-cons AreDisjoint block blocks (λ k d within. inl (All-from_recursion (λ (other : Block A). next ≤ other.place) blocks (begins_from next blocks a.2) k d within)) (disjoint next blocks a.2)

  -- a good content's blocks are disjoint
  pub has_disjoint_blocks : (content : Content A) → IsGood content → AllPairs AreDisjoint (blocks_of content.pools)
  has_disjoint_blocks content good = disjoint 0 (blocks_of content.pools) (Ascends-pools 0 content.pools good.pools_good)

  aligned : (from to : ℕ) (blocks : List (Block A)) → from % unit ≡ 0 → Covers from to blocks → AllByRecursion IsAligned blocks
  aligned from to [] at c = tt
  aligned from to (block ∷ blocks) at c =
      let place : block.place % unit ≡ 0 = ap (λ n. n % unit) c.0 ∙ at in
      ((place, c.2), aligned (from + block.size) to blocks (omega (arith, at, c.2)) c.3)

  aligned_in : (from : ℕ) (pools : List (Pool A)) → AreGoodPools from pools → All IsAligned (blocks_of pools)
  aligned_in from [] g = λ k d within. absurd (omega (arith, within))
  aligned_in from (pool ∷ pools) g =
      All-append IsAligned pool.blocks (blocks_of pools)
      (All-from_recursion IsAligned pool.blocks (aligned pool.base (pool.base + pool.bytes) pool.blocks g.1.base_in_units g.1.covered))
      (aligned_in (pool.base + pool.bytes) pools g.2)

  -- a good content's blocks are aligned
  pub has_aligned_blocks : (content : Content A) → IsGood content → All IsAligned (blocks_of content.pools)
  has_aligned_blocks content good = aligned_in 0 content.pools good.pools_good

  -- an element that passes is counted
  counted_at : (test : Block A → Bool) (blocks : List (Block A)) (k : ℕ) (d : Block A) → k < length blocks → test (get_or blocks k d) ≡ true → 1 ≤ count_by test blocks
  counted_at test [] k d within passes = absurd (omega (arith, within))
  counted_at test (block ∷ blocks) zero d within passes = omega (arith, count-cons test block blocks, ap one_if passes)
  counted_at test (block ∷ blocks) (suc k) d within passes = omega (arith, count-cons test block blocks, counted_at test blocks k d (omega (arith, within)) passes)

  -- a good content's free blocks are each listed once
  pub lists_free_blocks : (content : Content A) → IsGood content → All (λ block. IsTrue (is_free block) → times block.place (list_of (class block.size) content.lists) ≡ 1) (blocks_of content.pools)
  lists_free_blocks content good k d within free =
      let blocks : List (Block A) = blocks_of content.pools in
      let block : Block A = get_or blocks k d in
      let number : ℕ = class block.size in
      let some : 1 ≤ count_by (is_listed number block.place) blocks = counted_at (is_listed number block.place) blocks k d within (listed_itself block free) in
      listed_once content good number block.place (class-lt block.size) some

  -- and nothing else is
  pub lists_nothing_else : (content : Content A) → IsGood content → (number place : ℕ) → number < classes → 0 < times place (list_of number content.lists) → Any (λ block. IsTrue (is_listed number place block)) (blocks_of content.pools)
  lists_nothing_else content good number place below some =
      let blocks : List (Block A) = blocks_of content.pools in
      let found = found_listed number place 0 blocks (Ascends-pools 0 content.pools good.pools_good) (omega (arith, some, good.listed number place below)) in
      let listed : is_listed number place found.0.block ≡ true = rw (found.1, eq-eqb _ _ found.0.here, eq-eqb _ _ found.2) refl in
      let behind : ℕ = length found.0.front in (
        behind,
        found.0.block,
        omega (arith, ap length found.0.whole, length-append found.0.front (found.0.block ∷ found.0.back)),
        ap (λ bs. get_or bs behind found.0.block) found.0.whole ∙ get_or-append_seam found.0.front found.0.block found.0.back found.0.block,
        listed,
      )

  abbrev is_used : Block A → Bool
  is_used block = not (is_free block)

  -- where no two free blocks are neighbours, there is at most one more of them than of live ones
  few_free : (after : Bool) (blocks : List (Block A)) → NoFreeNeighbours after blocks → length blocks + one_if after ≤ 2 * count_by is_used blocks + 1
  few_free true [] n = omega arith
  few_free false [] n = omega arith
  few_free after (block ∷ blocks) n = of (is_free block) refl (few_free (is_free block) blocks n.1)
    where
      count : count_by is_used (block ∷ blocks) ≡ one_if (not (is_free block)) + count_by is_used blocks
      count = count-cons is_used block blocks

      of : (free : Bool) → is_free block ≡ free → length blocks + one_if (is_free block) ≤ 2 * count_by is_used blocks + 1 → length (block ∷ blocks) + one_if after ≤ 2 * count_by is_used (block ∷ blocks) + 1
      of false is behind = omega (arith, behind, count, ap (λ b. one_if (not b)) is, one_at_most after)
      of true is behind = omega (arith, behind, count, ap one_if is, ap (λ b. one_if (not b)) is, none_after after (is_free block) n.0 is)

  -- there are at most two blocks a live one, and one a pool
  pub few_blocks : (pools : List (Pool A)) (from : ℕ) → AreGoodPools from pools → length (blocks_of pools) ≤ 2 * count_by is_used (blocks_of pools) + length pools
  few_blocks [] from g = omega arith
  few_blocks (pool ∷ pools) from g =
      omega (arith, few_free false pool.blocks g.1.merged, few_blocks pools (pool.base + pool.bytes) g.2, length-append pool.blocks (blocks_of pools), count-append is_used pool.blocks (blocks_of pools))

  -- where each record is in use, there are few
  full : (content : Content A) → IsGood content → content.records ≤ used_records content → HasFewRecords content
  full content good used = omega (arith, used, few_blocks content.pools 0 good.pools_good)

  -- where malloc finds the table full, there are few records
  pub malloc_full : (owner : A) (n : ℕ) (content : Content A) → IsGood content → malloc owner n content ≡ Err TableFull → HasFewRecords content
  malloc_full owner n content good =
      malloc_cases owner content n (λ r. r ≡ Err TableFull → HasFewRecords content)
      (λ nothing e. absurd (cc))
      (λ some none e. absurd (cc))
      (λ p used e. full content good used)
      (λ p e. absurd (cc))

  -- and add_pool alike
  pub add_pool_full : (base bytes : ℕ) (content : Content A) → IsGood content → add_pool base bytes content ≡ Err TableFull → HasFewRecords content
  add_pool_full base bytes content good =
      pool_cases base bytes content (λ r. r ≡ Err TableFull → HasFewRecords content)
      (λ e. absurd (cc))
      (λ e. absurd (cc))
      (λ used e. full content good used)
      (λ can few room e. absurd (cc))
