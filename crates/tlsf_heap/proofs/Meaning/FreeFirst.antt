-- The first of some blocks, where it is free, and the blocks without it; and blocks in front of others.
use Rattle.std.proofs.Common.{◌≡◌, ℕ, ◌+◌, ◌<◌, ◌≤◌, Bool, true, false, cond, not, ◌&&◌, List, [], ◌∷◌, ◌++◌, length, refl, sym, ap, ◌∙◌, subst, arith, count_by, IsTrue, Option, Some, None, inl, inr}
use Rattle.std.specs.Prelude.{◌==◌, if◌then◌else◌}
use Rattle.std.proofs.lemmas.Bool.{cases_Bool, eq-eqb}
use Rattle.tlsf_class.specs.Classes.{classes, class}
use Rattle.tlsf_heap.specs.Content.{Block, Pool, Content, is_free, is_at, blocks_of}
use Rattle.tlsf_heap.specs.Lists.{list_of}
use Rattle.tlsf_heap.specs.Good.{Covers, NoFreeNeighbours, AreGoodPools, times, is_listed, IsGood}
use Rattle.tlsf_heap.specs.Free.{if_free, unlink_block, size_of, start_of, without_block, free_block, free}
use Rattle.tlsf_heap.specs.Inner.Positions.{plug}
use Rattle.tlsf_heap.proofs.Content.FreeLists.{listed_at, times-unlink, length-unlink}
use Rattle.tlsf_heap.proofs.Counts.{one_if, count-cons}
use Rattle.tlsf_heap.proofs.Meaning.BlockPositions.{leading_block, BlockPosition, filled_pools, count-filled_pools, at_most_one, block_alone, replaced_at}
use Rattle.tlsf_heap.proofs.Meaning.Gaps.{FailsOnFree}
use Rattle.tlsf_class.proofs.ClassLaws.{class-lt}
use Rattle.tlsf_heap.proofs.Content.Blocks.{Ascends-pools}

pub length-plug : {X : Type 0} (front behind : List X) → length (plug front behind) ≡ length front + length behind
length-plug [] behind = omega arith
length-plug (x ∷ front) behind = omega (arith, length-plug front (x ∷ behind))

module _ {A : Type 0} where
  -- the blocks without the first, where it is free
  abbrev pub past_free : List (Block A) → List (Block A)
  past_free [] = []
  past_free (block ∷ blocks) = if is_free block then blocks else block ∷ blocks

  abbrev pub free_first : List (Block A) → Option (Block A)
  free_first blocks = if_free (leading_block blocks)

  -- whether the first is free
  abbrev pub is_first_free : List (Block A) → Bool
  is_first_free [] = false
  is_first_free (block ∷ blocks) = is_free block

  -- how often a block, if there is one, stands at p in the list of class q when it is free
  abbrev pub listed_of : ℕ → ℕ → Option (Block A) → ℕ
  listed_of q p None = 0
  listed_of q p (Some block) = listed_at q p block.place block.size

  -- no free one is left beside the block
  pub past_apart : (blocks : List (Block A)) → NoFreeNeighbours false blocks → NoFreeNeighbours true (past_free blocks)
  past_apart [] n = tt
  past_apart (block ∷ blocks) n = elim (cases_Bool (is_free block)) [
    | inl free ↦ let P : Bool → Type 0 = λ b. NoFreeNeighbours b blocks in rw free (subst P free n.1)
    | inr live ↦ rw live (let P : Bool → Type 0 = λ b. IsTrue (not b) × NoFreeNeighbours b blocks in subst P (sym live) (let Q : Bool → Type 0 = λ b. NoFreeNeighbours b blocks in (refl, subst Q live n.1)))
  ]

  -- the first of the blocks, where it is free, as the only one
  abbrev pub lead : List (Block A) → List (Block A)
  lead [] = []
  lead (block ∷ blocks) = if is_free block then block ∷ [] else []

  pub lead_plug : (before others : List (Block A)) → plug before others ≡ plug (past_free before) (lead before ++ others)
  lead_plug [] others = refl
  lead_plug (f ∷ before) others = elim (is_free f) as (λ b. plug (f ∷ before) others ≡ plug (cond b before (f ∷ before)) (cond b (f ∷ []) [] ++ others)) [ true ↦ refl | false ↦ refl ]

  pub count_lead : (q p : ℕ) (blocks : List (Block A)) → count_by (is_listed q p) (lead blocks) ≡ listed_of q p (free_first blocks)
  count_lead q p [] = refl
  count_lead q p (block ∷ blocks) =
      let P : Bool → Type 0 = λ f. count_by (is_listed q p) (cond f (block ∷ []) []) ≡ listed_of q p (cond f (Some block) None) in
      elim (cases_Bool (is_free block)) [
        | inl free ↦ subst P (sym free) (omega (arith, count-cons (is_listed q p) block [], ap (λ b. one_if (b && (is_at p block && (class block.size == q)))) free))
        | inr live ↦ subst P (sym live) refl
      ]

  pub count_past : (q p : ℕ) (blocks : List (Block A)) → count_by (is_listed q p) (past_free blocks) + listed_of q p (free_first blocks) ≡ count_by (is_listed q p) blocks
  count_past q p [] = refl
  count_past q p (block ∷ blocks) =
      let P : Bool → Type 0 = λ f. count_by (is_listed q p) (cond f blocks (block ∷ blocks)) + listed_of q p (cond f (Some block) None) ≡ count_by (is_listed q p) (block ∷ blocks) in
      elim (cases_Bool (is_free block)) [
        | inl free ↦ subst P (sym free) (omega (arith, count-cons (is_listed q p) block blocks, ap (λ b. one_if (b && (is_at p block && (class block.size == q)))) free))
        | inr live ↦ subst P (sym live) (omega arith)
      ]

  pub listed_few : (q p : ℕ) (blocks : List (Block A)) → count_by (is_listed q p) blocks ≤ count_by (is_at p) blocks
  listed_few q p [] = omega arith
  listed_few q p (block ∷ blocks) = omega (arith, count-cons (is_listed q p) block blocks, count-cons (is_at p) block blocks, listed_few q p blocks, one (is_free block) (is_at p block) (class block.size == q))
    where
      one : (a b c : Bool) → one_if (a && (b && c)) ≤ one_if b
      one false b c = omega arith
      one true false c = omega arith
      one true true false = omega arith
      one true true true = omega arith

  -- of a good content one block at most begins at a place
  pub begins_once : (content : Content A) → IsGood content → (place : ℕ) → count_by (is_at place) (blocks_of content.pools) ≤ 1
  begins_once content good = at_most_one 0 (blocks_of content.pools) (Ascends-pools 0 content.pools good.pools_good)

  -- a place that is listed stands once in its list
  pub listed_once : (content : Content A) → IsGood content → (number place : ℕ) → number < classes → 1 ≤ count_by (is_listed number place) (blocks_of content.pools) → times place (list_of number content.lists) ≡ 1
  listed_once content good number place within some =
      omega (arith, good.listed number place within, begins_once content good place, listed_few number place (blocks_of content.pools), some)

  pub few_past : (kind : Block A → Bool) (blocks : List (Block A)) → count_by kind (past_free blocks) ≤ count_by kind blocks
  few_past kind [] = omega arith
  few_past kind (block ∷ blocks) = elim (is_free block) as (λ b. count_by kind (cond b blocks (block ∷ blocks)) ≤ count_by kind (block ∷ blocks)) [
    | true ↦ omega (arith, count-cons kind block blocks)
    | false ↦ omega arith
  ]

  -- a test that no free block passes
  pub kept_past : (test : Block A → Bool) → FailsOnFree test → (blocks : List (Block A)) → count_by test (past_free blocks) ≡ count_by test blocks
  kept_past test fails [] = refl
  kept_past test fails (block ∷ blocks) = elim (cases_Bool (is_free block)) [
    | inl free ↦ rw free (omega (arith, count-cons test block blocks, ap one_if (fails block free)))
    | inr live ↦ rw live refl
  ]

  -- the block still begins where no other does
  pub once_past : (position : BlockPosition A) (block : Block A) (blocks : List (Block A)) → ((place : ℕ) → count_by (is_at place) (blocks_of (filled_pools position (block ∷ blocks))) ≤ 1)
      → (place : ℕ) → count_by (is_at place) (blocks_of (filled_pools position (block ∷ past_free blocks))) ≤ 1
  once_past position block blocks once place =
      omega (
        arith,
        once place,
        count-filled_pools (is_at place) position (block ∷ blocks),
        count-filled_pools (is_at place) position (block ∷ past_free blocks),
        count-cons (is_at place) block blocks,
        count-cons (is_at place) block (past_free blocks),
        few_past (is_at place) blocks,
      )

  -- a free first block stands once at its place in its class's list
  pub free_stands : (blocks : List (Block A)) (block : Block A) → free_first blocks ≡ Some block → (1 ≤ count_by (is_listed (class block.size) block.place) blocks) × (1 ≤ count_by (is_at block.place) blocks)
  free_stands [] block is = absurd (cc)
  free_stands (other ∷ blocks) block is = elim (cases_Bool (is_free other)) [
    | inl free ↦
        let same : other ≡ block = some_same other block (sym (ap (λ b. cond b (Some other) None) free) ∙ is) in
        let P : Block A → Type 0 = λ x. (1 ≤ count_by (is_listed (class x.size) x.place) (other ∷ blocks)) × (1 ≤ count_by (is_at x.place) (other ∷ blocks)) in
        let own : one_if (is_listed (class other.size) other.place other) ≡ 1 = rw (free, eq-eqb other.place other.place refl, eq-eqb (class other.size) (class other.size) refl) refl in
        subst P same (omega (arith, own, count-cons (is_listed (class other.size) other.place) other blocks), omega (arith, ap one_if (eq-eqb other.place other.place refl), count-cons (is_at other.place) other blocks))
    | inr live ↦ absurd (let none : None ≡ Some block = sym (ap (λ b. cond b (Some other) None) live) ∙ is in cc)
  ]
    where
      some_same : (x y : Block A) → Some x ≡ Some y → x ≡ y
      some_same x y e = cc

  -- a neighbour that leaves its list
  pub times-unlink_block : (lists : List (List ℕ)) (full : length lists ≡ classes) (o : Option (Block A)) → ((block : Block A) → o ≡ Some block → times block.place (list_of (class block.size) lists) ≡ 1)
      → (q p : ℕ) → times p (list_of q (unlink_block o lists)) + listed_of q p o ≡ times p (list_of q lists)
  times-unlink_block lists full None once q p = omega arith
  times-unlink_block lists full (Some block) once q p = times-unlink lists full q p block.place block.size (once block refl)

  pub length-unlink_block : (lists : List (List ℕ)) (full : length lists ≡ classes) (o : Option (Block A)) → length (unlink_block o lists) ≡ classes
  length-unlink_block lists full None = full
  length-unlink_block lists full (Some block) = length-unlink lists full block.place block.size

  pub covers_plug : (to : ℕ) (front olds news : List (Block A)) → ((from : ℕ) → Covers from to olds → Covers from to news) → (from : ℕ) → Covers from to (plug front olds) → Covers from to (plug front news)
  covers_plug to [] olds news covers = covers
  covers_plug to (f ∷ front) olds news covers = covers_plug to front (f ∷ olds) (f ∷ news) (λ from c. (c.0, c.1, c.2, covers (from + f.size) c.3))

  pub pools_plug : (front olds news : List (Pool A)) → ((from : ℕ) → AreGoodPools from olds → AreGoodPools from news) → (from : ℕ) → AreGoodPools from (plug front olds) → AreGoodPools from (plug front news)
  pools_plug [] olds news good = good
  pools_plug (pool ∷ front) olds news good = pools_plug front (pool ∷ olds) (pool ∷ news) (λ from g. (g.0, g.1, good (pool.base + pool.bytes) g.2))

  -- a block and those beside it, as one
  abbrev pub merged_of : Option (Block A) → Block A → Option (Block A) → Block A
  merged_of front block back = free_block (start_of front block.place) (size_of front + block.size + size_of back)

  pub covers_behind : (block : Block A) (blocks : List (Block A)) (from to : ℕ) → Covers from to (block ∷ blocks) → Covers from to (free_block block.place (block.size + size_of (free_first blocks)) ∷ past_free blocks)
  covers_behind block [] from to c = (c.0, omega (arith, c.1), omega (arith, c.2), let P : ℕ → Type 0 = λ n. n ≡ to in let same : from + block.size ≡ from + (block.size + 0) = omega arith in subst P same c.3)
  covers_behind block (next ∷ blocks) from to c =
      let P : Bool → Type 0 = λ f. Covers from to (free_block block.place (block.size + size_of (cond f (Some next) None)) ∷ cond f blocks (next ∷ blocks)) in
      elim (is_free next) as P [
        | true ↦ (
          c.0,
          omega (arith, c.1),
          omega (arith, c.2, c.3.2),
          let Q : ℕ → Type 0 = λ n. Covers n to blocks in
              let same : (from + block.size) + next.size ≡ from + (block.size + next.size) = omega arith in
              subst Q same c.3.3,
        )
        | false ↦ (
          c.0,
          omega (arith, c.1),
          omega (arith, c.2),
          let Q : ℕ → Type 0 = λ n. Covers n to (next ∷ blocks) in
              let same : from + block.size ≡ from + (block.size + 0) = omega arith in
              subst Q same c.3,
        )
      ]

  -- a free block behind the one at a position gives way to nothing
  pub without_next : (position : BlockPosition A) (block : Block A) (others : List (Block A)) → ((place : ℕ) → count_by (is_at place) (blocks_of (filled_pools position (block ∷ others))) ≤ 1)
      → without_block (free_first others) (filled_pools position (block ∷ others)) ≡ filled_pools position (block ∷ past_free others)
  without_next position block [] few = refl
  without_next position block (b ∷ others) few = elim (is_free b) as (λ t.
      without_block (cond t (Some b) None) (filled_pools position (block ∷ b ∷ others)) ≡ filled_pools position (block ∷ cond t others (b ∷ others))) [
        | true ↦ replaced_at (record position { before = block ∷ position.before }) b others (block_alone (record position { before = block ∷ position.before }) b others few) []
        | false ↦ refl
      ]

  -- and stands once in its list
  pub next_once : (records : ℕ) (position : BlockPosition A) (block : Block A) (blocks : List (Block A)) (lists : List (List ℕ)) → IsGood (record { records = records; pools = filled_pools position (block ∷ blocks); lists = lists })
      → (other : Block A) → free_first blocks ≡ Some other → times other.place (list_of (class other.size) lists) ≡ 1
  next_once records position block blocks lists good other is =
      let kind : Block A → Bool = is_listed (class other.size) other.place in
      listed_once (record { records = records; pools = filled_pools position (block ∷ blocks); lists = lists }) good (class other.size) other.place (class-lt other.size)
      (omega (arith, count-filled_pools kind position (block ∷ blocks), count-cons kind block blocks, (free_stands blocks other is).0))
