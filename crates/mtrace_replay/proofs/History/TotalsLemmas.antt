-- How the totals of a log's lines go on by one line.
use Rattle.std.proofs.Common.{◌≡◌, ℕ, zero, suc, ◌-◌, ◌*◌, ◌<◌, ◌≤◌, Bool, true, false, List, [], ◌∷◌, length, drop, ◌⊎◌, inl, inr, refl, sym, ap, ◌∙◌, subst, arith, Ok, Err}
use Rattle.std.specs.Prelude.{◌&&◌, max, nat_le, nat_lt, if◌then◌else◌}
use Rattle.std.specs.List.{Contains, list_all}
use Rattle.std.proofs.lemmas.Bool.{cases_Bool, leb-true, leb-false, ltb-true, ltb-false, cases_lt}
use Rattle.std.proofs.lemmas.List.Elements.{Contains-append_cases, Contains-append_left, Contains-append_right}
use Rattle.tlsf_heap.specs.declared.refusal.Refusal.{Refusal}
use Rattle.tlsf_heap.specs.declared.refusal.Refusal.TheVariants.{BadPool, PoolsFull, TableFull}
use Rattle.tlsf_heap.specs.Content.{Block, Pool, blocks_of, is_free, used_records}
use Rattle.tlsf_heap.specs.Malloc.{gap}
use Rattle.tlsf_heap.specs.Pools.{most_pools, created, can_be_pool, is_apart, in_order_of_base, with_pool, add_pool}
use Rattle.tlsf_heap.proofs.Good.LiveBlocks.{none_stands, gap_is_free}
use Rattle.mtrace_replay.specs.declared.heap.settings.Settings.{Settings}
use Rattle.mtrace_replay.specs.Started.{Bare, left_by, with_pools, started}
use Rattle.mtrace_replay.specs.Moment.{Given, Moment}
use Rattle.mtrace_replay.specs.Totals.{first_moments, Measures, IsGreatestOf, IsMost, IsEnd, IsHighPlace}
use Rattle.mtrace_replay.proofs.History.SortedLemmas.{one_list}
use Rattle.mtrace_replay.proofs.History.FoundLemmas.{none_held}

-- the moments of the first lines are the same after one line more
pub first_moments_before : (k : ℕ) (moment : Moment) (past : List Moment) → k ≤ length past → first_moments k (moment ∷ past) ≡ first_moments k past
first_moments_before k moment past within =
    let more : length (moment ∷ past) - k ≡ suc (length past - k) = omega (arith, within) in
    ap (λ n. drop n (moment ∷ past)) more

-- this many lines, or more, are all
pub first_moments_most : (k : ℕ) (past : List Moment) → length past ≤ k → first_moments k past ≡ past
first_moments_most k past beyond =
    let none : length past - k ≡ 0 = omega (arith, beyond) in
    ap (λ n. drop n past) none

pub first_moments_all : (past : List Moment) → first_moments (length past) past ≡ past
first_moments_all past = first_moments_most (length past) past (omega arith)

pub le_or_more : (k least : ℕ) → (k ≤ least) ⊎ (suc least ≤ k)
le_or_more k least = elim (cases_Bool (nat_le k least)) [
  | inl within ↦ inl (leb-true k least within)
  | inr beyond ↦ inr (omega (arith, leb-false k least beyond))
]

-- the first moments are those of before, or all
first_or_all : {X : Type 0} (k : ℕ) (moment : Moment) (past : List Moment) → (k ≤ length past → first_moments k (moment ∷ past) ≡ first_moments k past → X)
    → (suc (length past) ≤ k → first_moments k (moment ∷ past) ≡ moment ∷ past → X) → X
first_or_all k moment past before all = elim (le_or_more k (length past)) [
  | inl within ↦ before within (first_moments_before k moment past within)
  | inr beyond ↦ all beyond (first_moments_most k (moment ∷ past) beyond)
]

-- what is held has one measure
pub measure_is_one : (measure : List Given → ℕ) (past : List Moment) (one other : ℕ) → Measures measure past one → Measures measure past other → one ≡ other
measure_is_one measure past one other is as_well = is.measured ∙ ap measure (one_list past is.all as_well.all is.held as_well.held) ∙ sym as_well.measured

-- nothing is held before the first line
pub none_measured : (measure : List Given → ℕ) → measure [] ≡ 0 → Measures measure [] 0
none_measured measure nothing = record { all = []; held = none_held; measured = sym nothing }

none_first : (k : ℕ) → first_moments k [] ≡ []
none_first k = first_moments_most k [] (omega arith)

module _ (Holds : List Moment → ℕ → Type 0) where
  -- before the first line
  pub greatest_none : Holds [] 0 → ((n : ℕ) → Holds [] n → n ≡ 0) → IsGreatestOf Holds [] 0 0
  greatest_none zero_holds alone = record {
    within = omega arith;
    reached = subst (λ first. Holds first 0) (sym (none_first 0)) zero_holds;
    greatest = λ k n holds. (let is = alone n (subst (λ first. Holds first n) (none_first k) holds) in omega (arith, is));
    first = λ k n below holds. absurd (omega (arith, below));
  }

  module _ (moment : Moment) (past : List Moment) (most line : ℕ) (is : IsGreatestOf Holds past most line) where
    -- what holds after the first lines held before this one, or holds now
    holds_cases : {X : Type 0} (k n : ℕ) → Holds (first_moments k (moment ∷ past)) n → (k ≤ length past → Holds (first_moments k past) n → X) → (suc (length past) ≤ k → Holds (moment ∷ past) n → X) → X
    holds_cases k n holds before now = first_or_all k moment past (λ within same. before within (subst (λ first. Holds first n) same holds)) (λ beyond same. now beyond (subst (λ first. Holds first n) same holds))

    greatest_stays : ((n : ℕ) → Holds (moment ∷ past) n → n ≤ most) → IsGreatestOf Holds (moment ∷ past) most line
    greatest_stays below = record {
      within = omega (arith, is.within);
      reached = subst (λ first. Holds first most) (sym (first_moments_before line moment past is.within)) is.reached;
      greatest = λ k n holds. holds_cases k n holds (λ within before. is.greatest k n before) (λ beyond now. below n now);
      first = λ k n less holds. holds_cases k n holds (λ within before. is.first k n less before) (λ beyond now. absurd (omega (arith, beyond, less, is.within)));
    }

    greatest_rises : (now : ℕ) → most < now → Holds (moment ∷ past) now → ((n : ℕ) → Holds (moment ∷ past) n → n ≤ now) → IsGreatestOf Holds (moment ∷ past) now (suc (length past))
    greatest_rises now more holds_now below = record {
      within = omega arith;
      reached = subst (λ first. Holds first now) (sym (first_moments_all (moment ∷ past))) holds_now;
      greatest = λ k n holds. holds_cases k n holds (λ within before. omega (arith, more, is.greatest k n before)) (λ beyond later. below n later);
      first = λ k n less holds. holds_cases k n holds (λ within before. omega (arith, more, is.greatest k n before)) (λ beyond later. absurd (omega (arith, beyond, less)));
    }

    -- one line more: the greatest number is as before, or the one of now where that is greater
    pub greatest_goes_on : (now : ℕ) → (most < now → Holds (moment ∷ past) now) → ((n : ℕ) → Holds (moment ∷ past) n → n ≤ max most now)
        → (more : Bool) → nat_lt most now ≡ more → IsGreatestOf Holds (moment ∷ past) (if more then now else most) (if more then suc (length past) else line)
    greatest_goes_on now holds_now below true is_more =
        let more = ltb-true most now is_more in
        greatest_rises now more (holds_now more) (λ n holds. omega (arith, below n holds, more))
    greatest_goes_on now holds_now below false is_less = greatest_stays (λ n holds. omega (arith, below n holds, ltb-false most now is_less))

module _ (measure : List Given → ℕ) where
  pub most_none : measure [] ≡ 0 → IsGreatestOf (Measures measure) [] 0 0
  most_none nothing = greatest_none (Measures measure) (none_measured measure nothing) (λ n measured. measure_is_one measure [] n 0 measured (none_measured measure nothing))

  module _ (moment : Moment) (past : List Moment) (most now : ℕ) (measured : Measures measure (moment ∷ past) now) where
    -- the greatest measure, with one line more
    pub peak_goes_on : (line : ℕ) → IsGreatestOf (Measures measure) past most line
        → (more : Bool) → nat_lt most now ≡ more → IsGreatestOf (Measures measure) (moment ∷ past) (if more then now else most) (if more then suc (length past) else line)
    peak_goes_on line is =
        greatest_goes_on (Measures measure) moment past most line is now (λ more. measured) (λ n other. (let same = measure_is_one measure (moment ∷ past) n now other measured in omega (arith, same)))

    pub most_goes_on : IsMost measure past most → IsMost measure (moment ∷ past) (max most now)
    most_goes_on is = by (nat_lt most now) refl
      where
        by : (more : Bool) → nat_lt most now ≡ more → IsMost measure (moment ∷ past) (max most now)
        by true is_more =
            let same : now ≡ max most now = omega (arith, ltb-true most now is_more) in
            subst (IsMost measure (moment ∷ past)) same (suc (length past), peak_goes_on is.0 is.1 true is_more)
        by false is_less =
            let same : most ≡ max most now = omega (arith, ltb-false most now is_less) in
            subst (IsMost measure (moment ∷ past)) same (is.0, peak_goes_on is.0 is.1 false is_less)

-- no block is live in the heap
abbrev pub AreAllFree : Bare → Type 0
AreAllFree content = (block : Block (Unit {0})) → Contains (blocks_of content.pools) block → is_free block ≡ true

-- a heap with no live block has no end but 0
pub high_none : (start : Bare) → AreAllFree start → IsHighPlace start [] 0
high_none start free = (0, greatest_none (IsEnd start) (inl refl) zero_alone)
  where
    zero_alone : (n : ℕ) → IsEnd start [] n → n ≡ 0
    zero_alone n (inl none) = none
    zero_alone n (inr at) = absurd (let empty = free at.0 at.1.0 in let used = at.1.1 in cc)

-- a block of pools with one more is a block of the one, or of the others
from_in_order : (pool : Pool (Unit {0})) (pools : List (Pool (Unit {0}))) (block : Block (Unit {0})) → Contains (blocks_of (in_order_of_base pool pools)) block → Contains pool.blocks block ⊎ Contains (blocks_of pools) block
from_in_order pool [] block has = Contains-append_cases pool.blocks [] block has
from_in_order pool (other ∷ pools) block has = elim (cases_Bool (nat_lt pool.base other.base)) [
  | inl before ↦
      let first : in_order_of_base pool (other ∷ pools) ≡ pool ∷ other ∷ pools = rw before refl in
      Contains-append_cases pool.blocks (blocks_of (other ∷ pools)) block (subst (λ (all : List (Pool (Unit {0}))). Contains (blocks_of all) block) first has)
  | inr behind ↦
      let later : in_order_of_base pool (other ∷ pools) ≡ other ∷ in_order_of_base pool pools = rw behind refl in
      elim (Contains-append_cases other.blocks (blocks_of (in_order_of_base pool pools)) block (subst (λ (all : List (Pool (Unit {0}))). Contains (blocks_of all) block) later has)) [
        | inl of_other ↦ inr (Contains-append_left other.blocks (blocks_of pools) block of_other)
        | inr rest ↦ elim (from_in_order pool pools block rest) [
          | inl of_pool ↦ inl of_pool
          | inr of_pools ↦ inr (Contains-append_right other.blocks (blocks_of pools) block of_pools)
        ]
      ]
]

with_pool_free : (base bytes : ℕ) (content : Bare) → AreAllFree content → AreAllFree (with_pool base bytes content)
with_pool_free base bytes content free block has = elim (from_in_order (record { base = base; bytes = bytes; blocks = gap base bytes }) content.pools block has) [
  | inl new ↦ gap_is_free base bytes block new
  | inr old ↦ free block old
]

-- add_pool adds a free block, or nothing
add_pool_free : (base bytes : ℕ) (content : Bare) → AreAllFree content → AreAllFree (left_by content (add_pool base bytes content))
add_pool_free base bytes content free = elim (cases_Bool (can_be_pool base bytes && list_all (is_apart base bytes) content.pools)) [
  | inr bad ↦ refused BadPool (rw bad refl)
  | inl can ↦ elim (cases_Bool (nat_le most_pools (length content.pools))) [
    | inl full ↦ refused PoolsFull (rw (can, full) refl)
    | inr few ↦ elim (cases_Bool (nat_le content.records (used_records content))) [
      | inl used_up ↦ refused TableFull (rw (can, few, used_up) refl)
      | inr room ↦
          let served : add_pool base bytes content ≡ Ok (with_pool base bytes content) = rw (can, few, room) refl in
          subst AreAllFree (sym (ap (left_by content) served)) (with_pool_free base bytes content free)
    ]
  ]
]
  where
    refused : (why : Refusal) → add_pool base bytes content ≡ Err why → AreAllFree (left_by content (add_pool base bytes content))
    refused why is = subst AreAllFree (sym (ap (left_by content) is)) free

with_pools_free : (settings : Settings) (left : ℕ) (content : Bare) → AreAllFree content → AreAllFree (with_pools settings left content)
with_pools_free settings zero content free = free
with_pools_free settings (suc i) content free = with_pools_free settings i (left_by content (add_pool (i * settings.pool) settings.pool content)) (add_pool_free (i * settings.pool) settings.pool content free)

-- no block is live before the first line
pub started_free : (settings : Settings) (block : Block (Unit {0})) → Contains (blocks_of (started settings).pools) block → is_free block ≡ true
unfolding started
started_free settings = with_pools_free settings settings.pools (created settings.records) (λ block has. none_stands block has)

-- a greatest number is one, and its line
pub one_greatest : (Holds : List Moment → ℕ → Type 0) (past : List Moment) (n m line other : ℕ) → IsGreatestOf Holds past n line → IsGreatestOf Holds past m other → n ≡ m
one_greatest Holds past n m line other first second = omega (arith, second.greatest line n first.reached, first.greatest other m second.reached)

pub not_later : (Holds : List Moment → ℕ → Type 0) (past : List Moment) (n m line other : ℕ) → IsGreatestOf Holds past n line → IsGreatestOf Holds past m other → line ≤ other
not_later Holds past n m line other first second = elim (cases_lt other line) [
  | inl less ↦ absurd (omega (arith, first.first other m less second.reached, one_greatest Holds past n m line other first second))
  | inr more ↦ omega (arith, more)
]
