-- create, add_pool and malloc keep a content good.
use Rattle.std.proofs.Common.{◌≡◌, ◌≢◌, ℕ, suc, ◌+◌, ◌-◌, ◌%◌, ◌<◌, ◌≤◌, Bool, true, false, cond, ◌&&◌, List, [], ◌∷◌, ◌++◌, length, refl, sym, ap, ◌∙◌, subst, arith, count_by, Option, Some, None, drop, option_and_then, inl, inr}
use Rattle.std.specs.Prelude.{◌==◌, Ok, Err, nat_lt, nat_le}
use Rattle.std.specs.List.{AllByRecursion, list_all}
use Rattle.std.proofs.lemmas.Bool.{cases_Bool, cases_lt, eq-eqb, ne_eqb, eqb-true, eqb-false, ltb-true, ltb-false, leb-true, leb-false, and_parts, and_cases, or_cases}
use Rattle.std.proofs.lemmas.List.{get_or-drop, length-drop, get_or-replicate, length-replicate}
use Rattle.tlsf_class.specs.Classes.{unit, classes, greatest_size, class, need}
use Rattle.tlsf_class.proofs.ClassLaws.{need_holds}
use Rattle.tlsf_class.specs.Rounding.{round}
use Rattle.tlsf_class.proofs.RoundingLaws.{round-Some}
use Rattle.tlsf_heap.specs.declared.refusal.Refusal.TheVariants.{ZeroSize, TableFull}
use Rattle.tlsf_heap.specs.Content.{Block, Pool, Content, blocks_of, is_free, size_at, used_records}
use Rattle.tlsf_heap.specs.Lists.{list_of, first_of_lists, pick}
use Rattle.tlsf_heap.specs.Malloc.{gap, split, allocated, allocate, malloc_picked, malloc_rounded, malloc}
use Rattle.tlsf_heap.specs.Free.{free_block}
use Rattle.tlsf_heap.specs.Pools.{most_pools, end_of_places, created, add_pool, with_pool, can_be_pool, is_apart, in_order_of_base}
use Rattle.tlsf_heap.specs.Good.{Covers, NoFreeNeighbours, IsGoodPool, AreGoodPools, IsGood, times, is_listed}
use Rattle.tlsf_heap.proofs.Counts.{count-append, count_all}
use Rattle.tlsf_heap.proofs.Content.Blocks.{Found, found_listed, Ascends-pools}
use Rattle.tlsf_heap.proofs.Content.Replacing.{length-replaced, size_at-found}
use Rattle.tlsf_heap.proofs.Meaning.FreeFirst.{listed_once}
use Rattle.tlsf_heap.proofs.Meaning.Gaps.{length-split, length-split_most}
use Rattle.tlsf_heap.proofs.Meaning.SplitInThree.{aligned_is_good, aligned_here}
use Rattle.tlsf_heap.specs.Memalign.{aligned}
use Rattle.tlsf_heap.proofs.Content.FreeLists.{first_stands, times-link, length-link, count_listed-gap, listed_at}
use Rattle.tlsf_heap.proofs.Content.PoolCases.{pool_added}

and_then_some : {A B : Type 0} (f : A → Option B) (o : Option A) (b : B) → option_and_then f o ≡ Some b → (a : A) × (o ≡ Some a) × (f a ≡ Some b)
and_then_some f None b h = absurd (cc)
and_then_some f (Some a) b h = (a, refl, h)

-- what is picked for m bytes stands in a list at or above the class needed
pick_stands : (m place : ℕ) (lists : List (List ℕ)) → pick m lists ≡ Some place
    → (c number : ℕ) × (need m ≡ Some c) × (c ≤ number) × (1 ≤ times place (list_of number lists)) × (number < length lists)
pick_stands m place lists h =
    let found = and_then_some (λ number. first_of_lists (drop number lists)) (need m) place h in
    let first = first_stands (drop found.0 lists) place found.2 in
    let moved : list_of first.0 (drop found.0 lists) ≡ list_of (found.0 + first.0) lists = get_or-drop found.0 lists first.0 [] in
    (found.0, found.0 + first.0, found.1, omega arith, omega (arith, first.2, ap (times place) moved), omega (arith, first.1, length-drop found.0 lists))

-- a block of whole units that lies within the places
pub record IsWholeBlock {A : Type 0} (block : Block A) : Type 0 where
  pub positive : 0 < block.size
  pub in_units : block.size % unit ≡ 0
  pub at_most : block.size ≤ greatest_size
  pub ends : block.place + block.size ≤ end_of_places

pub Covers-le : {A : Type 0} (from to : ℕ) (blocks : List (Block A)) → Covers from to blocks → from ≤ to
Covers-le from to [] c = omega arith
Covers-le from to (block ∷ blocks) c = let rest = Covers-le (from + block.size) to blocks c.3 in omega arith

pub whole_in_pool : {A : Type 0} (base bytes from : ℕ) (blocks : List (Block A)) → bytes ≤ greatest_size → base + bytes ≤ end_of_places → base ≤ from → Covers from (base + bytes) blocks → AllByRecursion IsWholeBlock blocks
whole_in_pool base bytes from [] most ends above c = tt
whole_in_pool base bytes from (block ∷ blocks) most ends above c =
    let rest = Covers-le (from + block.size) (base + bytes) blocks c.3 in (
      record { positive = c.1; in_units = c.2; at_most = omega (arith, most, above, rest); ends = omega (arith, c.0, rest, ends) },
      whole_in_pool base bytes (from + block.size) blocks most ends (omega (arith, above)) c.3,
    )

pub all-append : {X : Type 0} (P : X → Type 0) (xs ys : List X) → AllByRecursion P xs → AllByRecursion P ys → AllByRecursion P (xs ++ ys)
all-append P [] ys p q = q
all-append P (x ∷ xs) ys p q = (p.0, all-append P xs ys p.1 q)

all_behind : {X : Type 0} (P : X → Type 0) (xs ys : List X) → AllByRecursion P (xs ++ ys) → AllByRecursion P ys
all_behind P [] ys p = p
all_behind P (x ∷ xs) ys p = all_behind P xs ys p.1

pub whole_in_pools : {A : Type 0} (from : ℕ) (pools : List (Pool A)) → AreGoodPools from pools → AllByRecursion IsWholeBlock (blocks_of pools)
whole_in_pools from [] g = tt
whole_in_pools from (pool ∷ pools) g =
    all-append IsWholeBlock pool.blocks (blocks_of pools)
    (whole_in_pool pool.base pool.bytes pool.base pool.blocks g.1.most_bytes g.1.ends (omega arith) g.1.covered)
    (whole_in_pools (pool.base + pool.bytes) pools g.2)

-- what malloc knows of the block that it picked
pub record Picked {A : Type 0} (m place : ℕ) (content : Content A) : Type 0 where
  pub found : Found place (blocks_of content.pools)
  pub free : is_free found.block ≡ true
  pub size_is : found.block.size ≡ size_at place (blocks_of content.pools)
  pub holds : m ≤ size_at place (blocks_of content.pools)
  pub whole : IsWholeBlock found.block
  pub once : times place (list_of (class (size_at place (blocks_of content.pools))) content.lists) ≡ 1

module _ {A : Type 0} where
  -- a block that stands in a list and has the bytes may be picked for them
  pub listed_picked : (m place number : ℕ) (content : Content A) → IsGood content → number < classes → 1 ≤ times place (list_of number content.lists) → m ≤ size_at place (blocks_of content.pools) → Picked m place content
  listed_picked m place number content good below stands holds =
      let listed = good.listed number place below in
      let counted : 1 ≤ count_by (is_listed number place) (blocks_of content.pools) = omega (arith, listed, stands) in
      let block = found_listed number place 0 (blocks_of content.pools) (Ascends-pools 0 content.pools good.pools_good) counted in
      let size = sym (size_at-found place (blocks_of content.pools) block.0) in
      let of_class : class (size_at place (blocks_of content.pools)) ≡ number = ap class (sym size) ∙ block.2 in
      let all : AllByRecursion IsWholeBlock (block.0.front ++ block.0.block ∷ block.0.back) =
      let P : List (Block A) → Type 0 = λ xs. AllByRecursion IsWholeBlock xs in subst P block.0.whole (whole_in_pools 0 content.pools good.pools_good) in
      let once = listed_once content good number place below counted in
      record {
        found = block.0;
        free = block.1;
        size_is = size;
        holds = holds;
        whole = (all_behind IsWholeBlock block.0.front (block.0.block ∷ block.0.back) all).0;
        once = (let P : ℕ → Type 0 = λ c. times place (list_of c content.lists) ≡ 1 in subst P (sym of_class) once);
      }

  -- the block that is picked for some bytes has them
  pick_holds : (m place c number : ℕ) (content : Content A) → IsGood content → need m ≡ Some c → c ≤ number → 1 ≤ times place (list_of number content.lists) → number < classes → m ≤ size_at place (blocks_of content.pools)
  pick_holds m place c number content good needs above stands below =
      let counted : 1 ≤ count_by (is_listed number place) (blocks_of content.pools) = omega (arith, good.listed number place below, stands) in
      let block = found_listed number place 0 (blocks_of content.pools) (Ascends-pools 0 content.pools good.pools_good) counted in
      let of_class : class (size_at place (blocks_of content.pools)) ≡ number = ap class (size_at-found place (blocks_of content.pools) block.0) ∙ block.2 in
      need_holds m c (size_at place (blocks_of content.pools)) needs (omega (arith, above, of_class))

  -- what is picked stands in a list, and has the bytes
  pub pick_listed : (m place : ℕ) (content : Content A) → IsGood content → pick m content.lists ≡ Some place
      → (number : ℕ) × (number < classes) × (1 ≤ times place (list_of number content.lists)) × (m ≤ size_at place (blocks_of content.pools))
  pick_listed m place content good h =
      let stand = pick_stands m place content.lists h in
      let below : stand.1 < classes = omega (arith, stand.5, good.lists_count) in
      (stand.1, below, stand.4, pick_holds m place stand.0 stand.1 content good stand.2 stand.3 stand.4 below)

  pub picked : (m place : ℕ) (content : Content A) → IsGood content → pick m content.lists ≡ Some place → Picked m place content
  picked m place content good h = let stand = pick_listed m place content good h in listed_picked m place stand.0 content good stand.1 stand.2 stand.3

  -- to split a block that may be picked keeps the content good
  pub allocated_is_good : (owner : A) (m place : ℕ) (content : Content A) → IsGood content → Picked m place content → 0 < m → m % unit ≡ 0
      → (m < size_at place (blocks_of content.pools) → used_records content < content.records) → IsGood (allocated owner place m (size_at place (blocks_of content.pools)) content)
  allocated_is_good owner m place content good is positive in_units room =
      let size : ℕ = size_at place (blocks_of content.pools) in
      let more : List (Block A) = split owner place m size in
      let none : place - place ≡ 0 = omega arith in
      let same : aligned owner place m place size content ≡ allocated owner place m size content = aligned_here owner m place size content in
      let few : used_records (allocated owner place m size content) + 1 ≡ used_records content + length more = length-replaced place more content.pools is.found in
      let fits : used_records (allocated owner place m size content) ≤ content.records = elim (cases_lt m size) [
        | inl larger ↦ omega (arith, few, length-split_most owner place m size, room larger)
        | inr whole ↦ omega (arith, few, length-split owner place m size ∙ ap (λ b. cond b 1 2) (eq-eqb (size - m) 0 (omega (arith, whole))), good.blocks_few)
      ] in
      let P : Content A → Type 0 = λ x. IsGood x in
      subst P same (aligned_is_good owner place m place content good is.once (omega arith) (omega (arith, none, is.holds)) positive in_units (ap (λ g. g % unit) none) (omega (arith, ap used_records same, fits)))

  -- what malloc answers with is good
  pub allocate_is_good : (owner : A) (m place : ℕ) (content : Content A) (new : ℕ × Content A) → IsGood content → Picked m place content → 0 < m → m % unit ≡ 0
      → allocate owner place m (size_at place (blocks_of content.pools)) content ≡ Ok new → IsGood new.1
  allocate_is_good owner m place content new good is positive in_units e =
      let size : ℕ = size_at place (blocks_of content.pools) in
      elim (cases_Bool (nat_lt m size && nat_le content.records (used_records content))) [
        | inl full ↦ let refused : allocate owner place m size content ≡ Err TableFull = rw full refl in absurd (cc)
        | inr t ↦
            let served : allocate owner place m size content ≡ Ok (place, allocated owner place m size content) = rw t refl in
            let room : m < size → used_records content < content.records = λ larger. elim (and_cases _ _ t) [
              | inl not_larger ↦ absurd (omega (arith, larger, ltb-false m size not_larger))
              | inr some_left ↦ leb-false _ _ some_left
            ] in
            let same : (place, allocated owner place m size content) ≡ new = cc in
            let P : ℕ × Content A → Type 0 = λ x. IsGood x.1 in
            subst P same (allocated_is_good owner m place content good is positive in_units room)
      ]

  picked_is_good : (owner : A) (m : ℕ) (content : Content A) (new : ℕ × Content A) (place : Option ℕ) → pick m content.lists ≡ place → IsGood content → 0 < m → m % unit ≡ 0
      → malloc_picked owner m place content ≡ Ok new → IsGood new.1
  picked_is_good owner m content new None h good positive in_units e = absurd (cc)
  picked_is_good owner m content new (Some place) h good positive in_units e = allocate_is_good owner m place content new good (picked m place content good h) positive in_units e

  pub rounded_is_good : (owner : A) (n : ℕ) (content : Content A) (new : ℕ × Content A) (m : Option ℕ) → round n ≡ m → IsGood content → 0 < n → malloc_rounded owner m content ≡ Ok new → IsGood new.1
  rounded_is_good owner n content new None h good positive e = absurd (cc)
  rounded_is_good owner n content new (Some m) h good positive e =
      let is = round-Some n m h in
      picked_is_good owner m content new (pick m content.lists) refl good (omega (arith, is.least, positive)) is.whole e

  -- malloc keeps a content good
  pub malloc_is_good : (owner : A) (n : ℕ) (content : Content A) (new : ℕ × Content A) → IsGood content → malloc owner n content ≡ Ok new → IsGood new.1
  malloc_is_good owner n content new good e = elim (cases_Bool (n == 0)) [
    | inl zero_bytes ↦
        let refused : malloc owner n content ≡ Err ZeroSize = rw zero_bytes refl in
        absurd (cc)
    | inr some_bytes ↦
        let asked : malloc owner n content ≡ malloc_rounded owner (round n) content = rw some_bytes refl in
        let positive : n ≢ 0 = eqb-false n 0 some_bytes in
        rounded_is_good owner n content new (round n) refl good (grind arith) (sym asked ∙ e)
  ]

  -- how the blocks change where a pool comes in
  pub count_by-pools : (kind : Block A → Bool) (pool : Pool A) (pools : List (Pool A)) → count_by kind (blocks_of (in_order_of_base pool pools)) ≡ count_by kind pool.blocks + count_by kind (blocks_of pools)
  count_by-pools kind pool [] = count-append kind pool.blocks []
  count_by-pools kind pool (other ∷ pools) = elim (nat_lt pool.base other.base) as (λ b. count_by kind (blocks_of (cond b (pool ∷ other ∷ pools) (other ∷ in_order_of_base pool pools))) ≡ count_by kind pool.blocks + count_by kind (blocks_of (other ∷ pools))) [
    | true ↦ count-append kind pool.blocks (blocks_of (other ∷ pools))
    | false ↦
        let one = count-append kind other.blocks (blocks_of (in_order_of_base pool pools)) in
        let two = count-append kind other.blocks (blocks_of pools) in
        omega (arith, one, two, count_by-pools kind pool pools)
  ]

  length-in_order : (pool : Pool A) (pools : List (Pool A)) → length (in_order_of_base pool pools) ≡ suc (length pools)
  length-in_order pool [] = refl
  length-in_order pool (other ∷ pools) = elim (nat_lt pool.base other.base) as (λ b. length (cond b (pool ∷ other ∷ pools) (other ∷ in_order_of_base pool pools)) ≡ suc (suc (length pools))) [
    | true ↦ refl
    | false ↦ ap suc (length-in_order pool pools)
  ]

  -- a pool that overlaps no other finds its place among them
  AreGoodPools-in_order : (from : ℕ) (pool : Pool A) (pools : List (Pool A)) → from ≤ pool.base → IsGoodPool pool → list_all (is_apart pool.base pool.bytes) pools ≡ true → AreGoodPools from pools
      → AreGoodPools from (in_order_of_base pool pools)
  AreGoodPools-in_order from pool [] above is apart g = (above, is, tt)
  AreGoodPools-in_order from pool (other ∷ pools) above is apart g =
      let parts = and_parts _ _ apart in
      let some : 1 ≤ pool.bytes = omega (arith, is.least_bytes) in
      let some_other : 1 ≤ other.bytes = omega (arith, g.1.least_bytes) in
      elim (cases_Bool (nat_lt pool.base other.base)) [
        | inl before ↦
            let P : Bool → Type 0 = λ b. AreGoodPools from (cond b (pool ∷ other ∷ pools) (other ∷ in_order_of_base pool pools)) in
            let less = ltb-true pool.base other.base before in
            let ends : pool.base + pool.bytes ≤ other.base = elim (or_cases _ _ parts.0) [
              | inl in_front ↦ leb-true (pool.base + pool.bytes) other.base in_front
              | inr behind ↦ absurd (omega (arith, less, some_other, leb-true (other.base + other.bytes) pool.base behind))
            ] in
            subst P (sym before) (above, is, (ends, g.1, g.2))
        | inr after ↦
            let P : Bool → Type 0 = λ b. AreGoodPools from (cond b (pool ∷ other ∷ pools) (other ∷ in_order_of_base pool pools)) in
            let at_least = ltb-false pool.base other.base after in
            let begins : other.base + other.bytes ≤ pool.base = elim (or_cases _ _ parts.0) [
              | inl in_front ↦ absurd (omega (arith, at_least, some, leb-true (pool.base + pool.bytes) other.base in_front))
              | inr behind ↦ leb-true (other.base + other.bytes) pool.base behind
            ] in
            subst P (sym after) (g.0, g.1, AreGoodPools-in_order (other.base + other.bytes) pool pools begins is parts.1 g.2)
      ]

  -- a pool that is one free block
  one_block : (base bytes : ℕ) → can_be_pool base bytes ≡ true → IsGoodPool (record { base = base; bytes = bytes; blocks = gap {A = A} base bytes })
  one_block base bytes h =
      let one = and_parts _ _ h in
      let two = and_parts _ _ one.1 in
      let three = and_parts _ _ two.1 in
      let four = and_parts _ _ three.1 in
      let least : unit ≤ bytes = leb-true _ _ three.0 in
      let more : (bytes == 0) ≡ false = ne_eqb bytes 0 (λ e. absurd (omega (arith, e, least))) in
      let block : Block A = record { place = base; size = bytes; owner = None } in
      let P : Bool → Type 0 = λ b. Covers base (base + bytes) (cond b [] (block ∷ [])) in
      let Q : Bool → Type 0 = λ b. NoFreeNeighbours false (cond b [] (block ∷ [])) in
      record {
        base_in_units = eqb-true _ _ one.0;
        bytes_in_units = eqb-true _ _ two.0;
        least_bytes = least;
        most_bytes = leb-true _ _ four.0;
        ends = leb-true _ _ four.1;
        covered = subst P (sym more) (refl, omega (arith, least), eqb-true _ _ two.0, refl);
        merged = subst Q (sym more) (refl, tt);
      }

  -- a pool more keeps the content good
  pub with_pool_is_good : (base bytes : ℕ) (content : Content A) → IsGood content → can_be_pool base bytes ≡ true → list_all (is_apart base bytes) content.pools ≡ true
      → length content.pools < most_pools → used_records content < content.records → IsGood (with_pool base bytes content)
  with_pool_is_good base bytes content good can apart few room =
      let pool : Pool A = record { base = base; bytes = bytes; blocks = gap base bytes } in
      let is : IsGoodPool pool = one_block base bytes can in
      let some : (bytes == 0) ≡ false = ne_eqb bytes 0 (λ e. absurd (omega (arith, e, is.least_bytes))) in
      let all : Block A → Bool = λ block. true in
      let one_block_more : length pool.blocks ≡ 1 = ap {B = ℕ} (λ b. length (cond b [] (free_block {A = A} base bytes ∷ []))) some in
      record {
        pools_few = omega (arith, length-in_order pool content.pools, few);
        pools_good = AreGoodPools-in_order 0 pool content.pools (omega arith) is apart good.pools_good;
        lists_count = length-link content.lists good.lists_count base bytes;
        listed = (λ q p below.
            let old = good.listed q p below in
            let linked = times-link content.lists good.lists_count q p base bytes in
            let counted = count_by-pools (is_listed q p) pool content.pools in
            let one : count_by (is_listed q p) (gap {A = A} base bytes) ≡ listed_at q p base bytes = count_listed-gap A q p base bytes ∙ ap (λ b. cond b 0 (listed_at q p base bytes)) some in
            omega (arith, old, linked, counted, one));
        blocks_few = omega (arith, count_by-pools all pool content.pools, count_all (blocks_of (in_order_of_base pool content.pools)), count_all pool.blocks, count_all (blocks_of content.pools), one_block_more, room);
      }

  -- add_pool keeps a content good
  pub add_pool_is_good : (base bytes : ℕ) (content new : Content A) → IsGood content → add_pool base bytes content ≡ Ok new → IsGood new
  add_pool_is_good base bytes content new good e =
      let added = pool_added base bytes content new e in
      let parts = and_parts _ _ added.can in
      subst (λ (x : Content A). IsGood x) added.is (with_pool_is_good base bytes content good parts.0 parts.1 added.few added.room)

  -- a heap that was just created is good
  pub created_is_good : (records : ℕ) → IsGood (created {A = A} records)
  created_is_good records = record {
    pools_few = omega arith;
    pools_good = tt;
    lists_count = length-replicate {A = List ℕ} classes [];
    listed = (λ q p below. ap (times p) (get_or-replicate classes q [] [] below));
    blocks_few = omega arith;
  }
