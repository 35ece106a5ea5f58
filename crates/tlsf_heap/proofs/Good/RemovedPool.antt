-- remove_pool keeps a content good.
use Rattle.std.proofs.Common.{◌≡◌, ◌≢◌, ℕ, ◌+◌, ◌<◌, ◌≤◌, Bool, true, false, cond, not, List, [], ◌∷◌, ◌++◌, length, refl, sym, ap, ◌∙◌, subst, arith, count_by, filter, find, Some, None, inl, inr}
use Rattle.std.specs.Prelude.{◌==◌}
use Rattle.std.specs.List.{AllByRecursion, list_all}
use Rattle.std.proofs.lemmas.Bool.{cases_Bool, eq-eqb, eqb-true, ne_eqb, and_parts}
use Rattle.tlsf_class.specs.Classes.{class}
use Rattle.tlsf_class.proofs.ClassLaws.{class-lt}
use Rattle.tlsf_heap.specs.Content.{Block, Pool, Content, blocks_of, is_free}
use Rattle.tlsf_heap.specs.Pools.{is_based, is_unused, without_pool}
use Rattle.tlsf_heap.specs.Good.{Covers, IsGoodPool, AreGoodPools, is_listed, IsGood}
use Rattle.tlsf_heap.proofs.Counts.{one_if, count-cons, count_all}
use Rattle.tlsf_heap.proofs.Content.FreeLists.{found_stands, listed_at, times-unlink, length-unlink}
use Rattle.tlsf_heap.proofs.Meaning.BlockPositions.{count-blocks}
use Rattle.tlsf_heap.proofs.Meaning.FreeFirst.{listed_once}
use Rattle.tlsf_heap.specs.GoodSlots.{is_slot, slot_times, HasGoodSlots}
use Rattle.tlsf_heap.proofs.Good.Slots.{slots_fewer}

module _ {A : Type 0} (base : ℕ) where
  -- the pools but those that begin at the base
  abbrev pub others : List (Pool A) → List (Pool A)
  others pools = filter (λ pool. not (is_based base pool)) pools

  lower : (from below : ℕ) (pools : List (Pool A)) → below ≤ from → AreGoodPools from pools → AreGoodPools below pools
  lower from below [] h g = tt
  lower from below (pool ∷ pools) h g = (omega (arith, h, g.0), g.1, g.2)

  good_others : (from : ℕ) (pools : List (Pool A)) → AreGoodPools from pools → AreGoodPools from (others pools)
  good_others from [] g = tt
  good_others from (pool ∷ pools) g =
      let rest = good_others (pool.base + pool.bytes) pools g.2 in
      elim (is_based base pool) as (λ b. AreGoodPools from (cond (not b) (pool ∷ others pools) (others pools))) [
        | true ↦ lower (pool.base + pool.bytes) from (others pools) (omega (arith, g.0)) rest
        | false ↦ (g.0, g.1, rest)
      ]

  -- those behind begin above it
  all_others : (from : ℕ) (pools : List (Pool A)) → base < from → AreGoodPools from pools → others pools ≡ pools
  all_others from [] above g = refl
  all_others from (pool ∷ pools) above g =
      let apart : is_based base pool ≡ false = ne_eqb pool.base base (λ e. absurd (omega (arith, e, above, g.0))) in
      rw apart (ap (λ ps. pool ∷ ps) (all_others (pool.base + pool.bytes) pools (omega (arith, above, g.0)) g.2))

  -- pools that stand behind others begin above them
  begins_above : (from : ℕ) (before behind : List (Pool A)) (pool : Pool A) → AreGoodPools from (before ++ pool ∷ behind) → from ≤ pool.base
  begins_above from [] behind pool g = g.0
  begins_above from (other ∷ before) behind pool g = omega (arith, g.0, begins_above (other.base + other.bytes) before behind pool g.2)

  -- the one pool that begins at the base is found, and the others are those before and behind it
  pub found_among : (from : ℕ) (before behind : List (Pool A)) (pool : Pool A) → AreGoodPools from (before ++ pool ∷ behind) → pool.base ≡ base
      → (find (is_based base) (before ++ pool ∷ behind) ≡ Some pool) × (others (before ++ pool ∷ behind) ≡ before ++ behind)
  found_among from [] behind pool g here =
      let at : is_based base pool ≡ true = eq-eqb pool.base base here in
      (rw at refl, rw at (all_others (pool.base + pool.bytes) behind (omega (arith, here, g.1.least_bytes)) g.2))
  found_among from (other ∷ before) behind pool g here =
      let above = begins_above (other.base + other.bytes) before behind pool g.2 in
      let apart : is_based base other ≡ false = ne_eqb other.base base (λ e. absurd (omega (arith, e, above, here, g.1.least_bytes))) in
      let rest = found_among (other.base + other.bytes) before behind pool g.2 here in
      (rw apart rest.0, rw apart (ap (λ pools. other ∷ pools) rest.1))

  -- where none begins at the base, none is found
  pub none_found : (pools : List (Pool A)) → AllByRecursion (λ pool. pool.base ≢ base) pools → find (is_based base) pools ≡ None
  none_found [] none = refl
  none_found (pool ∷ pools) none = rw (ne_eqb pool.base base none.0) (none_found pools none.1)

  -- the pool found, and what is left without it
  pub record IsRemoved (pool : Pool A) (pools : List (Pool A)) : Type 0 where
    pub good : IsGoodPool pool
    pub based : pool.base ≡ base
    pub left : (kind : Block A → Bool) → count_by kind (blocks_of (others pools)) + count_by kind pool.blocks ≡ count_by kind (blocks_of pools)
    pub fewer : length (others pools) + 1 ≡ length pools

  pub removed : (from : ℕ) (pools : List (Pool A)) (pool : Pool A) → AreGoodPools from pools → find (is_based base) pools ≡ Some pool → IsRemoved pool pools
  removed from [] pool g h = absurd (cc)
  removed from (other ∷ pools) pool g h = elim (cases_Bool (is_based base other)) [
    | inl here ↦
        let first : Some other ≡ Some pool = sym (ap (λ b. cond b (Some other) (find (is_based base) pools)) here) ∙ h in
        let same : other ≡ pool = cc in
        let at : other.base ≡ base = eqb-true other.base base here in
        let kept : others pools ≡ pools = all_others (other.base + other.bytes) pools (omega (arith, at, g.1.least_bytes)) g.2 in
        let all : others (other ∷ pools) ≡ pools = rw here kept in
        let P : Pool A → Type 0 = λ p. IsRemoved p (other ∷ pools) in
        subst P same (record {
          good = g.1;
          based = at;
          left = (λ kind. omega (arith, ap (λ ps. count_by kind (blocks_of ps)) all, count-blocks kind other pools));
          fewer = omega (arith, ap length all);
        })
    | inr elsewhere ↦
        let later : find (is_based base) pools ≡ Some pool = sym (ap (λ b. cond b (Some other) (find (is_based base) pools)) elsewhere) ∙ h in
        let rest = removed (other.base + other.bytes) pools pool g.2 later in
        let all : others (other ∷ pools) ≡ other ∷ others pools = rw elsewhere refl in
        record {
          good = rest.good;
          based = rest.based;
          left = (λ kind. omega (arith, ap (λ ps. count_by kind (blocks_of ps)) all, count-blocks kind other pools, count-blocks kind other (others pools), rest.left kind));
          fewer = omega (arith, ap length all, rest.fewer);
        }
  ]

module _ {A : Type 0} where
  -- a pool of one free block: that is all its bytes
  pub one_block : (pool : Pool A) → IsGoodPool pool → is_unused pool ≡ true → (block : Block A) × (pool.blocks ≡ block ∷ []) × (is_free block ≡ true) × (block.place ≡ pool.base) × (block.size ≡ pool.bytes)
  one_block pool good unused = of pool.blocks refl good.covered (and_parts _ _ unused).0 (and_parts _ _ unused).1
    where
      of : (blocks : List (Block A)) → pool.blocks ≡ blocks → Covers pool.base (pool.base + pool.bytes) blocks → (length blocks == 1) ≡ true → list_all is_free blocks ≡ true
          → (block : Block A) × (pool.blocks ≡ block ∷ []) × (is_free block ≡ true) × (block.place ≡ pool.base) × (block.size ≡ pool.bytes)
      of [] is c one free = absurd (let e = eqb-true 0 1 one in omega (arith, e))
      of (block ∷ []) is c one free = (block, is, (and_parts (is_free block) true free).0, c.0, omega (arith, c.3))
      of (block ∷ more ∷ blocks) is c one free = absurd (let e = eqb-true (length (block ∷ more ∷ blocks)) 1 one in omega (arith, e))

  -- without a pool that is one free block the content is good
  pub without_pool_is_good : (base : ℕ) (pool : Pool A) (content : Content A) → IsGood content → find (is_based base) content.pools ≡ Some pool → is_unused pool ≡ true → IsGood (without_pool pool content)
  without_pool_is_good base pool content good there unused =
      let gone = removed base 0 content.pools pool good.pools_good there in
      let one = one_block pool gone.good unused in
      let kinds : (kind : Block A → Bool) → count_by kind pool.blocks ≡ one_if (kind one.0) = λ kind. ap (count_by kind) one.1 ∙ omega (arith, count-cons kind one.0 []) in
      let number : ℕ = class pool.bytes in
      let own : (q p : ℕ) → one_if (is_listed q p one.0) ≡ listed_at q p pool.base pool.bytes = λ q p. found_stands q p pool.base pool.bytes one.0 one.2 one.3 one.4 in
      let here : listed_at number pool.base pool.base pool.bytes ≡ 1 = rw (eq-eqb pool.base pool.base refl, eq-eqb number number refl) refl in
      let once = listed_once content good number pool.base (class-lt pool.bytes) (omega (arith, gone.left (is_listed number pool.base), kinds (is_listed number pool.base), own number pool.base, here)) in
      let same : others {A = A} base content.pools ≡ others pool.base content.pools = ap (λ b. others {A = A} b content.pools) (sym gone.based) in
      let P : List (Pool A) → Type 0 = λ pools. IsGood (record content { pools = pools; lists = (without_pool pool content).lists }) in
      let all : Block A → Bool = λ b. true in
      subst P same (record {
        pools_few = omega (arith, gone.fewer, good.pools_few);
        pools_good = good_others base 0 content.pools good.pools_good;
        lists_count = length-unlink content.lists good.lists_count pool.base pool.bytes;
        listed = (λ q p within. omega (
          arith,
          good.listed q p within,
          times-unlink content.lists good.lists_count q p pool.base pool.bytes once,
          gone.left (is_listed q p),
          kinds (is_listed q p),
          own q p,
        ));
        blocks_few = omega (arith, good.blocks_few, gone.left all, count_all (blocks_of (others base content.pools)), count_all (blocks_of content.pools));
      })

-- and its live blocks are the same
pub without_pool_slots : (base : ℕ) (pool : Pool ℕ) (content : Content ℕ) → IsGood content → find (is_based base) content.pools ≡ Some pool → HasGoodSlots content → HasGoodSlots (without_pool pool content)
without_pool_slots base pool content good there slots =
    let gone = removed base 0 content.pools pool good.pools_good there in
    let same : others {A = ℕ} base content.pools ≡ others pool.base content.pools = ap (λ b. others {A = ℕ} b content.pools) (sym gone.based) in
    slots_fewer content (without_pool pool content) refl
    (λ slot. omega (arith, gone.left (λ block. is_slot slot block.owner), ap (λ pools. slot_times slot (blocks_of pools)) same)) slots
