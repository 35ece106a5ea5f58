-- Where the pools lie once one was added, or removed.
use Rattle.std.proofs.Common.{◌≡◌, ◌≢◌, ℕ, ◌+◌, ◌%◌, ◌≤◌, ◌⊎◌, Bool, true, false, cond, not, List, [], ◌∷◌, map, filter, find, refl, sym, ap, ◌∙◌, subst, arith, Option, Some, None, Ok, Err, inl, inr}
use Rattle.std.specs.Prelude.{◌==◌, ◌&&◌, nat_le, nat_lt}
use Rattle.std.specs.List.{Contains, list_all}
use Rattle.std.proofs.lemmas.Bool.{cases_Bool, and_parts, or_cases, eqb-true, eqb-false, leb-true}
use Rattle.tlsf_class.specs.Classes.{unit, greatest_size}
use Rattle.tlsf_heap.specs.declared.refusal.Refusal.TheVariants.{PoolInUse}
use Rattle.tlsf_heap.specs.Content.{Pool, Content}
use Rattle.tlsf_heap.specs.Counted.{range_of}
use Rattle.tlsf_heap.specs.Good.{AreGoodPools, IsGood}
use Rattle.tlsf_heap.specs.Malloc.{gap}
use Rattle.tlsf_heap.specs.Pools.{add_pool, remove_pool, remove_found, without_pool, is_unused, is_based, is_apart, in_order_of_base, can_be_pool, end_of_places}
use Rattle.tlsf_heap.proofs.Content.PoolCases.{pool_added}
use Rattle.tlsf_c.specs.RangeMoves.{IsRangeAdded, IsRangeRemoved}
use Rattle.tlsf_c.proofs.Stands.{never_stands, stands_first, stands_first_or_later, stands_later}

-- the pools' ranges
abbrev ranges : List (Pool ℕ) → List (ℕ × ℕ)
ranges pools = map range_of pools

-- a pool that is put in order is there, and so are the others
put_has : (pool : Pool ℕ) (pools : List (Pool ℕ)) → Contains (ranges (in_order_of_base pool pools)) (range_of pool)
put_has pool [] = stands_first (range_of pool) []
put_has pool (other ∷ pools) = elim (nat_lt pool.base other.base) as (λ b. Contains (ranges (cond b (pool ∷ other ∷ pools) (other ∷ in_order_of_base pool pools))) (range_of pool)) [
  | true ↦ stands_first (range_of pool) (ranges (other ∷ pools))
  | false ↦ stands_later (range_of other) (range_of pool) (ranges (in_order_of_base pool pools)) (put_has pool pools)
]

put_keeps : (pool : Pool ℕ) (pools : List (Pool ℕ)) (range : ℕ × ℕ) → Contains (ranges pools) range → Contains (ranges (in_order_of_base pool pools)) range
put_keeps pool [] range has = never_stands range has
put_keeps pool (other ∷ pools) range has = elim (nat_lt pool.base other.base) as (λ b. Contains (ranges (cond b (pool ∷ other ∷ pools) (other ∷ in_order_of_base pool pools))) range) [
  | true ↦ stands_later (range_of pool) range (ranges (other ∷ pools)) has
  | false ↦ elim (stands_first_or_later (range_of other) range (ranges pools) has) [
    | inl same ↦ subst (λ (r : ℕ × ℕ). Contains (ranges (other ∷ in_order_of_base pool pools)) r) same (stands_first (range_of other) (ranges (in_order_of_base pool pools)))
    | inr later ↦ stands_later (range_of other) range (ranges (in_order_of_base pool pools)) (put_keeps pool pools range later)
  ]
]

put_alone : (pool : Pool ℕ) (pools : List (Pool ℕ)) (range : ℕ × ℕ) → Contains (ranges (in_order_of_base pool pools)) range → (range_of pool ≡ range) ⊎ Contains (ranges pools) range
put_alone pool [] range has = stands_first_or_later (range_of pool) range [] has
put_alone pool (other ∷ pools) range has = of (put_alone pool pools range) (nat_lt pool.base other.base) has
  where
    of : (Contains (ranges (in_order_of_base pool pools)) range → (range_of pool ≡ range) ⊎ Contains (ranges pools) range) → (b : Bool) → Contains (ranges (cond b (pool ∷ other ∷ pools) (other ∷ in_order_of_base pool pools))) range → (range_of pool ≡ range) ⊎ Contains (ranges (other ∷ pools)) range
    of rest true has = stands_first_or_later (range_of pool) range (ranges (other ∷ pools)) has
    of rest false has = elim (stands_first_or_later (range_of other) range (ranges (in_order_of_base pool pools)) has) [
      | inl same ↦ inr (subst (λ (r : ℕ × ℕ). Contains (ranges (other ∷ pools)) r) same (stands_first (range_of other) (ranges pools)))
      | inr later ↦ elim (rest later) [
        | inl is ↦ inl is
        | inr there ↦ inr (stands_later (range_of other) range (ranges pools) there)
      ]
    ]

-- a pool that is apart from good ones begins where none of them does
begins_elsewhere : (base bytes from : ℕ) (pools : List (Pool ℕ)) → unit ≤ bytes → AreGoodPools from pools → list_all (is_apart base bytes) pools ≡ true → (range : ℕ × ℕ) → Contains (ranges pools) range → range.0 ≢ base
begins_elsewhere base bytes from [] long good apart range has = never_stands range has
begins_elsewhere base bytes from (pool ∷ pools) long good apart range has =
    let parts = and_parts (is_apart base bytes pool) (list_all (is_apart base bytes) pools) apart in
    elim (stands_first_or_later (range_of pool) range (ranges pools) has) [
      | inl same ↦ λ at.
          let base_is : pool.base ≡ base = ap (λ (r : ℕ × ℕ). r.0) same ∙ at in
          elim (or_cases (nat_le (base + bytes) pool.base) (nat_le (pool.base + pool.bytes) base) parts.0) [
            | inl above ↦ let h = leb-true (base + bytes) pool.base above in omega (arith, h, base_is, long)
            | inr below ↦ let h = leb-true (pool.base + pool.bytes) base below in omega (arith, h, base_is, good.1.least_bytes)
          ]
      | inr later ↦ begins_elsewhere base bytes (pool.base + pool.bytes) pools long good.2 parts.1 range later
    ]

pub added_ranges : (base bytes : ℕ) (old new : Content ℕ) → IsGood old → add_pool base bytes old ≡ Ok new → IsRangeAdded base bytes (ranges old.pools) (ranges new.pools)
added_ranges base bytes old new good e =
    let added = pool_added base bytes old new e in
    let can = and_parts (can_be_pool base bytes) (list_all (is_apart base bytes) old.pools) added.can in
    let units = and_parts (base % unit == 0) ((bytes % unit == 0) && (nat_le unit bytes && (nat_le bytes greatest_size && nat_le (base + bytes) end_of_places))) can.0 in
    let whole = and_parts (bytes % unit == 0) (nat_le unit bytes && (nat_le bytes greatest_size && nat_le (base + bytes) end_of_places)) units.1 in
    let least = and_parts (nat_le unit bytes) (nat_le bytes greatest_size && nat_le (base + bytes) end_of_places) whole.1 in
    let most = and_parts (nat_le bytes greatest_size) (nat_le (base + bytes) end_of_places) least.1 in
    let long : unit ≤ bytes = leb-true unit bytes least.0 in
    let pool : Pool ℕ = record { base = base; bytes = bytes; blocks = gap base bytes } in
    subst (λ (content : Content ℕ). IsRangeAdded base bytes (ranges old.pools) (ranges content.pools)) added.is (record {
      in_units = eqb-true (base % unit) 0 units.0;
      long = long;
      ends = leb-true (base + bytes) end_of_places most.1;
      elsewhere = begins_elsewhere base bytes 0 old.pools long good.pools_good can.1;
      has = put_has pool old.pools;
      keeps = put_keeps pool old.pools;
      alone = put_alone pool old.pools;
    })

-- the others than the pools that begin at a place
filter_keeps : (base : ℕ) (pools : List (Pool ℕ)) (range : ℕ × ℕ) → Contains (ranges pools) range → range.0 ≢ base → Contains (ranges (filter (λ other. not (is_based base other)) pools)) range
filter_keeps base [] range has apart = never_stands range has
filter_keeps base (pool ∷ pools) range has apart = elim (cases_Bool (is_based base pool)) [
  | inl based ↦
      let left : filter (λ other. not (is_based base other)) (pool ∷ pools) ≡ filter (λ other. not (is_based base other)) pools = rw based refl in
      elim (stands_first_or_later (range_of pool) range (ranges pools) has) [
        | inl same ↦ absurd (apart (sym (ap (λ (r : ℕ × ℕ). r.0) same) ∙ eqb-true pool.base base based))
        | inr later ↦ subst (λ (ps : List (Pool ℕ)). Contains (ranges ps) range) (sym left) (filter_keeps base pools range later apart)
      ]
  | inr other_base ↦
      let left : filter (λ other. not (is_based base other)) (pool ∷ pools) ≡ pool ∷ filter (λ other. not (is_based base other)) pools = rw other_base refl in
      subst (λ (ps : List (Pool ℕ)). Contains (ranges ps) range) (sym left) (elim (stands_first_or_later (range_of pool) range (ranges pools) has) [
        | inl same ↦ subst (λ (r : ℕ × ℕ). Contains (ranges (pool ∷ filter (λ other. not (is_based base other)) pools)) r) same (stands_first (range_of pool) (ranges (filter (λ other. not (is_based base other)) pools)))
        | inr later ↦ stands_later (range_of pool) range (ranges (filter (λ other. not (is_based base other)) pools)) (filter_keeps base pools range later apart)
      ])
]

filter_alone : (base : ℕ) (pools : List (Pool ℕ)) (range : ℕ × ℕ) → Contains (ranges (filter (λ other. not (is_based base other)) pools)) range → Contains (ranges pools) range × (range.0 ≢ base)
filter_alone base [] range has = never_stands range has
filter_alone base (pool ∷ pools) range has = elim (cases_Bool (is_based base pool)) [
  | inl based ↦
      let left : filter (λ other. not (is_based base other)) (pool ∷ pools) ≡ filter (λ other. not (is_based base other)) pools = rw based refl in
      let rest = filter_alone base pools range (subst (λ (ps : List (Pool ℕ)). Contains (ranges ps) range) left has) in
      (stands_later (range_of pool) range (ranges pools) rest.0, rest.1)
  | inr other_base ↦
      let left : filter (λ other. not (is_based base other)) (pool ∷ pools) ≡ pool ∷ filter (λ other. not (is_based base other)) pools = rw other_base refl in
      elim (stands_first_or_later (range_of pool) range (ranges (filter (λ other. not (is_based base other)) pools)) (subst (λ (ps : List (Pool ℕ)). Contains (ranges ps) range) left has)) [
        | inl same ↦ (
          subst (λ (r : ℕ × ℕ). Contains (ranges (pool ∷ pools)) r) same (stands_first (range_of pool) (ranges pools)),
          λ at. eqb-false pool.base base other_base (ap (λ (r : ℕ × ℕ). r.0) same ∙ at),
        )
        | inr later ↦ let rest = filter_alone base pools range later in (stands_later (range_of pool) range (ranges pools) rest.0, rest.1)
      ]
]

-- the pool that is found begins there
found_based : (base : ℕ) (pools : List (Pool ℕ)) (pool : Pool ℕ) → find (is_based base) pools ≡ Some pool → pool.base ≡ base
found_based base [] pool e = absurd (cc)
found_based base (other ∷ pools) pool e = elim (cases_Bool (is_based base other)) [
  | inl here ↦
      let is : find (is_based base) (other ∷ pools) ≡ Some other = rw here refl in
      let same : other ≡ pool = cc in
      ap (λ (p : Pool ℕ). p.base) (sym same) ∙ eqb-true other.base base here
  | inr later ↦
      let is : find (is_based base) (other ∷ pools) ≡ find (is_based base) pools = rw later refl in
      found_based base pools pool (sym is ∙ e)
]

pub removed_ranges : (base : ℕ) (old new : Content ℕ) → remove_pool base old ≡ Ok new → IsRangeRemoved base (ranges old.pools) (ranges new.pools)
removed_ranges base old new e = of (find (is_based base) old.pools) refl e
  where
    of : (found : Option (Pool ℕ)) → find (is_based base) old.pools ≡ found → remove_found found old ≡ Ok new → IsRangeRemoved base (ranges old.pools) (ranges new.pools)
    of None is e = absurd (cc)
    of (Some pool) is e = elim (cases_Bool (is_unused pool)) [
      | inl unused ↦
          let done : remove_found (Some pool) old ≡ Ok (without_pool pool old) = rw unused refl in
          let same : without_pool pool old ≡ new = cc in
          let at : pool.base ≡ base = found_based base old.pools pool is in
          subst (λ (content : Content ℕ). IsRangeRemoved base (ranges old.pools) (ranges content.pools)) same
          (subst (λ (b : ℕ). IsRangeRemoved b (ranges old.pools) (ranges (without_pool pool old).pools)) at
          (record { keeps = filter_keeps pool.base old.pools; alone = filter_alone pool.base old.pools }))
      | inr used ↦
          let done : remove_found (Some pool) old ≡ Err PoolInUse = rw used refl in
          absurd (cc)
    ]
