-- With a unit less than the sure pool, requests within the bounds are refused for want of a block.
use Rattle.std.proofs.Common.{◌≡◌, ℕ, zero, suc, ◌+◌, ◌-◌, ◌*◌, ◌%◌, ◌<◌, ◌≤◌, List, [], ◌∷◌, Some, None, Ok, inl, inr, refl, ap, ◌∙◌, subst, arith, true, sym}
use Rattle.std.specs.Prelude.{◌&&◌, nat_le}
use Rattle.std.proofs.lemmas.Bool.{cases_Bool}
use Rattle.tlsf_class.specs.Classes.{unit, greatest_size}
use Rattle.tlsf_class.proofs.RoundingLaws.{round-Some}
use Rattle.tlsf_store.specs.Records.{most_records}
use Rattle.tlsf_heap.specs.Content.{Block, Content}
use Rattle.tlsf_heap.specs.Malloc.{gap}
use Rattle.tlsf_heap.specs.Memalign.{is_alignment}
use Rattle.tlsf_heap.specs.Pools.{created, add_pool}
use Rattle.tlsf_heap.specs.Good.{IsGood}
use Rattle.tlsf_heap.specs.Sizing.{class_size, sure_records, sure_pool, sure_bytes}
use Rattle.tlsf_heap.specs.Least.{IsRefusedWithin}
use Rattle.tlsf_heap.proofs.Content.PoolCases.{pool_added}
use Rattle.tlsf_heap.proofs.Good.MallocIsGood.{add_pool_is_good, created_is_good}
use Rattle.tlsf_heap.proofs.Good.OneSize.{own_class}
use Rattle.tlsf_heap.proofs.Good.AtEnd.{behind, rest_at, EndsBy, gap_some}
use Rattle.tlsf_heap.proofs.Good.OneSizePool.{IsLowest}
use Rattle.tlsf_heap.proofs.Good.PowerClasses.{lowest_of_alignment}
use Rattle.tlsf_heap.proofs.Good.RefusedRuns.{refused_within}
use Rattle.tlsf_heap.proofs.Good.Spaced.{end_bytes, laid_in_turn, spaced_in_turn}
use Rattle.tlsf_heap.proofs.Meaning.BlockPositions.{filled_pools}

whole_product : (a b : ℕ) → b % unit ≡ 0 → (a * b) % unit ≡ 0
whole_product zero b whole = omega arith
whole_product (suc a) b whole = omega (arith, whole, whole_product a b whole)

-- a unit less than the sure pool is the most that may refuse, where the bytes are whole units
most_is : (blocks bytes size pool : ℕ) → bytes % unit ≡ 0 → size % unit ≡ 0 → unit ≤ size → sure_pool blocks bytes (Some size) ≡ Some (pool + unit) → pool ≡ bytes + (blocks + 1) * (size - unit)
most_is blocks bytes size pool bytes_whole whole least is = elim (cases_Bool (nat_le (sure_records blocks) most_records && nat_le (sure_bytes blocks bytes size) greatest_size)) [
  | inl small ↦
      let told : sure_pool blocks bytes (Some size) ≡ Some (sure_bytes blocks bytes size) = rw small refl in
      let same : sure_bytes blocks bytes size ≡ pool + unit = cc in
      let units : (blocks + 1) * (size - unit) % unit ≡ 0 = whole_product (blocks + 1) (size - unit) (omega (arith, whole, least)) in
      omega (arith, same, units, bytes_whole)
  | inr large ↦ let none : sure_pool blocks bytes (Some size) ≡ None = rw large refl in absurd (cc)
]

-- the whole pool is that of the blocks to be laid
end_is : (more bytes size : ℕ) → size ≤ bytes → bytes + (suc more + 1) * (size - unit) ≡ end_bytes size more (bytes - size)
end_is more bytes size within = omega (arith, within)

whole_pool : (records base pool : ℕ) (old : Content ℕ) → 0 < pool → add_pool base pool (created records) ≡ Ok old → EndsBy base pool records [] (rest_at base pool ∷ []) old
whole_pool records base pool old some added =
    subst (λ (content : Content ℕ). IsGood content → EndsBy base pool records [] (rest_at base pool ∷ []) content) (pool_added base pool (created records) old added).is
    (λ good. record { good = good; pools = ap (λ (ends : List (Block ℕ)). filled_pools (behind base pool records []) ends) (gap_some ℕ base pool (omega (arith, some))); records = refl })
    (add_pool_is_good base pool (created records) old (created_is_good records) added)

pub larger_refused : (blocks bytes size records base pool : ℕ) (old : Content ℕ) → class_size 1 size ≡ Some size → unit < size → bytes % unit ≡ 0 → (blocks - 1) * unit + size ≤ bytes → bytes ≤ blocks * size
    → sure_pool blocks bytes (Some size) ≡ Some (pool + unit) → sure_records blocks ≤ records → add_pool base pool (created records) ≡ Ok old → (lacks : Type 0) → IsRefusedWithin blocks bytes size lacks old
larger_refused zero bytes size records base pool old is some whole least most sure many added lacks = absurd (omega (arith, some, least, most))
larger_refused (suc more) bytes size records base pool old is some whole least most sure many added lacks =
    refused_within (suc more) bytes size lacks old
    (laid_in_turn (suc more) bytes size lacks lowest some base pool records (omega (arith, many)) more (bytes - size) 0 0 (omega arith) (omega (arith, least)) (omega (arith, whole, size_units, least)) (omega (arith, least)) (omega (arith, most, one)) base [] old
    (subst (λ n. EndsBy base pool records [] (rest_at base n ∷ []) old) pool_end (whole_pool records base pool old (omega (arith, pool_end, some)) added))
    (record { below = tt; live = refl; bytes_held = refl; few = omega arith; slots = λ slot above. refl; none_free = refl; none_past = refl }))
  where
    lowest : IsLowest size
    lowest = own_class size is

    size_units : size % unit ≡ 0
    size_units = (round-Some size size lowest.rounds).whole

    one : suc more * size ≡ size + more * size
    one = omega arith

    pool_end : pool ≡ end_bytes size more (bytes - size)
    pool_end = most_is (suc more) bytes size pool whole size_units (omega (arith, some)) sure ∙ end_is more bytes size (omega (arith, least))

-- the whole pool is that of the blocks to be spaced
spaced_is : (more bytes size : ℕ) → more * unit ≤ bytes → unit ≤ size → bytes + (suc more + 1) * (size - unit) ≡ more * size + ((size - unit) + (bytes - more * unit) + (size - unit))
spaced_is more bytes size within least =
    let sized : (size - unit) + unit ≡ size = omega (arith, least) in
    let product : more * size ≡ more * (size - unit) + more * unit = ap (λ n. more * n) (sym sized) ∙ spread_out more (size - unit) in
    omega (arith, product, within)
  where
    spread_out : (more gap : ℕ) → more * (gap + unit) ≡ more * gap + more * unit
    spread_out more gap = omega arith

pub spaced_refused : (blocks bytes size records base pool : ℕ) (old : Content ℕ) → is_alignment size ≡ true → unit < size → base % size ≡ unit → 0 < blocks → bytes % unit ≡ 0 → blocks * unit ≤ bytes → bytes ≤ (blocks - 1) * unit + size
    → sure_pool blocks bytes (Some size) ≡ Some (pool + unit) → sure_records blocks ≤ records → add_pool base pool (created records) ≡ Ok old → (lacks : Type 0) → IsRefusedWithin blocks bytes size lacks old
spaced_refused zero bytes size records base pool old is some at none whole least most sure many added lacks = absurd (omega (arith, none))
spaced_refused (suc more) bytes size records base pool old is some at one whole least most sure many added lacks =
    refused_within (suc more) bytes size lacks old
    (spaced_in_turn (suc more) bytes size lacks lowest some base pool records (omega (arith, many)) is (bytes - more * unit) (omega (arith, whole, least)) (omega (arith, least)) (omega (arith, most)) more 0 0 (omega arith) (omega (arith, least)) base [] old at
    (subst (λ n. EndsBy base pool records [] (rest_at base n ∷ []) old) pool_end (whole_pool records base pool old (omega (arith, pool_end, some)) added))
    (record { below = tt; live = refl; bytes_held = refl; few = omega arith; slots = λ slot above. refl; none_free = refl; none_past = refl }))
  where
    lowest : IsLowest size
    lowest = lowest_of_alignment size is (omega (arith, some))

    size_units : size % unit ≡ 0
    size_units = (round-Some size size lowest.rounds).whole

    pool_end : pool ≡ more * size + ((size - unit) + (bytes - more * unit) + (size - unit))
    pool_end = most_is (suc more) bytes size pool whole size_units (omega (arith, some)) sure ∙ spaced_is more bytes size (omega (arith, least)) (omega (arith, some))
