-- What is live in the pools of a heap, counted pool by pool.
use Rattle.std.proofs.Common.{◌≡◌, ℕ, suc, zero, ◌+◌, ◌^◌, ◌<◌, ◌≤◌, true, false, List, [], ◌∷◌, length, map, take, count_by, slice_index_or, refl, ap, ◌∙◌, arith, add-one, Ok, Err}
use Rattle.std.specs.Prelude.{not, ◌==◌}
use Rattle.std.proofs.lemmas.Bool.{eq-eqb, ne_eqb}
use Rattle.std.proofs.lemmas.List.{get_or-map, length-map}
use Rattle.tlsf_heap.specs.declared.row.Row.{Row}
use Rattle.tlsf_heap.specs.declared.refusal.Refusal.{Refusal}
use Rattle.tlsf_heap.specs.Counted.{range_of}
use Rattle.tlsf_heap.specs.Content.{Block, Pool, Content, blocks_of, is_free}
use Rattle.tlsf_heap.specs.Good.{AreGoodPools, IsGood}
use Rattle.tlsf_heap.specs.Room.{live_bytes}
use Rattle.tlsf_heap.specs.Rows.{row_of, rows_from}
use Rattle.tlsf_heap.proofs.Counts.{count-append}
use Rattle.tlsf_heap.proofs.Good.LiveBytes.{live_most}
use Rattle.tlsf_heap.proofs.Good.Room.{live_bytes-append}
use Rattle.tlsf_c.specs.LiveCounts.{used_rows, used_bytes}
use Rattle.tlsf_c.proofs.LiveChanges.{fronts_least}
use Rattle.tlsf_c.proofs.LiveRows.{used_rows_of, used_bytes_of}

-- a pool begins at or above where they may
base_above : (from : ℕ) (pools : List (Pool ℕ)) (k : ℕ) (d : Pool ℕ) → AreGoodPools from pools → k < length pools → from ≤ (slice_index_or pools k d).base
base_above from [] k d good within = absurd (omega (arith, within))
base_above from (pool ∷ pools) zero d good within = good.0
base_above from (pool ∷ pools) (suc k) d good within = omega (arith, good.0, base_above (pool.base + pool.bytes) pools k d good.2 (omega (arith, within)))

-- the rows from its base on are its own
rows_of_pool : (from : ℕ) (pools : List (Pool ℕ)) (k : ℕ) (d : Pool ℕ) → AreGoodPools from pools → k < length pools → rows_from (slice_index_or pools k d).base pools ≡ Ok (map row_of (slice_index_or pools k d).blocks)
rows_of_pool from [] k d good within = absurd (omega (arith, within))
rows_of_pool from (pool ∷ pools) zero d good within = let here : (pool.base == pool.base) ≡ true = eq-eqb pool.base pool.base refl in (rw here refl)
rows_of_pool from (pool ∷ pools) (suc k) d good within =
    let base : ℕ = (slice_index_or pools k d).base in
    let above = base_above (pool.base + pool.bytes) pools k d good.2 (omega (arith, within)) in
    let elsewhere : (pool.base == base) ≡ false = ne_eqb pool.base base (λ same. (omega (arith, same, above, good.1.least_bytes))) in
    let is : rows_from base (pool ∷ pools) ≡ rows_from base pools = rw elsewhere refl in
    is ∙ rows_of_pool (pool.base + pool.bytes) pools k d good.2 (omega (arith, within))

abbrev pub live_in : List (Block ℕ) → ℕ
live_in blocks = count_by (λ block. not (is_free block)) blocks

-- one pool more
live_in_more : (pools : List (Pool ℕ)) (k : ℕ) (d : Pool ℕ) → k < length pools → live_in (blocks_of (take (suc k) pools)) ≡ live_in (blocks_of (take k pools)) + live_in (slice_index_or pools k d).blocks
live_in_more [] k d within = absurd (omega (arith, within))
live_in_more (pool ∷ pools) zero d within = omega (arith, count-append (λ (b : Block ℕ). not (is_free b)) pool.blocks [])
live_in_more (pool ∷ pools) (suc k) d within =
    omega (arith, count-append (λ (b : Block ℕ). not (is_free b)) pool.blocks (blocks_of (take (suc k) pools)), count-append (λ (b : Block ℕ). not (is_free b)) pool.blocks (blocks_of (take k pools)), live_in_more pools k d (omega (arith, within)))

live_bytes_more : (pools : List (Pool ℕ)) (k : ℕ) (d : Pool ℕ) → k < length pools → live_bytes (blocks_of (take (suc k) pools)) ≡ live_bytes (blocks_of (take k pools)) + live_bytes (slice_index_or pools k d).blocks
live_bytes_more [] k d within = absurd (omega (arith, within))
live_bytes_more (pool ∷ pools) zero d within = omega (arith, live_bytes-append pool.blocks [])
live_bytes_more (pool ∷ pools) (suc k) d within =
    omega (arith, live_bytes-append pool.blocks (blocks_of (take (suc k) pools)), live_bytes-append pool.blocks (blocks_of (take k pools)), live_bytes_more pools k d (omega (arith, within)))

-- some of the pools have no more than all
live_in_some : (pools : List (Pool ℕ)) (k : ℕ) → live_in (blocks_of (take k pools)) ≤ live_in (blocks_of pools)
live_in_some [] zero = omega arith
live_in_some [] (suc k) = omega arith
live_in_some (pool ∷ pools) zero = omega arith
live_in_some (pool ∷ pools) (suc k) =
    omega (arith, count-append (λ (b : Block ℕ). not (is_free b)) pool.blocks (blocks_of (take k pools)), count-append (λ (b : Block ℕ). not (is_free b)) pool.blocks (blocks_of pools), live_in_some pools k)

live_bytes_some : (pools : List (Pool ℕ)) (k : ℕ) → live_bytes (blocks_of (take k pools)) ≤ live_bytes (blocks_of pools)
live_bytes_some [] zero = omega arith
live_bytes_some [] (suc k) = omega arith
live_bytes_some (pool ∷ pools) zero = omega arith
live_bytes_some (pool ∷ pools) (suc k) =
    omega (arith, live_bytes-append pool.blocks (blocks_of (take k pools)), live_bytes-append pool.blocks (blocks_of pools), live_bytes_some pools k)

-- no pool
abbrev no_pool : Pool ℕ
no_pool = record { base = 0; bytes = 0; blocks = [] }

-- the rows from the base of a range on are those of its pool
rows_at_range : (pools now : List (Pool ℕ)) (ranges : List (ℕ × ℕ)) (k : ℕ) → AreGoodPools 0 pools → ranges ≡ map range_of pools → now ≡ pools → k < length ranges
    → rows_from (slice_index_or ranges k (0, 0)).0 now ≡ Ok (map row_of (slice_index_or pools k no_pool).blocks)
rows_at_range pools now ranges k good are same inside =
    let within : k < length pools = omega (arith, inside, ap length are, length-map pools range_of) in
    let range_is : (slice_index_or ranges k (0, 0)).0 ≡ (slice_index_or pools k no_pool).base =
    ap (λ (rs : List (ℕ × ℕ)). (slice_index_or rs k (0, 0)).0) are ∙ ap (λ (r : ℕ × ℕ). r.0) (get_or-map range_of pools k no_pool (0, 0) within) in
    ap (λ (ps : List (Pool ℕ)). rows_from (slice_index_or ranges k (0, 0)).0 ps) same ∙ ap (λ (n : ℕ). rows_from n pools) range_is ∙ rows_of_pool 0 pools k no_pool good within

-- and some are found
pub rows_never_refused : (pools now : List (Pool ℕ)) (ranges : List (ℕ × ℕ)) (k : ℕ) (refusal : Refusal) → AreGoodPools 0 pools → ranges ≡ map range_of pools → now ≡ pools → k < length ranges → rows_from (slice_index_or ranges k (0, 0)).0 now ≡ Err refusal → ⊥
rows_never_refused pools now ranges k refusal good are same within refused = let is = rows_at_range pools now ranges k good are same within in cc (is, refused)

-- these blocks and bytes are the live ones of the pool at this index
pub record CountsPool (pools : List (Pool ℕ)) (k blocks bytes : ℕ) : Type 0 where
  pub blocks_more : live_in (blocks_of (take (k + 1) pools)) ≡ live_in (blocks_of (take k pools)) + blocks
  pub bytes_more : live_bytes (blocks_of (take (k + 1) pools)) ≡ live_bytes (blocks_of (take k pools)) + bytes

-- what is counted among the rows that are found
pub counted_pool : (pools now : List (Pool ℕ)) (ranges : List (ℕ × ℕ)) (k blocks bytes : ℕ) (rows : List Row) → AreGoodPools 0 pools → ranges ≡ map range_of pools → now ≡ pools → k < length ranges
    → rows_from (slice_index_or ranges k (0, 0)).0 now ≡ Ok rows → blocks ≡ used_rows rows → bytes ≡ used_bytes rows → CountsPool pools k blocks bytes
counted_pool pools now ranges k blocks bytes rows good are same inside found blocks_are bytes_are =
    let own : List (Block ℕ) = (slice_index_or pools k no_pool).blocks in
    let within : k < length pools = omega (arith, inside, ap length are, length-map pools range_of) in
    let is = rows_at_range pools now ranges k good are same inside in
    let rows_are : rows ≡ map row_of own = cc (is, found) in
    let next : take (k + 1) pools ≡ take (suc k) pools = ap (λ (n : ℕ). take n pools) (add-one k) in
    record {
      blocks_more = omega (arith, ap (λ (ps : List (Pool ℕ)). live_in (blocks_of ps)) next, live_in_more pools k no_pool within, blocks_are, ap used_rows rows_are, used_rows_of own);
      bytes_more = omega (arith, ap (λ (ps : List (Pool ℕ)). live_bytes (blocks_of ps)) next, live_bytes_more pools k no_pool within, bytes_are, ap used_bytes rows_are, used_bytes_of own);
    }

-- and no more than pools can have
pub few_live : (content : Content ℕ) (k : ℕ) → IsGood content → (live_in (blocks_of (take k content.pools)) < 2 ^ 34) × (live_bytes (blocks_of (take k content.pools)) < 2 ^ 34)
few_live content k good = (
  omega (arith, live_in_some content.pools k, fronts_least content good, live_most content good),
  omega (arith, live_bytes_some content.pools k, live_most content good),
)
