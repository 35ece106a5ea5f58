-- The bytes of the pools are those of the free blocks and of the live ones, and the entries hold the pools.
use Rattle.std.proofs.Common.{◌≡◌, ℕ, ◌+◌, ◌*◌, ◌<◌, true, List, [], ◌∷◌, ◌++◌, map, filter, slice_set, refl, sym, ap, ◌∙◌, arith, inl, inr}
use Rattle.std.specs.Prelude.{if◌then◌else◌, sum_by}
use Rattle.std.specs.List.{AllPairs, Contains}
use Rattle.std.proofs.lemmas.Bool.{cases_Bool, cases_eq, eq-eqb, ne_eqb}
use Rattle.std.proofs.lemmas.List.Elements.{All-contains, filter-append}
use Rattle.std.proofs.lemmas.List.Sums.{sum_by-cons, sum_by-append, sum_by-set}
use Rattle.std.proofs.Math.Logic.{∥∥₁_elim}
use Rattle.tlsf_heap.specs.Content.{Block, Pool, Content, blocks_of, is_free}
use Rattle.tlsf_heap.specs.Counted.{range_of}
use Rattle.tlsf_heap.specs.Good.{Covers, AreGoodPools, IsGood}
use Rattle.tlsf_heap.specs.Room.{live_bytes, pool_bytes}
use Rattle.tlsf_heap.proofs.Good.Room.{live_bytes-append}
use Rattle.tlsf_c.specs.declared.live_figures.LiveFigures.{LiveFigures}
use Rattle.tlsf_c.specs.declared.placed_pool.PlacedPool.{PlacedPool}
use Rattle.tlsf_c.specs.FreeFigures.{free_bytes, entry_bytes}
use Rattle.tlsf_c.specs.Fronts.{front}
use Rattle.tlsf_c.specs.LiveFigures.{AreFigures}
use Rattle.tlsf_c.specs.PlacedPools.{AreApart, IsEntered, IsEntryOf, AreEntriesOf, placed_range}
use Rattle.tlsf_c.specs.RangeMoves.{IsRangeRemoved}
use Rattle.tlsf_c.proofs.EntriesMoved.{vacant, apart_without, entries_removed}
use Rattle.tlsf_c.proofs.LiveBlock.{above_from}
use Rattle.tlsf_c.proofs.Stands.{never_stands, stands_first, stands_first_or_later, stands_later}

abbrev size_of : Block ℕ → ℕ
size_of block = block.size

pub free_bytes-append : (blocks behind : List (Block ℕ)) → free_bytes (blocks ++ behind) ≡ free_bytes blocks + free_bytes behind
free_bytes-append blocks behind = ap (sum_by size_of) (filter-append is_free blocks behind) ∙ sum_by-append size_of (filter is_free blocks) (filter is_free behind)

-- a free block in front
pub free_bytes-free : (block : Block ℕ) (blocks : List (Block ℕ)) → is_free block ≡ true → free_bytes (block ∷ blocks) ≡ block.size + free_bytes blocks
free_bytes-free block blocks free =
    let kept : filter is_free (block ∷ blocks) ≡ block ∷ filter is_free blocks = rw free refl in
    ap (sum_by size_of) kept ∙ sum_by-cons size_of block (filter is_free blocks)

-- blocks that cover all are free or live
covered : (from to : ℕ) (blocks : List (Block ℕ)) → Covers from to blocks → from + (free_bytes blocks + live_bytes blocks) ≡ to
covered from to [] covers = omega (arith, covers)
covered from to (block ∷ blocks) covers = elim (cases_Bool (is_free block)) [
  | inl free ↦
      let live : live_bytes (block ∷ blocks) ≡ 0 + live_bytes blocks = ap (λ b. (if b then 0 else block.size) + live_bytes blocks) free in
      omega (arith, free_bytes-free block blocks free, live, covered (from + block.size) to blocks covers.3)
  | inr used ↦
      let live : live_bytes (block ∷ blocks) ≡ block.size + live_bytes blocks = ap (λ b. (if b then 0 else block.size) + live_bytes blocks) used in
      let left : filter is_free (block ∷ blocks) ≡ filter is_free blocks = rw used refl in
      omega (arith, ap (sum_by size_of) left, live, covered (from + block.size) to blocks covers.3)
]

all_free_or_live : (from : ℕ) (pools : List (Pool ℕ)) → AreGoodPools from pools → free_bytes (blocks_of pools) + live_bytes (blocks_of pools) ≡ pool_bytes pools
all_free_or_live from [] good = refl
all_free_or_live from (pool ∷ pools) good = omega (
  arith,
  free_bytes-append pool.blocks (blocks_of pools),
  live_bytes-append pool.blocks (blocks_of pools),
  covered pool.base (pool.base + pool.bytes) pool.blocks good.1.covered,
  all_free_or_live (pool.base + pool.bytes) pools good.2,
)

some_bytes : (pool : PlacedPool) → 0 < pool.reach → entry_bytes pool ≡ pool.reach + front
some_bytes pool some = rw (ne_eqb pool.reach 0 (λ none. omega (arith, none, some))) refl

-- entries of which none holds a pool have no bytes
none_entered : (entries : List PlacedPool) → ((pool : PlacedPool) → Contains entries pool → pool.reach ≡ 0) → sum_by entry_bytes entries ≡ 0
none_entered [] none = refl
none_entered (pool ∷ entries) none =
    let here : entry_bytes pool ≡ 0 = rw (eq-eqb pool.reach 0 (none pool (stands_first pool entries))) refl in
    omega (arith, sum_by-cons entry_bytes pool entries, here, none_entered entries (λ other has. none other (stands_later pool other entries has)))

-- The entry of the first pool is made vacant, and the others are those of the pools behind it.
entered_bytes : (from : ℕ) (pools : List (Pool ℕ)) (entries : List PlacedPool) → AreGoodPools from pools → AllPairs AreApart entries → AreEntriesOf (map range_of pools) entries → sum_by entry_bytes entries ≡ pool_bytes pools
entered_bytes from [] entries good apart are =
    none_entered entries (λ pool has. elim (cases_eq pool.reach 0) [
      | inl none ↦ none
      | inr some ↦ never_stands (placed_range pool) (All-contains (IsEntryOf []) entries pool are.of_ranges has (omega (arith, some)))
    ])
entered_bytes from (pool ∷ pools) entries good apart are =
    let rest : List (ℕ × ℕ) = map range_of pools in
    let one : IsEntered entries (range_of pool) = All-contains (IsEntered entries) (map range_of (pool ∷ pools)) (range_of pool) are.entered (stands_first (range_of pool) rest) in
    let entry : PlacedPool = one.0 in
    let k : ℕ = one.1.0 in
    let base_is : entry.place ≡ pool.base = ap (λ (r : ℕ × ℕ). r.0) one.3 in
    let bytes_are : entry.reach + front ≡ pool.bytes = ap (λ (r : ℕ × ℕ). r.1) one.3 in
    let removed : IsRangeRemoved entry.place (map range_of (pool ∷ pools)) rest = record {
      keeps = λ range has away. elim (stands_first_or_later (range_of pool) range rest has) [
        | inl same ↦ absurd (away (sym (ap (λ (r : ℕ × ℕ). r.0) same) ∙ sym base_is))
        | inr later ↦ later
      ];
      alone = λ range has. (
        stands_later (range_of pool) range rest has,
        λ at. omega (arith, at, base_is, above_from range (pool.base + pool.bytes) pools good.2 has, good.1.least_bytes),
      );
    } in
    let left = entered_bytes (pool.base + pool.bytes) pools (slice_set entries k vacant) good.2 (apart_without entries k vacant one.1.1 refl apart)
    (entries_removed entries k vacant one.1.1 (map range_of (pool ∷ pools)) rest entry apart one.1.2 one.2 removed refl are) in
    let more = sum_by-set entry_bytes entries k vacant entry one.1.1 in
    omega (arith, left, more, ap entry_bytes one.1.2, some_bytes entry one.2, bytes_are)

-- what isn't live is free
pub free_and_live : (figures : LiveFigures) (entries : List PlacedPool) (content : Content ℕ) → IsGood content → AllPairs AreApart entries → ∥ AreEntriesOf (map range_of content.pools) entries ∥₁ → AreFigures figures content
    → free_bytes (blocks_of content.pools) + (figures.bytes + front * figures.blocks) ≡ sum_by entry_bytes entries
free_and_live figures entries content good apart entered are =
    let all : sum_by entry_bytes entries ≡ pool_bytes content.pools = elim (cases_eq (sum_by entry_bytes entries) (pool_bytes content.pools)) [
      | inl same ↦ same
      | inr differ ↦ absurd (∥∥₁_elim entered (λ a b. absurd a) (λ e. differ (entered_bytes 0 content.pools entries good.pools_good apart e)))
    ] in
    omega (arith, all, all_free_or_live 0 content.pools good.pools_good, are.bytes)
