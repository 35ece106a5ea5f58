-- Lists of pool entries: read and written.
use Rattle.std.proofs.Common.{◌≡◌, ℕ, zero, suc, ◌+◌, ◌-◌, ◌<◌, ◌≤◌, List, [], ◌∷◌, ◌++◌, length, map, replicate, take, get_or, refl, sym, ap, ◌∙◌, subst, arith, Option, Some, None, inl, inr}
use Rattle.std.specs.Prelude.{All}
use Rattle.std.proofs.lemmas.Bool.{cases_lt}
use Rattle.std.proofs.lemmas.List.{take_more, get_or-map, get_or_past, get_or_append_left, get_or-append_right, get_or-replicate, length-append, length-map, length-replicate, ext_get_or}
use Rattle.std.proofs.lemmas.List.Elements.{All-push}
use Rattle.tlsf_store.specs.declared.pools.Pool.{Pool as StoredPool}
use Rattle.tlsf_store.specs.Cells.{pool_at, most_pools, IsPoolBelow}
use Rattle.tlsf_heap.specs.Inner.Entries.{padded, padded_at, entries_of}

-- the entry that fills no place
abbrev pub no_entry : StoredPool
no_entry = record { base = 0; bytes = 0; first = 0 }

abbrev pub FirstBelow : ℕ → StoredPool → Type 0
FirstBelow count entry = entry.first < count

pub entries_of-append : (pools more : List (Option StoredPool)) → entries_of (pools ++ more) ≡ entries_of pools ++ entries_of more
entries_of-append [] more = refl
entries_of-append (None ∷ pools) more = entries_of-append pools more
entries_of-append (Some pool ∷ pools) more = ap (λ es. pool ∷ es) (entries_of-append pools more)

pub entries_of_more : (pools : List (Option StoredPool)) (n : ℕ) → n < length pools → entries_of (take (n + 1) pools) ≡ entries_of (take n pools) ++ entries_of (pool_at pools n ∷ [])
entries_of_more pools n within = ap entries_of (take_more pools n None within) ∙ entries_of-append (take n pools) (get_or pools n None ∷ [])

pub length-entries_more : (entries : List StoredPool) (pool : Option StoredPool) → length (entries ++ entries_of (pool ∷ [])) ≤ length entries + 1
length-entries_more entries None = omega (arith, length-append {A = StoredPool} entries [])
length-entries_more entries (Some pool) = omega (arith, length-append {A = StoredPool} entries (pool ∷ []))

pub entries_below_more : (count : ℕ) (entries : List StoredPool) (pool : Option StoredPool) → All (FirstBelow count) entries → IsPoolBelow count pool → All (FirstBelow count) (entries ++ entries_of (pool ∷ []))
entries_below_more count entries None all below = let P : List StoredPool → Type 0 = λ es. All (FirstBelow count) es in subst P (sym (append-none entries)) all
  where
    append-none : (es : List StoredPool) → es ++ [] ≡ es
    append-none [] = refl
    append-none (e ∷ es) = ap (λ r. e ∷ r) (append-none es)
entries_below_more count entries (Some pool) all below = All-push (FirstBelow count) entries (pool) all below

pub entries_of-none : (n : ℕ) → entries_of (replicate n None) ≡ []
entries_of-none zero = refl
entries_of-none (suc n) = entries_of-none n

-- the entries of what was written from them
pub entries_of-padded : (entries : List StoredPool) → entries_of (padded entries) ≡ entries
entries_of-padded entries = entries_of-append (map Some entries) (replicate (most_pools - length entries) None) ∙ whole entries (most_pools - length entries)
  where
    whole : (es : List StoredPool) (n : ℕ) → entries_of (map Some es) ++ entries_of (replicate n None) ≡ es
    whole [] n = entries_of-none n
    whole (e ∷ es) n = ap (λ r. e ∷ r) (whole es n)

pub length-padded : (entries : List StoredPool) → length entries ≤ most_pools → length (padded entries) ≡ most_pools
length-padded entries few = omega (
  arith,
  few,
  length-append (map (λ (e : StoredPool). Some e) entries) (replicate (most_pools - length entries) None),
  length-map {A = StoredPool} {B = Option StoredPool} entries (λ e. Some e),
  length-replicate {A = Option StoredPool} (most_pools - length entries) None,
)

pub padded_at_is : (entries : List StoredPool) (k : ℕ) → k < most_pools → padded_at entries k ≡ pool_at (padded entries) k
padded_at_is entries k within =
    let pools : List (Option StoredPool) = map Some entries in
    let same : length pools ≡ length entries = length-map entries (λ e. Some e) in
    elim (cases_lt k (length pools)) [
      | inl below ↦ sym (get_or_append_left pools (replicate (most_pools - length entries) None) None k below)
      | inr past ↦
          let behind : k - length pools < most_pools - length entries = omega (arith, past, same, within) in
          get_or_past pools k None past
          ∙ sym (get_or-append_right pools (replicate (most_pools - length entries) None) (length pools) k None refl past
          ∙ get_or-replicate (most_pools - length entries) (k - length pools) None None behind)
    ]

pub written_is_padded : (pools : List (Option StoredPool)) (entries : List StoredPool) → length pools ≡ most_pools → length entries ≤ most_pools → ((k : ℕ) → k < most_pools → pool_at pools k ≡ padded_at entries k) → pools ≡ padded entries
written_is_padded pools entries count few written =
    ext_get_or None pools (padded entries) (count ∙ sym (length-padded entries few)) (λ k within. let below : k < most_pools = omega (arith, within, count) in written k below ∙ padded_at_is entries k below)

pub padded_at-below : (count : ℕ) (entries : List StoredPool) (k : ℕ) → All (FirstBelow count) entries → IsPoolBelow count (padded_at entries k)
padded_at-below count entries k all = elim (cases_lt k (length entries)) [
  | inl below ↦
      let P : Option StoredPool → Type 0 = λ p. IsPoolBelow count p in
      subst P (sym (get_or-map (λ (e : StoredPool). Some e) entries k no_entry None below)) (all k no_entry below)
  | inr past ↦
      let P : Option StoredPool → Type 0 = λ p. IsPoolBelow count p in
      subst P (sym (get_or_past (map (λ (e : StoredPool). Some e) entries) k None (omega (arith, past, length-map {A = StoredPool} {B = Option StoredPool} entries (λ e. Some e))))) tt
]
