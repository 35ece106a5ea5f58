-- Blocks that are on chains which cover their pools are no larger than these.
use Rattle.std.proofs.Common.{◌≡◌, ℕ, ◌+◌, ◌≤◌, Bool, true, not, ◌&&◌, ◌||◌, List, [], ◌∷◌, length, refl, subst, arith, inl, inr}
use Rattle.std.specs.Prelude.{◌==◌, nat_le, nat_lt, ◌%◌}
use Rattle.std.specs.List.{list_all, list_any}
use Rattle.std.proofs.lemmas.Bool.{and_parts, and_from, or_cases, eqb-true, leb-true}
use Rattle.std.proofs.lemmas.List.Folds.{Any-from_list_any}
use Rattle.std.proofs.lemmas.List.Sums.{AllPass-from_list_all}
use Rattle.tlsf_class.specs.Classes.{unit, greatest_size}
use Rattle.tlsf_store.specs.declared.pools.Pool.{Pool}
use Rattle.tlsf_heap.specs.Images.Image.{Sections}
use Rattle.tlsf_store.specs.Ranges.{end_of_places}
use Rattle.tlsf_heap.specs.Images.Rules.{is_pool, are_pools, at, is_used, covers, is_among, chain_of, has_cover, has_all_on_chains}
use Rattle.tlsf_heap.specs.Images.Findings.{HasSizes}
use Rattle.tlsf_heap.specs.Inner.Entries.{entries_of}
use Rattle.tlsf_heap.proofs.Images.Totals.{all_below, not_or, covered_up}

-- a pool has no more bytes than a block can have
fourth : (a b c d e rest : Bool) → ((a && (b && (c && (d && e)))) && rest) ≡ true → d ≡ true
fourth a b c d e rest p = (and_parts d e (and_parts c (d && e) (and_parts b (c && (d && e)) (and_parts a (b && (c && (d && e))) (and_parts (a && (b && (c && (d && e)))) rest p).0).1).1).1).0

pub pool_bytes : (count from : ℕ) (pools : List Pool) → are_pools count from pools ≡ true → list_all (λ pool. nat_le pool.bytes greatest_size) pools ≡ true
pool_bytes count from [] e = refl
pool_bytes count from (pool ∷ pools) e =
    let both = and_parts (is_pool count from pool) (are_pools count (pool.base + pool.bytes) pools) e in
    let most = fourth (pool.base % unit == 0) (pool.bytes % unit == 0) (nat_le unit pool.bytes) (nat_le pool.bytes greatest_size) (nat_le (pool.base + pool.bytes) end_of_places) (nat_le from pool.base && nat_lt pool.first count) both.0 in
    and_from (nat_le pool.bytes greatest_size) (list_all (λ pool. nat_le pool.bytes greatest_size) pools) most (pool_bytes count (pool.base + pool.bytes) pools both.1)

module _ (sections : Sections) where
  covers_sizes : (from to : ℕ) (slots : List ℕ) (slot : ℕ) → covers sections from to slots ≡ true → is_among slot slots ≡ true → from + (at sections slot).size ≤ to
  covers_sizes from to [] slot e among = absurd (cc)
  covers_sizes from to (first ∷ slots) slot e among =
      let rest : covers sections (from + (at sections first).size) to slots ≡ true = (and_parts ((at sections first).place == from) (covers sections (from + (at sections first).size) to slots) e).1 in
      elim (or_cases _ _ among) [
        | inl same ↦ subst (λ s. from + (at sections s).size ≤ to) (eqb-true first slot same) (covered_up sections slots (from + (at sections first).size) to rest)
        | inr later ↦ omega (arith, covers_sizes (from + (at sections first).size) to slots slot rest later)
      ]

  pub sizes : (count : ℕ) → are_pools count 0 (entries_of sections.pools) ≡ true → has_cover sections ≡ true → has_all_on_chains sections ≡ true → HasSizes sections
  sizes count pools covered on_chains slot within used =
      let on = all_below (λ slot. not (is_used (at sections slot).state) || list_any (λ pool. is_among slot (chain_of sections pool)) (entries_of sections.pools)) (length sections.records) on_chains slot within in
      let some : list_any (λ pool. is_among slot (chain_of sections pool)) (entries_of sections.pools) ≡ true = not_or (is_used (at sections slot).state) _ on used in
      let there = Any-from_list_any (λ pool. is_among slot (chain_of sections pool)) (entries_of sections.pools) some in
      let pool = there.1 in
      let covers_it = subst (λ p. covers sections p.base (p.base + p.bytes) (chain_of sections p) ≡ true) there.3 (AllPass-from_list_all (λ pool. covers sections pool.base (pool.base + pool.bytes) (chain_of sections pool)) (entries_of sections.pools) covered there.0 pool there.2) in
      let bytes = subst (λ p. nat_le p.bytes greatest_size ≡ true) there.3 (AllPass-from_list_all (λ pool. nat_le pool.bytes greatest_size) (entries_of sections.pools) (pool_bytes count 0 (entries_of sections.pools) pools) there.0 pool there.2) in
      omega (arith, covers_sizes pool.base (pool.base + pool.bytes) (chain_of sections pool) slot covers_it there.4, leb-true pool.bytes greatest_size bytes)
