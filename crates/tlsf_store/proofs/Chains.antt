-- Chains of vacant slots: how long one is, and what leaves it as it was.
use Rattle.std.proofs.Common.{◌≡◌, ◌≢◌, ◌↔◌, ℕ, zero, suc, ◌-◌, ◌<◌, ◌≤◌, Option, Some, None, sym, ap, subst, refl, arith}
use Rattle.std.proofs.lemmas.Option.{same_Some}
use Rattle.tlsf_store.specs.Table.{IsChain}

-- the first of a chain is vacant, and the rest is a chain of one less
pub record BeginsAt (vacant : ℕ → Type 0) (next : ℕ → Option ℕ) (count slot : ℕ) : Type 0 where
  pub some : 0 < count
  pub first : vacant slot
  pub rest : IsChain vacant next (count - 1) (next slot)

pub chain_begins : (vacant : ℕ → Type 0) (next : ℕ → Option ℕ) (count slot : ℕ) → IsChain vacant next count (Some slot) → BeginsAt vacant next count slot
chain_begins vacant next zero slot chain = let never : ⊥ = cc chain in absurd never
chain_begins vacant next (suc count) slot (q, is, first, rest) =
    let same : q ≡ slot = sym (same_Some slot q is) in
    let less : suc count - 1 ≡ count = omega arith in
    record {
      some = omega arith;
      first = subst vacant same first;
      rest = rw less (subst (λ v. IsChain vacant next count (next v)) same rest);
    }

-- a chain from none is empty
pub chain_none : (vacant : ℕ → Type 0) (next : ℕ → Option ℕ) (count : ℕ) → IsChain vacant next count None → count ≡ 0
chain_none vacant next zero chain = refl
chain_none vacant next (suc count) (q, is, first, rest) = let never : ⊥ = cc is in absurd never

-- a chain's first slot fixes how long it is
pub chain_length : (vacant : ℕ → Type 0) (next : ℕ → Option ℕ) (m n : ℕ) (first : Option ℕ) → IsChain vacant next m first →
    IsChain vacant next n first → m ≡ n
chain_length vacant next zero n first a b =
    sym (chain_none vacant next n (subst (λ v. IsChain vacant next n v) a b))
chain_length vacant next (suc m) n first (q, is, at, rest) b =
    let begins : BeginsAt vacant next n q = chain_begins vacant next n q (subst (λ v. IsChain vacant next n v) is b) in
    let less : m ≡ n - 1 = chain_length vacant next m (n - 1) (next q) rest begins.rest in
    omega (arith, begins.some)

-- a chain that doesn't come by a slot stays where all else stays
pub chain_stays : (vacant vacant' : ℕ → Type 0) (next next' : ℕ → Option ℕ) (slot : ℕ) →
    ((q : ℕ) → q ≢ slot → vacant q → vacant' q × (next' q ≡ next q)) →
    (count : ℕ) (first : Option ℕ) → ((k : ℕ) → k ≤ count → IsChain vacant next k (Some slot) → ⊥) →
    IsChain vacant next count first → IsChain vacant' next' count first
chain_stays vacant vacant' next next' slot same zero first away chain = chain
chain_stays vacant vacant' next next' slot same (suc count) first away (q, is, at, rest) =
    let other : q ≢ slot = λ here. away (suc count) (omega arith) (q, ap Some (sym here), at, rest) in
    let kept : vacant' q × (next' q ≡ next q) = same q other at in
    let more : IsChain vacant' next' count (next q) =
    chain_stays vacant vacant' next next' slot same count (next q) (λ k most. away k (omega arith)) rest in
    (q, is, kept.0, subst (λ v. IsChain vacant' next' count v) (sym kept.1) more)

-- without its first slot, a chain doesn't come by it
pub chain_away_from_first : (vacant : ℕ → Type 0) (next : ℕ → Option ℕ) (count slot : ℕ) → IsChain vacant next count (Some slot) →
    (k : ℕ) → k ≤ count - 1 → IsChain vacant next k (Some slot) → ⊥
chain_away_from_first vacant next count slot chain k most again =
    let same : k ≡ count = chain_length vacant next k count (Some slot) again chain in
    let begins : BeginsAt vacant next count slot = chain_begins vacant next count slot chain in
    omega (arith, begins.some)

-- no chain comes by a slot that isn't vacant
pub chain_away_from_used : (vacant : ℕ → Type 0) (next : ℕ → Option ℕ) (count slot : ℕ) → (vacant slot → ⊥) →
    (k : ℕ) → k ≤ count → IsChain vacant next k (Some slot) → ⊥
chain_away_from_used vacant next count slot used k most chain = used (chain_begins vacant next k slot chain).first

-- where a slot is vacant, what its link leads on to is a chain exactly where the slot begins one
pub chain_follows : (vacant : ℕ → Type 0) (next : ℕ → Option ℕ) (count slot : ℕ) → 0 < count → vacant slot →
    IsChain vacant next (count - 1) (next slot) ↔ IsChain vacant next count (Some slot)
chain_follows vacant next zero slot some first = let never : ⊥ = omega (arith, some) in absurd never
chain_follows vacant next (suc count) slot some first =
    let less : suc count - 1 ≡ count = omega arith in (
      λ rest. (slot, refl, first, subst (λ n. IsChain vacant next n (next slot)) less rest),
      λ chain. (chain_begins vacant next (suc count) slot chain).rest,
    )
