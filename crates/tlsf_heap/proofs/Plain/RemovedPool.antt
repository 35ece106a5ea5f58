-- What the plain heap's remove_pool leaves.
use Rattle.std.proofs.Common.{◌≡◌, ℕ, ◌<◌, Bool, true, cond, not, refl, sym, ap, ◌∙◌, subst, arith, filter, find, Option, Some, None, option_map, Ok, Err}
use Rattle.tlsf_heap.specs.declared.refusal.Refusal.TheVariants.{PoolInUse}
use Rattle.tlsf_heap.specs.Content.{Pool, Content, IsSize}
use Rattle.tlsf_heap.specs.Lists.{unlink}
use Rattle.tlsf_heap.specs.Pools.{is_based, is_unused, without_pool, remove_found, remove_pool}
use Rattle.tlsf_heap.specs.PlainHeap.{IsPlain}
use Rattle.tlsf_heap.proofs.Good.RemovedPool.{removed, without_pool_is_good, without_pool_slots}

-- the pool found
pub record IsFound (base bytes : ℕ) (unused : Bool) (content : Content ℕ) : Type 0 where
  pub pool : Pool ℕ
  pub there : find (is_based base) content.pools ≡ Some pool
  pub bytes_is : pool.bytes ≡ bytes
  pub unused_is : is_unused pool ≡ unused
  pub based : pool.base ≡ base
  pub size : IsSize bytes
  pub below : base < 4294967296

-- what is told of it
abbrev told_of : Pool ℕ → ℕ × Bool
told_of pool = (pool.bytes, is_unused pool)

pub is_found : {base bytes : ℕ} {unused : Bool} {content : Content ℕ} {told : Option (ℕ × Bool)} → IsPlain content → told ≡ option_map told_of (find (is_based base) content.pools) → told ≡ Some (bytes, unused)
    → IsFound base bytes unused content
is_found {base} {bytes} {unused} {content} {told} plain tells is = of (find (is_based base) content.pools) refl (sym tells ∙ is)
  where
    of : (found : Option (Pool ℕ)) → find (is_based base) content.pools ≡ found → option_map told_of found ≡ Some (bytes, unused) → IsFound base bytes unused content
    of None there e = absurd (cc)
    of (Some pool) there e =
        let both : (pool.bytes, is_unused pool) ≡ (bytes, unused) = cc in
        let bytes_are : pool.bytes ≡ bytes = ap (λ (x : ℕ × Bool). x.0) both in
        let gone = removed base 0 content.pools pool plain.good.pools_good there in
        record {
          pool = pool;
          there = there;
          bytes_is = bytes_are;
          unused_is = ap (λ (x : ℕ × Bool). x.1) both;
          based = gone.based;
          size = (let P : ℕ → Type 0 = λ n. IsSize n in subst P bytes_are (record { positive = omega (arith, gone.good.least_bytes); in_units = gone.good.bytes_in_units; at_most = gone.good.most_bytes }));
          below = omega (arith, gone.good.least_bytes, gone.good.ends, gone.based);
        }

module _ {base bytes : ℕ} {content : Content ℕ} (found : IsFound base bytes true content) where
  -- the content without it
  pub left_is : (copy new : Content ℕ) → copy ≡ content → new ≡ record copy { pools = filter (λ pool. not (is_based base pool)) copy.pools; lists = unlink base bytes copy.lists } → new ≡ without_pool found.pool content
  left_is copy new same is =
      let of : ℕ → ℕ → Content ℕ → Content ℕ = λ b n x. record x { pools = filter (λ pool. not (is_based b pool)) x.pools; lists = unlink b n x.lists } in
      is ∙ ap (of base bytes) same ∙ ap (λ b. of b bytes content) (sym found.based) ∙ ap (λ n. of found.pool.base n content) (sym found.bytes_is)

  pub removed_is : remove_pool base content ≡ Ok (without_pool found.pool content)
  removed_is = ap (λ o. remove_found o content) found.there ∙ ap (λ b. cond b (Ok (without_pool found.pool content)) (Err PoolInUse)) found.unused_is

  -- the plain heap keeps what it keeps
  pub left_is_plain : IsPlain content → IsPlain (without_pool found.pool content)
  left_is_plain plain = record {
    good = without_pool_is_good base found.pool content plain.good found.there found.unused_is;
    slots = without_pool_slots base found.pool content plain.good found.there plain.slots;
    records_few = plain.records_few;
  }
