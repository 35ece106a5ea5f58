-- add_pool by its cases.
use Rattle.std.proofs.Common.{◌≡◌, ℕ, ◌<◌, ◌≤◌, true, false, length, refl, sym, subst, ◌&&◌, inl, inr, Result}
use Rattle.std.specs.Prelude.{nat_le, Ok, Err}
use Rattle.std.specs.List.{list_all}
use Rattle.std.proofs.lemmas.Bool.{cases_Bool, lt-leb, leb-true, leb-false}
use Rattle.tlsf_heap.specs.declared.refusal.Refusal.{Refusal}
use Rattle.tlsf_heap.specs.declared.refusal.Refusal.TheVariants.{TableFull, BadPool, PoolsFull}
use Rattle.tlsf_heap.specs.Content.{Content, used_records}
use Rattle.tlsf_heap.specs.Pools.{can_be_pool, is_apart, add_pool, with_pool, most_pools}

module _ {A : Type 0} (base bytes : ℕ) (content : Content A) where
  pub pool_is_added : (can_be_pool base bytes && list_all (is_apart base bytes) content.pools) ≡ true → length content.pools < most_pools → nat_le content.records (used_records content) ≡ false
      → add_pool base bytes content ≡ Ok (with_pool base bytes content)
  pool_is_added can few h = rw (can, lt-leb most_pools (length content.pools) few, h) refl

  -- what was served could be
  pub record IsAdded (new : Content A) : Type 0 where
    pub can : (can_be_pool base bytes && list_all (is_apart base bytes) content.pools) ≡ true
    pub few : length content.pools < most_pools
    pub room : used_records content < content.records
    pub is : with_pool base bytes content ≡ new

  -- each of its answers
  pub pool_cases : (P : Result (Content A) Refusal → Type 0) → P (Err BadPool) → P (Err PoolsFull) → (content.records ≤ used_records content → P (Err TableFull))
      → ((can_be_pool base bytes && list_all (is_apart base bytes) content.pools) ≡ true → length content.pools < most_pools → used_records content < content.records → P (Ok (with_pool base bytes content)))
      → P (add_pool base bytes content)
  pool_cases P bad many full added = elim (cases_Bool (can_be_pool base bytes && list_all (is_apart base bytes) content.pools)) [
    | inr cannot ↦ let is : add_pool base bytes content ≡ Err BadPool = rw cannot refl in subst P (sym is) bad
    | inl can ↦ elim (cases_Bool (nat_le most_pools (length content.pools))) [
      | inl all ↦ let is : add_pool base bytes content ≡ Err PoolsFull = rw (can, all) refl in subst P (sym is) many
      | inr few ↦ elim (cases_Bool (nat_le content.records (used_records content))) [
        | inl none_left ↦ let is : add_pool base bytes content ≡ Err TableFull = rw (can, few, none_left) refl in subst P (sym is) (full (leb-true _ _ none_left))
        | inr room ↦ let is : add_pool base bytes content ≡ Ok (with_pool base bytes content) = rw (can, few, room) refl in subst P (sym is) (added can (leb-false _ _ few) (leb-false _ _ room))
      ]
    ]
  ]

  pub pool_added : (new : Content A) → add_pool base bytes content ≡ Ok new → IsAdded new
  pool_added new =
      pool_cases (λ r. r ≡ Ok new → IsAdded new) (λ e. absurd (cc)) (λ e. absurd (cc)) (λ full e. absurd (cc)) (λ can few room e. record { can = can; few = few; room = room; is = cc })
