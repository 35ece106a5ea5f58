-- The pool entries of an image, one after the other.
use Rattle.std.proofs.Common.{◌≡◌, ℕ, zero, suc, ◌+◌, ◌-◌, ◌<◌, ◌≤◌, Bool, true, false, ◌&&◌, List, [], ◌∷◌, map, Option, Some, None, refl, sym, ap, ◌∙◌, subst, arith, ◌⊎◌, inl, inr}
use Rattle.std.specs.Prelude.{nat_lt, if◌then◌else◌}
use Rattle.std.specs.List.{list_all, range_with_len}
use Rattle.std.proofs.lemmas.Bool.{lt-ltb, le-ltb, and_right}
use Rattle.tlsf_store.specs.declared.pools.Pool.{Pool}
use Rattle.tlsf_store.specs.Cells.{most_pools}
use Rattle.tlsf_heap.specs.Images.Image.{two_at, count_at, pools_at, entry_at, are_zero, pool_in, sections_in}
use Rattle.tlsf_heap.specs.Images.Rules.{is_pool, are_pools, has_pools}
use Rattle.tlsf_heap.specs.Inner.Entries.{entries_of}

module _ (bytes : List ℕ) where
  abbrev entry_if : ℕ → ℕ → Option Pool
  entry_if count number = if nat_lt number count then Some (pool_in bytes number) else None

  -- behind the last pool there is none
  none_behind : (count from left : ℕ) → count ≤ from → entries_of (map (entry_if count) (range_with_len from left)) ≡ []
  none_behind count from zero all = refl
  none_behind count from (suc left) all = rw (le-ltb from count all) (none_behind count (from + 1) left (omega (arith, all)))

  -- the pools from one number on
  those_present : (count some from behind : ℕ) → from + some ≡ count → entries_of (map (entry_if count) (range_with_len from (some + behind))) ≡ map (pool_in bytes) (range_with_len from some)
  those_present count zero from behind all = let bare : 0 + behind ≡ behind = omega arith in rw bare (none_behind count from behind (omega (arith, all)))
  those_present count (suc some) from behind all =
      let more : suc some + behind ≡ suc (some + behind) = omega arith in
      let P : ℕ → Type 0 = λ n. entries_of (map (entry_if count) (range_with_len from n)) ≡ map (pool_in bytes) (range_with_len from (suc some)) in
      subst P (sym more) (rw (lt-ltb from count (omega (arith, all))) (ap (λ pools. pool_in bytes from ∷ pools) (those_present count some (from + 1) behind (omega (arith, all)))))

  -- the pools of an image
  pub pools_present : two_at pools_at bytes ≤ most_pools → entries_of (sections_in bytes).pools ≡ map (pool_in bytes) (range_with_len 0 (two_at pools_at bytes))
  pools_present few =
      let count = two_at pools_at bytes in
      let P : ℕ → Type 0 = λ n. entries_of (map (entry_if count) (range_with_len 0 n)) ≡ map (pool_in bytes) (range_with_len 0 count) in
      let all : count + (most_pools - count) ≡ most_pools = omega (arith, few) in
      let from : 0 + count ≡ count = omega arith in
      subst P all (those_present count count 0 (most_pools - count) from)

  -- the pools from a number up to an end pass `are_pools` from a place on, and their entries end
  -- with zeros
  abbrev pub are_pools_from : ℕ → ℕ → ℕ → Bool
  are_pools_from place number end =
      are_pools (two_at count_at bytes) place (map (pool_in bytes) (range_with_len number (end - number))) && list_all (λ number. are_zero (entry_at number + 10) 2 bytes) (range_with_len number (end - number))

  module _ (place number end : ℕ) where
    abbrev first_is : Bool
    first_is = is_pool (two_at count_at bytes) place (pool_in bytes number)

    abbrev zeros_are : Bool
    zeros_are = are_zero (entry_at number + 10) 2 bytes

    abbrev more_are : Bool
    more_are = are_pools (two_at count_at bytes) ((pool_in bytes number).base + (pool_in bytes number).bytes) (map (pool_in bytes) (range_with_len (number + 1) (end - (number + 1))))

    abbrev more_zeros : Bool
    more_zeros = list_all (λ number. are_zero (entry_at number + 10) 2 bytes) (range_with_len (number + 1) (end - (number + 1)))

    unfolded : number < end → are_pools_from place number end ≡ ((first_is && more_are) && (zeros_are && more_zeros))
    unfolded within =
        let one : suc (end - (number + 1)) ≡ end - number = omega (arith, within) in
        let P : ℕ → Type 0 = λ left. (are_pools (two_at count_at bytes) place (map (pool_in bytes) (range_with_len number left)) && list_all (λ number. are_zero (entry_at number + 10) 2 bytes) (range_with_len number left)) ≡ ((first_is && more_are) && (zeros_are && more_zeros)) in
        subst P one refl

    pub pools_on : number < end → first_is ≡ true → zeros_are ≡ true → are_pools_from place number end ≡ are_pools_from ((pool_in bytes number).base + (pool_in bytes number).bytes) (number + 1) end
    pools_on within is zeros = unfolded within ∙ ap (λ u. (u && more_are) && (zeros_are && more_zeros)) is ∙ ap (λ v. more_are && (v && more_zeros)) zeros

    pub pools_off : number < end → (first_is ≡ false) ⊎ (zeros_are ≡ false) → are_pools_from place number end ≡ false
    pools_off within (inl off) = unfolded within ∙ ap (λ u. (u && more_are) && (zeros_are && more_zeros)) off
    pools_off within (inr off) = unfolded within ∙ ap (λ v. (first_is && more_are) && (v && more_zeros)) off ∙ and_right (first_is && more_are) false refl

    pub pools_end : end ≤ number → are_pools_from place number end ≡ true
    pools_end all =
        let none : 0 ≡ end - number = omega (arith, all) in
        let P : ℕ → Type 0 = λ left. (are_pools (two_at count_at bytes) place (map (pool_in bytes) (range_with_len number left)) && list_all (λ number. are_zero (entry_at number + 10) 2 bytes) (range_with_len number left)) ≡ true in
        subst P none refl

  -- all of them
  pub pools_all : two_at pools_at bytes ≤ most_pools → are_pools_from 0 0 (two_at pools_at bytes) ≡ has_pools bytes
  pools_all few =
      let count = two_at pools_at bytes in
      let same : count - 0 ≡ count = omega arith in
      rw (same, pools_present few) refl
