-- Where no place behind a pool has room, none has.
use Rattle.std.proofs.Common.{◌≡◌, ℕ, zero, suc, ◌+◌, ◌-◌, ◌*◌, ◌/◌, ◌%◌, ◌<◌, ◌≤◌, List, slice_index_or, sym, ap, ◌∙◌, subst, arith, inl, inr}
use Rattle.std.specs.List.{All}
use Rattle.std.proofs.lemmas.Bool.{cases_lt, cases_order}
use Rattle.std.proofs.Math.Nat.{div-add-mod, add-mod_left, mul-suc, mul-le-mul_left}
use Rattle.tlsf_c.specs.Fronts.{front}
use Rattle.tlsf_c.specs.declared.placed_pool.PlacedPool.{PlacedPool}
use Rattle.tlsf_c.specs.PoolPlaces.{IsLike, HasRoom, IsNextLike, IsFullBehind}

-- multiples of a number are that far apart
apart : (align a b : ℕ) → a < b → align * a + align ≤ align * b
apart align a b below = omega (arith, mul-le-mul_left align below, mul-suc align a)

-- there is one such place
pub one_place : (align address from a b : ℕ) → IsNextLike align address from a → IsNextLike align address from b → a ≡ b
one_place align address from a b at other =
    let same : a % align ≡ b % align = sym at.like ∙ other.like in
    elim (cases_order (a / align) (b / align)) [
      | inl is ↦ omega (arith, ap (λ (q : ℕ). align * q) is, div-add-mod a align, div-add-mod b align, same)
      | inr rest ↦ elim rest [
        | inl below ↦ absurd (omega (arith, apart align (a / align) (b / align) below, div-add-mod a align, div-add-mod b align, same, at.behind, other.near))
        | inr above ↦ absurd (omega (arith, apart align (b / align) (a / align) above, div-add-mod a align, div-add-mod b align, same, other.behind, at.near))
      ]
    ]

pub none_left : (align address bytes : ℕ) (pools : List PlacedPool) → 0 < align
    → ((place : ℕ) → IsNextLike align address 0 place → HasRoom place bytes pools → ⊥)
    → All (IsFullBehind align address bytes pools) pools
    → (place : ℕ) → IsLike align address place → HasRoom place bytes pools → ⊥
none_left align address bytes pools some first behind place like room = fuel (suc place) place (omega arith) like room
  where
    fuel : (n place : ℕ) → place < n → IsLike align address place → HasRoom place bytes pools → ⊥
    fuel zero place below like room = omega (arith, below)
    fuel (suc n) place below like room = elim (cases_lt place align) [
      | inl low ↦ first place (record { behind = omega arith; near = omega (arith, low); like = like }) room
      | inr high ↦
          let lower : ℕ = place - align in
          let is : align + lower ≡ place = omega (arith, high) in
          let like_lower : IsLike align address lower = like ∙ sym (ap (λ (m : ℕ). m % align) is) ∙ add-mod_left align lower in
          fuel n lower (omega (arith, below, some, is)) like_lower (record {
            ends = omega (arith, room.ends, is);
            beside = λ i d h present. elim (room.beside i d h present) [
              | inl before ↦ inl (omega (arith, before, is))
              | inr after ↦ elim (cases_lt lower ((slice_index_or pools i d).place + (slice_index_or pools i d).reach + front)) [
                | inl within ↦ absurd (behind i d h present place (record { behind = after; near = omega (arith, within, is); like = like }) room)
                | inr clear ↦ inr clear
              ]
            ];
          })
    ]

-- no pool fits behind this one, where it doesn't at the first such place
pub full_behind : (align address bytes at : ℕ) (pools : List PlacedPool) (pool : PlacedPool) → (0 < pool.reach → IsNextLike align address (pool.place + pool.reach + front) at) → (0 < pool.reach → HasRoom at bytes pools → ⊥) → IsFullBehind align address bytes pools pool
full_behind align address bytes at pools pool next none present place other room =
    none present (subst (λ (n : ℕ). HasRoom n bytes pools) (one_place align address (pool.place + pool.reach + front) place at other (next present)) room)
