-- The search by bitmaps finds the first head that isn't none.
use Rattle.std.proofs.Common.{◌≡◌, ◌≢◌, ℕ, zero, suc, ◌+◌, ◌-◌, ◌*◌, ◌/◌, ◌%◌, ◌^◌, ◌<◌, ◌≤◌, cond, List, ◌∷◌, length, get_or, drop, refl, sym, ap, ◌∙◌, arith, Option, Some, None, inl, inr, w32}
use Rattle.std.specs.Int.{bit_at, trailing_zeros}
use Rattle.std.proofs.lemmas.Bool.{cases_eq, cases_lt, ne_eqb}
use Rattle.std.proofs.lemmas.List.{drop_more, drop_all}
use Rattle.std.proofs.lemmas.Nat.{shr-shr, shr_le}
use Rattle.std.proofs.lemmas.Nat.Bits.{bit_at-zero, bit_at-trailing_zeros, bit_at_above, same_from_bits_below}
use Rattle.tlsf_class.specs.Classes.{steps, levels, classes}
use Rattle.tlsf_store.specs.Cells.{head_at}
use Rattle.tlsf_heap.specs.Images.Bitmaps.{head_bit, word_bit, AreBitmapsOf, HasNoBit, IsLowestFrom, first_head}

-- the bits from a place on are those of the number shifted
shifted : (word from bit : ℕ) → from ≤ bit → bit_at word bit ≡ bit_at (word / 2 ^ from) (bit - from)
shifted word from bit above =
    let same : bit ≡ from + (bit - from) = omega (arith, above) in
    ap (bit_at word) same ∙ sym (ap (λ n. n % 2) (shr-shr word from (bit - from)))

pub none_above : (word from : ℕ) → word / 2 ^ from ≡ 0 → HasNoBit word from 32
none_above word from none = λ bit above below. shifted word from bit above ∙ ap (λ n. bit_at n (bit - from)) none ∙ bit_at-zero (bit - from)

pub lowest_above : (word from : ℕ) → word < 2 ^ 32 → word / 2 ^ from ≢ 0 → IsLowestFrom word from (from + trailing_zeros w32 (word / 2 ^ from))
lowest_above word from fits some =
    let rest : ℕ = word / 2 ^ from in
    let place : ℕ = trailing_zeros w32 rest in
    let lowest = bit_at-trailing_zeros w32 rest (omega (arith, some)) (omega (arith, fits, shr_le word from)) in
    let set : bit_at word (from + place) ≡ 1 = shifted word from (from + place) (omega arith) ∙ ap (bit_at rest) (let e : (from + place) - from ≡ place = omega arith in e) ∙ lowest.1 in (
      omega arith,
      (elim (cases_lt (from + place) 32) [
        | inl below ↦ below
        | inr above ↦ absurd (omega (arith, set, bit_at_above word 32 (from + place) fits above))
      ]),
      set,
      λ bit above below. shifted word from bit above ∙ lowest.2 (bit - from) (omega (arith, above, below)),
    )

-- a word of 32 bits with none set is 0
pub no_bit_is_zero : (word : ℕ) → word < 2 ^ 32 → HasNoBit word 0 32 → word ≡ 0
no_bit_is_zero word fits none = same_from_bits_below 32 word 0 fits (omega arith) (λ bit below. none bit (omega arith) below ∙ sym (bit_at-zero bit))

no_head : (head : Option ℕ) → head_bit head ≡ 0 → head ≡ None
no_head None is = refl
no_head (Some slot) is = absurd (omega (arith, is))

-- heads that are none are passed
pub first_head_passes : (heads : List (Option ℕ)) (from n : ℕ) → from + n ≤ length heads → ((k : ℕ) → from ≤ k → k < from + n → head_at heads k ≡ None) → first_head (drop from heads) ≡ first_head (drop (from + n) heads)
first_head_passes heads from zero within none = ap (λ k. first_head (drop k heads)) (let e : from ≡ from + 0 = omega arith in e)
first_head_passes heads from (suc n) within none =
    let here : drop from heads ≡ head_at heads from ∷ drop (from + 1) heads = drop_more heads from None (omega (arith, within)) in
    let passed : first_head (head_at heads from ∷ drop (from + 1) heads) ≡ first_head (drop (from + 1) heads) = ap (λ head. first_head (head ∷ drop (from + 1) heads)) (none from (omega arith) (omega arith)) in
    ap first_head here ∙ passed
    ∙ first_head_passes heads (from + 1) n (omega (arith, within)) (λ k above below. none k (omega (arith, above)) (omega (arith, below)))
    ∙ ap (λ k. first_head (drop k heads)) (let e : (from + 1) + n ≡ from + suc n = omega arith in e)

first_is : (head : Option ℕ) (heads : List (Option ℕ)) → head_bit head ≡ 1 → first_head (head ∷ heads) ≡ head
first_is None heads is = absurd (omega (arith, is))
first_is (Some slot) heads is = refl

module _ (heads : List (Option ℕ)) (words : List ℕ) (level_word : ℕ) (bitmaps : AreBitmapsOf heads words level_word) (count : length heads ≡ classes) where
  -- no bit, no head
  pub no_bit_no_head : (k : ℕ) → k < classes → bit_at (get_or words (k / steps) 0) (k % steps) ≡ 0 → head_at heads k ≡ None
  no_bit_no_head k within none = no_head (head_at heads k) (sym (bitmaps.by_class k within) ∙ none)

  pub no_head_of_level : (level k : ℕ) → k < classes → k / steps ≡ level → get_or words level 0 ≡ 0 → head_at heads k ≡ None
  no_head_of_level level k within of none =
      no_bit_no_head k within (ap (λ l. bit_at (get_or words l 0) (k % steps)) of ∙ ap (λ w. bit_at w (k % steps)) none ∙ bit_at-zero (k % steps))

  pub no_level_no_word : (level : ℕ) → level < levels → bit_at level_word level ≡ 0 → get_or words level 0 ≡ 0
  no_level_no_word level within none = elim (cases_eq (get_or words level 0) 0) [
    | inl is ↦ is
    | inr some ↦
        let one : word_bit (get_or words level 0) ≡ 1 = ap (λ b. cond b 0 1) (ne_eqb _ 0 some) in
        absurd (omega (arith, one, bitmaps.by_level level within, none))
  ]

  -- the first head at or above a class is that of the lowest bit set
  pub found_is_first : (from class level step : ℕ) → class < classes → class / steps ≡ level → class % steps ≡ step → from ≤ class → ((k : ℕ) → from ≤ k → k < class → head_at heads k ≡ None) → bit_at (get_or words level 0) step ≡ 1
      → head_at heads class ≡ first_head (drop from heads)
  found_is_first from class level step within of_level of_step above none set =
      let is : head_bit (head_at heads class) ≡ 1 =
      sym (bitmaps.by_class class within) ∙ ap (λ l. bit_at (get_or words l 0) (class % steps)) of_level ∙ ap (bit_at (get_or words level 0)) of_step ∙ set in
      let here : drop class heads ≡ head_at heads class ∷ drop (class + 1) heads = drop_more heads class None (omega (arith, within, count)) in
      let reached : from + (class - from) ≡ class = omega (arith, above) in
      sym (first_head_passes heads from (class - from) (omega (arith, above, within, count)) (λ k lower below. none k lower (omega (arith, below, reached)))
      ∙ ap (λ k. first_head (drop k heads)) reached ∙ ap first_head here ∙ first_is (head_at heads class) (drop (class + 1) heads) is)

  -- the lowest bit of the class's own level
  pub found_in_level : (class step : ℕ) → class < classes → IsLowestFrom (get_or words (class / steps) 0) (class % steps) step → head_at heads (class / steps * steps + step) ≡ first_head (drop class heads)
  found_in_level class step within lowest =
      found_is_first class (class / steps * steps + step) (class / steps) step (omega (arith, within, lowest.1)) (omega (arith, lowest.1)) (omega (arith, lowest.1)) (omega (arith, lowest.0))
      (λ k above below.
      let of : k / steps ≡ class / steps = omega (arith, above, below, lowest.1) in
      no_bit_no_head k (omega (arith, below, within, lowest.1)) (ap (λ l. bit_at (get_or words l 0) (k % steps)) of ∙ lowest.3 (k % steps) (omega (arith, above, of)) (omega (arith, below, of))))
      lowest.2

  -- none in the class's own level: it is the first of the levels above
  pub passes_level : (class : ℕ) → class < classes → HasNoBit (get_or words (class / steps) 0) (class % steps) 32 → first_head (drop class heads) ≡ first_head (drop ((class / steps + 1) * steps) heads)
  passes_level class within none =
      let next : class + ((class / steps + 1) * steps - class) ≡ (class / steps + 1) * steps = omega arith in
      first_head_passes heads class ((class / steps + 1) * steps - class) (omega (arith, within, count, next))
      (λ k above below.
      let of : k / steps ≡ class / steps = omega (arith, above, below, next) in
      no_bit_no_head k (omega (arith, below, within, next)) (ap (λ l. bit_at (get_or words l 0) (k % steps)) of ∙ none (k % steps) (omega (arith, above, of)) (omega arith)))
      ∙ ap (λ k. first_head (drop k heads)) next

  -- no level from here on has a head
  pub passes_all : (from : ℕ) → from ≤ levels → HasNoBit level_word from 32 → first_head (drop (from * steps) heads) ≡ None
  passes_all from within none =
      let all : from * steps + (classes - from * steps) ≡ classes = omega (arith, within) in
      first_head_passes heads (from * steps) (classes - from * steps) (omega (arith, all, count))
      (λ k above below.
      let level_within : k / steps < levels = omega (arith, below, all) in
      no_head_of_level (k / steps) k (omega (arith, below, all)) refl (no_level_no_word (k / steps) level_within (none (k / steps) (omega (arith, above)) (omega (arith, level_within)))))
      ∙ ap (λ k. first_head (drop k heads)) all ∙ ap first_head (drop_all classes heads (omega (arith, count)))

  -- the lowest bit of the lowest level
  pub found_above : (from level step : ℕ) → level < levels → IsLowestFrom level_word from level → IsLowestFrom (get_or words level 0) 0 step → head_at heads (level * steps + step) ≡ first_head (drop (from * steps) heads)
  found_above from level step level_within lowest_level lowest =
      found_is_first (from * steps) (level * steps + step) level step (omega (arith, level_within, lowest.1)) (omega (arith, lowest.1)) (omega (arith, lowest.1)) (omega (arith, lowest_level.0))
      (λ k above below. elim (cases_eq (k / steps) level) [
        | inl of ↦
            no_bit_no_head k (omega (arith, below, level_within, lowest.1)) (ap (λ l. bit_at (get_or words l 0) (k % steps)) of ∙ lowest.3 (k % steps) (omega arith) (omega (arith, below, of)))
        | inr other ↦
            let lower : k / steps < level = omega (arith, below, other, lowest.1) in
            no_head_of_level (k / steps) k (omega (arith, below, level_within, lowest.1)) refl (no_level_no_word (k / steps) (omega (arith, lower, level_within)) (lowest_level.3 (k / steps) (omega (arith, above)) lower))
      ])
      lowest.2

  -- a level whose bit is set has a class whose bit is
  pub has_step : (level : ℕ) → level < levels → bit_at level_word level ≡ 1 → get_or words level 0 < 2 ^ 32 → HasNoBit (get_or words level 0) 0 32 → ⊥
  has_step level within set fits none =
      let zero_word : get_or words level 0 ≡ 0 = no_bit_is_zero (get_or words level 0) fits none in
      let no_bit : word_bit (get_or words level 0) ≡ 0 = ap word_bit zero_word in
      omega (arith, set, bitmaps.by_level level within, no_bit)

-- a level found is one of them
pub level_within : (word level : ℕ) → word < 2 ^ levels → bit_at word level ≡ 1 → level < levels
level_within word level below set = elim (cases_lt level levels) [
  | inl within ↦ within
  | inr above ↦ absurd (omega (arith, set, bit_at_above word levels level below above))
]
