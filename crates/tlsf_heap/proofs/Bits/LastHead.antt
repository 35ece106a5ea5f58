-- The highest bits of the bitmaps find the last head that isn't none.
use Rattle.std.proofs.Common.{◌≡◌, ◌≢◌, ℕ, suc, ◌+◌, ◌*◌, ◌/◌, ◌%◌, ◌^◌, ◌<◌, ◌≤◌, List, length, get_or, refl, ap, ◌∙◌, arith, Option, None, inl, inr, pow_pos}
use Rattle.std.specs.Int.{bit_at}
use Rattle.std.proofs.lemmas.Bool.{cases_eq}
use Rattle.std.proofs.lemmas.Nat.{le-div, div_below}
use Rattle.std.proofs.lemmas.Nat.Bits.{bit_at_above}
use Rattle.std.proofs.Math.Nat.{pow-suc}
use Rattle.tlsf_class.specs.Classes.{steps, levels, classes}
use Rattle.tlsf_store.specs.Cells.{head_at}
use Rattle.tlsf_heap.specs.Images.Bitmaps.{head_bit, word_bit, AreBitmapsOf}
use Rattle.tlsf_heap.proofs.Bits.Search.{no_bit_no_head, no_head_of_level, no_level_no_word}

-- the highest bit is set
pub highest_set : (word bit : ℕ) → 2 ^ bit ≤ word → word < 2 * 2 ^ bit → bit_at word bit ≡ 1
highest_set word bit least below =
    let one : 1 ≤ word / 2 ^ bit = le-div 1 word (2 ^ bit) (pow_pos bit) (omega (arith, least)) in
    let few : word / 2 ^ bit < 2 = div_below word (2 ^ bit) 2 (pow_pos bit) below in
    omega (arith, one, few)

-- and none above it
none_higher : (word bit higher : ℕ) → word < 2 * 2 ^ bit → bit < higher → bit_at word higher ≡ 0
none_higher word bit higher below above = bit_at_above word (suc bit) higher (omega (arith, below, pow-suc 2 bit)) (omega (arith, above))

no_head_no_bit : (head : Option ℕ) → head ≡ None → head_bit head ≡ 0
no_head_no_bit head is = ap head_bit is

module _ (heads : List (Option ℕ)) (words : List ℕ) (level_word : ℕ) (bitmaps : AreBitmapsOf heads words level_word) (count : length heads ≡ classes) where
  -- the class of a bit that is set has a head
  pub bit_has_head : (level step : ℕ) → level < levels → step < steps → bit_at (get_or words level 0) step ≡ 1 → head_at heads (level * steps + step) ≢ None
  bit_has_head level step level_within within set none =
      let class : ℕ = level * steps + step in
      let of_level : class / steps ≡ level = omega (arith, within) in
      let of_step : class % steps ≡ step = omega (arith, within) in
      let is = bitmaps.by_class class (omega (arith, level_within, within)) in
      omega (
        arith,
        set,
        is,
        ap (λ l. bit_at (get_or words l 0) (class % steps)) of_level,
        ap (bit_at (get_or words level 0)) of_step,
        no_head_no_bit (head_at heads class) none,
      )

  -- no class above the highest bit of the highest level has one
  pub none_behind_last : (level step : ℕ) → level_word < 2 * 2 ^ level → get_or words level 0 < 2 * 2 ^ step → (later : ℕ) → level * steps + step < later → later < classes → head_at heads later ≡ None
  none_behind_last level step level_below below later above within = elim (cases_eq (later / steps) level) [
    | inl of ↦
        no_bit_no_head heads words level_word bitmaps count later within (ap (λ l. bit_at (get_or words l 0) (later % steps)) of ∙ none_higher (get_or words level 0) step (later % steps) below (omega (arith, above, of)))
    | inr other ↦
        let higher : level < later / steps = omega (arith, above, other) in
        let level_within : later / steps < levels = omega (arith, within) in
        no_head_of_level heads words level_word bitmaps count (later / steps) later within refl (no_level_no_word heads words level_word bitmaps count (later / steps) level_within (none_higher level_word level (later / steps) level_below higher))
  ]

  -- the word of a level whose bit is set isn't 0
  pub word_not_zero : (level : ℕ) → level < levels → bit_at level_word level ≡ 1 → get_or words level 0 ≢ 0
  word_not_zero level within set none = omega (arith, set, bitmaps.by_level level within, ap word_bit none)
