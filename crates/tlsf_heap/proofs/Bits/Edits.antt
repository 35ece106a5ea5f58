-- Bits set and cleared in the bitmaps.
use Rattle.std.proofs.Common.{◌≡◌, ◌≢◌, ℕ, ◌-◌, min, w32, ◌/◌, ◌%◌, ◌^◌, ◌<◌, cond, eqb, List, length, set, get_or, sym, ap, ◌∙◌, subst, arith, Option, Some, None, inl, inr}
use Rattle.std.specs.Int.{bit_at, bit_not}
use Rattle.std.proofs.Math.Pow.{pow-lt}
use Rattle.std.proofs.lemmas.Bool.{cases_Bool, eqb-true, cases_eq, ne_eqb}
use Rattle.std.proofs.lemmas.List.{get_or-set_same, get_or-set_other}
use Rattle.std.proofs.lemmas.Nat.Bits.{bit_at_or, bit_at-pow_same, bit_at-pow_other, bit_at-lt, bit_at-zero, bit_at_and, bit_at_not}
use Rattle.tlsf_class.specs.Classes.{steps, levels, classes}
use Rattle.tlsf_store.specs.Cells.{head_at}
use Rattle.tlsf_heap.specs.Inner.Edits.{with_bit, without_bit}
use Rattle.tlsf_heap.specs.Images.Bitmaps.{head_bit, word_bit, AreBitmapsOf}

bit_set_same : (word bit : ℕ) → bit_at (with_bit word bit) bit ≡ 1
bit_set_same word bit = bit_at_or word (2 ^ bit) bit ∙ omega (arith, bit_at-pow_same bit, bit_at-lt word bit)

bit_set_other : (word bit other : ℕ) → other ≢ bit → bit_at (with_bit word bit) other ≡ bit_at word other
bit_set_other word bit other apart = bit_at_or word (2 ^ bit) other ∙ omega (arith, bit_at-pow_other bit other apart)

word_bit-some : (word bit : ℕ) → bit_at word bit ≡ 1 → word_bit word ≡ 1
word_bit-some word bit is =
    let some : word ≢ 0 = λ e. omega (arith, sym is ∙ ap (λ w. bit_at w bit) e ∙ bit_at-zero bit) in
    ap (λ b. cond b 0 1) (ne_eqb word 0 some)

clears : (word bit other : ℕ) → bit < 32 → other < 32 → bit_at (without_bit word bit) other ≡ min (bit_at word other) (1 - bit_at (2 ^ bit) other)
clears word bit other bit_within within =
    bit_at_and word (bit_not w32 (2 ^ bit)) other ∙ ap (min (bit_at word other)) (bit_at_not w32 (2 ^ bit) other (pow-lt {i = bit} {j = 32} bit_within) within)

bit_clear_same : (word bit : ℕ) → bit < 32 → bit_at (without_bit word bit) bit ≡ 0
bit_clear_same word bit within = clears word bit bit within within ∙ omega (arith, bit_at-pow_same bit)

bit_clear_other : (word bit other : ℕ) → bit < 32 → other < 32 → other ≢ bit → bit_at (without_bit word bit) other ≡ bit_at word other
bit_clear_other word bit other bit_within within apart = clears word bit other bit_within within ∙ omega (arith, bit_at-pow_other bit other apart, bit_at-lt word other)

module _ (heads : List (Option ℕ)) (words : List ℕ) (level_word class : ℕ) (heads_count : length heads ≡ classes) (words_count : length words ≡ levels) (within : class < classes)
    (were : AreBitmapsOf heads words level_word) where
  level_within : class / steps < length words
  level_within = omega (arith, within, words_count)

  -- the bits of the classes where one's bit is written, and its head
  class_written : (first : Option ℕ) (new : ℕ) → bit_at new (class % steps) ≡ head_bit first → ((other : ℕ) → other < steps → other ≢ class % steps → bit_at new other ≡ bit_at (get_or words (class / steps) 0) other)
      → (k : ℕ) → k < classes → bit_at (get_or (set words (class / steps) new) (k / steps) 0) (k % steps) ≡ head_bit (head_at (set heads class first) k)
  class_written first new here others k k_within = elim (cases_eq k class) [
    | inl same ↦
        let P : ℕ → Type 0 = λ n. bit_at (get_or (set words (class / steps) new) (n / steps) 0) (n % steps) ≡ head_bit (head_at (set heads class first) n) in
        subst P (sym same) (
        ap (λ w. bit_at w (class % steps)) (get_or-set_same words (class / steps) new 0 level_within) ∙ here
        ∙ sym (ap head_bit (get_or-set_same heads class first None (omega (arith, within, heads_count)))))
    | inr apart ↦
        let head_same : head_bit (head_at (set heads class first) k) ≡ head_bit (head_at heads k) = ap head_bit (get_or-set_other heads class k first None apart) in
        elim (cases_eq (k / steps) (class / steps)) [
          | inl together ↦
              ap (λ n. bit_at (get_or (set words (class / steps) new) n 0) (k % steps)) together
              ∙ ap (λ w. bit_at w (k % steps)) (get_or-set_same words (class / steps) new 0 level_within)
              ∙ others (k % steps) (omega arith) (λ e. apart (omega (arith, e, together)))
              ∙ ap (λ n. bit_at (get_or words n 0) (k % steps)) (sym together)
              ∙ were.by_class k k_within ∙ sym head_same
          | inr elsewhere ↦
              ap (λ w. bit_at w (k % steps)) (get_or-set_other words (class / steps) (k / steps) new 0 elsewhere) ∙ were.by_class k k_within ∙ sym head_same
        ]
  ]

  -- the class's bit is set as it gets a first block
  pub bits_set : (slot : ℕ) → AreBitmapsOf (set heads class (Some slot)) (set words (class / steps) (with_bit (get_or words (class / steps) 0) (class % steps))) (with_bit level_word (class / steps))
  bits_set slot =
      let new : ℕ = with_bit (get_or words (class / steps) 0) (class % steps) in
      record {
        by_class = class_written (Some slot) new (bit_set_same (get_or words (class / steps) 0) (class % steps)) (λ other below. bit_set_other (get_or words (class / steps) 0) (class % steps) other);
        by_level = λ l l_within. elim (cases_eq l (class / steps)) [
          | inl same ↦
              let P : ℕ → Type 0 = λ n. bit_at (with_bit level_word (class / steps)) n ≡ word_bit (get_or (set words (class / steps) new) n 0) in
              subst P (sym same) (
              bit_set_same level_word (class / steps)
              ∙ sym (ap word_bit (get_or-set_same words (class / steps) new 0 level_within) ∙ word_bit-some new (class % steps) (bit_set_same (get_or words (class / steps) 0) (class % steps))))
          | inr apart ↦
              bit_set_other level_word (class / steps) l apart ∙ were.by_level l l_within ∙ sym (ap word_bit (get_or-set_other words (class / steps) l new 0 apart))
        ];
      }

  -- another first block leaves the bits
  pub bits_kept : (slot : ℕ) → head_bit (head_at heads class) ≡ 1 → AreBitmapsOf (set heads class (Some slot)) words level_word
  bits_kept slot some = record {
    by_class = λ k k_within. elim (cases_eq k class) [
      | inl same ↦
          let P : ℕ → Type 0 = λ n. bit_at (get_or words (n / steps) 0) (n % steps) ≡ head_bit (head_at (set heads class (Some slot)) n) in
          subst P (sym same) (were.by_class class within ∙ some ∙ sym (ap head_bit (get_or-set_same heads class (Some slot) None (omega (arith, within, heads_count)))))
      | inr apart ↦ were.by_class k k_within ∙ sym (ap head_bit (get_or-set_other heads class k (Some slot) None apart))
    ];
    by_level = were.by_level;
  }

  -- the class's bit is cleared as its list has no block left, and its first level's where no other class has one
  pub bits_cleared : head_bit (head_at heads class) ≡ 1
      → AreBitmapsOf (set heads class None) (set words (class / steps) (without_bit (get_or words (class / steps) 0) (class % steps)))
      (cond (eqb (without_bit (get_or words (class / steps) 0) (class % steps)) 0) (without_bit level_word (class / steps)) level_word)
  bits_cleared some =
      let level_below : class / steps < 32 = omega (arith, within) in
      let step_below : class % steps < 32 = omega arith in
      let old : ℕ = get_or words (class / steps) 0 in
      let new : ℕ = without_bit (get_or words (class / steps) 0) (class % steps) in
      let bit_was : bit_at old (class % steps) ≡ 1 = were.by_class class within ∙ some in
      record {
        by_class = class_written None new (bit_clear_same old (class % steps) step_below) (λ other below. bit_clear_other old (class % steps) other step_below (omega (arith, below)));
        by_level = λ l l_within. elim (cases_Bool (eqb new 0)) [
          | inl empty ↦
              let level_is : cond (eqb new 0) (without_bit level_word (class / steps)) level_word ≡ without_bit level_word (class / steps) = ap (λ b. cond b (without_bit level_word (class / steps)) level_word) empty in
              ap (λ w. bit_at w l) level_is ∙ (elim (cases_eq l (class / steps)) [
                | inl same ↦
                    let P : ℕ → Type 0 = λ n. bit_at (without_bit level_word (class / steps)) n ≡ word_bit (get_or (set words (class / steps) new) n 0) in
                    subst P (sym same) (bit_clear_same level_word (class / steps) level_below ∙ sym (ap word_bit (get_or-set_same words (class / steps) new 0 level_within ∙ eqb-true new 0 empty)))
                | inr apart ↦
                    bit_clear_other level_word (class / steps) l level_below (omega (arith, l_within)) apart ∙ were.by_level l l_within ∙ sym (ap word_bit (get_or-set_other words (class / steps) l new 0 apart))
              ])
          | inr some_left ↦
              let level_is : cond (eqb new 0) (without_bit level_word (class / steps)) level_word ≡ level_word = ap (λ b. cond b (without_bit level_word (class / steps)) level_word) some_left in
              ap (λ w. bit_at w l) level_is ∙ were.by_level l l_within ∙ (elim (cases_eq l (class / steps)) [
                | inl same ↦
                    let P : ℕ → Type 0 = λ n. word_bit (get_or words n 0) ≡ word_bit (get_or (set words (class / steps) new) n 0) in
                    subst P (sym same) (word_bit-some old (class % steps) bit_was ∙ sym (ap word_bit (get_or-set_same words (class / steps) new 0 level_within) ∙ ap (λ b. cond b 0 1) some_left))
                | inr apart ↦ sym (ap word_bit (get_or-set_other words (class / steps) l new 0 apart))
              ])
        ];
      }
