-- Addresses that are multiples of an alignment where places are: told by their lowest bits, and kept by blocks.
use Rattle.std.proofs.Common.{◌≡◌, ◌≢◌, ℕ, zero, suc, ◌+◌, ◌-◌, ◌%◌, ◌^◌, ◌<◌, ◌≤◌, List, All, slice_index_or, true, false, Option, Err, refl, sym, ap, ◌∙◌, subst, arith, bit_and}
use Rattle.std.specs.Prelude.{◌==◌}
use Rattle.std.specs.List.{range_with_len}
use Rattle.std.proofs.lemmas.Bool.{eqb-true, ne_eqb}
use Rattle.std.proofs.lemmas.List.Folds.{Any-from_list_any}
use Rattle.std.proofs.lemmas.Nat.{and_mask}
use Rattle.std.proofs.Math.Nat.{mod-add-mod, mod-one}
use Rattle.std.proofs.Math.Pow.{pow_mono}
use Rattle.tlsf_class.specs.Rounding.{round}
use Rattle.tlsf_class.proofs.RoundingLaws.{round_above}
use Rattle.tlsf_heap.specs.declared.refusal.Refusal.TheVariants.{ZeroSize, NoFit, BadAlign}
use Rattle.tlsf_heap.specs.Content.{Content}
use Rattle.tlsf_heap.specs.Memalign.{alignments, is_alignment, memalign_rounded, memalign}
use Rattle.tlsf_c.specs.declared.placed_pool.PlacedPool.{PlacedPool}
use Rattle.tlsf_c.specs.Fronts.{front}
use Rattle.tlsf_c.specs.PlacedPools.{IsPlaced, IsAlike, IsAt}
use Rattle.tlsf_c.specs.PlacedHeaps.{memalign_with_front}

-- an alignment is a power of two
power_of : (align : ℕ) → is_alignment align ≡ true → (k : ℕ) × (2 ^ k ≡ align)
power_of align is =
    let at = Any-from_list_any (λ power. 2 ^ power == align) (range_with_len 0 alignments) is in
    (at.1, eqb-true (2 ^ at.1) align at.4)

-- what the lowest bits are is what is left
low_bits : (align n : ℕ) → is_alignment align ≡ true → bit_and n (align - 1) ≡ n % align
low_bits align n is =
    let power = power_of align is in
    subst (λ (a : ℕ). bit_and n (a - 1) ≡ n % a) power.1 (and_mask n power.0)

pub same_bits : (align first place : ℕ) → is_alignment align ≡ true → bit_and first (align - 1) ≡ bit_and place (align - 1) → first % align ≡ place % align
same_bits align first place is same = sym (low_bits align first is) ∙ same ∙ low_bits align place is

pub same_left : (align first place : ℕ) → is_alignment align ≡ true → first % align ≡ place % align → bit_and first (align - 1) ≡ bit_and place (align - 1)
same_left align first place is same = low_bits align first is ∙ same ∙ sym (low_bits align place is)

-- as far behind both
pub same_behind : (align first base more : ℕ) → first % align ≡ base % align → (first + more) % align ≡ (base + more) % align
same_behind align first base more same = sym (mod-add-mod first align more) ∙ ap (λ (n : ℕ). (n + more) % align) same ∙ mod-add-mod base align more

-- no byte is refused, and neither is an alignment that is none, nor more bytes than a block can have
pub aligns_bad : (align slot bytes : ℕ) (content : Content ℕ) → is_alignment align ≡ false → memalign_with_front align slot bytes content ≡ Err BadAlign
aligns_bad align slot bytes content bad = rw bad refl

pub aligns_none : (align slot bytes : ℕ) (content : Content ℕ) → is_alignment align ≡ true → bytes ≡ 0 → memalign_with_front align slot bytes content ≡ Err ZeroSize
aligns_none align slot bytes content is none = ap (λ (n : ℕ). memalign_with_front align slot n content) none ∙ rw is refl

-- else it is memalign with the front
pub aligned_with_front : (align slot bytes : ℕ) (content : Content ℕ) → bytes ≢ 0 → memalign_with_front align slot bytes content ≡ memalign slot align (bytes + front) content
aligned_with_front align slot bytes content some = rw (ne_eqb bytes 0 some) refl

pub aligns_above : (align slot bytes : ℕ) (content : Content ℕ) → is_alignment align ≡ true → 1073741800 < bytes → memalign_with_front align slot bytes content ≡ Err NoFit
aligns_above align slot bytes content is above =
    let some : bytes ≢ 0 = λ e. omega (arith, above, e) in
    let more : (bytes + front == 0) ≡ false = ne_eqb (bytes + front) 0 (λ e. omega (arith, e)) in
    let asked : memalign slot align (bytes + front) content ≡ memalign_rounded slot align (round (bytes + front)) content = rw (is, more) refl in
    aligned_with_front align slot bytes content some ∙ asked ∙ ap (λ (r : Option ℕ). memalign_rounded slot align r content) (round_above (bytes + front) (omega (arith, above)))

-- a multiple of the unit is one of each lower power of two
divides_unit : (power : ℕ) → 2 ^ power ≤ 16 → (n : ℕ) → n % 16 ≡ 0 → n % (2 ^ power) ≡ 0
divides_unit zero few n whole = mod-one n
divides_unit (suc zero) few n whole = omega (arith, whole)
divides_unit (suc (suc zero)) few n whole = omega (arith, whole)
divides_unit (suc (suc (suc zero))) few n whole = omega (arith, whole)
divides_unit (suc (suc (suc (suc zero)))) few n whole = whole
divides_unit (suc (suc (suc (suc (suc power))))) few n whole =
    let five : 5 ≤ suc (suc (suc (suc (suc power)))) = omega arith in
    let more : 2 ^ 5 ≤ 2 ^ suc (suc (suc (suc (suc power)))) = pow_mono five in
    absurd (omega (arith, few, more))

-- so addresses and places of pools are alike for an alignment of at most the unit
pub alike_in_units : (align : ℕ) → is_alignment align ≡ true → align ≤ 16 → (pools : List PlacedPool) → All IsPlaced pools → All (IsAlike align) pools
alike_in_units align is few pools placed = λ k d within.
    let power = power_of align is in
    let pool = slice_index_or pools k d in
    let divides = divides_unit power.0 (subst (λ (a : ℕ). a ≤ 16) (sym power.1) few) in
    λ some. subst (λ (a : ℕ). pool.first % a ≡ pool.place % a) power.1 (divides pool.first (placed k d within).first_in_units ∙ sym (divides pool.place (placed k d within).place_in_units))

-- a block at a multiple of the alignment has such an address
pub address_aligned : (align place address : ℕ) (pool : PlacedPool) → IsAlike align pool → IsAt pool place address → place % align ≡ 0 → address % align ≡ 0
address_aligned align place address pool alike at multiple =
    let more : ℕ = place - pool.place in
    let reaches : pool.place + more ≡ place = omega (arith, at.has.0) in
    ap (λ (n : ℕ). n % align) at.address_is ∙ same_behind align pool.first pool.place more (alike (omega (arith, at.has.0, at.has.1))) ∙ ap (λ (n : ℕ). n % align) reaches ∙ multiple
