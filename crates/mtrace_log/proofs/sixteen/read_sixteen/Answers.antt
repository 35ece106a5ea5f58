use Rattle.std.proofs.Common.{◌≡◌, ℕ, List, length, map, ◌+◌, ◌-◌, ◌%◌, ◌^◌, bit_and, replicate, ◌∙◌, ◌<◌, ◌≤◌, ap, subst, sym, arith}
use Rattle.std.specs.Simd.Lanes.{Each1, chunk, zip2}
use Rattle.std.proofs.lemmas.List.{length-map, length-take-le}
use Rattle.std.proofs.lemmas.Simd.{zip2_splat, map-map}
use Rattle.mtrace_log.specs.Sixteen.{offset, lane_digit, value}
use Rattle.mtrace_log.proofs.SixteenLemmas.{zip2-own, digits-below, sixteen-most, sixteen-digits, sixteen-ended}
use Rattle.mtrace_log.proofs.sixteen.read_sixteen.Goals as goal

abbrev less : ℕ → ℕ → ℕ
less a b = (a + (2 ^ 8 - b)) % 2 ^ 8

-- the digits of the lanes
digits_are : (bytes offsets : List ℕ) → 16 ≤ length bytes → let lanes = chunk 0 16 bytes in offsets ≡ map (offset 57) lanes → zip2 bit_and (zip2 less lanes offsets) (replicate 16 15) ≡ map lane_digit lanes
digits_are bytes offsets room are =
    let lanes = chunk 0 16 bytes in
    let low : ℕ → ℕ = λ byte. less byte (offset 57 byte) in
    ap (λ offsets. zip2 bit_and (zip2 less lanes offsets) (replicate 16 15)) are
    ∙ ap (λ lanes. zip2 bit_and lanes (replicate 16 15)) (zip2-own less (offset 57) lanes)
    ∙ zip2_splat bit_and _ 16 15 (length-map lanes low ∙ length-take-le 16 bytes room)
    ∙ map-map (λ n. bit_and n 15) low lanes

pub count_digits-count-requires : goal.count_digits-count-requires
count_digits-count-requires c = digits_are c.args.bytes.now c.offsets.result c.requires.room c.offsets.ensures

pub packed-requires : goal.packed-requires
packed-requires c = subst (Each1 (λ digit. digit < 16)) (sym (digits_are c.args.bytes.now c.offsets.result c.requires.room c.offsets.ensures)) (digits-below (chunk 0 16 c.args.bytes.now))

pub overflow_mul-result : goal.overflow_mul-result
overflow_mul-result c = record { fits = omega (arith, sixteen-most c.args.bytes.now c.requires.room c.count_digits-count.result c.count_digits-count.ensures) }

pub overflow_sub-result : goal.overflow_sub-result
overflow_sub-result c = omega (arith, sixteen-most c.args.bytes.now c.requires.room c.count_digits-count.result c.count_digits-count.ensures)

pub returns : goal.returns
returns c =
    let bytes = c.args.bytes.now in
    let count = c.count_digits-count.result in
    let counted = c.count_digits-count.ensures in
    let most = sixteen-most bytes c.requires.room count counted in
    record {
      within = omega (arith, most, c.requires.room);
      most = most;
      digits = sixteen-digits bytes c.requires.room count counted c.requires.first c.packed.result (c.packed.ensures ∙ ap (λ digits. value digits 16) (digits_are c.args.bytes.now c.offsets.result c.requires.room c.offsets.ensures));
      ended = sixteen-ended bytes c.requires.room count counted;
    }
