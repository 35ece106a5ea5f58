-- Worked values of the definitions.
use Rattle.std.proofs.Common.{◌≡◌, ℕ, zero, suc, ◌/◌, ◌%◌, ◌^◌, ◌<◌, [], ◌∷◌, ◌++◌, length, map, replicate, Some, None, codes, refl, sym, ap, ◌∙◌, cond, arith}
use Rattle.std.proofs.Math.Dec.{eqb-suc-zero}
use Rattle.std.specs.Char.{digit_char}
use Rattle.std.specs.Int.Digits.{digits_of, digits_with_fuel}
use Rattle.std.proofs.lemmas.Int.Digits.{digits_of_step}
use Rattle.mtrace_log.specs.Address.{address_text}
use Rattle.mtrace_log.specs.Location.{longest_location}
use Rattle.mtrace_log.specs.Spelling.{spell, longest_line}
use Rattle.mtrace_log.specs.Lines.{lines_of}
use Rattle.mtrace_log.specs.declared.event.Event.TheVariants.{Start, End, Alloc, Free, Old, New, Failed, Aligned}

-- ---- events

spell_start : spell Start ≡ codes "= Start"
spell_start = refl

spell_end : spell End ≡ codes "= End"
spell_end = refl

spell_alloc : spell (Alloc None (Some 0x10) 0x64) ≡ codes "+ 0x10 0x64"
spell_alloc = refl

spell_no_bytes : spell (Alloc None (Some 0x1000) 0) ≡ codes "+ 0x1000 0"
spell_no_bytes = refl

spell_failed_alloc : spell (Alloc None None 0xc8) ≡ codes "+ (nil) 0xc8"
spell_failed_alloc = refl

spell_located : spell (Alloc (Some (codes "./prog:[0x1244]")) (Some 0xabc) 1) ≡ codes "@ ./prog:[0x1244] + 0xabc 0x1"
spell_located = refl

spell_free : spell (Free None 0x10) ≡ codes "- 0x10"
spell_free = refl

spell_located_free : spell (Free (Some (codes "./prog:[0x1250]")) 0xabc) ≡ codes "@ ./prog:[0x1250] - 0xabc"
spell_located_free = refl

spell_old : spell (Old None 0xff) ≡ codes "< 0xff"
spell_old = refl

spell_located_old : spell (Old (Some (codes "a")) 0xff) ≡ codes "@ a < 0xff"
spell_located_old = refl

spell_new : spell (New None 0x20 0x12c) ≡ codes "> 0x20 0x12c"
spell_new = refl

spell_located_new : spell (New (Some (codes "a")) 0x20 0) ≡ codes "@ a > 0x20 0"
spell_located_new = refl

spell_failed : spell (Failed None (Some 0x30) 0xffff) ≡ codes "! 0x30 0xffff"
spell_failed = refl

spell_located_failed : spell (Failed (Some (codes "a")) None 1) ≡ codes "@ a ! (nil) 0x1"
spell_located_failed = refl

spell_aligned : spell (Aligned None 0x20 0x40 0x20) ≡ codes "* 0x20 0x40 0x20"
spell_aligned = refl

spell_located_aligned : spell (Aligned (Some (codes "a")) 0x20 3 0) ≡ codes "@ a * 0x20 0x3 0"
spell_located_aligned = refl

-- ---- the greatest address

-- as many turns as digits are enough
digits-turns : (turns n : ℕ) → n < 16 ^ turns → digits_of 16 n ≡ digits_with_fuel 16 turns n
digits-turns zero zero fits = refl
digits-turns (suc turns) zero fits = refl
digits-turns zero (suc n) fits = absurd (omega arith)
digits-turns (suc turns) (suc n) fits =
    digits_of_step 16 (suc n) (omega arith) (omega arith) ∙ ap (λ front. front ++ (suc n % 16) ∷ []) (digits-turns turns (suc n / 16) (omega arith))
    ∙ sym (ap (λ test. cond test [] (digits_with_fuel 16 turns (suc n / 16) ++ (suc n % 16) ∷ [])) (eqb-suc-zero n))

greatest_address : address_text 0xffff_ffff_ffff_ffff ≡ codes "0xffffffffffffffff"
greatest_address = ap (λ digits. codes "0x" ++ map digit_char digits) (digits-turns 16 0xffff_ffff_ffff_ffff (omega arith))

length_of_longest_line : length (spell (Aligned (Some (replicate longest_location 97)) 0xffff_ffff_ffff_ffff 0xffff_ffff_ffff_ffff 0xffff_ffff_ffff_ffff)) ≡ longest_line
length_of_longest_line =
    ap (λ text. length (codes "@ " ++ (replicate longest_location 97 ++ 32 ∷ []) ++ (codes "* " ++ (text ++ 32 ∷ (text ++ 32 ∷ text))))) greatest_address

-- ---- lines

no_line : lines_of [] ≡ []
no_line = refl

one_empty_line : lines_of (10 ∷ []) ≡ [] ∷ []
one_empty_line = refl

three_lines : lines_of (codes "a" ++ 10 ∷ 10 ∷ codes "bc") ≡ codes "a" ∷ [] ∷ codes "bc" ∷ []
three_lines = refl

three_whole_lines : lines_of (codes "a" ++ 10 ∷ 10 ∷ codes "bc" ++ 10 ∷ []) ≡ codes "a" ∷ [] ∷ codes "bc" ∷ []
three_whole_lines = refl
