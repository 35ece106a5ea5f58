-- Laws of the spellings of events: each is one line, short enough, and a line reads as one answer.
use Rattle.std.proofs.Common.{◌≡◌, ◌≢◌, ℕ, zero, suc, ◌≤◌, List, [], ◌∷◌, length, Option, Some, None, IfSome, Result, Ok, Err, refl, sym, ap, ◌∙◌, subst, arith, length-append}
use Rattle.mtrace_log.specs.Bytes.{Lacks, space, newline}
use Rattle.mtrace_log.specs.Address.{longest_address, address_text, size_text, pointer_text}
use Rattle.mtrace_log.specs.Location.{IsLocation}
use Rattle.mtrace_log.specs.Spelling.{location_text, spell, IsEvent, longest_line}
use Rattle.mtrace_log.specs.Form.{Form, Numbers, numbers_text, fields_text, form_text, form}
use Rattle.mtrace_log.specs.Form.Form.{alone, marked}
use Rattle.mtrace_log.specs.Fields.{IsPointer, IsSize, AreNumbers}
use Rattle.mtrace_log.specs.Reading.{ReadsAs}
use Rattle.mtrace_log.specs.Event.{Event}
use Rattle.mtrace_log.specs.declared.event.LineFault.{LineFault}
use Rattle.mtrace_log.specs.declared.event.LineFault.TheVariants.{TooLong, NotALine}
use Rattle.mtrace_log.proofs.TextLemmas.{AllByRecursion-append}
use Rattle.mtrace_log.proofs.HexLemmas.{length-hex_digits-le}
use Rattle.mtrace_log.proofs.FieldLemmas.{Lacks-address_text, Lacks-pointer_text, Lacks-size_text, Lacks-location}
use Rattle.mtrace_log.proofs.FormLemmas.{spell-form, Fits, Fits-form, HasShape, HasShape-form, spell-same}

-- ---- one line

Lacks-numbers_text : (numbers : Numbers) → Lacks newline (numbers_text numbers)
Lacks-numbers_text (None, size) = Lacks-size_text newline size (omega arith)
Lacks-numbers_text (Some align, size) =
    AllByRecursion-append (λ b. b ≢ newline) (address_text align) (space ∷ size_text size) (Lacks-address_text newline align (omega arith)) (λ e. absurd (omega arith), Lacks-size_text newline size (omega arith))

Lacks-fields_text : (pointer : Option ℕ) (numbers : Option Numbers) → Lacks newline (fields_text pointer numbers)
Lacks-fields_text pointer None = Lacks-pointer_text newline pointer (omega arith)
Lacks-fields_text pointer (Some numbers) =
    AllByRecursion-append (λ b. b ≢ newline) (pointer_text pointer) (space ∷ numbers_text numbers) (Lacks-pointer_text newline pointer (omega arith)) (λ e. absurd (omega arith), Lacks-numbers_text numbers)

Lacks-location_text : (location : Option (List ℕ)) → IfSome location IsLocation → Lacks newline (location_text location)
Lacks-location_text None valid = tt
Lacks-location_text (Some location) valid =
    (λ e. absurd (omega arith), (λ e. absurd (omega arith), AllByRecursion-append (λ b. b ≢ newline) location (space ∷ []) (Lacks-location newline location (omega arith) valid.allowed) (λ e. absurd (omega arith), tt)))

Lacks-form_text : (f : Form) → HasShape f → Fits f → Lacks newline (form_text f)
Lacks-form_text (alone line) shape fits = shape.2
Lacks-form_text (marked location mark pointer numbers) shape fits =
    AllByRecursion-append (λ b. b ≢ newline) (location_text location) (mark ∷ space ∷ fields_text pointer numbers) (Lacks-location_text location fits.0)
    (λ e. absurd (omega (arith, shape.0)), (λ e. absurd (omega arith), Lacks-fields_text pointer numbers))

pub Lacks-spell : (event : Event) → IsEvent event → Lacks newline (spell event)
Lacks-spell event valid = subst (Lacks newline) (sym (spell-form event)) (Lacks-form_text (form event) (HasShape-form event) (Fits-form event valid))

-- ---- no line is longer than the longest

length-address_text : (n : ℕ) → IsSize n → length (address_text n) ≤ longest_address
length-address_text n fits = omega (arith, length-hex_digits-le n fits)

length-pointer_text : (pointer : Option ℕ) → IsPointer pointer → length (pointer_text pointer) ≤ longest_address
length-pointer_text None valid = omega arith
length-pointer_text (Some n) valid = length-address_text n valid.1

length-size_text : (size : ℕ) → IsSize size → length (size_text size) ≤ longest_address
length-size_text zero fits = omega arith
length-size_text (suc n) fits = length-address_text (suc n) fits

length-location_text : (location : Option (List ℕ)) → IfSome location IsLocation → length (location_text location) ≤ 258
length-location_text None valid = omega arith
length-location_text (Some location) valid = omega (arith, valid.short, length-append location (space ∷ []))

length-numbers_text : (numbers : Numbers) → AreNumbers numbers → length (numbers_text numbers) ≤ 37
length-numbers_text (None, size) fit = omega (arith, length-size_text size fit)
length-numbers_text (Some align, size) fit =
    omega (arith, length-address_text align fit.0.1, length-size_text size fit.1, length-append (address_text align) (space ∷ size_text size))

length-fields_text : (pointer : Option ℕ) (numbers : Option Numbers) → IsPointer pointer → IfSome numbers AreNumbers → length (fields_text pointer numbers) ≤ 56
length-fields_text pointer None address fit = omega (arith, length-pointer_text pointer address)
length-fields_text pointer (Some numbers) address fit =
    omega (arith, length-pointer_text pointer address, length-numbers_text numbers fit, length-append (pointer_text pointer) (space ∷ numbers_text numbers))

length-form_text : (f : Form) → HasShape f → Fits f → length (form_text f) ≤ longest_line
length-form_text (alone line) shape fits = omega (arith, shape.1)
length-form_text (marked location mark pointer numbers) shape fits =
    let front = length-location_text location fits.0 in
    let fields = length-fields_text pointer numbers fits.1 fits.2 in
    let whole = length-append (location_text location) (mark ∷ space ∷ fields_text pointer numbers) in
    omega arith

pub length-spell : (event : Event) → IsEvent event → length (spell event) ≤ longest_line
length-spell event valid = subst (λ text. length text ≤ longest_line) (sym (spell-form event)) (length-form_text (form event) (HasShape-form event) (Fits-form event valid))

-- ---- one answer

pub ReadsAs-same : (bytes : List ℕ) (first second : Result Event LineFault) → ReadsAs bytes first → ReadsAs bytes second → first ≡ second
ReadsAs-same bytes (Ok d) (Ok e) read again = ap (λ event. Ok event) (spell-same d e read.0 again.0 (sym read.1 ∙ again.1))
ReadsAs-same bytes (Ok d) (Err TooLong) read again = absurd (omega (arith, length-spell d read.0, ap length read.1))
ReadsAs-same bytes (Ok d) (Err NotALine) read again = absurd (again.1 d read.0 read.1)
ReadsAs-same bytes (Err TooLong) (Ok e) read again = absurd (omega (arith, length-spell e again.0, ap length again.1))
ReadsAs-same bytes (Err TooLong) (Err TooLong) read again = refl
ReadsAs-same bytes (Err TooLong) (Err NotALine) read again = absurd (omega (arith, again.0))
ReadsAs-same bytes (Err NotALine) (Ok e) read again = absurd (read.1 e again.0 again.1)
ReadsAs-same bytes (Err NotALine) (Err TooLong) read again = absurd (omega (arith, read.0))
ReadsAs-same bytes (Err NotALine) (Err NotALine) read again = refl
