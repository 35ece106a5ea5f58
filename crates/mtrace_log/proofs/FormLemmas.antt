-- The form of each event, and that a line has one form only.
use Rattle.std.proofs.Common.{◌≡◌, ◌≢◌, ℕ, zero, ◌<◌, ◌≤◌, List, [], ◌∷◌, ◌++◌, length, get_or, drop, cond, ◌==◌, Option, Some, None, IfSome, refl, sym, ap, ◌∙◌, subst, arith, append_assoc}
use Rattle.mtrace_log.specs.Bytes.{Lacks, space, newline}
use Rattle.mtrace_log.specs.Address.{address_text, size_text, pointer_text}
use Rattle.mtrace_log.specs.Location.{IsLocation}
use Rattle.mtrace_log.specs.Spelling.{spell, IsEvent}
use Rattle.mtrace_log.specs.Form.{Form, Numbers, numbers_text, fields_text, form_text, form}
use Rattle.mtrace_log.specs.Form.Form.{alone, marked}
use Rattle.mtrace_log.specs.Fields.{IsPointer, AreNumbers}
use Rattle.mtrace_log.specs.Event.{Event}
use Rattle.mtrace_log.specs.declared.event.Event.TheVariants.{Start, End, Alloc, Free, Old, New, Failed, Aligned}
use Rattle.mtrace_log.proofs.TextLemmas.{split-same, Lacks-middle}
use Rattle.mtrace_log.proofs.FieldLemmas.{Lacks-address_text, Lacks-pointer_text, Lacks-size_text, Lacks-location, address_text-same, pointer_text-same, size_text-same}

-- ---- an event and its form

pub spell-form : (event : Event) → spell event ≡ form_text (form event)
spell-form Start = refl
spell-form End = refl
spell-form (Alloc location address size) = refl
spell-form (Free location address) = refl
spell-form (Old location address) = refl
spell-form (New location address size) = refl
spell-form (Failed location address size) = refl
spell-form (Aligned location address align size) = refl

-- what the parts of a form can hold
abbrev pub Fits : Form → Type 0
Fits (alone line) = Unit {0}
Fits (marked location mark pointer numbers) = IfSome location IsLocation × IsPointer pointer × IfSome numbers AreNumbers

pub Fits-form : (event : Event) → IsEvent event → Fits (form event)
Fits-form Start valid = tt
Fits-form End valid = tt
Fits-form (Alloc location address size) valid = valid
Fits-form (Free location address) valid = (valid.0, valid.1, tt)
Fits-form (Old location address) valid = (valid.0, valid.1, tt)
Fits-form (New location address size) valid = valid
Fits-form (Failed location address size) valid = valid
Fits-form (Aligned location address align size) valid = (valid.0, valid.1, (valid.2, valid.3))

pub IsEvent-form : (event : Event) → Fits (form event) → IsEvent event
IsEvent-form Start fits = tt
IsEvent-form End fits = tt
IsEvent-form (Alloc location address size) fits = fits
IsEvent-form (Free location address) fits = (fits.0, fits.1)
IsEvent-form (Old location address) fits = (fits.0, fits.1)
IsEvent-form (New location address size) fits = fits
IsEvent-form (Failed location address size) fits = fits
IsEvent-form (Aligned location address align size) fits = (fits.0, fits.1, fits.2.0, fits.2.1)

-- a line alone begins with `=`, and a mark is neither that byte nor `@`
abbrev pub HasShape : Form → Type 0
HasShape (alone line) = (get_or line 0 0 ≡ 61) × (length line ≤ 7) × Lacks newline line
HasShape (marked location mark pointer numbers) = (32 < mark) × (mark < 64) × (mark ≢ 61)

pub HasShape-form : (event : Event) → HasShape (form event)
HasShape-form Start =
    (refl, omega arith, (λ e. absurd (omega arith), (λ e. absurd (omega arith), (λ e. absurd (omega arith), (λ e. absurd (omega arith), (λ e. absurd (omega arith), (λ e. absurd (omega arith), (λ e. absurd (omega arith), tt))))))))
HasShape-form End = (refl, omega arith, (λ e. absurd (omega arith), (λ e. absurd (omega arith), (λ e. absurd (omega arith), (λ e. absurd (omega arith), (λ e. absurd (omega arith), tt))))))
HasShape-form (Alloc location address size) = (omega arith, omega arith, omega arith)
HasShape-form (Free location address) = (omega arith, omega arith, omega arith)
HasShape-form (Old location address) = (omega arith, omega arith, omega arith)
HasShape-form (New location address size) = (omega arith, omega arith, omega arith)
HasShape-form (Failed location address size) = (omega arith, omega arith, omega arith)
HasShape-form (Aligned location address align size) = (omega arith, omega arith, omega arith)

-- ---- the same form is the same event

abbrev or_zero : Option ℕ → ℕ
or_zero None = zero
or_zero (Some n) = n

abbrev size_in : Option Numbers → ℕ
size_in None = zero
size_in (Some (align, size)) = size

abbrev align_in : Option Numbers → ℕ
align_in None = zero
align_in (Some (align, size)) = or_zero align

-- the event that has a form
abbrev event_with : Form → Event
event_with (alone line) = cond (get_or line 2 0 == 83) Start End
event_with (marked location mark pointer numbers) =
    cond (mark == 43) (Alloc location pointer (size_in numbers))
    (cond (mark == 45) (Free location (or_zero pointer))
    (cond (mark == 60) (Old location (or_zero pointer))
    (cond (mark == 62) (New location (or_zero pointer) (size_in numbers))
    (cond (mark == 33) (Failed location pointer (size_in numbers)) (Aligned location (or_zero pointer) (align_in numbers) (size_in numbers))))))

event_with-form : (event : Event) → event_with (form event) ≡ event
event_with-form Start = refl
event_with-form End = refl
event_with-form (Alloc location address size) = refl
event_with-form (Free location address) = refl
event_with-form (Old location address) = refl
event_with-form (New location address size) = refl
event_with-form (Failed location address size) = refl
event_with-form (Aligned location address align size) = refl

pub form-same : (first second : Event) → form first ≡ form second → first ≡ second
form-same first second same = sym (event_with-form first) ∙ ap event_with same ∙ event_with-form second

-- ---- the same line is the same form

-- a size alone and an alignment before a size differ by their spaces
size-or-align : (size align other : ℕ) → size_text size ≢ address_text align ++ space ∷ size_text other
size-or-align size align other same = Lacks-middle space (address_text align) (size_text other) (subst (Lacks space) same (Lacks-size_text space size (omega arith)))

numbers_text-same : (m n : Numbers) → numbers_text m ≡ numbers_text n → m ≡ n
numbers_text-same (None, size) (None, other) same = ap (λ k. (None, k)) (size_text-same size other same)
numbers_text-same (None, size) (Some align, other) same = absurd (size-or-align size align other same)
numbers_text-same (Some align, size) (None, other) same = absurd (size-or-align other align size (sym same))
numbers_text-same (Some align, size) (Some last, other) same =
    let parts = split-same space (address_text align) (address_text last) (size_text size) (size_text other) (Lacks-address_text space align (omega arith)) (Lacks-address_text space last (omega arith)) same in
    ap (λ k. (Some k, size)) (address_text-same align last parts.0) ∙ ap (λ k. (Some last, k)) (size_text-same size other parts.1)

pub fields_text-same : (p q : Option ℕ) (m n : Option Numbers) → fields_text p m ≡ fields_text q n → (p ≡ q) × (m ≡ n)
fields_text-same p q None None same = (pointer_text-same p q same, refl)
fields_text-same p q None (Some n) same = absurd (Lacks-middle space (pointer_text q) (numbers_text n) (subst (Lacks space) same (Lacks-pointer_text space p (omega arith))))
fields_text-same p q (Some m) None same = absurd (Lacks-middle space (pointer_text p) (numbers_text m) (subst (Lacks space) (sym same) (Lacks-pointer_text space q (omega arith))))
fields_text-same p q (Some m) (Some n) same =
    let parts = split-same space (pointer_text p) (pointer_text q) (numbers_text m) (numbers_text n) (Lacks-pointer_text space p (omega arith)) (Lacks-pointer_text space q (omega arith)) same in
    (pointer_text-same p q parts.0, ap (λ k. Some k) (numbers_text-same m n parts.1))

-- a mark and the fields behind it
pub behind-same : (location : Option (List ℕ)) (mark other : ℕ) (p q : Option ℕ) (m n : Option Numbers) → mark ∷ space ∷ fields_text p m ≡ other ∷ space ∷ fields_text q n
    → marked location mark p m ≡ marked location other q n
behind-same location mark other p q m n same =
    let marks : mark ≡ other = ap (λ text. get_or text 0 0) same in
    let fields = fields_text-same p q m n (ap (drop 2) same) in
    ap (λ k. marked location k p m) marks ∙ ap (λ k. marked location other k m) fields.0 ∙ ap (λ k. marked location other q k) fields.1

pub form_text-same : (f g : Form) → HasShape f → HasShape g → Fits f → Fits g → form_text f ≡ form_text g → f ≡ g
form_text-same (alone line) (alone other) v w fits_f fits_g same = ap (λ l. alone l) same
form_text-same (alone line) (marked None mark q n) v w fits_f fits_g same =
    let head : get_or line 0 0 ≡ mark = ap (λ text. get_or text 0 0) same in absurd (w.2 (sym head ∙ v.0))
form_text-same (alone line) (marked (Some l) mark q n) v w fits_f fits_g same =
    let head : get_or line 0 0 ≡ 64 = ap (λ text. get_or text 0 0) same in absurd (omega (arith, v.0))
form_text-same (marked None mark p m) (alone other) v w fits_f fits_g same =
    let head : mark ≡ get_or other 0 0 = ap (λ text. get_or text 0 0) same in absurd (v.2 (head ∙ w.0))
form_text-same (marked (Some k) mark p m) (alone other) v w fits_f fits_g same =
    let head : 64 ≡ get_or other 0 0 = ap (λ text. get_or text 0 0) same in absurd (omega (arith, w.0))
form_text-same (marked None mark p m) (marked None other q n) v w fits_f fits_g same = behind-same None mark other p q m n same
form_text-same (marked None mark p m) (marked (Some l) other q n) v w fits_f fits_g same =
    let head : mark ≡ 64 = ap (λ text. get_or text 0 0) same in absurd (omega (arith, v.1))
form_text-same (marked (Some k) mark p m) (marked None other q n) v w fits_f fits_g same =
    let head : 64 ≡ other = ap (λ text. get_or text 0 0) same in absurd (omega (arith, w.1))
form_text-same (marked (Some k) mark p m) (marked (Some l) other q n) v w fits_f fits_g same =
    let first = append_assoc k (space ∷ []) (mark ∷ space ∷ fields_text p m) in
    let second = append_assoc l (space ∷ []) (other ∷ space ∷ fields_text q n) in
    let cut = split-same space k l (mark ∷ space ∷ fields_text p m) (other ∷ space ∷ fields_text q n) (Lacks-location space k (omega arith) fits_f.0.allowed) (Lacks-location space l (omega arith) fits_g.0.allowed)
    (sym first ∙ ap (drop 2) same ∙ second) in
    ap (λ location. marked (Some location) mark p m) cut.0 ∙ behind-same (Some l) mark other p q m n cut.1

-- ---- the same line is the same event

pub spell-same : (first second : Event) → IsEvent first → IsEvent second → spell first ≡ spell second → first ≡ second
spell-same first second v w same =
    form-same first second (form_text-same (form first) (form second) (HasShape-form first) (HasShape-form second) (Fits-form first v) (Fits-form second w) (sym (spell-form first) ∙ same ∙ spell-form second))
