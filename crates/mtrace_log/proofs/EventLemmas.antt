-- A line read by its parts: a size, the numbers behind a pointer, the fields behind a mark, and what stands behind a location.
use Rattle.std.proofs.Common.{◌≡◌, ◌≢◌, ℕ, ◌≤◌, List, [], ◌∷◌, ◌++◌, length, get_or, drop, Option, Some, None, IfSome, Result, Ok, Err, codes, refl, sym, ap, ◌∙◌, subst, arith, append_assoc}
use Rattle.mtrace_log.specs.Bytes.{space}
use Rattle.mtrace_log.specs.Location.{IsLocation}
use Rattle.mtrace_log.specs.Spelling.{location_text, spell, IsEvent, longest_line}
use Rattle.mtrace_log.specs.Form.{Form, Numbers, fields_text, form_text, form}
use Rattle.mtrace_log.specs.Form.Form.{alone, marked}
use Rattle.mtrace_log.specs.Fields.{AreFields, HasForm}
use Rattle.mtrace_log.specs.Reading.{ReadsAs}
use Rattle.mtrace_log.specs.Event.{Event}
use Rattle.mtrace_log.specs.declared.event.Event.TheVariants.{Start, End, Alloc, Free, Old, New, Failed, Aligned}
use Rattle.mtrace_log.specs.declared.event.LineFault.{LineFault}
use Rattle.mtrace_log.specs.declared.event.LineFault.TheVariants.{TooLong, NotALine}
use Rattle.mtrace_log.proofs.TextLemmas.{split-same}
use Rattle.mtrace_log.proofs.FieldLemmas.{Lacks-location}
use Rattle.mtrace_log.proofs.FormLemmas.{behind-same, spell-form, Fits, Fits-form, IsEvent-form, HasShape, HasShape-form}

-- ---- behind a location

-- behind that location the bytes are the line of the event
pub record IsBehind (location : Option (List ℕ)) (bytes : List ℕ) (event : Event) : Type 0 where
  pub mark : ℕ
  pub pointer : Option ℕ
  pub numbers : Option Numbers
  pub is : form event ≡ marked location mark pointer numbers
  pub fits : AreFields pointer numbers
  pub spelled : bytes ≡ mark ∷ space ∷ fields_text pointer numbers

-- behind a mark and a space the rest is the same
pub marked-cut : (mark other : ℕ) (rest last : List ℕ) → mark ∷ space ∷ rest ≡ other ∷ space ∷ last → rest ≡ last
marked-cut mark other rest last same = ap (drop 2) same

-- what has no mark and fields is no event's line behind any location
abbrev pub HasNoFields : List ℕ → Type 0
HasNoFields bytes = (parts : ℕ × Option ℕ × Option Numbers) → AreFields parts.1 parts.2 → bytes ≢ parts.0 ∷ space ∷ fields_text parts.1 parts.2

pub behind-no_fields : (location : Option (List ℕ)) (bytes : List ℕ) (event : Event) → HasNoFields bytes → IsBehind location bytes event → ⊥
behind-no_fields location bytes event none read = none (read.mark, read.pointer, read.numbers) read.fits read.spelled

-- what reads as an event of that location
abbrev pub ReadsBehind : Option (List ℕ) → List ℕ → Result Event LineFault → Type 0
ReadsBehind location bytes (Ok event) = IsBehind location bytes event
ReadsBehind location bytes (Err fault) = (fault ≡ NotALine) × ((event : Event) → IsBehind location bytes event → ⊥)

-- what has a mark and fields is the event with these
pub behind-from_form : (location : Option (List ℕ)) (bytes : List ℕ) (mark : ℕ) (pointer : Option ℕ) (numbers : Option Numbers) (found : Result Event LineFault) → AreFields pointer numbers → bytes ≡ mark ∷ space ∷ fields_text pointer numbers
    → HasForm (marked location mark pointer numbers) found → ReadsBehind location bytes found
behind-from_form location bytes mark pointer numbers (Ok event) fits spelled is =
    record { mark = mark; pointer = pointer; numbers = numbers; is = is; fits = fits; spelled = spelled }
behind-from_form location bytes mark pointer numbers (Err fault) fits spelled none =
    (none.0, λ event read. none.1 event (read.is ∙ behind-same location read.mark mark read.pointer pointer read.numbers numbers (sym read.spelled ∙ spelled)))

-- what was read behind a location is the line of the event
pub behind-spelled : (location : Option (List ℕ)) (bytes : List ℕ) (event : Event) → IfSome location IsLocation → IsBehind location bytes event
    → IsEvent event × (location_text location ++ bytes ≡ spell event)
behind-spelled location bytes event valid read =
    let parts : Fits (marked location read.mark read.pointer read.numbers) = (valid, read.fits.0, read.fits.1) in (
      IsEvent-form event (subst Fits (sym read.is) parts),
      ap (λ back. location_text location ++ back) read.spelled ∙ ap form_text (sym read.is) ∙ sym (spell-form event),
    )

-- the line of an event behind `@ `
located-form : (bytes : List ℕ) (event : Event) (f : Form) → form event ≡ f → HasShape f → Fits f → 64 ∷ 32 ∷ bytes ≡ form_text f
    → (location : List ℕ) × (rest : List ℕ) × IsLocation location × (bytes ≡ location ++ space ∷ rest) × IsBehind (Some location) rest event
located-form bytes event (alone line) is shape fits same = let head : 64 ≡ get_or line 0 0 = ap (λ text. get_or text 0 0) same in absurd (omega (arith, shape.0))
located-form bytes event (marked None mark pointer numbers) is shape fits same = let head : 64 ≡ mark = ap (λ text. get_or text 0 0) same in absurd (omega (arith, shape.1))
located-form bytes event (marked (Some location) mark pointer numbers) is shape fits same =
    let rest : List ℕ = mark ∷ space ∷ fields_text pointer numbers in (
      location,
      rest,
      fits.0,
      ap (drop 2) same ∙ append_assoc location (space ∷ []) rest,
      record { mark = mark; pointer = pointer; numbers = numbers; is = is; fits = (fits.1, fits.2); spelled = refl },
    )

located : (bytes : List ℕ) (event : Event) → IsEvent event → 64 ∷ 32 ∷ bytes ≡ spell event
    → (location : List ℕ) × (rest : List ℕ) × IsLocation location × (bytes ≡ location ++ space ∷ rest) × IsBehind (Some location) rest event
located bytes event valid same = located-form bytes event (form event) refl (HasShape-form event) (Fits-form event valid) (same ∙ spell-form event)

-- a line behind `@ ` is cut behind its location
pub located-cut : (bytes location rest : List ℕ) (event : Event) → IsLocation location → bytes ≡ location ++ space ∷ rest → IsEvent event → 64 ∷ 32 ∷ bytes ≡ spell event → IsBehind (Some location) rest event
located-cut bytes location rest event found cut valid same =
    let (other, last, is, spelled, behind) = located bytes event valid same in
    let parts = split-same space location other rest last (Lacks-location space location (omega arith) found.allowed) (Lacks-location space other (omega arith) is.allowed) (sym cut ∙ spelled) in
    subst (λ l. IsBehind (Some l) rest event) (sym parts.0) (subst (λ r. IsBehind (Some other) r event) (sym parts.1) behind)

too_long-other : TooLong ≡ NotALine → ⊥
too_long-other same = cc

-- a line behind `@ ` is read by what stands behind its location
pub located-from_behind : (bytes location rest : List ℕ) (found : Result Event LineFault) → IsLocation location → bytes ≡ location ++ space ∷ rest → length (64 ∷ 32 ∷ bytes) ≤ longest_line
    → ReadsBehind (Some location) rest found → ReadsAs (64 ∷ 32 ∷ bytes) found
located-from_behind bytes location rest (Ok event) valid cut short read =
    let whole = behind-spelled (Some location) rest event valid read in
    (whole.0, ap (λ text. 64 ∷ 32 ∷ text) (cut ∙ sym (append_assoc location (space ∷ []) rest)) ∙ whole.1)
located-from_behind bytes location rest (Err TooLong) valid cut short none = absurd (too_long-other none.0)
located-from_behind bytes location rest (Err NotALine) valid cut short none =
    (short, λ event fits same. none.1 event (located-cut bytes location rest event valid cut fits same))

-- ---- a line without a location

unlocated-form : (bytes : List ℕ) (event : Event) (location : Option (List ℕ)) (mark : ℕ) (pointer : Option ℕ) (numbers : Option Numbers) → form event ≡ marked location mark pointer numbers → Fits (form event)
    → ((rest : List ℕ) → bytes ≢ 64 ∷ 32 ∷ rest) → bytes ≡ spell event → IsBehind None bytes event
unlocated-form bytes event None mark pointer numbers is fits other same =
    let parts : Fits (marked None mark pointer numbers) = subst Fits is fits in
    record { mark = mark; pointer = pointer; numbers = numbers; is = is; fits = (parts.1, parts.2); spelled = same ∙ spell-form event ∙ ap form_text is }
unlocated-form bytes event (Some location) mark pointer numbers is fits other same =
    absurd (other ((location ++ space ∷ []) ++ mark ∷ space ∷ fields_text pointer numbers) (same ∙ spell-form event ∙ ap form_text is))

-- a line that is none of the fixed ones, and not behind `@ `
pub unlocated : (bytes : List ℕ) (event : Event) → bytes ≢ codes "= Start" → bytes ≢ codes "= End" → ((rest : List ℕ) → bytes ≢ 64 ∷ 32 ∷ rest) → IsEvent event → bytes ≡ spell event
    → IsBehind None bytes event
unlocated bytes Start start end other valid same = absurd (start same)
unlocated bytes End start end other valid same = absurd (end same)
unlocated bytes (Alloc location address size) start end other valid same = unlocated-form bytes (Alloc location address size) location 43 address (Some (None, size)) refl (Fits-form (Alloc location address size) valid) other same
unlocated bytes (Free location address) start end other valid same = unlocated-form bytes (Free location address) location 45 (Some address) None refl (Fits-form (Free location address) valid) other same
unlocated bytes (Old location address) start end other valid same = unlocated-form bytes (Old location address) location 60 (Some address) None refl (Fits-form (Old location address) valid) other same
unlocated bytes (New location address size) start end other valid same = unlocated-form bytes (New location address size) location 62 (Some address) (Some (None, size)) refl (Fits-form (New location address size) valid) other same
unlocated bytes (Failed location address size) start end other valid same = unlocated-form bytes (Failed location address size) location 33 address (Some (None, size)) refl (Fits-form (Failed location address size) valid) other same
unlocated bytes (Aligned location address align size) start end other valid same =
    unlocated-form bytes (Aligned location address align size) location 42 (Some address) (Some (Some align, size)) refl (Fits-form (Aligned location address align size) valid) other same

pub unlocated-from_behind : (bytes : List ℕ) (found : Result Event LineFault) → bytes ≢ codes "= Start" → bytes ≢ codes "= End" → ((rest : List ℕ) → bytes ≢ 64 ∷ 32 ∷ rest) → length bytes ≤ longest_line
    → ReadsBehind None bytes found → ReadsAs bytes found
unlocated-from_behind bytes (Ok event) start end other short read = behind-spelled None bytes event tt read
unlocated-from_behind bytes (Err TooLong) start end other short none = absurd (too_long-other none.0)
unlocated-from_behind bytes (Err NotALine) start end other short none = (short, λ event valid same. none.1 event (unlocated bytes event start end other valid same))
