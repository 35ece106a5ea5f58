-- Lines of the two frequent forms, read from the front of the unread bytes.
use Rattle.std.proofs.Common.{◌≡◌, ℕ, zero, suc, ◌+◌, ◌-◌, List, [], ◌∷◌, ◌++◌, length, take, drop, Option, Some, None, codes, refl, sym, ap, ◌∙◌, subst, append_assoc, length-append, arith}
use Rattle.std.specs.Prelude.{slice_range}
use Rattle.std.proofs.lemmas.List.{drop-drop}
use Rattle.mtrace_log.specs.Bytes.{Lacks, space, newline}
use Rattle.mtrace_log.specs.Location.{IsLocation}
use Rattle.mtrace_log.specs.Spelling.{location_text, spell}
use Rattle.mtrace_log.specs.Frequent.{event_at, fields_of, BeginsFields, IsFrequent, BeginsFrequent}
use Rattle.mtrace_log.specs.declared.frequent.Frequent.{Frequent}
use Rattle.mtrace_log.proofs.SpellingLemmas.{Lacks-spell}

spell-event_at : (location : List ℕ) (address : ℕ) (size : Option ℕ) → spell (event_at location address size) ≡ location_text (Some location) ++ fields_of address size
spell-event_at location address None = refl
spell-event_at location address (Some size) = refl

-- a whole line is read from the front
pub line-read : (bytes located marked rest : List ℕ) (at : List ℕ) (frequent : Frequent) (count : ℕ) → bytes ≡ codes "@ " ++ located → IsLocation at → located ≡ at ++ space ∷ marked
    → BeginsFields marked frequent.addr frequent.size rest → frequent.location_length ≡ length at → count ≡ length bytes - length rest - 1 → BeginsFrequent bytes frequent count
line-read bytes located marked rest at frequent count begun valid cut fields long counted =
    let line = location_text (Some at) ++ fields_of frequent.addr frequent.size in
    let same : bytes ≡ line ++ newline ∷ rest =
    begun ∙ ap (λ text. codes "@ " ++ text)
    (cut ∙ ap (λ text. at ++ space ∷ text) fields.split ∙ sym (append_assoc at (space ∷ []) (fields_of frequent.addr frequent.size ++ newline ∷ rest))
    ∙ sym (append_assoc (at ++ space ∷ []) (fields_of frequent.addr frequent.size) (newline ∷ rest))) in
    record {
      line = line;
      rest = rest;
      split = same;
      long = omega (arith, counted, ap length same, length-append line (newline ∷ rest));
      says = record { location = at; is_location = valid; long = sym long; valid = fields.valid at valid; spelled = sym (spell-event_at at frequent.addr frequent.size) };
    }

-- ---- the line is taken from the buffer

-- a text that the first m elements are cut into
split_take : (m : ℕ) (all xs ys : List ℕ) → take m all ≡ xs ++ ys → (take (length xs) all ≡ xs) × (take (m - length xs) (drop (length xs) all) ≡ ys)
split_take m all [] ys same = (refl, ap (λ n. take n all) (omega arith) ∙ same)
split_take zero all (x ∷ xs) ys same = absurd (let lengths = ap length same in omega arith)
split_take (suc m) [] (x ∷ xs) ys same = absurd (let lengths = ap length same in omega arith)
split_take (suc m) (a ∷ all) (x ∷ xs) ys same =
    let heads : a ≡ x = cc in
    let tails : take m all ≡ xs ++ ys = cc in
    let found = split_take m all xs ys tails in
    let less : suc m - suc (length xs) ≡ m - length xs = omega arith in
    (ap (λ h. h ∷ take (length xs) all) heads ∙ ap (λ t. x ∷ t) found.0, ap (λ n. take n (drop (length xs) all)) less ∙ found.1)

-- a range that is cut in two
pub split_range : (bytes xs ys : List ℕ) (start end cut : ℕ) → slice_range bytes start end ≡ xs ++ ys → cut ≡ start + length xs → (slice_range bytes start cut ≡ xs) × (slice_range bytes cut end ≡ ys)
split_range bytes xs ys start end cut same long =
    let found = split_take (end - start) (drop start bytes) xs ys same in
    let first : cut - start ≡ length xs = omega arith in
    let second : end - cut ≡ end - start - length xs = omega arith in
    let at : drop cut bytes ≡ drop (length xs) (drop start bytes) = ap (λ n. drop n bytes) long ∙ sym (drop-drop (length xs) start bytes) in
    (ap (λ n. take n (drop start bytes)) first ∙ found.0, ap (λ n. take n (drop cut bytes)) second ∙ ap (λ text. take (end - start - length xs) text) at ∙ found.1)

-- the frequent line is the one that is taken, with its newline
pub frequent-taken : (bytes : List ℕ) (start end : ℕ) (frequent : Frequent) (count : ℕ) → BeginsFrequent (slice_range bytes start end) frequent count
    → let line = slice_range bytes start (start + count) in
    (Lacks newline line × (slice_range bytes start end ≡ line ++ newline ∷ slice_range bytes (start + count + 1) end)) × IsFrequent line frequent
frequent-taken bytes start end frequent count found =
    let first = split_range bytes found.line (newline ∷ found.rest) start end (start + count) found.split (omega (arith, found.long)) in
    let second = split_range bytes (newline ∷ []) found.rest (start + count) end (start + count + 1) first.1 (omega arith) in
    let line = slice_range bytes start (start + count) in
    let P : List ℕ → Type 0 = λ text. IsFrequent text frequent in
    let Q : List ℕ → Type 0 = λ text. Lacks newline text in
    let lacks : Lacks newline found.line = subst Q (sym found.says.spelled) (Lacks-spell (event_at found.says.location frequent.addr frequent.size) found.says.valid) in (
      (subst Q (sym first.0) lacks, found.split ∙ ap (λ text. text ++ newline ∷ found.rest) (sym first.0) ∙ ap (λ text. line ++ newline ∷ text) (sym second.1)),
      subst P (sym first.0) found.says,
    )
