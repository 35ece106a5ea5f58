-- A text that the reader tells reads the same each time.
use Rattle.std.proofs.Common.{◌≡◌, ℕ, List, [], ◌∷◌, ◌++◌, length, take, Some, None, refl, sym, ap, ap₂, ◌∙◌, subst, append-nil, inl, inr}
use Rattle.std.specs.Io.KnownBytes.{prepend_known, IsAtEnd}
use Rattle.mtrace_log.specs.Lines.{lines_of, ReadAs}
use Rattle.mtrace_log.specs.HasRead.{whole_lines, HasReadAll}
use Rattle.mtrace_log.proofs.LineLemmas.{lines_of-whole_lines}
use Rattle.mtrace_log.proofs.SpellingLemmas.{ReadsAs-same}
use Rattle.mtrace_replay.specs.Moment.{ReadLine}
use Rattle.mtrace_log.specs.Shown.{Bytes}
use Rattle.mtrace_replay.specs.Again.{HasReadFirst}

-- lines read as one list of answers, and the first of them as its beginning
reads_first : (lines more : List (List ℕ)) (first all : List ReadLine) → ReadAs lines first → ReadAs (lines ++ more) all → first ≡ take (length first) all
reads_first [] more [] all read whole = refl
reads_first [] more (answer ∷ first) all read whole = absurd read
reads_first (line ∷ lines) more [] all read whole = absurd read
reads_first (line ∷ lines) more (answer ∷ first) [] read whole = absurd whole
reads_first (line ∷ lines) more (answer ∷ first) (other ∷ all) read whole =
    ap₂ (λ (one : ReadLine) (rest : List ReadLine). one ∷ rest) (ReadsAs-same line answer other read.0 whole.0) (reads_first lines more first all read.1 whole.1)

-- what was taken of a told text is its beginning
told_front : (text taken : List ℕ) (after : Bytes) → Some text ≡ prepend_known taken after → (rest : List ℕ) × (text ≡ taken ++ rest) × (after ≡ Some rest)
told_front text taken None is = absurd (cc)
told_front text taken (Some rest) is = (rest, (let same : text ≡ taken ++ rest = cc in same), refl)

told_whole : (text taken : List ℕ) (after : Bytes) → Some text ≡ prepend_known taken after → IsAtEnd after → text ≡ taken
told_whole text taken after is end =
    let front = told_front text taken after is in
    let none : front.0 ≡ [] = subst IsAtEnd front.2 end in
    front.1 ∙ ap (λ rest. taken ++ rest) none ∙ append-nil taken

-- the first lines of a told text are the first of all its lines
pub told_first : (text : List ℕ) (middle after : Bytes) (many : ℕ) (lines first : List ReadLine) → HasReadAll (Some text) middle lines → HasReadFirst many (Some text) after first
    → first ≡ take many lines
told_first text middle after many lines first all again = elim again.read [
  | inl read ↦
      let front = told_front text (whole_lines read.pieces) _ read.taken in
      let cut : lines_of text ≡ read.pieces ++ lines_of front.0 = ap lines_of front.1 ∙ lines_of-whole_lines read.pieces front.0 read.no_newlines in
      reads_first read.pieces (lines_of front.0) first lines read.read (subst (λ ls. ReadAs ls lines) (ap lines_of (sym same) ∙ cut) all.read) ∙ ap (λ n. take n lines) again.count
  | inr whole ↦
      let one : lines_of text ≡ lines_of whole.text = ap lines_of (told_whole text whole.text after whole.taken whole.at_end) in
      let read : ReadAs (lines_of text) first = subst (λ ls. ReadAs ls first) (sym one) whole.read in
      let both : ReadAs (lines_of text ++ []) lines = subst (λ ls. ReadAs ls lines) (ap lines_of (sym same) ∙ sym (append-nil (lines_of text))) all.read in
      reads_first (lines_of text) [] first lines read both ∙ ap (λ n. take n lines) again.count
]
  where
    same : text ≡ all.text
    same = told_whole text all.text middle all.taken all.at_end
