-- The lines of a text, going from its front.
use Rattle.std.proofs.Common.{◌≡◌, ℕ, ◌<◌, List, [], ◌∷◌, ◌++◌, length, Result, refl, ap, ◌∙◌, append_assoc, append-nil, false, eqb, cond, ne_eqb, arith, zero-lt-suc}
use Rattle.std.specs.List.{AllByRecursion, onto_first}
use Rattle.std.proofs.lemmas.Grind.{flat_map-append}
use Rattle.mtrace_log.specs.Bytes.{Lacks, newline}
use Rattle.mtrace_log.specs.Reading.{ReadsAs}
use Rattle.mtrace_log.specs.Lines.{lines_of, ReadAs}
use Rattle.mtrace_log.specs.HasRead.{whole_lines}
use Rattle.mtrace_log.specs.Event.{Event}
use Rattle.mtrace_log.specs.declared.event.LineFault.{LineFault}

-- one byte that is no newline
lines_of-byte : (b : ℕ) (text : List ℕ) → eqb b newline ≡ false → lines_of (b ∷ text) ≡ onto_first b (lines_of text)
lines_of-byte b text other = ap (λ test. cond test ([] ∷ lines_of text) (onto_first b (lines_of text))) other

-- a piece and its newline are the first line
pub lines_of-line : (piece rest : List ℕ) → Lacks newline piece → lines_of (piece ++ newline ∷ rest) ≡ piece ∷ lines_of rest
lines_of-line [] rest lacks = refl
lines_of-line (b ∷ piece) rest lacks =
    lines_of-byte b (piece ++ newline ∷ rest) (ne_eqb b newline lacks.0) ∙ ap (onto_first b) (lines_of-line piece rest lacks.1)

-- a last piece without newline is one line, if it isn't empty
pub lines_of-last : (piece : List ℕ) → Lacks newline piece → 0 < length piece → lines_of piece ≡ piece ∷ []
lines_of-last [] lacks some = absurd (omega arith)
lines_of-last (b ∷ []) lacks some = lines_of-byte b [] (ne_eqb b newline lacks.0)
lines_of-last (b ∷ c ∷ piece) lacks some =
    lines_of-byte b (c ∷ piece) (ne_eqb b newline lacks.0) ∙ ap (onto_first b) (lines_of-last (c ∷ piece) lacks.1 (zero-lt-suc (length piece)))

-- whole lines, and then the lines of the rest
pub lines_of-whole_lines : (pieces : List (List ℕ)) (rest : List ℕ) → AllByRecursion (Lacks newline) pieces → lines_of (whole_lines pieces ++ rest) ≡ pieces ++ lines_of rest
lines_of-whole_lines [] rest lack = refl
lines_of-whole_lines (piece ∷ pieces) rest lack =
    ap lines_of (append_assoc (piece ++ newline ∷ []) (whole_lines pieces) rest ∙ append_assoc piece (newline ∷ []) (whole_lines pieces ++ rest))
    ∙ lines_of-line piece (whole_lines pieces ++ rest) lack.0
    ∙ ap (λ lines. piece ∷ lines) (lines_of-whole_lines pieces rest lack.1)

-- one more whole line
pub whole_lines-more : (pieces : List (List ℕ)) (piece : List ℕ) → whole_lines (pieces ++ piece ∷ []) ≡ whole_lines pieces ++ (piece ++ newline ∷ [])
whole_lines-more pieces piece =
    flat_map-append (λ p. p ++ newline ∷ []) pieces (piece ∷ []) ∙ ap (λ last. whole_lines pieces ++ last) (append-nil (piece ++ newline ∷ []))

-- one more line and its answer
pub ReadAs-more : (lines : List (List ℕ)) (answers : List (Result Event LineFault)) (line : List ℕ) (answer : Result Event LineFault) → ReadAs lines answers → ReadsAs line answer
    → ReadAs (lines ++ line ∷ []) (answers ++ answer ∷ [])
ReadAs-more [] [] line answer before read = (read, tt)
ReadAs-more [] (a ∷ answers) line answer before read = absurd before
ReadAs-more (l ∷ lines) [] line answer before read = absurd before
ReadAs-more (l ∷ lines) (a ∷ answers) line answer before read = (before.0, ReadAs-more lines answers line answer before.1 read)
