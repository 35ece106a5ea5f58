-- The text that a run puts tells the parts of its log.
use Rattle.std.proofs.Common.{cond, Bool, true, false, Option, Ok, Err, ◌≡◌, ℕ, zero, suc, ◌<◌, ◌≤◌, rules, List, [], ◌∷◌, ◌++◌, length, slice_index_or, reverse, refl, sym, ap, ◌∙◌, subst, arith}
use Rattle.std.specs.Prelude.{◌==◌, ◌&&◌, is_some, if◌then◌else◌, Result, IfErr}
use Rattle.std.specs.List.{Contains, list_all}
use Rattle.std.proofs.lemmas.Bool.{false≢true, eqb-true, eq-eqb, ne_eqb}
use Rattle.std.proofs.lemmas.List.{get_or_default}
use Rattle.mtrace_log.specs.Shown.{WriterState}
use Rattle.mtrace_replay.specs.declared.parts.span.Span.{Span}
use Rattle.mtrace_replay.specs.declared.runs.status.Status.{Status}
use Rattle.mtrace_replay.specs.declared.runs.status.RunFault.{RunFault}
use Rattle.mtrace_replay.specs.declared.runs.status.RunFault.TheVariants.{Write}
use Rattle.mtrace_replay.specs.Moment.{ReadLine, Moment}
use Rattle.mtrace_replay.specs.Totals.{IsMost}
use Rattle.mtrace_replay.specs.Asked.{class_asked}
use Rattle.mtrace_replay.specs.Reporting.{PutsAndFlushes}
use Rattle.mtrace_replay.specs.LedgerReplay.{ledger_moments, LedgerStandsFor, LedgerReplayed, totals_of}
use Rattle.mtrace_replay.specs.Parts.{class_at, blocks_of, served_classes, largest, Part, IsPart, AreParts, IsLeastCut, parts_of, parts_text, peak_line_text, TellsHeaps, TellsParts}
use Rattle.mtrace_replay.specs.Spans.{Agrees, IsSpan, AreCounted}
use Rattle.mtrace_replay.specs.Cuts.{part_of, ArePartsIn}
use Rattle.mtrace_replay.specs.RunParts.{is_bad_heaps, PartsFollow}
use Rattle.mtrace_replay.proofs.OnLedger.LedgerRunLemmas.{summed}

-- what the lines ask for agrees with the lines
agrees_of : (asked : ℕ → Option ℕ) (past : List ReadLine) → ((number : ℕ) → number ≤ length past → asked number ≡ class_at past number) → Agrees asked past
agrees_of asked [] same = tt
agrees_of asked (line ∷ past) same = (
  same (suc (length past)) (omega arith) ∙ ap (λ b. cond b (class_asked line) (class_at past (suc (length past)))) (eq-eqb (suc (length past)) (suc (length past)) refl),
  agrees_of asked past (λ number within.
      same number (omega (arith, within)) ∙ ap (λ b. cond b (class_asked line) (class_at past number)) (ne_eqb number (suc (length past)) (λ is. omega (arith, is, within)))),
)

pub agrees : (past : List ReadLine) → Agrees (class_at past) past
agrees past = agrees_of (class_at past) past (λ number within. refl)

-- the most is one number
most_is_one : (asked : ℕ → Option ℕ) (first last : ℕ) (past : List Moment) (one other : ℕ) → IsMost (blocks_of asked first last) past one → IsMost (blocks_of asked first last) past other → one ≡ other
most_is_one asked first last past one other is as_well =
    let below = as_well.1.greatest is.0 one is.1.reached in
    let above = is.1.greatest as_well.0 other as_well.1.reached in
    omega (arith, below, above)

-- the part of the first span that has these ranges
abbrev part_in_spans : List Span → ℕ → ℕ → Part
part_in_spans [] first last = record { blocks = 0; size = 0 }
part_in_spans (span ∷ spans) first last = if (span.first == first) && (span.last == last) then part_of span else part_in_spans spans first last

-- a span has these ranges
record HasPart (spans : List Span) (first last : ℕ) : Type 0 where
  span : Span
  has : Contains spans span
  first_is : span.first ≡ first
  last_is : span.last ≡ last
  part_is : part_in_spans spans first last ≡ part_of span

both_true : (a b : Bool) → (a && b) ≡ true → (a ≡ true) × (b ≡ true)
both_true true b is = (refl, is)
both_true false b is = absurd (false≢true is)

found_part : (spans : List Span) (first last k : ℕ) (d : Span) → k < length spans → (slice_index_or spans k d).first ≡ first → (slice_index_or spans k d).last ≡ last → HasPart spans first last
found_part [] first last k d within f l = absurd (omega (arith, within))
found_part (span ∷ spans) first last k d within f l = by_test (λ k within f l. found_part spans first last k d within f l) ((span.first == first) && (span.last == last)) refl
  where
    InRest : Type 0
    InRest = (k : ℕ) → k < length spans → (slice_index_or spans k d).first ≡ first → (slice_index_or spans k d).last ≡ last → HasPart spans first last

    later : InRest → (k : ℕ) → k < length (span ∷ spans) → (slice_index_or (span ∷ spans) k d).first ≡ first → (slice_index_or (span ∷ spans) k d).last ≡ last → ((span.first == first) && (span.last == last)) ≡ false
        → HasPart spans first last
    later rest zero within f l test =
        absurd (false≢true (sym test ∙ ap (λ b. b && (span.last == last)) (eq-eqb span.first first f) ∙ eq-eqb span.last last l))
    later rest (suc k) within f l test = rest k (omega (arith, within)) f l

    by_test : InRest → (b : Bool) → ((span.first == first) && (span.last == last)) ≡ b → HasPart (span ∷ spans) first last
    by_test rest true test =
        let both = both_true (span.first == first) (span.last == last) test in
        record {
          span = span;
          has = (0, omega arith, refl);
          first_is = eqb-true span.first first both.0;
          last_is = eqb-true span.last last both.1;
          part_is = ap (λ b. cond b (part_of span) (part_in_spans spans first last)) test;
        }
    by_test rest false test =
        let there = later rest k within f l test in
        record {
          span = there.span;
          has = (suc there.has.0, omega (arith, there.has.1), there.has.2);
          first_is = there.first_is;
          last_is = there.last_is;
          part_is = ap (λ b. cond b (part_of span) (part_in_spans spans first last)) test ∙ there.part_is;
        }

module _ (past : List ReadLine) (spans : List Span) (ranges : ℕ → Option ℕ) (counted : AreCounted past spans ranges) where
  abbrev pub its_part : ℕ → ℕ → Part
  its_part = part_in_spans spans

  is_span : (span : Span) → Contains spans span → IsSpan past span
  is_span span has = subst (IsSpan past) has.2 (counted.each has.0 span has.1)

  -- spans of the same ranges have one part
  same_part : (one other : Span) → Contains spans one → Contains spans other → one.first ≡ other.first → one.last ≡ other.last → part_of one ≡ part_of other
  same_part one other has as_well first last =
      let is = is_span one has in
      let is_other = is_span other as_well in
      let asked = class_at past in
      let most : one.most ≡ other.most = most_is_one asked other.first other.last (ledger_moments past) one.most other.most
      (subst (λ l. IsMost (blocks_of asked other.first l) (ledger_moments past) one.most) last (subst (λ f. IsMost (blocks_of asked f one.last) (ledger_moments past) one.most) first (is.most asked (agrees past))))
      (is_other.most asked (agrees past)) in
      let size : one.size ≡ other.size = is.size ∙ ap (λ f. largest f one.last (served_classes past)) first ∙ ap (λ l. largest other.first l (served_classes past)) last ∙ sym is_other.size in
      ap (λ n. record { blocks = n; size = one.size }) most ∙ ap (λ n. record { blocks = other.most; size = n }) size

  pub in_spans : ArePartsIn its_part spans
  in_spans = record {
    each = λ k d within.
        let span : Span = slice_index_or spans k d in
        let there = found_part spans span.first span.last k d within refl refl in
        there.part_is ∙ same_part there.span span there.has (k, within, get_or_default spans k span d within) there.first_is there.last_is;
    placed = counted.placed;
    all = counted.all;
  }

  pub are_parts : AreParts past its_part
  are_parts first last ordered within =
      let has = counted.all first last ordered within in
      let span : Span = has.0 in
      let is = is_span span has.1 in
      let at = has.1 in
      let asked = class_at past in
      let its : its_part span.first span.last ≡ part_of span = subst (λ (s : Span). its_part s.first s.last ≡ part_of s) at.2 (in_spans.each at.0 span at.1) in
      subst (λ l. IsPart past first l (its_part first l)) has.3
      (subst (λ f. IsPart past f span.last (its_part f span.last)) has.2
      (subst (IsPart past span.first span.last) (sym its) (record { blocks = is.most asked (agrees past); size = is.size })))

  pub told : (heaps : ℕ) (ends : List ℕ) → IsLeastCut its_part heaps 0 ends → TellsHeaps (list_all is_some (served_classes past)) heaps past (parts_text (parts_of its_part 0 ends))
  told heaps ends chosen = subst (λ b. TellsHeaps b heaps past (parts_text (parts_of its_part 0 ends))) (sym counted.classes)
      (record { part = its_part; are_parts = are_parts; ends = ends; chosen = chosen; text_is = refl })

-- the text of the heaps of the lines
pub tells_parts : (heaps : ℕ) (lines : List ReadLine) (replay : LedgerReplayed) → LedgerStandsFor replay (reverse lines) → (rest : List ℕ) → TellsHeaps (list_all is_some (served_classes (reverse lines))) heaps (reverse lines) rest
    → TellsParts heaps lines (peak_line_text replay.peak_bytes replay.peak_line ++ rest)
tells_parts heaps lines replay stands rest tells = record { totals = totals_of replay; summed = summed replay lines stands; rest = rest; tells = tells; text_is = refl }

-- the text was put and flushed, or the writer failed
pub follows : (heaps : ℕ) (lines : List ReadLine) (result : Result Status RunFault) (writer_old writer_new : WriterState) (text : List ℕ) → TellsParts heaps lines text
    → PutsAndFlushes result text writer_old writer_new → IfErr result (λ fault. fault ≡ Write) → PartsFollow heaps lines result writer_old writer_new
follows heaps lines (Ok answered) writer_old writer_new text tells puts fault = (text, tells, puts.0, puts.1)
follows heaps lines (Err failed) writer_old writer_new text tells puts fault =
    subst (λ (failed : RunFault). PartsFollow heaps lines (Err failed) writer_old writer_new) (sym fault) (text, tells, puts.0, puts.1)

-- there are some heaps, and few
pub not_bad_heaps : (heaps : ℕ) → (heaps ≡ 0 → ⊥) → heaps ≤ 8 → is_bad_heaps heaps ≡ true → ⊥
not_bad_heaps heaps some few bad = search rules
