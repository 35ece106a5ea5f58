-- A log has one text of its heaps by size.
use Rattle.std.proofs.Common.{◌≡◌, ℕ, suc, ◌<◌, ◌≤◌, Bool, true, false, List, [], ◌∷◌, ◌++◌, length, reverse, refl, sym, ap, ◌∙◌, Less, Equal, Greater}
use Rattle.std.specs.Prelude.{sum_by}
use Rattle.std.specs.Cmp.Lexicographic.{slice_cmp}
use Rattle.std.specs.Ordering.{nat_cmp, ordering_then, ordering_reverse, is_gt}
use Rattle.std.specs.declared.cmp.Ordering.{Ordering}
use Rattle.std.proofs.lemmas.Bool.{false≢true}
use Rattle.std.proofs.lemmas.Cmp.{ranked}
use Rattle.mtrace_replay.specs.Moment.{ReadLine}
use Rattle.mtrace_replay.specs.Totals.{Measures}
use Rattle.mtrace_replay.specs.LedgerReplay.{ledger_history, ledger_moments}
use Rattle.mtrace_replay.specs.Parts.{size_ranges, class_at, blocks_of, Part, IsPart, IsCut, IsLeastCut, parts_of, part_bytes, unbuilt, cut_bytes, cut_unbuilt, cut_cmp, parts_text, peak_line_text, TellsCut, TellsHeaps, TellsParts}
use Rattle.mtrace_replay.proofs.BySize.CutLemmas.{cmp_total}
use Rattle.mtrace_replay.proofs.History.TotalsLemmas.{one_greatest}
use Rattle.mtrace_replay.proofs.OnLedger.OneText.{one_peak_line}

-- where neither is greater, they are tied
level : (there here : Ordering) → there ≡ ordering_reverse here → is_gt there ≡ false → is_gt here ≡ false → there ≡ Equal
level Less Less same below above = absurd (false≢true (ap is_gt same))
level Less Equal same below above = absurd (cc)
level Less Greater same below above = absurd (false≢true (sym above))
level Equal here same below above = refl
level Greater here same below above = absurd (false≢true (sym below))

first_tied : (first second : Ordering) → ordering_then first second ≡ Equal → first ≡ Equal
first_tied Less second is = absurd (cc)
first_tied Equal second is = refl
first_tied Greater second is = absurd (cc)

second_tied : (first second : Ordering) → ordering_then first second ≡ Equal → second ≡ Equal
second_tied Less second is = absurd (cc)
second_tied Equal second is = is
second_tied Greater second is = absurd (cc)

-- lists of numbers that are tied are equal
same_ends : (one other : List ℕ) → slice_cmp nat_cmp one other ≡ Equal → one ≡ other
same_ends [] [] is = refl
same_ends [] (y ∷ ys) is = absurd (cc)
same_ends (x ∷ xs) [] is = absurd (cc)
same_ends (x ∷ xs) (y ∷ ys) is =
    let first : x ≡ y = ranked x y Equal (sym (first_tied (nat_cmp x y) (slice_cmp nat_cmp xs ys) is)) in
    ap (λ n. n ∷ xs) first ∙ ap (λ ns. y ∷ ns) (same_ends xs ys (second_tied (nat_cmp x y) (slice_cmp nat_cmp xs ys) is))

-- the least cut is one
one_least_cut : (part : ℕ → ℕ → Part) (most first : ℕ) (one other : List ℕ) → IsLeastCut part most first one → IsLeastCut part most first other → one ≡ other
one_least_cut part most first one other least as_well =
    let tied = level (cut_cmp part first one other) (cut_cmp part first other one) ((cmp_total part first).antisymm one other) (least.least other as_well.cut as_well.few) (as_well.least one least.cut least.few) in
    let ends = slice_cmp nat_cmp one other in
    let lengths = nat_cmp (length one) (length other) in
    let bytes = nat_cmp (cut_bytes part first one) (cut_bytes part first other) in
    let unbuilt_parts = nat_cmp (cut_unbuilt part first one) (cut_unbuilt part first other) in
    same_ends one other (second_tied lengths ends (second_tied bytes (ordering_then lengths ends) (second_tied unbuilt_parts (ordering_then bytes (ordering_then lengths ends)) tied)))

-- each of the parts that serve neighbouring ranges is the same
abbrev AreAlike : (part other : ℕ → ℕ → Part) → Type 0
AreAlike part other = (first last : ℕ) → first ≤ last → last < size_ranges → part first last ≡ other first last

alike_back : (part other : ℕ → ℕ → Part) → AreAlike part other → AreAlike other part
alike_back part other alike = λ first last from within. sym (alike first last from within)

cut_of_other : (part other : ℕ → ℕ → Part) → AreAlike part other → (first : ℕ) (ends : List ℕ) → IsCut part first ends → IsCut other first ends
cut_of_other part other alike first [] is = λ last from within. ap (λ (p : Part). p.size) (sym (alike first last from within)) ∙ is last from within
cut_of_other part other alike first (last ∷ ends) is = (is.0, is.1, cut_of_other part other alike (suc last) ends is.2)

same_parts : (part other : ℕ → ℕ → Part) → AreAlike part other → (first : ℕ) (ends : List ℕ) → IsCut part first ends → parts_of part first ends ≡ parts_of other first ends
same_parts part other alike first [] is = refl
same_parts part other alike first (last ∷ ends) is =
    ap (λ p. p ∷ parts_of part (suc last) ends) (alike first last is.0 is.1) ∙ ap (λ parts. other first last ∷ parts) (same_parts part other alike (suc last) ends is.2)

-- so cuts are compared alike
same_cmp : (part other : ℕ → ℕ → Part) → AreAlike part other → (first : ℕ) (one two : List ℕ) → IsCut part first one → IsCut part first two → cut_cmp part first one two ≡ cut_cmp other first one two
same_cmp part other alike first one two is as_well =
    ap (λ parts. compared parts (parts_of part first two)) (same_parts part other alike first one is)
    ∙ ap (λ parts. compared (parts_of other first one) parts) (same_parts part other alike first two as_well)
  where
    compared : List Part → List Part → Ordering
    compared parts others =
        ordering_then (nat_cmp (sum_by unbuilt parts) (sum_by unbuilt others))
        (ordering_then (nat_cmp (sum_by part_bytes parts) (sum_by part_bytes others))
        (ordering_then (nat_cmp (length one) (length two)) (slice_cmp nat_cmp one two)))

least_of_other : (part other : ℕ → ℕ → Part) → AreAlike part other → (most first : ℕ) (ends : List ℕ) → IsLeastCut part most first ends → IsLeastCut other most first ends
least_of_other part other alike most first ends is = record {
  cut = cut_of_other part other alike first ends is.cut;
  few = is.few;
  least = λ ends_of_other cut few.
      (let here = cut_of_other other part (alike_back part other alike) first ends_of_other cut in
      ap is_gt (sym (same_cmp part other alike first ends ends_of_other is.cut here)) ∙ is.least ends_of_other here few);
}

-- the part of some ranges is one
one_part : (past : List ReadLine) (first last : ℕ) (one other : Part) → IsPart past first last one → IsPart past first last other → one ≡ other
one_part past first last one other is as_well = (
    let blocks = one_greatest (Measures (blocks_of (class_at past) first last)) (ledger_moments past) one.blocks other.blocks is.blocks.0 as_well.blocks.0 is.blocks.1 as_well.blocks.1 in
    let size = is.size ∙ sym as_well.size in
    λ i. record { blocks = blocks i; size = size i })

one_cut_text : (heaps : ℕ) (past : List ReadLine) (text other : List ℕ) → TellsCut heaps past text → TellsCut heaps past other → text ≡ other
one_cut_text heaps past text other one two =
    let alike : AreAlike one.part two.part = λ first last from within. one_part past first last _ _ (one.are_parts first last from within) (two.are_parts first last from within) in
    let ends = one_least_cut two.part heaps 0 one.ends two.ends (least_of_other one.part two.part alike heaps 0 one.ends one.chosen) two.chosen in
    one.text_is ∙ ap parts_text (same_parts one.part two.part alike 0 one.ends one.chosen.cut ∙ ap (parts_of two.part 0) ends) ∙ sym two.text_is

one_heaps_text : (has_classes : Bool) (heaps : ℕ) (past : List ReadLine) (text other : List ℕ) → TellsHeaps has_classes heaps past text → TellsHeaps has_classes heaps past other → text ≡ other
one_heaps_text true heaps past text other one two = one_cut_text heaps past text other one two
one_heaps_text false heaps past text other one two = one ∙ sym two

pub one_parts_text : (heaps : ℕ) (lines : List ReadLine) (text other : List ℕ) → TellsParts heaps lines text → TellsParts heaps lines other → text ≡ other
one_parts_text heaps lines text other one two =
    let bytes = one_greatest _ (ledger_history lines) one.totals.peak_bytes two.totals.peak_bytes one.totals.peak_line two.totals.peak_line one.summed.peak two.summed.peak in
    let line = one_peak_line (ledger_history lines) one.totals.peak_bytes two.totals.peak_bytes one.totals.peak_line two.totals.peak_line one.summed.peak two.summed.peak in
    let rest = one_heaps_text _ heaps (reverse lines) one.rest two.rest one.tells two.tells in
    one.text_is
    ∙ ap (λ n. peak_line_text n one.totals.peak_line ++ one.rest) bytes
    ∙ ap (λ n. peak_line_text two.totals.peak_bytes n ++ one.rest) line
    ∙ ap (λ told. peak_line_text two.totals.peak_bytes two.totals.peak_line ++ told) rest
    ∙ sym two.text_is
