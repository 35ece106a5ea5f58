-- Without a heap a log has one text of its sites, one of its callers, and one of what is held over its lines.
use Rattle.std.proofs.Common.{◌≡◌, ℕ, List, [], ◌∷◌, ◌++◌, length, map, take, All, Some, refl, sym, ap, ◌∙◌, subst, arith}
use Rattle.std.specs.List.{AllByRecursion}
use Rattle.std.specs.List.Sorted.{IsStrictlyIncreasing}
use Rattle.std.proofs.lemmas.List.{map-id}
use Rattle.std.proofs.lemmas.List.Elements.{recursion_from_All}
use Rattle.std.proofs.lemmas.Map.Keys.{sorted_from_strictly_increasing}
use Rattle.mtrace_log.specs.HasRead.{HasReadAll}
use Rattle.mtrace_log.specs.Shown.{Bytes}
use Rattle.mtrace_replay.specs.declared.ledger.point.LedgerPoint.{LedgerPoint}
use Rattle.mtrace_replay.specs.Moment.{ReadLine, Moment}
use Rattle.mtrace_replay.specs.History.{AreHeld, entries_of}
use Rattle.mtrace_replay.specs.RunLedger.{TellsLedgerSites, TellsLedgerCallers}
use Rattle.mtrace_replay.specs.RunLedgerTimeline.{TellsLedgerTimeline}
use Rattle.mtrace_replay.specs.LedgerReplay.{ledger_history}
use Rattle.mtrace_replay.specs.LedgerTimeline.{IsLedgerPoint, IsPointOfLines, ledger_lines_of}
use Rattle.mtrace_replay.specs.Texts.{callers_text, ledger_timeline_text}
use Rattle.mtrace_replay.specs.Timeline.{AreTold}
use Rattle.mtrace_replay.specs.Totals.{IsPeak, first_moments}
use Rattle.mtrace_replay.proofs.Enough.UnrefusedTexts.{sections_alike}
use Rattle.mtrace_replay.proofs.History.SortedLemmas.{AreSorted, same_lists, one_list}
use Rattle.mtrace_replay.proofs.History.TotalsLemmas.{measure_is_one, not_later}
use Rattle.mtrace_replay.proofs.Running.ToldLemmas.{told_first}
use Rattle.mtrace_replay.proofs.Told.SiteLemmas.OneList.{one_list_of_callers}

-- two rising lists of the same numbers are equal
sorted : (told : List ℕ) → IsStrictlyIncreasing told → AreSorted (λ n. n) told
sorted told rising = sorted_from_strictly_increasing (map (λ n. n) told) (subst IsStrictlyIncreasing (sym (map-id told)) rising)

pub one_told : (lines peak parts : ℕ) (one other : List ℕ) → AreTold lines peak parts one → AreTold lines peak parts other → one ≡ other
one_told lines peak parts one other first second = same_lists (λ n. n) one other (sorted one first.rising) (sorted other second.rising)
    (λ line has. (second.each line).1 ((first.each line).0 has))
    (λ line has. (first.each line).1 ((second.each line).0 has))

-- a point of a line is one
pub one_ledger_point : (past : List Moment) (one other : LedgerPoint) → IsLedgerPoint past one → IsLedgerPoint past other → one.line ≡ other.line → one ≡ other
one_ledger_point past one other first second same = (
    let bytes = measure_is_one _ past one.bytes other.bytes first.bytes second.bytes in
    let blocks = measure_is_one _ past one.blocks other.blocks first.blocks second.blocks in
    λ i. record { line = same i; bytes = bytes i; blocks = blocks i })

-- so is the list of the points of some lines
abbrev of_first : List ReadLine → LedgerPoint → Type 0
of_first again point = IsPointOfLines (take point.line again) point

same_points : (again : List ReadLine) (xs ys : List LedgerPoint) → ledger_lines_of xs ≡ ledger_lines_of ys → AllByRecursion (of_first again) xs → AllByRecursion (of_first again) ys → xs ≡ ys
same_points again [] [] same all as_well = refl
same_points again [] (y ∷ ys) same all as_well = absurd (cc)
same_points again (x ∷ xs) [] same all as_well = absurd (cc)
same_points again (x ∷ xs) (y ∷ ys) same all as_well =
    let line : x.line ≡ y.line = cc in
    let lines : ledger_lines_of xs ≡ ledger_lines_of ys = cc in
    let first : x ≡ y = one_ledger_point (ledger_history (take y.line again)) x y (subst (λ n. IsPointOfLines (take n again) x) line all.0) as_well.0 line in
    ap (λ point. point ∷ xs) first ∙ ap (λ points. y ∷ points) (same_points again xs ys lines all.1 as_well.1)

-- the peak is at one line
pub one_peak_line : (past : List Moment) (bytes most line other : ℕ) → IsPeak past bytes line → IsPeak past most other → line ≡ other
one_peak_line past bytes most line other first second = omega (arith, not_later _ past bytes most line other first second, not_later _ past most bytes other line second first)

pub one_sites_text : (lines : List ReadLine) (text other : List ℕ) → TellsLedgerSites lines text → TellsLedgerSites lines other → text ≡ other
one_sites_text lines text other one two =
    let past = ledger_history lines in
    let line : one.totals.peak_line ≡ two.totals.peak_line = one_peak_line past one.totals.peak_bytes two.totals.peak_bytes one.totals.peak_line two.totals.peak_line one.summed.peak two.summed.peak in
    let peaks = one_list (first_moments two.totals.peak_line past) one.at_peak.all two.at_peak.all (subst (λ n. AreHeld one.at_peak.all (first_moments n past)) line one.at_peak.held) two.at_peak.held in
    let ends = one_list past one.at_end.all two.at_end.all one.at_end.held two.at_end.held in
    one.text_is
    ∙ sections_alike two.totals.peak_line one.totals.peak_line two.at_peak two.at_end one.at_peak one.at_end line (ap entries_of peaks) (ap entries_of ends)
    ∙ sym two.text_is

pub one_callers_text : (lines : List ReadLine) (text other : List ℕ) → TellsLedgerCallers lines text → TellsLedgerCallers lines other → text ≡ other
one_callers_text lines text other one two =
    let held = one_sites_text lines one.held two.held one.tells two.tells in
    let total = one.calls_are.total_is ∙ sym two.calls_are.total_is in
    let callers = one_list_of_callers _ _ one.callers two.callers one.calls_are.callers_are two.calls_are.callers_are in
    one.text_is
    ∙ ap (λ front. front ++ callers_text one.total one.callers) held
    ∙ ap (λ sum. two.held ++ callers_text sum one.callers) total
    ∙ ap (λ rows. two.held ++ callers_text two.total rows) callers
    ∙ sym two.text_is

pub one_timeline_text : (parts : ℕ) (lines : List ReadLine) (whole : List ℕ) (end left rest : Bytes) (text other : List ℕ) → HasReadAll (Some whole) end lines
    → TellsLedgerTimeline parts lines (Some whole) left text → TellsLedgerTimeline parts lines (Some whole) rest other → text ≡ other
one_timeline_text parts lines whole end left rest text other all one two =
    let line = one_peak_line (ledger_history lines) one.peak_bytes two.peak_bytes one.peak_line two.peak_line one.peak two.peak in
    let numbers = one_told (length lines) two.peak_line parts (ledger_lines_of one.points) (ledger_lines_of two.points) (subst (λ n. AreTold (length lines) n parts (ledger_lines_of one.points)) line one.told) two.told in
    let again : one.again ≡ two.again = told_first whole end left (length lines) lines one.again all one.read ∙ sym (told_first whole end rest (length lines) lines two.again all two.read) in
    let exact : All (of_first two.again) one.points = subst (λ ls. All (of_first ls) one.points) again one.exact in
    let points = same_points two.again one.points two.points numbers (recursion_from_All (of_first two.again) one.points exact) (recursion_from_All (of_first two.again) two.points two.exact) in
    one.text_is ∙ ap ledger_timeline_text points ∙ sym two.text_is
