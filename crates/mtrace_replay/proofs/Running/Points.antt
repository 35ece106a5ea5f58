-- Points that are gathered while the lines are read again.
use Rattle.std.proofs.Common.{◌≡◌, ℕ, zero, suc, ◌+◌, ◌<◌, ◌≤◌, max, List, [], ◌∷◌, ◌++◌, length, map, take, reverse, sym, ap, ap₂, subst, ◌∙◌, arith}
use Rattle.std.specs.List.{All}
use Rattle.std.specs.List.Sorted.{IsStrictlyIncreasing}
use Rattle.std.proofs.Math.ListN.{get_or}
use Rattle.std.proofs.Math.Seq.{take-suc}
use Rattle.std.proofs.lemmas.List.{take-append-le, take_all, map-append}
use Rattle.std.proofs.lemmas.List.Elements.{All-append}
use Rattle.mtrace_log.specs.Progress.{Progress}
use Rattle.mtrace_replay.specs.declared.heap.point.Point.{Point}
use Rattle.mtrace_replay.specs.declared.heap.settings.Settings.{Settings}
use Rattle.mtrace_replay.specs.Started.{started}
use Rattle.mtrace_replay.specs.Moment.{ReadLine}
use Rattle.mtrace_replay.specs.History.{history, moments}
use Rattle.mtrace_replay.specs.Replay.{Replayed, StandsFor, touched}
use Rattle.mtrace_log.specs.Shown.{ReaderState}
use Rattle.mtrace_replay.specs.Replaying.{IsFollowed, IsFollowedOn}
use Rattle.mtrace_replay.specs.Texts.{greatest}
use Rattle.mtrace_replay.specs.Timeline.{IsPoint}
use Rattle.mtrace_replay.proofs.OnHeap.RowLemmas.{greatest-append}

-- the lines so far were read, and the points are of the first of them
pub record HasGathered {P : Type 0} (line_of : P → ℕ) (Is : List ReadLine → P → Type 0) (points : List P) (Stands : List ReadLine → Type 0) (progress : Progress) (start reader : ReaderState) : Type 0 where
  pub now : IsFollowed Stands progress start reader
  pub exact : All (λ point. Is (take (line_of point) now.lines) point) points

-- the point is of these lines, on a heap by the settings
abbrev point_of_lines : Settings → List ReadLine → Point → Type 0
point_of_lines settings lines point = IsPoint (started settings) (history settings lines) point

-- the lines so far were read and replayed, and the points are of the first of them
abbrev pub Gathers : (settings : Settings) (points : List Point) (progress : Progress) (replay : Replayed) (start reader : ReaderState) → Type 0
Gathers settings points progress replay start reader = HasGathered (λ point. point.line) (point_of_lines settings) points (λ past. StandsFor replay settings past) progress start reader

-- the greatest of the first numbers is the last of them, since they rise
pub greatest_taken : (numbers : List ℕ) (index : ℕ) → IsStrictlyIncreasing numbers → index < length numbers → greatest (take (suc index) numbers) ≡ get_or numbers index 0
greatest_taken numbers zero rising inside = ap greatest (take-suc numbers 0 0 inside) ∙ (let is : max (get_or numbers 0 0) 0 ≡ get_or numbers 0 0 = omega arith in is)
greatest_taken numbers (suc before) rising inside =
    let last = get_or numbers (suc before) 0 in
    let next : before + 1 ≡ suc before = omega arith in
    let above = subst (λ n. get_or numbers before 0 < get_or numbers n 0) next (rising before (omega (arith, inside))) in
    let up = greatest_taken numbers before rising (omega (arith, inside)) in
    ap greatest (take-suc numbers (suc before) 0 inside) ∙ greatest-append (take (suc before) numbers) (last ∷ []) ∙ omega (arith, up, above)

-- those before a number are no greater
pub up_to_next : (numbers : List ℕ) (index : ℕ) → IsStrictlyIncreasing numbers → index < length numbers → greatest (take index numbers) ≤ get_or numbers index 0
up_to_next numbers zero rising inside = omega arith
up_to_next numbers (suc before) rising inside =
    let next : before + 1 ≡ suc before = omega arith in
    let above = subst (λ n. get_or numbers before 0 < get_or numbers n 0) next (rising before (omega (arith, inside))) in
    omega (arith, greatest_taken numbers before rising (omega (arith, inside)), above)

-- a replay stands for as much, however often its heap was touched
touched_stands : (touches : ℕ) (replay : Replayed) (settings : Settings) (past : List ReadLine) → StandsFor replay settings past → StandsFor (touched touches replay) settings past
touched_stands touches replay settings past stands = record {
  works = stands.works;
  lines_are = stands.lines_are;
  pending_is = stands.pending_is;
  content_is = stands.content_is;
  held = stands.held;
  totals = stands.totals;
}

abbrev touched_replaying : (touches : ℕ) (settings : Settings) (progress : Progress) (replay : Replayed) (start reader : ReaderState) → IsFollowed (StandsFor replay settings) progress start reader
    → IsFollowed (StandsFor (touched touches replay) settings) progress start reader
touched_replaying touches settings progress replay start reader so_far = record {
  lines = so_far.lines;
  count = so_far.count;
  no_fault = so_far.no_fault;
  read = so_far.read;
  stands = touched_stands touches replay settings (reverse so_far.lines) so_far.stands;
}

one_point : {P : Type 0} (Q : P → Type 0) (point : P) → Q point → All Q (point ∷ [])
one_point Q point is zero other inside = is
one_point Q point is (suc k) other inside = absurd (omega (arith, inside))

module _ {P : Type 0} (line_of : P → ℕ) where
  module _ (Is : List ReadLine → P → Type 0) where
    -- lines behind those of a point don't change it
    points_stay : (points : List P) (before more lines : List ReadLine) → lines ≡ before ++ more → All (λ point. line_of point ≤ length before) points
        → All (λ point. Is (take (line_of point) before) point) points → All (λ point. Is (take (line_of point) lines) point) points
    points_stay points before more lines behind within exact k other inside =
        let point = get_or points k other in
        let same : take (line_of point) lines ≡ take (line_of point) before =
        ap (take (line_of point)) behind ∙ take-append-le (line_of point) before more (within k other inside) in
        subst (λ first. Is first point) (sym same) (exact k other inside)

    -- lines more, and a point after them
    pub gathered_more : (points : List P) (point : P) (Stood Stands : List ReadLine → Type 0) (old new : Progress) (start before after : ReaderState)
        → (so_far : HasGathered line_of Is points Stood old start before) (next : IsFollowedOn Stands so_far.now.lines new start after)
        → All (λ one. line_of one ≤ old.count) points → line_of point ≡ new.count → Is next.now.lines point
        → HasGathered line_of Is (points ++ point ∷ []) Stands new start after
    gathered_more points point Stood Stands old new start before after so_far next within line is =
        let lines = next.now.lines in
        let Q : P → Type 0 = λ one. Is (take (line_of one) lines) one in
        let all : take (line_of point) lines ≡ lines = take_all (line_of point) lines (omega (arith, line, next.now.count)) in
        record {
          now = next.now;
          exact = All-append Q points (point ∷ [])
              (points_stay points so_far.now.lines next.more lines next.behind (λ k other inside. omega (arith, within k other inside, so_far.now.count)) so_far.exact)
              (one_point Q point (subst (λ first. Is first point) (sym all) is));
        }

  -- the number of the point's line behind those of the points before it
  pub lines_more : (numbers : List ℕ) (index : ℕ) (points : List P) (point : P) (all : List P) → map line_of points ≡ take index numbers → all ≡ points ++ point ∷ []
      → line_of point ≡ get_or numbers index 0 → index < length numbers → map line_of all ≡ take (index + 1) numbers
  lines_more numbers index points point all told is line inside =
      let next : suc index ≡ index + 1 = omega arith in
      ap (map line_of) is ∙ map-append line_of points (point ∷ []) ∙ ap₂ (λ before number. before ++ number ∷ []) told line
      ∙ sym (take-suc numbers index 0 inside) ∙ ap (λ n. take n numbers) next

  -- no point is of a later line than the last
  pub within_more : (old new : ℕ) (points : List P) (point : P) (all : List P) → all ≡ points ++ point ∷ [] → All (λ one. line_of one ≤ old) points → old ≤ new → line_of point ≤ new
      → All (λ one. line_of one ≤ new) all
  within_more old new points point all is within up last =
      let Q : P → Type 0 = λ one. line_of one ≤ new in
      subst (All Q) (sym is) (All-append Q points (point ∷ []) (λ k other inside. omega (arith, within k other inside, up)) (one_point Q point last))

-- lines more, and a point after them, to which the heap was touched
pub gathers_more : (settings : Settings) (points : List Point) (point : Point) (old new : Progress) (replay_old replay_read : Replayed) (touches : ℕ) (start before after : ReaderState)
    → (so_far : Gathers settings points old replay_old start before) → IsFollowedOn (StandsFor replay_read settings) so_far.now.lines new start after
    → All (λ (one : Point). one.line ≤ old.count) points → point.line ≡ new.count
    → ((past : List ReadLine) → StandsFor replay_read settings past → IsPoint (started settings) (moments (started settings) past) point)
    → Gathers settings (points ++ point ∷ []) new (touched touches replay_read) start after
gathers_more settings points point old new replay_old replay_read touches start before after so_far next within line is =
    gathered_more (λ (one : Point). one.line) (point_of_lines settings) points point (StandsFor replay_old settings) (StandsFor (touched touches replay_read) settings) old new start before after so_far
    (record { now = touched_replaying touches settings new replay_read start after next.now; more = next.more; behind = next.behind })
    within line (is (reverse next.now.lines) next.now.stands)
