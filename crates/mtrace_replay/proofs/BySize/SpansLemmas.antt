-- A span with one line more.
use Rattle.std.proofs.Common.{cond, Bool, true, false, Option, Some, None, ◌≡◌, ℕ, zero, suc, ◌+◌, ◌-◌, ◌<◌, ◌≤◌, List, [], ◌∷◌, ◌++◌, length, map, slice_index_or, refl, sym, ap, ◌∙◌, subst, arith}
use Rattle.std.specs.Prelude.{◌==◌, max, count_by, is_some, option_map, option_and_then, if◌then◌else◌}
use Rattle.std.specs.Option.{IfSome}
use Rattle.std.specs.List.{All, Contains, list_all}
use Rattle.std.proofs.lemmas.List.Elements.{All-map, All-push, Contains-append_left, Contains-append_right}
use Rattle.std.proofs.lemmas.Bool.{false≢true}
use Rattle.mtrace_replay.specs.declared.parts.span.Span.{Span}
use Rattle.mtrace_replay.specs.declared.parts.spans.Block.{Block}
use Rattle.mtrace_replay.specs.Moment.{ReadLine, Given, Moment, plan}
use Rattle.mtrace_replay.specs.History.{held, given_or, pending, unless_taken, AreHeld}
use Rattle.mtrace_replay.specs.Step.{held_given}
use Rattle.mtrace_replay.specs.Totals.{is_served, Measures, IsMost}
use Rattle.mtrace_replay.specs.Asked.{class_asked}
use Rattle.mtrace_replay.specs.LedgerReplay.{ledger_moment, ledger_moments}
use Rattle.mtrace_replay.specs.Parts.{size_ranges, range_of, is_in, blocks_of, served_classes, largest}
use Rattle.mtrace_replay.specs.Span.{has_range, with_block, hits, released, IsPlaced, blank, IsBlank}
use Rattle.mtrace_replay.specs.Spans.{Agrees, range_held, IsSpan, AreAll, AreCounted, released_by, address_asked, range_released, unless_released, given_all}
use Rattle.mtrace_replay.proofs.History.FoundLemmas.{found_is_held}
use Rattle.mtrace_replay.proofs.History.HeldSums.{held_behind}
use Rattle.mtrace_replay.proofs.History.TotalsLemmas.{none_measured, most_none, most_goes_on}
use Rattle.mtrace_replay.proofs.History.HeldCounts.{put, one_if, still_held, count-put, count-without}
use Rattle.mtrace_replay.proofs.History.LineChange.{IsChange, line_change}

module _ (asked : ℕ → Option ℕ) (span : Span) where
  -- whether a block is of the span
  abbrev passes : Given → Bool
  passes given = is_in span.first span.last (asked given.entry.line)

  -- a block is released from a span where it counts there
  one_released : (held : Option Given) → (released (option_and_then (λ (given : Given). option_map range_of (asked given.entry.line)) held) span).live ≡ span.live - one_if passes held
  one_released None = omega arith
  one_released (Some given) = by_class (asked given.entry.line)
    where
      by_hit : (b : Bool) → cond b (span.live - 1) span.live ≡ span.live - cond b 1 0
      by_hit true = refl
      by_hit false = omega arith

      by_class : (class : Option ℕ) → (released (option_map range_of class) span).live ≡ span.live - cond (is_in span.first span.last class) 1 0
      by_class None = omega arith
      by_class (Some size) = by_hit (has_range span (range_of size))

  count-rest : (held : ℕ → Option Given) (address : Option ℕ) (all : List Given) → ((q : ℕ) → held_given all q ≡ held q) → span.live ≡ count_by passes all
      → (released (range_released (range_held asked held) address) span).live ≡ count_by passes (still_held address all)
  count-rest held None all finds is = is
  count-rest held (Some address) all finds is =
      let fewer = count-without passes address all in
      let its : one_if passes (held_given all address) ≡ one_if passes (held address) = ap (one_if passes) (finds address) in
      let one = one_released (held address) in
      omega (arith, fewer, its, one, is)

-- the span with one line more, by what its blocks are then
module _ (past : List ReadLine) (line : ReadLine) (span : Span) (is : IsSpan past span) (live most size : ℕ) where
  abbrev now : Span
  now = record { first = span.first; last = span.last; live = live; most = most; size = size }

  pub one_line_more : ((asked : ℕ → Option ℕ) → Agrees asked (line ∷ past) → Measures (blocks_of asked span.first span.last) (ledger_moments (line ∷ past)) live)
      → most ≡ max span.most live → size ≡ largest span.first span.last (served_classes (line ∷ past)) → live ≤ suc (length past) → IsSpan (line ∷ past) now
  unfolding ledger_moments
  one_line_more measured most_is size_is few = record {
    live = measured;
    most = λ asked agrees.
        subst (IsMost (blocks_of asked span.first span.last) (ledger_moments (line ∷ past))) (sym most_is)
        (most_goes_on (blocks_of asked span.first span.last) _ (ledger_moments past) span.most live (measured asked agrees) (is.most asked agrees.1));
    size = size_is;
    few = few;
    raised = omega (arith, most_is);
  }

module _ (past : List ReadLine) (line : ReadLine) where
  -- what was held before it
  abbrev pub before : ℕ → Option Given
  before = held (ledger_moments past)

  -- what the line leaves
  abbrev pub its : Moment
  its = ledger_moment (length past) line (pending past) before

  abbrev changes : IsChange line (suc (length past)) (pending past) before (plan (suc (length past)) line (pending past) before)
  changes = line_change (suc (length past)) line (pending past) before

  -- what the line releases
  abbrev pub taken : Option ℕ
  taken = released_by line (pending past) (is_served its)

  -- the block that is given is of the line, for the address that it asks for, which isn't held then
  pub facts : (given : Given) → its.given ≡ Some given → (given.entry.line ≡ suc (length past)) × (address_asked line ≡ Some given.entry.addr)
      × (unless_taken (released_by line (pending past) true) given.entry.addr (before given.entry.addr) ≡ None)
  facts given gave = subst (λ (o : Option Given). IfSome o (λ given. (given.entry.line ≡ suc (length past)) × (address_asked line ≡ Some given.entry.addr)
      × (unless_taken (released_by line (pending past) true) given.entry.addr (before given.entry.addr) ≡ None))) gave changes.given

  -- what is held behind the line, in order
  module _ (all : List Given) (are : AreHeld all (ledger_moments past)) where
    -- nothing is given
    held_without : its.given ≡ None → AreHeld (still_held taken all) (ledger_moments (line ∷ past))
    unfolding ledger_moments
    held_without none = held_behind (ledger_moments past) its taken changes.taken all are None none (λ given is. absurd (cc))

    -- a block is given
    held_with : (given : Given) → its.given ≡ Some given → unless_taken its.taken given.entry.addr (before given.entry.addr) ≡ None → AreHeld (put given (still_held taken all)) (ledger_moments (line ∷ past))
    unfolding ledger_moments
    held_with given gave vacant = held_behind (ledger_moments past) its taken changes.taken all are (Some given) gave
        (λ other is. subst (λ (g : Given). unless_taken its.taken g.entry.addr (before g.entry.addr) ≡ None) (let same : given ≡ other = cc in same) vacant)

  module _ (ranges : ℕ → Option ℕ) (ranges_are : (asked : ℕ → Option ℕ) → Agrees asked past → (address : ℕ) → ranges address ≡ range_held asked before address)
      (span : Span) (is : IsSpan past span) where
    -- the span without the block that is released
    abbrev left : Span
    left = released (range_released ranges taken) span

    left_few : left.live ≤ span.live
    left_few = by_hit (hits span (range_released ranges taken))
      where
        by_hit : (b : Bool) → cond b (span.live - 1) span.live ≤ span.live
        by_hit true = omega arith
        by_hit false = omega arith

    left_counts : (asked : ℕ → Option ℕ) → Agrees asked past → (all : List Given) → AreHeld all (ledger_moments past) → span.live ≡ blocks_of asked span.first span.last all
        → left.live ≡ blocks_of asked span.first span.last (still_held taken all)
    left_counts asked agrees all are counted =
        ap (λ range. (released range span).live) (same_range taken)
        ∙ count-rest asked span before taken all (found_is_held all (ledger_moments past) are) counted
      where
        same_range : (o : Option ℕ) → range_released ranges o ≡ range_released (range_held asked before) o
        same_range None = refl
        same_range (Some address) = ranges_are asked agrees address

    -- nothing is given
    pub span_without : its.given ≡ None → IsSpan (line ∷ past) left
    unfolding served_classes
    span_without none = one_line_more past line span is left.live span.most span.size
        (λ asked agrees.
        let was = is.live asked agrees.1 in
        record { all = still_held taken was.all; held = held_without was.all was.held none; measured = left_counts asked agrees.1 was.all was.held was.measured })
        (omega (arith, left_few, is.raised))
        (is.size ∙ ap (λ (o : Option Given). largest span.first span.last (if is_some o then class_asked line ∷ served_classes past else served_classes past)) (sym none))
        (omega (arith, left_few, is.few))

    module _ (given : Given) (size : ℕ) (gave : its.given ≡ Some given) (has_class : class_asked line ≡ Some size) where
      abbrev hit : Bool
      hit = has_range span (range_of size)

      vacant : unless_taken its.taken given.entry.addr (before given.entry.addr) ≡ None
      vacant = changes.taken given.entry.addr
          ∙ ap (λ (o : Option Given). unless_taken (released_by line (pending past) (is_some o)) given.entry.addr (before given.entry.addr)) gave
          ∙ (facts given gave).2

      one_more : (b : Bool) (n : ℕ) → cond b (n + 1) n ≡ cond b 1 0 + n
      one_more true n = omega arith
      one_more false n = omega arith

      most_more : (b : Bool) → cond b (max span.most (left.live + 1)) span.most ≡ max span.most (cond b (left.live + 1) left.live)
      most_more true = refl
      most_more false = omega (arith, left_few, is.raised)

      few_more : (b : Bool) → cond b (left.live + 1) left.live ≤ suc (length past)
      few_more true = omega (arith, left_few, is.few)
      few_more false = omega (arith, left_few, is.few)

      size_more : cond hit (max size span.size) span.size ≡ largest span.first span.last (class_asked line ∷ served_classes past)
      size_more = ap (λ n. cond hit (max size n) n) is.size ∙ ap (λ class. largest span.first span.last (class ∷ served_classes past)) (sym has_class)

      -- a block of this size is given
      pub span_with : IsSpan (line ∷ past) (with_block (range_of size) size left)
      unfolding served_classes
      span_with = one_line_more past line span is (if hit then left.live + 1 else left.live) (if hit then max span.most (left.live + 1) else span.most) (if hit then max size span.size else span.size)
          (λ asked agrees.
          let was = is.live asked agrees.1 in
          let rest = still_held taken was.all in
          let left_is : left.live ≡ blocks_of asked span.first span.last rest = left_counts asked agrees.1 was.all was.held was.measured in
          let passes_is : one_if (passes asked span) (Some given) ≡ cond hit 1 0 = ap (λ (class : Option ℕ). cond (is_in span.first span.last class) 1 0) (ap asked (facts given gave).0 ∙ agrees.0 ∙ has_class) in
          let counts = count-put (passes asked span) given rest in
          let more = one_more hit left.live in
          record { all = put given rest; held = held_with was.all was.held given gave vacant; measured = omega (arith, left_is, passes_is, counts, more) })
          (most_more hit)
          (size_more ∙ ap (λ (o : Option Given). largest span.first span.last (if is_some o then class_asked line ∷ served_classes past else served_classes past)) (sym gave))
          (few_more hit)

-- what is changed is in the changed list
contains_map : {X Y : Type 0} (f : X → Y) (xs : List X) (x : X) (k : ℕ) → k < length xs → slice_index_or xs k x ≡ x → Contains (map f xs) (f x)
contains_map f [] x k within is = absurd (omega (arith, within))
contains_map f (first ∷ rest) x zero within is = (0, omega arith, ap f is)
contains_map f (first ∷ rest) x (suc k) within is =
    let later = contains_map f rest x k (omega (arith, within)) is in
    (suc later.0, omega (arith, later.1), later.2)

-- there still is a span for each of the neighbouring ranges, where they stay
pub all_changed : (f : Span → Span) (spans : List Span) → ((span : Span) → ((f span).first ≡ span.first) × ((f span).last ≡ span.last)) → AreAll spans → AreAll (map f spans)
all_changed f spans same all first last ordered within =
    let one = all first last ordered within in
    (f one.0, contains_map f spans one.0 one.1.0 one.1.1 one.1.2, (same one.0).0 ∙ one.2, (same one.0).1 ∙ one.3)

-- the range of what is held under an address that wasn't released
range_unreleased : (asked : ℕ → Option ℕ) (released : Option ℕ) (address : ℕ) (held : Option Given)
    → option_and_then (λ (given : Given). option_map range_of (asked given.entry.line)) (unless_taken released address held)
    ≡ unless_released released address (option_and_then (λ (given : Given). option_map range_of (asked given.entry.line)) held)
range_unreleased asked None address held = refl
range_unreleased asked (Some freed) address held = by_same (freed == address)
  where
    by_same : (b : Bool) → option_and_then (λ (given : Given). option_map range_of (asked given.entry.line)) (cond b None held)
        ≡ cond b None (option_and_then (λ (given : Given). option_map range_of (asked given.entry.line)) held)
    by_same true = refl
    by_same false = refl

module _ (past : List ReadLine) (line : ReadLine) (spans : List Span) (ranges ranges_now : ℕ → Option ℕ) (counted : AreCounted past spans ranges) where
  -- the line gives no block
  pub counted_without : is_served (its past line) ≡ false → ((address : ℕ) → ranges_now address ≡ unless_released (taken past line) address (ranges address))
      → AreCounted (line ∷ past) (map (released (range_released ranges (taken past line))) spans) ranges_now
  unfolding served_classes ledger_moments
  counted_without none updates = record {
    each = All-map (IsSpan (line ∷ past)) (released (range_released ranges (taken past line))) spans
        (λ k d within. span_without past line ranges counted.ranges_are (slice_index_or spans k d) (counted.each k d within) not_given);
    placed = All-map IsPlaced (released (range_released ranges (taken past line))) spans (λ k d within. let was = counted.placed k d within in record { ordered = was.ordered; within = was.within });
    all = all_changed (released (range_released ranges (taken past line))) spans (λ span. (refl, refl)) counted.all;
    ranges_are = λ asked agrees address.
        updates address ∙ ap (unless_released (taken past line) address) (counted.ranges_are asked agrees.1 address)
        ∙ sym (range_unreleased asked (taken past line) address (before past line address))
        ∙ ap (option_and_then (λ (given : Given). option_map range_of (asked given.entry.line))) (sym ((changes past line).taken address)
        ∙ sym (ap (λ (o : Option Given). given_or o address (unless_taken (its past line).taken address (before past line address))) not_given));
    classes = ap (λ b. list_all is_some (if b then class_asked line ∷ served_classes past else served_classes past)) none ∙ counted.classes;
  }
    where
      not_given : (its past line).given ≡ None
      not_given = none_there (its past line).given none
        where
          none_there : (o : Option Given) → is_some o ≡ false → o ≡ None
          none_there None not = refl
          none_there (Some given) not = absurd (false≢true (sym not))

  -- the line gives a block
  module _ (given : Given) (size : ℕ) (gave : (its past line).given ≡ Some given) (has_class : class_asked line ≡ Some size) where
    range_given : (asked : ℕ → Option ℕ) → Agrees asked (line ∷ past) → option_map range_of (asked given.entry.line) ≡ Some (range_of size)
    range_given asked agrees = ap (λ n. option_map range_of (asked n)) (facts past line given gave).0 ∙ ap (option_map range_of) (agrees.0 ∙ has_class)

    by_address : (asked : ℕ → Option ℕ) → Agrees asked (line ∷ past) → (b : Bool) (held_there : Option Given) (range : Option ℕ)
        → range ≡ option_and_then (λ (given : Given). option_map range_of (asked given.entry.line)) held_there
        → cond b (Some (range_of size)) range ≡ option_and_then (λ (given : Given). option_map range_of (asked given.entry.line)) (cond b (Some given) held_there)
    by_address asked agrees true held_there range is = sym (range_given asked agrees)
    by_address asked agrees false held_there range is = is

    pub counted_with : (address : ℕ) → address_asked line ≡ Some address
        → ((other : ℕ) → ranges_now other ≡ (if address == other then Some (range_of size) else unless_released (taken past line) other (ranges other)))
        → AreCounted (line ∷ past) (map (with_block (range_of size) size) (map (released (range_released ranges (taken past line))) spans)) ranges_now
    unfolding served_classes ledger_moments
    counted_with address asks updates = record {
      each = All-map (IsSpan (line ∷ past)) (with_block (range_of size) size) (map (released (range_released ranges (taken past line))) spans)
          (All-map (λ span. IsSpan (line ∷ past) (with_block (range_of size) size span)) (released (range_released ranges (taken past line))) spans
          (λ k d within. span_with past line ranges counted.ranges_are (slice_index_or spans k d) (counted.each k d within) given size gave has_class));
      placed = All-map IsPlaced (with_block (range_of size) size) (map (released (range_released ranges (taken past line))) spans)
          (All-map (λ span. IsPlaced (with_block (range_of size) size span)) (released (range_released ranges (taken past line))) spans
          (λ k d within. let was = counted.placed k d within in record { ordered = was.ordered; within = was.within }));
      all = all_changed (with_block (range_of size) size) (map (released (range_released ranges (taken past line))) spans) (λ span. (refl, refl))
          (all_changed (released (range_released ranges (taken past line))) spans (λ span. (refl, refl)) counted.all);
      ranges_are = λ asked agrees other.
          let same : address ≡ given.entry.addr = (let e : Some address ≡ Some given.entry.addr = sym asks ∙ (facts past line given gave).1 in cc) in
          updates other
          ∙ ap (λ a. if a == other then Some (range_of size) else unless_released (taken past line) other (ranges other)) same
          ∙ by_address asked agrees (given.entry.addr == other) (unless_taken (taken past line) other (before past line other)) (unless_released (taken past line) other (ranges other))
          (ap (unless_released (taken past line) other) (counted.ranges_are asked agrees.1 other) ∙ sym (range_unreleased asked (taken past line) other (before past line other)))
          ∙ ap (λ held_there. option_and_then (λ (given : Given). option_map range_of (asked given.entry.line)) (cond (given.entry.addr == other) (Some given) held_there)) (sym ((changes past line).taken other))
          ∙ ap (option_and_then (λ (given : Given). option_map range_of (asked given.entry.line)))
          (sym (ap (λ (o : Option Given). given_or o other (unless_taken (its past line).taken other (before past line other))) gave));
      classes = ap (λ (o : Option Given). list_all is_some (if is_some o then class_asked line ∷ served_classes past else served_classes past)) gave
          ∙ ap (λ class. list_all is_some (class ∷ served_classes past)) has_class ∙ counted.classes;
    }

-- one span more
module _ (spans now : List Span) (one : Span) (is : now ≡ spans ++ one ∷ []) where
  pub more_kept : (span : Span) → Contains spans span → Contains now span
  more_kept span has = subst (λ all. Contains all span) (sym is) (Contains-append_left spans (one ∷ []) span has)

  pub more_there : Contains now one
  more_there = subst (λ all. Contains all one) (sym is) (Contains-append_right spans (one ∷ []) one (0, omega arith, refl))

  pub more_blank : All IsBlank spans → IsBlank one → All IsBlank now
  more_blank all its = subst (All IsBlank) (sym is) (All-push IsBlank spans one all its)

-- a blank span is one of no line
span_blank : (span : Span) → IsBlank span → IsSpan [] span
unfolding ledger_moments served_classes
span_blank span is = subst (IsSpan []) (sym is.0) (record {
  live = λ asked agrees. none_measured (blocks_of asked span.first span.last) refl;
  most = λ asked agrees. (0, most_none (blocks_of asked span.first span.last) refl);
  size = refl;
  few = omega arith;
  raised = omega arith;
})

-- nothing is counted before the first line
pub counted_none : (spans : List Span) (ranges : ℕ → Option ℕ) → All IsBlank spans → ((first last : ℕ) → first ≤ last → last < size_ranges → Contains spans (blank first last))
    → ((address : ℕ) → ranges address ≡ None) → AreCounted [] spans ranges
unfolding ledger_moments served_classes
counted_none spans ranges all_blank rows none = record {
  each = λ k d within. span_blank (slice_index_or spans k d) (all_blank k d within);
  placed = λ k d within. (all_blank k d within).1;
  all = λ first last ordered within. (blank first last, rows first last ordered within, refl, refl);
  ranges_are = λ asked agrees address. none address;
  classes = refl;
}

-- no span has more blocks after a release
pub few_released : (range : Option ℕ) (most : ℕ) (spans : List Span) → All (λ (span : Span). span.live ≤ most) spans → All (λ (span : Span). span.live ≤ most) (map (released range) spans)
few_released range most spans few = All-map (λ (span : Span). span.live ≤ most) (released range) spans (λ k d within.
    let span = slice_index_or spans k d in
    by_hit span (few k d within) (hits span range))
  where
    by_hit : (span : Span) → span.live ≤ most → (b : Bool) → cond b (span.live - 1) span.live ≤ most
    by_hit span less true = omega (arith, less)
    by_hit span less false = less

-- and one more at most after a block is given
pub few_given : (given : Option Block) (most : ℕ) (spans : List Span) → All (λ (span : Span). span.live ≤ most) spans → All (λ (span : Span). span.live ≤ suc most) (given_all given spans)
few_given None most spans few = λ k d within. let less = few k d within in omega (arith, less)
few_given (Some block) most spans few = All-map (λ (span : Span). span.live ≤ suc most) (with_block (range_of block.size) block.size) spans (λ k d within.
    let span = slice_index_or spans k d in
    by_hit span (few k d within) (has_range span (range_of block.size)))
  where
    by_hit : (span : Span) → span.live ≤ most → (b : Bool) → cond b (span.live + 1) span.live ≤ suc most
    by_hit span less true = omega (arith, less)
    by_hit span less false = omega (arith, less)
