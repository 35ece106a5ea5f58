-- The sizes of parts: each is the class size of a served request, and the greatest of those that fall under its ranges.
use Rattle.std.proofs.Common.{cond, ◌≡◌, ◌⊎◌, ℕ, zero, suc, ◌+◌, ◌-◌, ◌%◌, ◌<◌, ◌≤◌, pred, Bool, true, false, List, [], ◌∷◌, length, slice_index_or, max, Option, Some, None, Ok, Err, refl, sym, ap, ◌∙◌, subst, arith, inl, inr}
use Rattle.std.specs.Prelude.{nat_le, option_map, option_and_then, unwrap_or}
use Rattle.std.specs.List.{Contains}
use Rattle.std.specs.Int.{next_multiple_of}
use Rattle.std.proofs.lemmas.Bool.{cases_Bool, false≢true, leb-true, leb-false}
use Rattle.mtrace_log.specs.declared.event.Event.TheVariants.{Start, End, Alloc, Free, Old, New, Failed, Aligned}
use Rattle.tlsf_class.specs.Classes.{unit, classes, greatest_size, low, need}
use Rattle.tlsf_class.specs.Rounding.{round}
use Rattle.tlsf_class.proofs.ClassLaws.{need-lt, le-low_need, need-low}
use Rattle.tlsf_class.proofs.LowestSizes.{low-le, low-unit}
use Rattle.tlsf_class.proofs.RoundingLaws.{round_within, rounded_from, round-Some}
use Rattle.tlsf_heap.specs.Memalign.{is_alignment, size_asked}
use Rattle.tlsf_heap.specs.Sizing.{class_size}
use Rattle.tlsf_heap.proofs.Content.Alignments.{start_is}
use Rattle.mtrace_replay.specs.Moment.{ReadLine, Moment, asked_size}
use Rattle.mtrace_replay.specs.History.{held, pending}
use Rattle.mtrace_replay.specs.Totals.{is_served}
use Rattle.mtrace_replay.specs.Asked.{class_asked}
use Rattle.mtrace_replay.specs.LedgerReplay.{ledger_moment, ledger_moments}
use Rattle.mtrace_replay.specs.Parts.{is_in, served_classes, largest}
use Rattle.mtrace_replay.specs.PartLog.{falls_under}
use Rattle.mtrace_replay.specs.Spans.{Agrees}
use Rattle.mtrace_replay.proofs.BySize.PartLogLemmas.{HasSize}

-- a class begins with the size, which has bytes
pub record IsClassSize (size : ℕ) : Type 0 where
  pub own : class_size 1 size ≡ Some size
  pub some : 0 < size
  pub whole : size % unit ≡ 0
  pub within : size ≤ greatest_size

low_last : low (pred classes) ≤ greatest_size
unfolding low
low_last = omega arith

low_is : (c : ℕ) → c < classes → 0 < low c → IsClassSize (low c)
low_is c below some =
    let within : low c ≤ greatest_size = omega (arith, low-le c (pred classes) (omega (arith, below)), low_last) in
    let rounds : round (low c) ≡ Some (low c) = round_within (low c) some within ∙ ap Some (rounded_from (low c) (low c) (low-unit c) (omega arith) (omega arith)) in
    record {
      own = ap (λ (rounded : Option ℕ). option_and_then (λ m. option_map low (need m)) rounded) rounds ∙ ap (option_map low) (need-low c below);
      some = some;
      whole = low-unit c;
      within = within;
    }

-- what is asked of the lists for some bytes is some
asks_some : (align m : ℕ) → 0 < m → 0 < size_asked align m
asks_some align m some = by (nat_le align unit) refl
  where
    by : (b : Bool) → nat_le align unit ≡ b → 0 < cond b m ((m + align) - unit)
    by true is = some
    by false is = omega (arith, leb-false align unit is, some)

-- what a request of this class size is rounded up to, and its class
record IsSizeFor (align n size : ℕ) : Type 0 where
  is : is_alignment align ≡ true
  m : ℕ
  rounds : round n ≡ Some m
  c : ℕ
  needed : need (size_asked align m) ≡ Some c
  sized : low c ≡ size

size_for : (align n size : ℕ) → class_size align n ≡ Some size → IsSizeFor align n size
size_for align n size is = by_align (is_alignment align) refl is
  where
    by_need : is_alignment align ≡ true → (m : ℕ) → round n ≡ Some m → (answer : Option ℕ) → need (size_asked align m) ≡ answer → option_map low answer ≡ Some size → IsSizeFor align n size
    by_need aligned m rounds None needed lows = absurd (cc)
    by_need aligned m rounds (Some c) needed lows = record { is = aligned; m = m; rounds = rounds; c = c; needed = needed; sized = cc }

    by_round : is_alignment align ≡ true → (rounded : Option ℕ) → round n ≡ rounded → option_and_then (λ m. option_map low (need (size_asked align m))) rounded ≡ Some size → IsSizeFor align n size
    by_round aligned None rounds lows = absurd (cc)
    by_round aligned (Some m) rounds lows = by_need aligned m rounds (need (size_asked align m)) refl lows

    by_align : (b : Bool) → is_alignment align ≡ b → cond b (option_and_then (λ m. option_map low (need (size_asked align m))) (round n)) None ≡ Some size → IsSizeFor align n size
    by_align true aligned lows = by_round aligned (round n) refl lows
    by_align false aligned lows = absurd (cc)

pub class_size_is : (align n size : ℕ) → class_size align n ≡ Some size → IsClassSize size
class_size_is align n size is =
    let for = size_for align n size is in
    let rounded = round-Some n for.m for.rounds in
    let asked = asks_some align for.m (omega (arith, rounded.some, rounded.least)) in
    subst IsClassSize for.sized (low_is for.c (need-lt (size_asked align for.m) for.c for.needed) (omega (arith, asked, le-low_need (size_asked align for.m) for.c for.needed)))

-- a block of that size has the bytes from a multiple of the alignment on, wherever it begins
pub aligned_within : (align n size place : ℕ) → class_size align n ≡ Some size → place % unit ≡ 0 → next_multiple_of place align + n ≤ place + size
aligned_within align n size place is whole =
    let for = size_for align n size is in
    let start = start_is align for.m place for.is whole in
    omega (arith, start.begins, start.fits, (round-Some n for.m for.rounds).least, le-low_need (size_asked align for.m) for.c for.needed, for.sized)

class_asked_is : (line : ReadLine) (size : ℕ) → class_asked line ≡ Some size → IsClassSize size
class_asked_is (Err fault) size is = absurd (cc)
class_asked_is (Ok Start) size is = absurd (cc)
class_asked_is (Ok End) size is = absurd (cc)
class_asked_is (Ok (Alloc at address bytes)) size is = class_size_is 1 (asked_size bytes) size is
class_asked_is (Ok (Free at address)) size is = absurd (cc)
class_asked_is (Ok (Old at address)) size is = absurd (cc)
class_asked_is (Ok (New at address bytes)) size is = class_size_is 1 (asked_size bytes) size is
class_asked_is (Ok (Failed at address bytes)) size is = absurd (cc)
class_asked_is (Ok (Aligned at address align bytes)) size is = class_size_is align (asked_size bytes) size is

-- what is so of each class size that was served, is so of one served
module _ (P : ℕ → Type 0) (each : (line : ReadLine) (size : ℕ) → class_asked line ≡ Some size → P size) where
  pub of_served : (past : List ReadLine) (size k : ℕ) (d : Option ℕ) → k < length (served_classes past) → slice_index_or (served_classes past) k d ≡ Some size → P size
  unfolding served_classes
  of_served [] size k d within is = absurd (omega (arith, within))
  of_served (line ∷ past) size k d within is = by (of_served past size) (is_served (ledger_moment (length past) line (pending past) (held (ledger_moments past)))) k within is
    where
      by : ((k : ℕ) (d : Option ℕ) → k < length (served_classes past) → slice_index_or (served_classes past) k d ≡ Some size → P size) → (b : Bool) (k : ℕ) → k < length (cond b (class_asked line ∷ served_classes past) (served_classes past)) → slice_index_or (cond b (class_asked line ∷ served_classes past) (served_classes past)) k d ≡ Some size → P size
      by later true zero within is = each line size is
      by later true (suc k) within is = later k d (omega (arith, within)) is
      by later false k within is = later k d within is

-- the class size of a request that was served
pub served_is : (past : List ReadLine) (size : ℕ) → Contains (served_classes past) (Some size) → IsClassSize size
served_is past size there = of_served IsClassSize class_asked_is past size there.0 (Some size) there.1 there.2

module _ (first last : ℕ) where
  -- the largest is none, or one of them
  pub largest_is : (past : List ReadLine) → (largest first last (served_classes past) ≡ 0) ⊎ IsClassSize (largest first last (served_classes past))
  unfolding served_classes
  largest_is [] = inl refl
  largest_is (line ∷ past) = by (largest_is past) (is_served (ledger_moment (length past) line (pending past) (held (ledger_moments past))))
    where
      So : ℕ → Type 0
      So n = (n ≡ 0) ⊎ IsClassSize n

      rest : ℕ
      rest = largest first last (served_classes past)

      greater : So rest → (size : ℕ) → IsClassSize size → So (max size rest)
      greater before size is = elim (cases_Bool (nat_le size rest)) [
        | inl most ↦ subst So (omega (arith, leb-true size rest most)) before
        | inr less ↦ inr (subst IsClassSize (omega (arith, leb-false size rest less)) is)
      ]

      by_range : So rest → (size : ℕ) → IsClassSize size → (b : Bool) → So (cond b (max size rest) rest)
      by_range before size is true = greater before size is
      by_range before size is false = before

      by_class : So rest → (class : Option ℕ) → class_asked line ≡ class → So (largest first last (class ∷ served_classes past))
      by_class before None is = before
      by_class before (Some size) is = by_range before size (class_asked_is line size is) (is_in first last (Some size))

      by : So rest → (b : Bool) → So (largest first last (cond b (class_asked line ∷ served_classes past) (served_classes past)))
      by before true = by_class before (class_asked line) refl
      by before false = before

  -- what falls under the ranges is no larger
  pub largest_most : (sizes : List (Option ℕ)) (size k : ℕ) (d : Option ℕ) → k < length sizes → slice_index_or sizes k d ≡ Some size → is_in first last (Some size) ≡ true → size ≤ largest first last sizes
  largest_most [] size k d within is falls = absurd (omega (arith, within))
  largest_most (one ∷ sizes) size zero d within is falls =
      rw is (rw falls (omega arith))
  largest_most (one ∷ sizes) size (suc k) d within is falls = by one (is_in first last one) (largest_most sizes size k d (omega (arith, within)) is falls)
    where
      by : (one : Option ℕ) (b : Bool) → size ≤ largest first last sizes → size ≤ cond b (max (unwrap_or one 0) (largest first last sizes)) (largest first last sizes)
      by one true most = omega (arith, most)
      by one false most = most

  -- a line that is served, and whose block falls under the ranges, gives the part a size
  module _ (asked : ℕ → Option ℕ) (size : ℕ) where
    pub has_size : (past : List ReadLine) → Agrees asked past → largest first last (served_classes past) ≤ size → HasSize (falls_under asked first last) size past
    unfolding served_classes
    has_size [] agrees most = tt
    has_size (line ∷ past) agrees most = (by_served, has_size past agrees.1 (omega (arith, later (is_served its), most)))
      where
        its : Moment
        its = ledger_moment (length past) line (pending past) (held (ledger_moments past))

        served : List (Option ℕ)
        served = served_classes past

        more : (class : Option ℕ) (b : Bool) → largest first last served ≤ cond b (max (unwrap_or class 0) (largest first last served)) (largest first last served)
        more class true = omega arith
        more class false = omega arith

        later : (b : Bool) → largest first last served ≤ largest first last (cond b (class_asked line ∷ served) served)
        later true = more (class_asked line) (is_in first last (class_asked line))
        later false = omega arith

        by_class : (class : Option ℕ) → class_asked line ≡ class → is_in first last class ≡ true → largest first last (class ∷ served) ≤ size → 0 < size
        by_class None is falls small = absurd (false≢true falls)
        by_class (Some one) is falls small =
            let there = largest_most (Some one ∷ served) one 0 None (omega arith) refl falls in
            omega (arith, (class_asked_is line one is).some, there, small)

        by_served : is_served its ≡ true → falls_under asked first last (suc (length past)) ≡ true → 0 < size
        by_served is falls =
            by_class (class_asked line) refl (ap (is_in first last) (sym agrees.0) ∙ falls)
            (subst (λ b. largest first last (cond b (class_asked line ∷ served) served) ≤ size) is most)
