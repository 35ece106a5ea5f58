-- The heaps by size that are told of a log serve it: each request falls under the ranges of one, and none of them refuses a line of its log.
use Rattle.std.proofs.Common.{cond, ◌≡◌, unwrap_or, ℕ, suc, ◌<◌, ◌≤◌, Bool, true, List, [], ◌∷◌, count_by, reverse, Option, Some, None, refl, sym, ap, ◌∙◌, subst, arith, inl, inr}
use Rattle.std.specs.Prelude.{◌&&◌, nat_le}
use Rattle.std.specs.List.{AllByRecursion, Contains}
use Rattle.std.proofs.lemmas.Bool.{false≢true, and_parts, ne_eqb, leb-true, le-leb}
use Rattle.std.proofs.lemmas.List.{reverse-reverse}
use Rattle.tlsf_class.specs.Classes.{unit, greatest_size, least}
use Rattle.tlsf_class.proofs.Extremes.{AnswersLeast, least_answers}
use Rattle.tlsf_store.specs.Records.{most_records}
use Rattle.tlsf_class.specs.Rounding.{round}
use Rattle.tlsf_heap.proofs.Good.OneSize.{own_class}
use Rattle.tlsf_heap.proofs.Good.Room.{product_le}
use Rattle.mtrace_replay.specs.Moment.{ReadLine, asked_size}
use Rattle.mtrace_replay.specs.History.{moments}
use Rattle.mtrace_replay.specs.Started.{started}
use Rattle.mtrace_replay.specs.Totals.{is_refused}
use Rattle.mtrace_replay.specs.OneSize.{ledger_acts, AsksForSize}
use Rattle.mtrace_replay.specs.Fit.{one_pool}
use Rattle.mtrace_replay.specs.RunFit.{refusals}
use Rattle.mtrace_replay.specs.Parts.{size_ranges, range_end, range_of, is_in, class_at, blocks_of, served_classes, Part, IsPart, AreParts, IsCut, part_bytes, can_be_built}
use Rattle.mtrace_replay.specs.PartLog.{falls_under, part_log, lines_of_part, heap_for, HasPart}
use Rattle.mtrace_replay.proofs.History.Moments.{moments-none}
use Rattle.mtrace_replay.proofs.History.TotalsLemmas.{le_or_more}
use Rattle.mtrace_replay.proofs.Running.FitLemmas.{one_pool-good, units_times}
use Rattle.mtrace_replay.proofs.Enough.OneSizeLog.{one_size_serves, all_ask}
use Rattle.mtrace_replay.proofs.BySize.PartsRun.{agrees}
use Rattle.mtrace_replay.proofs.BySize.PartLogLemmas.{IsBounded, Follows, follows, log_rounded}
use Rattle.mtrace_replay.proofs.BySize.ClassSizes.{IsClassSize, served_is, largest_is, largest_most, has_size}

-- ---- a part serves its log

module _ (past : List ReadLine) (first last : ℕ) (part : Part) (is : IsPart past first last part) where
  abbrev has : ℕ → Bool
  has = falls_under (class_at past) first last

  abbrev log : List ReadLine
  log = part_log has part.size past

  bounded : IsBounded has part.blocks past
  bounded k all are = is.blocks.1.greatest k (blocks_of (class_at past) first last all) (record { all = all; held = are; measured = refl })

  so : Follows has part.size part.blocks past log
  so = follows has part.size part.blocks past bounded (has_size first last (class_at past) part.size past (agrees past) (omega (arith, is.size)))

  -- nothing is refused where nothing is asked
  none_refused : log ≡ [] → count_by is_refused (moments (started (one_pool (part_bytes part) part.blocks)) log) ≡ 0
  none_refused none = ap (λ lines. count_by is_refused (moments (started (one_pool (part_bytes part) part.blocks)) lines)) none ∙ ap (count_by is_refused) (moments-none (started (one_pool (part_bytes part) part.blocks)))

  asks : IsClassSize part.size → AllByRecursion (AsksForSize part.size) (ledger_acts log)
  asks sized = subst (λ lines. AllByRecursion (AsksForSize part.size) (ledger_acts lines)) (log_rounded has part.size past) (all_ask part.size (rounds sized) log)
    where
      rounds : (sized : IsClassSize part.size) → round (asked_size part.size) ≡ Some part.size
      rounds sized = ap (λ b. round (cond b 1 part.size)) (ne_eqb part.size 0 (λ none. omega (arith, none, sized.some))) ∙ (own_class part.size sized.own).rounds

  pub serves_log : can_be_built part ≡ true → count_by is_refused (moments (started (one_pool (part_bytes part) part.blocks)) log) ≡ 0
  serves_log built = elim (le_or_more part.blocks 0) [
    | inl none ↦ none_refused (so.none (inl (omega (arith, none))))
    | inr some ↦ elim (largest_is first last past) [
      | inl none ↦ none_refused (so.none (inr (is.size ∙ none)))
      | inr largest_sized ↦
          let sized : IsClassSize part.size = subst IsClassSize (sym is.size) largest_sized in
          let within = and_parts (nat_le (part_bytes part) greatest_size) (nat_le part.blocks most_records) built in
          let bytes : part.size ≤ part_bytes part = omega (arith, product_le 1 part.blocks part.size some) in
          let least : unit ≤ part.size = omega (arith, sized.whole, sized.some) in
          one_size_serves part.blocks part.size (part_bytes part) part.blocks log sized.own (asks sized) so.holds
          (one_pool-good (part_bytes part) part.blocks (units_times part.blocks part.size sized.whole) (omega (arith, bytes, least)) (leb-true (part_bytes part) greatest_size within.0) some (leb-true part.blocks most_records within.1))
          (omega arith) (inl (omega arith))
    ]
  ]

-- ---- each request falls under one part

-- a size of a class falls under one of the ranges
range_there : (size : ℕ) → size ≤ greatest_size → range_of size < size_ranges
unfolding range_of
range_there size within = by (least test size_ranges) (least_answers test size_ranges)
  where
    test : ℕ → Bool
    test range = nat_le size (range_end range)

    by : (answer : Option ℕ) → AnswersLeast test size_ranges answer → unwrap_or answer size_ranges < size_ranges
    by None none = absurd (false≢true (sym (none 26 (omega arith)) ∙ le-leb size (range_end 26) (omega (arith, within))))
    by (Some range) is = is.below

module _ (past : List ReadLine) (part : ℕ → ℕ → Part) (are : AreParts past part) (size : ℕ) (there : Contains (served_classes past) (Some size)) where
  falls : (first last : ℕ) → first ≤ range_of size → range_of size ≤ last → is_in first last (Some size) ≡ true
  falls first last from to = ap (λ b. b && nat_le (range_of size) last) (le-leb first (range_of size) from) ∙ le-leb (range_of size) last to

  large : (first last : ℕ) → first ≤ last → last < size_ranges → is_in first last (Some size) ≡ true → size ≤ (part first last).size
  large first last ordered within its =
      let most = largest_most first last (served_classes past) size there.0 (Some size) there.1 there.2 its in
      omega (arith, most, (are first last ordered within).size)

  sized : IsClassSize size
  sized = served_is past size there

  pub has_part : (from : ℕ) (ends : List ℕ) → IsCut part from ends → from ≤ range_of size
      → (first : ℕ) × (last : ℕ) × HasPart from ends first last × (is_in first last (Some size) ≡ true) × (size ≤ (part first last).size)
  has_part from [] cut least =
      let range = range_of size in
      let below = range_there size sized.within in
      let none = cut range least below in
      absurd (omega (arith, none, sized.some, large from range least below (falls from range least (omega arith))))
  has_part from (end ∷ ends) cut least = elim (le_or_more (range_of size) end) [
    | inl within ↦ (let its = falls from end least within in (from, end, inl (refl, refl), its, large from end cut.0 cut.1 its))
    | inr beyond ↦ (let later = has_part (suc end) ends cut.2 beyond in (later.0, later.1, inr later.2, later.3, later.4))
  ]

-- a part of a cut begins at no earlier range, and ends at no earlier one than it begins
part_from : (part : ℕ → ℕ → Part) (from : ℕ) (ends : List ℕ) → IsCut part from ends → (first last : ℕ) → HasPart from ends first last → from ≤ first
part_from part from [] cut first last has = elim has [ ]
part_from part from (end ∷ ends) cut first last (inl is) = omega (arith, is.0)
part_from part from (end ∷ ends) cut first last (inr later) = omega (arith, part_from part (suc end) ends cut.2 first last later, cut.0)

-- and no other part of the cut has a size of its ranges
pub one_part : (part : ℕ → ℕ → Part) (size from : ℕ) (ends : List ℕ) → IsCut part from ends → (first last other_first other_last : ℕ) → HasPart from ends first last → HasPart from ends other_first other_last
    → is_in first last (Some size) ≡ true → is_in other_first other_last (Some size) ≡ true → (other_first ≡ first) × (other_last ≡ last)
one_part part size from [] cut first last other_first other_last has other falls_there as_well = elim has [ ]
one_part part size from (end ∷ ends) cut first last other_first other_last (inl is) (inl other) falls_there as_well = (other.0 ∙ sym is.0, other.1 ∙ sym is.1)
one_part part size from (end ∷ ends) cut first last other_first other_last (inl is) (inr other) falls_there as_well =
    let below = leb-true (range_of size) last (and_parts (nat_le first (range_of size)) (nat_le (range_of size) last) falls_there).1 in
    let above = leb-true other_first (range_of size) (and_parts (nat_le other_first (range_of size)) (nat_le (range_of size) other_last) as_well).0 in
    absurd (omega (arith, below, above, is.1, part_from part (suc end) ends cut.2 other_first other_last other))
one_part part size from (end ∷ ends) cut first last other_first other_last (inr is) (inl other) falls_there as_well =
    let below = leb-true (range_of size) other_last (and_parts (nat_le other_first (range_of size)) (nat_le (range_of size) other_last) as_well).1 in
    let above = leb-true first (range_of size) (and_parts (nat_le first (range_of size)) (nat_le (range_of size) last) falls_there).0 in
    absurd (omega (arith, below, above, other.1, part_from part (suc end) ends cut.2 first last is))
one_part part size from (end ∷ ends) cut first last other_first other_last (inr is) (inr other) falls_there as_well =
    one_part part size (suc end) ends cut.2 first last other_first other_last is other falls_there as_well

-- ---- the laws

-- the lines of the part of a cut, refused nothing
pub part_serves : (lines : List ReadLine) (part : ℕ → ℕ → Part) → AreParts (reverse lines) part → (ends : List ℕ) → IsCut part 0 ends → (first last : ℕ) → HasPart 0 ends first last → can_be_built (part first last) ≡ true
    → refusals (heap_for (part first last)) (lines_of_part (part first last).size first last lines) ≡ 0
part_serves lines part are ends cut first last has built =
    let within = part_within part 0 ends cut first last has in
    let its : Part = part first last in
    let settings = one_pool (part_bytes its) its.blocks in
    ap (λ past. count_by is_refused (moments (started settings) past)) (reverse-reverse (part_log (falls_under (class_at (reverse lines)) first last) its.size (reverse lines)))
    ∙ serves_log (reverse lines) first last its (are first last within.0 within.1) built
  where
    part_within : (part : ℕ → ℕ → Part) (from : ℕ) (ends : List ℕ) → IsCut part from ends → (first last : ℕ) → HasPart from ends first last → (first ≤ last) × (last < size_ranges)
    part_within part from [] cut first last has = elim has [ ]
    part_within part from (end ∷ ends) cut first last (inl is) = (omega (arith, is.0, is.1, cut.0), omega (arith, is.1, cut.1))
    part_within part from (end ∷ ends) cut first last (inr later) = part_within part (suc end) ends cut.2 first last later
