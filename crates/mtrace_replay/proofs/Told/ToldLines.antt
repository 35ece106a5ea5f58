-- Line numbers that are told in rising order.
use Rattle.std.proofs.Common.{◌≡◌, ◌⊎◌, inl, inr, ℕ, zero, suc, ◌+◌, ◌*◌, ◌<◌, ◌≤◌, Bool, true, false, nat_lt, if◌then◌else◌, max, min, List, [], ◌∷◌, ◌++◌, length, refl, sym, ap, subst, ◌∙◌, arith, length-append}
use Rattle.std.specs.Int.{div_ceil}
use Rattle.std.specs.List.{All, Contains}
use Rattle.std.specs.List.Sorted.{IsStrictlyIncreasing}
use Rattle.std.proofs.Math.ListN.{get_or, get_or-append}
use Rattle.std.proofs.Math.Nat.{mul-le-mul_right, le_of_mul-le-mul_right}
use Rattle.std.proofs.Math.Seq.{get_or-append_seam}
use Rattle.std.proofs.lemmas.Bool.{cases_lt}
use Rattle.std.proofs.lemmas.Bool.Decides.{nat_tests}
use Rattle.std.proofs.lemmas.Grind.{div_ceil_times}
use Rattle.std.proofs.lemmas.List.{get_or_default}
use Rattle.std.proofs.lemmas.List.Elements.{All-append, Contains-append_left, Contains-append_right}
use Rattle.mtrace_replay.specs.Texts.{greatest}
use Rattle.mtrace_replay.specs.Timeline.{end_of_stretch, IsTold, AreTold, told_later}

-- the numbers that are told, up to the last of them
pub record AreToldUpTo (lines peak stretches last : ℕ) (told : List ℕ) : Type 0 where
  pub rising : IsStrictlyIncreasing told
  pub within : All (λ line. IsTold lines peak stretches line × (line ≤ last)) told
  pub all : (line : ℕ) → IsTold lines peak stretches line → line ≤ last → Contains told line

all_of_one : (P : ℕ → Type 0) (number : ℕ) → P number → All P (number ∷ [])
all_of_one P number is zero other below = is
all_of_one P number is (suc k) other below = absurd (omega (arith, below))

has_one : (number : ℕ) → Contains (number ∷ []) number
has_one number = (0, omega arith, refl)

-- a number behind those below it
rising_more : (told : List ℕ) (last number : ℕ) → IsStrictlyIncreasing told → All (λ line. line ≤ last) told → last < number → IsStrictlyIncreasing (told ++ number ∷ [])
rising_more told last number rising within above k below = by_position (cases_lt (k + 1) (length told))
  where
    all : List ℕ
    all = told ++ number ∷ []

    here : k < length told
    here = omega (arith, below, length-append {A = ℕ})

    first : get_or all k 0 ≡ get_or told k 0
    first = get_or-append told (number ∷ []) 0 k here

    by_position : (k + 1 < length told) ⊎ (length told ≤ k + 1) → get_or all k 0 < get_or all (k + 1) 0
    by_position (inl inside) = omega (arith, first, get_or-append told (number ∷ []) 0 (k + 1) inside, rising k inside)
    by_position (inr end) =
        let position : length told ≡ k + 1 = omega (arith, end, here) in
        let next : get_or all (k + 1) 0 ≡ number = ap (λ n. get_or all n 0) (sym position) ∙ get_or-append_seam told number [] 0 in
        omega (arith, first, next, within k 0 here, above)

-- the next number that is told
pub told_next : (lines peak stretches last number : ℕ) (told : List ℕ) → AreToldUpTo lines peak stretches last told → IsTold lines peak stretches number
    → ((line : ℕ) → IsTold lines peak stretches line → last < line → number ≤ line)
    → AreToldUpTo lines peak stretches (max last number) (told_later told last number)
told_next lines peak stretches last number told are is next = by_order (nat_lt last number) refl
  where
    P : ℕ → Type 0
    P most = AreToldUpTo lines peak stretches most told

    Q : ℕ → Type 0
    Q most = AreToldUpTo lines peak stretches most (told ++ number ∷ [])

    more : last < number → AreToldUpTo lines peak stretches number (told ++ number ∷ [])
    more above = record {
      rising = rising_more told last number are.rising (λ k other below. (are.within k other below).1) above;
      within = All-append (λ line. IsTold lines peak stretches line × (line ≤ number)) told (number ∷ [])
          (λ k other below. ((are.within k other below).0, omega (arith, (are.within k other below).1, above)))
          (all_of_one (λ line. IsTold lines peak stretches line × (line ≤ number)) number (is, omega arith));
      all = λ line told_too up. found line told_too up (cases_lt last line);
    }
      where
        found : (line : ℕ) → IsTold lines peak stretches line → line ≤ number → (last < line) ⊎ (line ≤ last) → Contains (told ++ number ∷ []) line
        found line told_too up (inl later) =
            let same : number ≡ line = omega (arith, next line told_too later, up) in
            subst (Contains (told ++ number ∷ [])) same (Contains-append_right told (number ∷ []) number (has_one number))
        found line told_too up (inr before) = Contains-append_left told (number ∷ []) line (are.all line told_too before)

    by_order : (later : Bool) → nat_lt last number ≡ later → AreToldUpTo lines peak stretches (max last number) (if later then told ++ number ∷ [] else told)
    by_order true above =
        let later : last < number = grind (arith, nat_tests, above) in
        subst Q (let is : number ≡ max last number = omega (arith, later) in is) (more later)
    by_order false above =
        let not_later : number ≤ last = grind (arith, nat_tests, above) in
        subst P (let is : last ≡ max last number = omega (arith, not_later) in is) are

-- a number for each stretch so far, and 0, and the peak's where it was told
pub counts_of_stretch : (last first end middle peak stretch before between after : ℕ) → first ≡ min peak end → middle ≡ max last first → last ≤ end
    → (last < first → between ≡ before + 1) → (first ≤ last → between ≡ before) → (middle < end → after ≡ between + 1) → (end ≤ middle → after ≡ between)
    → (last < peak → before ≤ stretch + 1) → before ≤ stretch + 2
    → (end < peak → after ≤ stretch + 1 + 1) × (after ≤ stretch + 1 + 2)
counts_of_stretch last first end middle peak stretch before between after first_is middle_is up one_more as_many end_more end_as_many early few = by_order (cases_lt last first) (cases_lt middle end)
  where
    by_order : (last < first) ⊎ (first ≤ last) → (middle < end) ⊎ (end ≤ middle) → (end < peak → after ≤ stretch + 1 + 1) × (after ≤ stretch + 1 + 2)
    by_order (inl a) (inl b) = ((λ c. omega (arith, first_is, middle_is, up, a, b, c)), omega (arith, first_is, one_more a, end_more b, early (omega (arith, first_is, a))))
    by_order (inl a) (inr b) =
        let from = early (omega (arith, first_is, a)) in
        ((λ c. omega (arith, one_more a, end_as_many b, from)), omega (arith, one_more a, end_as_many b, from))
    by_order (inr a) (inl b) = ((λ c. omega (arith, first_is, middle_is, up, a, b, c)), omega (arith, as_many a, end_more b, few))
    by_order (inr a) (inr b) = ((λ c. omega (arith, as_many a, end_as_many b, early (omega (arith, up, c)))), omega (arith, as_many a, end_as_many b, few))

-- a quotient that is rounded up is the least of those that are large enough
ceil_le : (n stretches most : ℕ) → 0 < stretches → n ≤ most * stretches → div_ceil n stretches ≤ most
ceil_le n stretches most some within = by_order (cases_lt most (div_ceil n stretches))
  where
    by_order : (most < div_ceil n stretches) ⊎ (div_ceil n stretches ≤ most) → div_ceil n stretches ≤ most
    by_order (inr is) = is
    by_order (inl more) =
        let times : (most + 1) * stretches ≤ div_ceil n stretches * stretches = mul-le-mul_right stretches (omega (arith, more)) in
        let next : (most + 1) * stretches ≡ most * stretches + stretches = omega arith in
        absurd (omega (arith, times, next, within, (div_ceil_times n stretches some).1))

ceil_ge : (n stretches least : ℕ) → 0 < stretches → least * stretches ≤ n → least ≤ div_ceil n stretches
ceil_ge n stretches least some within =
    le_of_mul-le-mul_right {m = least} {n = div_ceil n stretches} {k = stretches} (omega (arith, within, (div_ceil_times n stretches some).0)) some

-- a later stretch doesn't end before
pub ends_rise : (lines stretches stretch other : ℕ) → 0 < stretches → stretch ≤ other → end_of_stretch lines stretches stretch ≤ end_of_stretch lines stretches other
ends_rise lines stretches stretch other some before =
    let times : stretch * lines ≤ other * lines = mul-le-mul_right lines before in
    ceil_le (stretch * lines) stretches (end_of_stretch lines stretches other) some (omega (arith, times, (div_ceil_times (other * lines) stretches some).0))

-- the last stretch ends with the last line
pub last_end : (lines stretches : ℕ) → 0 < stretches → end_of_stretch lines stretches stretches ≡ lines
last_end lines stretches some =
    let same : stretches * lines ≡ lines * stretches = omega arith in
    let up = ceil_le (stretches * lines) stretches lines some (omega (arith, same)) in
    let down = ceil_ge (stretches * lines) stretches lines some (omega (arith, same)) in
    omega (arith, up, down)

-- behind the end of a stretch, no number is told before the next stretch's end but the peak's
none_between : (lines peak stretches stretch line : ℕ) → 0 < stretches → IsTold lines peak stretches line → end_of_stretch lines stretches stretch < line
    → (line ≡ peak) ⊎ (end_of_stretch lines stretches (stretch + 1) ≤ line)
none_between lines peak stretches stretch line some (inl is) behind = absurd (omega (arith, is, behind))
none_between lines peak stretches stretch line some (inr (inl is)) behind = inl is
none_between lines peak stretches stretch line some (inr (inr (other, within, is))) behind = by_order (cases_lt stretch other)
  where
    by_order : (stretch < other) ⊎ (other ≤ stretch) → (line ≡ peak) ⊎ (end_of_stretch lines stretches (stretch + 1) ≤ line)
    by_order (inl later) = inr (omega (arith, is, ends_rise lines stretches (stretch + 1) other some (omega (arith, later))))
    by_order (inr before) = absurd (omega (arith, is, behind, ends_rise lines stretches other stretch some before))

-- one stretch more: first the peak, where it is told before the stretch's end, and then that end
pub told_stretch : (lines peak stretches stretch : ℕ) (told : List ℕ) → 0 < stretches → stretch < stretches → AreToldUpTo lines peak stretches (end_of_stretch lines stretches stretch) told
    → (let end = end_of_stretch lines stretches (stretch + 1) in
    let last = end_of_stretch lines stretches stretch in
    AreToldUpTo lines peak stretches end (told_later (told_later told last (min peak end)) (max last (min peak end)) end))
told_stretch lines peak stretches stretch told some within are =
    let is : max middle end ≡ end = omega (arith, ends_rise lines stretches stretch (stretch + 1) some (omega arith)) in
    subst (λ most. AreToldUpTo lines peak stretches most (told_later (told_later told last first) middle end)) is (told_next lines peak stretches middle end (told_later told last first) early end_told end_next)
  where
    last : ℕ
    last = end_of_stretch lines stretches stretch

    end : ℕ
    end = end_of_stretch lines stretches (stretch + 1)

    first : ℕ
    first = min peak end

    middle : ℕ
    middle = max last first

    end_told : IsTold lines peak stretches end
    end_told = inr (inr (stretch + 1, omega (arith, within), refl))

    first_told : IsTold lines peak stretches first
    first_told = by_order (cases_lt peak end)
      where
        by_order : (peak < end) ⊎ (end ≤ peak) → IsTold lines peak stretches first
        by_order (inl before) = inr (inl (omega (arith, before)))
        by_order (inr behind) = subst (IsTold lines peak stretches) (let is : end ≡ first = omega (arith, behind) in is) end_told

    first_next : (line : ℕ) → IsTold lines peak stretches line → last < line → first ≤ line
    first_next line is behind = by_kind (none_between lines peak stretches stretch line some is behind)
      where
        by_kind : (line ≡ peak) ⊎ (end ≤ line) → first ≤ line
        by_kind (inl same) = omega (arith, same)
        by_kind (inr later) = omega (arith, later)

    early : AreToldUpTo lines peak stretches middle (told_later told last first)
    early = told_next lines peak stretches last first told are first_told first_next

    end_next : (line : ℕ) → IsTold lines peak stretches line → middle < line → end ≤ line
    end_next line is behind = by_kind (none_between lines peak stretches stretch line some is (omega (arith, behind)))
      where
        by_kind : (line ≡ peak) ⊎ (end ≤ line) → end ≤ line
        by_kind (inl same) = omega (arith, same, behind)
        by_kind (inr later) = later

-- the same, by what was computed
pub told_by_part : (lines peak stretches stretch : ℕ) (told told_first told_end : List ℕ) (last first end middle at_end : ℕ) → 0 < stretches → stretch < stretches → AreToldUpTo lines peak stretches last told
    → last ≡ end_of_stretch lines stretches stretch → end ≡ end_of_stretch lines stretches (stretch + 1) → first ≡ min peak end → told_first ≡ told_later told last first → middle ≡ max last first
    → told_end ≡ told_later told_first middle end → at_end ≡ end_of_stretch lines stretches (stretch + 1) → AreToldUpTo lines peak stretches at_end told_end
told_by_part lines peak stretches stretch told told_first told_end last first end middle at_end some within are last_is end_is first_is told_first_is middle_is told_end_is at_end_is =
    let start : AreToldUpTo lines peak stretches (end_of_stretch lines stretches stretch) told = subst (λ n. AreToldUpTo lines peak stretches n told) last_is are in
    rw (at_end_is, told_end_is, told_first_is, middle_is, first_is, end_is, last_is) (told_stretch lines peak stretches stretch told some within start)

-- no number is told behind the last line's
told_below : (lines peak stretches line : ℕ) → 0 < stretches → peak ≤ lines → IsTold lines peak stretches line → line ≤ lines
told_below lines peak stretches line some within (inl none) = omega (arith, none)
told_below lines peak stretches line some within (inr (inl same)) = omega (arith, same, within)
told_below lines peak stretches line some within (inr (inr (stretch, few, same))) = omega (arith, same, last_end lines stretches some, ends_rise lines stretches stretch stretches some few)

-- all stretches
pub told_all : (lines peak stretches last : ℕ) (told : List ℕ) → 0 < stretches → last ≡ end_of_stretch lines stretches stretches → AreToldUpTo lines peak stretches last told → peak ≤ lines → AreTold lines peak stretches told
told_all lines peak stretches last told some is are within = record {
  rising = are.rising;
  each = λ line. (from line, λ told_too. are.all line told_too (omega (arith, is, last_end lines stretches some, told_below lines peak stretches line some within told_too)));
}
  where
    from : (line : ℕ) → Contains told line → IsTold lines peak stretches line
    from line (k, inside, at) = subst (IsTold lines peak stretches) at (are.within k line inside).0

-- the number at a position stands in the list
stands_at : (numbers : List ℕ) (position other : ℕ) → position < length numbers → Contains numbers (get_or numbers position other)
stands_at numbers position other inside = (position, inside, get_or_default numbers position (get_or numbers position other) other inside)

-- what is told is no line behind the last one
pub told_within : (lines peak stretches : ℕ) (told : List ℕ) → 0 < stretches → peak ≤ lines → AreTold lines peak stretches told → All (λ number. number ≤ lines) told
told_within lines peak stretches told some within are k other inside =
    told_below lines peak stretches (get_or told k other) some within ((are.each (get_or told k other)).0 (stands_at told k other inside))

greatest_within : (numbers : List ℕ) (most : ℕ) → All (λ number. number ≤ most) numbers → greatest numbers ≤ most
greatest_within [] most within = omega arith
greatest_within (number ∷ numbers) most within =
    let first : number ≤ most = within 0 0 (omega arith) in
    let others = greatest_within numbers most (λ k other inside. within (suc k) other (omega (arith, inside))) in
    omega (arith, first, others)

greatest_reached : (numbers : List ℕ) (number position other : ℕ) → position < length numbers → get_or numbers position other ≡ number → number ≤ greatest numbers
greatest_reached [] number position other inside is = absurd (omega (arith, inside))
greatest_reached (first ∷ numbers) number zero other inside is = omega (arith, is)
greatest_reached (first ∷ numbers) number (suc position) other inside is =
    let later = greatest_reached numbers number position other (omega (arith, inside)) is in
    omega (arith, later)

-- the last number that is told is the last line's
pub greatest_told : (lines peak stretches : ℕ) (told : List ℕ) → 0 < stretches → peak ≤ lines → AreTold lines peak stretches told → greatest told ≡ lines
greatest_told lines peak stretches told some within are =
    let last : IsTold lines peak stretches lines = inr (inr (stretches, omega arith, sym (last_end lines stretches some))) in
    let at = (are.each lines).1 last in
    omega (arith, greatest_within told lines (told_within lines peak stretches told some within are), greatest_reached told lines at.0 lines at.1 at.2)
