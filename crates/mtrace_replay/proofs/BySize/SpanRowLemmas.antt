-- Spans in rows: those that have a range are the ends of the first rows.
use Rattle.std.proofs.Common.{true, false, Some, ◌≡◌, ◌⊎◌, inl, inr, ℕ, zero, suc, ◌+◌, ◌-◌, ◌*◌, ◌<◌, ◌≤◌, List, [], ◌∷◌, ◌++◌, length, map, get_or, append_assoc, refl, sym, ap, ◌∙◌, subst, arith}
use Rattle.std.specs.Prelude.{nat_le, min, max, if◌then◌else◌}
use Rattle.std.specs.List.{All, AllByRecursion, Contains}
use Rattle.std.proofs.lemmas.List.{length-append, length-map, map-append}
use Rattle.std.proofs.lemmas.List.Elements.{All-append, All-from_recursion, Contains-append_left, Contains-append_right}
use Rattle.std.proofs.lemmas.Bool.{and_from, and_left, and_right, cases_lt, le-leb, lt-leb}
use Rattle.mtrace_replay.specs.declared.parts.span.Span.{Span}
use Rattle.mtrace_replay.specs.Span.{has_range, one_more, one_less, with_block, released, blank, IsBlank}
use Rattle.mtrace_replay.specs.SpanRows.{IsRow, AreRows, ChangesBetween, blank_row, blank_rows}

row_length : (first last : ℕ) (row : List Span) → IsRow first last row → length row + last ≡ 27
row_length first last [] is = omega (arith, is)
row_length first last (span ∷ row) is = let rest = row_length first (suc last) row is.2 in omega (arith, rest)

-- rows stay, where what is changed has the ranges that it had
module _ (change : Span → Span) (stays : (span : Span) → ((change span).first ≡ span.first) × ((change span).last ≡ span.last)) where
  row_stays : (first last : ℕ) (row : List Span) → IsRow first last row → IsRow first last (map change row)
  row_stays first last [] is = is
  row_stays first last (span ∷ row) is = ((stays span).0 ∙ is.0, (stays span).1 ∙ is.1, row_stays first (suc last) row is.2)

  pub rows_stay : (many first : ℕ) (spans : List Span) → AreRows many first spans → AreRows many first (map change spans)
  rows_stay zero first spans are = ap (map change) are
  rows_stay (suc many) first spans are =
      (map change are.0, map change are.1, ap (map change) are.2 ∙ map-append change are.0 are.1, row_stays first first are.0 are.3, rows_stay many (suc first) are.1 are.4)

-- a row of which the first spans stay, and the others are changed
record RowParts (change one : Span → Span) (many : ℕ) (row : List Span) : Type 0 where
  pub low : List Span
  pub high : List Span
  pub row_is : row ≡ low ++ high
  pub many_are : length low ≡ many
  pub changed : map change row ≡ low ++ map one high

-- the first rows are changed
pub record HasChanged (change : Span → Span) (first row : ℕ) (old now : List Span) : Type 0 where
  pub past : List Span
  pub rest : List Span
  pub old_is : old ≡ past ++ rest
  pub now_is : now ≡ map change past ++ rest
  pub row_is : length past ≡ row
  pub few : row ≤ 27 * first
  pub rows : AreRows (27 - first) first rest

pub changed_none : (change : Span → Span) (old : List Span) → AreRows 27 0 old → HasChanged change 0 0 old old
changed_none change old rows = record { past = []; rest = old; old_is = refl; now_is = refl; row_is = refl; few = omega arith; rows = rows }

-- of the rows that are left, the first and the others
record NextRow (first : ℕ) (rest : List Span) : Type 0 where
  pub line : List Span
  pub behind : List Span
  pub rest_is : rest ≡ line ++ behind
  pub row : IsRow first first line
  pub long : length line + first ≡ 27
  pub rows : AreRows (27 - suc first) (suc first) behind

next_row : (first : ℕ) (rest : List Span) → first < 27 → AreRows (27 - first) first rest → NextRow first rest
next_row first rest below rows = first_of (subst (λ many. AreRows many first rest) left rows)
  where
    left : 27 - first ≡ suc (27 - suc first)
    left = omega (arith, below)

    first_of : AreRows (suc (27 - suc first)) first rest → NextRow first rest
    first_of (line, behind, rest_is, row, rows) = record { line = line; behind = behind; rest_is = rest_is; row = row; long = row_length first first line row; rows = rows }

-- the next row is within the spans
pub row_within : (change : Span → Span) (first row : ℕ) (old now : List Span) → HasChanged change first row old now → first < 27 → row + (27 - first) ≤ length now
row_within change first row old now so_far below = by_row (next_row first so_far.rest below so_far.rows)
  where
    by_row : NextRow first so_far.rest → row + (27 - first) ≤ length now
    by_row next =
        let rest_long = ap length next.rest_is ∙ length-append next.line next.behind in
        let now_long = ap length so_far.now_is ∙ length-append (map change so_far.past) so_far.rest in
        let past_long = length-map so_far.past change in
        omega (arith, next.long, rest_long, now_long, past_long, so_far.row_is, below)

-- what is behind the first ones isn't changed yet
behind_same : (change : Span → Span) (past rest : List Span) (k : ℕ) (d : Span) → length past ≤ k → get_or (map change past ++ rest) k d ≡ get_or (past ++ rest) k d
behind_same change [] rest k d up = refl
behind_same change (span ∷ past) rest zero d up = absurd (omega (arith, up))
behind_same change (span ∷ past) rest (suc k) d up = behind_same change past rest k d (omega (arith, up))

pub unchanged_behind : (change : Span → Span) (first row : ℕ) (old now : List Span) → HasChanged change first row old now → (k : ℕ) (d : Span) → row ≤ k → get_or now k d ≡ get_or old k d
unchanged_behind change first row old now so_far k d up =
    ap (λ all. get_or all k d) so_far.now_is ∙ behind_same change so_far.past so_far.rest k d (omega (arith, so_far.row_is, up)) ∙ ap (λ all. get_or all k d) (sym so_far.old_is)

pub same_length : (change : Span → Span) (first row : ℕ) (old now : List Span) → HasChanged change first row old now → length now ≡ length old
same_length change first row old now so_far =
    let now_long = ap length so_far.now_is ∙ length-append (map change so_far.past) so_far.rest in
    let old_long = ap length so_far.old_is ∙ length-append so_far.past so_far.rest in
    let past_long = length-map so_far.past change in
    omega (arith, now_long, old_long, past_long)

now_parts : (now past rest line behind low high : List Span) → now ≡ past ++ rest → rest ≡ line ++ behind → line ≡ low ++ high → now ≡ (past ++ low) ++ high ++ behind
now_parts now past rest line behind low high now_is rest_is line_is =
    now_is ∙ ap (λ all. past ++ all) (rest_is ∙ ap (λ all. all ++ behind) line_is) ∙ sym (append_assoc past (low ++ high) behind) ∙ ap (λ all. all ++ behind) (sym (append_assoc past low high))

new_parts : (new past line behind low high : List Span) → new ≡ (past ++ low) ++ high ++ behind → line ≡ low ++ high → new ≡ (past ++ line) ++ behind
new_parts new past line behind low high new_is line_is =
    new_is ∙ ap (λ all. all ++ behind) (append_assoc past low high ∙ ap (λ all. past ++ all) (sym line_is))

-- spans that have a range are changed as `one` does it
module _ (range : ℕ) (change one : Span → Span) (hit : (span : Span) → has_range span range ≡ true → change span ≡ one span) (miss : (span : Span) → has_range span range ≡ false → change span ≡ span) where
  row_hit : (first last : ℕ) (row : List Span) → IsRow first last row → first ≤ range → range ≤ last → map change row ≡ map one row
  row_hit first last [] is from upto = refl
  row_hit first last (span ∷ row) is from upto =
      let has : has_range span range ≡ true = and_from (nat_le span.first range) (nat_le range span.last) (le-leb span.first range (omega (arith, is.0, from))) (le-leb range span.last (omega (arith, is.1, upto))) in
      ap (λ first. first ∷ map change row) (hit span has) ∙ ap (λ rest. one span ∷ rest) (row_hit first (suc last) row is.2 from (omega (arith, upto)))

  row_parts : (first last many : ℕ) (row : List Span) → IsRow first last row → first ≤ range → many + last ≡ min range 27 → RowParts change one many row
  row_parts first last zero [] is from at = record { low = []; high = []; row_is = refl; many_are = refl; changed = refl }
  row_parts first last zero (span ∷ row) is from at =
      let long = row_length first last (span ∷ row) is in
      record { low = []; high = span ∷ row; row_is = refl; many_are = refl; changed = row_hit first last (span ∷ row) is from (omega (arith, long, at)) }
  row_parts first last (suc many) [] is from at = absurd (omega (arith, is, at))
  row_parts first last (suc many) (span ∷ row) is from at =
      let rest = row_parts first (suc last) many row is.2 from (omega (arith, at)) in
      let none : has_range span range ≡ false = and_right (nat_le span.first range) (nat_le range span.last) (lt-leb range span.last (omega (arith, is.1, at))) in
      record {
        low = span ∷ rest.low;
        high = rest.high;
        row_is = ap (λ row. span ∷ row) rest.row_is;
        many_are = ap suc rest.many_are;
        changed = ap (λ first. first ∷ map change row) (miss span none) ∙ ap (λ row. span ∷ row) rest.changed;
      }

  row_missed : (first last : ℕ) (row : List Span) → IsRow first last row → range < first → map change row ≡ row
  row_missed first last [] is beyond = refl
  row_missed first last (span ∷ row) is beyond =
      let none : has_range span range ≡ false = and_left (nat_le span.first range) (nat_le range span.last) (lt-leb span.first range (omega (arith, is.0, beyond))) in
      ap (λ first. first ∷ map change row) (miss span none) ∙ ap (λ rest. span ∷ rest) (row_missed first (suc last) row is.2 beyond)

  rows_missed : (many first : ℕ) (spans : List Span) → AreRows many first spans → range < first → map change spans ≡ spans
  rows_missed zero first spans are beyond = ap (map change) are ∙ sym are
  rows_missed (suc many) first spans are beyond =
      ap (map change) are.2 ∙ map-append change are.0 are.1 ∙ ap (λ row. row ++ map change are.1) (row_missed first first are.0 are.3 beyond)
      ∙ ap (λ rest. are.0 ++ rest) (rows_missed many (suc first) are.1 are.4 (omega (arith, beyond))) ∙ sym are.2

  -- one row more is changed
  pub changed_next : (first bound row from to : ℕ) (old now new : List Span) → HasChanged change first row old now → first < 27 → first ≤ range → bound ≡ min range 27
      → from ≡ row + (bound - first) → to ≡ row + (27 - first) → ChangesBetween one from to now new → HasChanged change (suc first) to old new
  changed_next first bound row from to old now new so_far below within bound_is from_is to_is changes = by_row (next_row first so_far.rest below so_far.rows)
    where
      by_parts : (next : NextRow first so_far.rest) → RowParts change one (bound - first) next.line → HasChanged change (suc first) to old new
      by_parts next parts =
          let past = map change so_far.past in
          let past_long : length past ≡ row = length-map so_far.past change ∙ so_far.row_is in
          let low_long = length-append past parts.low in
          let line_long = ap length parts.row_is ∙ length-append parts.low parts.high in
          let all_long = length-append so_far.past next.line in
          let new_is = changes (past ++ parts.low) parts.high next.behind (now_parts now past so_far.rest next.line next.behind parts.low parts.high so_far.now_is next.rest_is parts.row_is)
          (omega (arith, low_long, past_long, parts.many_are, from_is)) (omega (arith, low_long, past_long, line_long, next.long, to_is, below)) in
          record {
            past = so_far.past ++ next.line;
            rest = next.behind;
            old_is = so_far.old_is ∙ ap (λ rest. so_far.past ++ rest) next.rest_is ∙ sym (append_assoc so_far.past next.line next.behind);
            now_is = new_parts new past (map change next.line) next.behind parts.low (map one parts.high) new_is parts.changed ∙ ap (λ all. all ++ next.behind) (sym (map-append change so_far.past next.line));
            row_is = omega (arith, all_long, so_far.row_is, next.long, to_is, below);
            few = omega (arith, so_far.few, to_is, below);
            rows = next.rows;
          }

      by_row : NextRow first so_far.rest → HasChanged change (suc first) to old new
      by_row next = by_parts next (row_parts first first (bound - first) next.line next.row within (omega (arith, bound_is, below, within)))

  -- those that are left don't have the range, or there are none
  pub changed_all : (first row : ℕ) (old now : List Span) → HasChanged change first row old now → (27 ≤ first) ⊎ (range < first) → now ≡ map change old
  changed_all first row old now so_far ends =
      so_far.now_is ∙ ap (λ rest. map change so_far.past ++ rest) (sym (same ends)) ∙ sym (map-append change so_far.past so_far.rest) ∙ ap (map change) (sym so_far.old_is)
    where
      same : (27 ≤ first) ⊎ (range < first) → map change so_far.rest ≡ so_far.rest
      same (inl all) =
          let none : so_far.rest ≡ [] = (let left : 27 - first ≡ 0 = omega (arith, all) in subst (λ many. AreRows many first so_far.rest) left so_far.rows) in
          ap (map change) none ∙ sym none
      same (inr beyond) = rows_missed (27 - first) first so_far.rest so_far.rows beyond

-- a block more, and a block less
pub with_hit : (range size : ℕ) (span : Span) → has_range span range ≡ true → with_block range size span ≡ one_more size span
with_hit range size span has = ap (λ b. record {
  first = span.first;
  last = span.last;
  live = if b then span.live + 1 else span.live;
  most = if b then max span.most (span.live + 1) else span.most;
  size = if b then max size span.size else span.size;
}) has

pub with_missed : (range size : ℕ) (span : Span) → has_range span range ≡ false → with_block range size span ≡ span
with_missed range size span none = ap (λ b. record {
  first = span.first;
  last = span.last;
  live = if b then span.live + 1 else span.live;
  most = if b then max span.most (span.live + 1) else span.most;
  size = if b then max size span.size else span.size;
}) none

pub without_hit : (range : ℕ) (span : Span) → has_range span range ≡ true → released (Some range) span ≡ one_less span
without_hit range span has = ap (λ b. record { first = span.first; last = span.last; live = if b then span.live - 1 else span.live; most = span.most; size = span.size }) has

pub without_missed : (range : ℕ) (span : Span) → has_range span range ≡ false → released (Some range) span ≡ span
without_missed range span none = ap (λ b. record { first = span.first; last = span.last; live = if b then span.live - 1 else span.live; most = span.most; size = span.size }) none

-- one blank span more
pub blank_more : (many first last : ℕ) → blank_row many first last ++ blank first (last + many) ∷ [] ≡ blank_row (suc many) first last
unfolding blank_row
blank_more zero first last = (let here : last + 0 ≡ last = omega arith in ap (λ last. blank first last ∷ []) here)
blank_more (suc many) first last =
    let here : last + suc many ≡ suc last + many = omega arith in
    ap (λ rest. blank first last ∷ rest) (ap (λ end. blank_row many first (suc last) ++ blank first end ∷ []) here ∙ blank_more many first (suc last))

blank_is_row : (many first last : ℕ) → many + last ≡ 27 → IsRow first last (blank_row many first last)
unfolding blank_row
blank_is_row zero first last all = omega (arith, all)
blank_is_row (suc many) first last all = (refl, refl, blank_is_row many first (suc last) (omega (arith, all)))

pub blank_are_rows : (many first : ℕ) → many + first ≡ 27 → AreRows many first (blank_rows many first)
unfolding blank_rows
blank_are_rows zero first all = refl
blank_are_rows (suc many) first all =
    (blank_row (suc many) first first, blank_rows many (suc first), refl, blank_is_row (suc many) first first all, blank_are_rows many (suc first) (omega (arith, all)))

row_is_blank : (many first last : ℕ) → many + last ≡ 27 → first ≤ last → AllByRecursion IsBlank (blank_row many first last)
unfolding blank_row
row_is_blank zero first last all up = tt
row_is_blank (suc many) first last all up =
    ((refl, record { ordered = up; within = omega (arith, all) }), row_is_blank many first (suc last) (omega (arith, all)) (omega (arith, up)))

rows_are_blank : (many first : ℕ) → many + first ≡ 27 → All IsBlank (blank_rows many first)
unfolding blank_rows
rows_are_blank zero first all = All-from_recursion IsBlank [] tt
rows_are_blank (suc many) first all =
    All-append IsBlank (blank_row (suc many) first first) (blank_rows many (suc first)) (All-from_recursion IsBlank (blank_row (suc many) first first) (row_is_blank (suc many) first first all (omega arith)))
    (rows_are_blank many (suc first) (omega (arith, all)))

row_has : (many first from last : ℕ) → from ≤ last → last < from + many → Contains (blank_row many first from) (blank first last)
unfolding blank_row
row_has zero first from last up below = absurd (omega (arith, up, below))
row_has (suc many) first from last up below = elim (cases_lt from last) [
  | inl more ↦
      let later = row_has many first (suc from) last more (omega (arith, below)) in
      (suc later.0, omega (arith, later.1), later.2)
  | inr upto ↦ (0, omega arith, ap (blank first) (let same : from ≡ last = omega (arith, up, upto) in same))
]

rows_have : (many from first last : ℕ) → many + from ≡ 27 → from ≤ first → first ≤ last → last < 27 → Contains (blank_rows many from) (blank first last)
unfolding blank_rows
rows_have zero from first last all up ordered within = absurd (omega (arith, all, up, ordered, within))
rows_have (suc many) from first last all up ordered within = elim (cases_lt from first) [
  | inl more ↦ Contains-append_right (blank_row (suc many) from from) (blank_rows many (suc from)) (blank first last) (rows_have many (suc from) first last (omega (arith, all)) more ordered within)
  | inr upto ↦
      let same : from ≡ first = omega (arith, up, upto) in
      Contains-append_left (blank_row (suc many) from from) (blank_rows many (suc from)) (blank first last)
      (subst (λ first. Contains (blank_row (suc many) from from) (blank first last)) same (row_has (suc many) from from last (omega (arith, ordered, same)) (omega (arith, all, within))))
]

pub blank_all : (spans : List Span) → spans ≡ blank_rows 27 0 → All IsBlank spans
blank_all spans is = subst (All IsBlank) (sym is) (rows_are_blank 27 0 refl)

pub blank_each : (spans : List Span) → spans ≡ blank_rows 27 0 → (first last : ℕ) → first ≤ last → last < 27 → Contains spans (blank first last)
blank_each spans is first last ordered within = subst (λ all. Contains all (blank first last)) (sym is) (rows_have 27 0 first last refl (omega arith) ordered within)
