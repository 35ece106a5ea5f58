-- A walk over the rows from a cursor on: what it has passed, and what stays.
use Rattle.std.proofs.Common.{◌≡◌, List, [], ◌∷◌, ◌++◌, length, refl, sym, ap, ◌∙◌, append_assoc, arith}
use Rattle.std.proofs.lemmas.List.{append-nil, length-append}
use Rattle.tlsf_heap.specs.declared.cursor.Cursor.{Cursor}
use Rattle.tlsf_heap.specs.declared.row.Row.{Row}
use Rattle.tlsf_heap.specs.Counted.{Counted, IsUnchanged, Reads}
use Rattle.tlsf_heap.specs.Cursors.{rows_behind, is_at_row}
use Rattle.tlsf_heap.specs.Touches.{AtMost}

-- the rows passed and those to come are all that there were, and each was read by one touch
pub record HasPassed (start : Cursor) (old : Counted) (past : List Row) (here : Cursor) (now : Counted) : Type 0 where
  pub whole : past ++ rows_behind now.rows here ≡ rows_behind old.rows start
  pub stands : is_at_row now.rows here
  pub read : Reads (length past) old now

pub passed_none : (start : Cursor) (heap : Counted) → is_at_row heap.rows start → HasPassed start heap [] start heap
passed_none start heap stands = record {
  whole = refl;
  stands = stands;
  read = record { unchanged = record { content = refl; rows = refl }; bound = record { floor = omega arith; bound = omega arith } };
}

-- one row more
pub passed_next : {start here : Cursor} {old before now : Counted} {past : List Row} (row : Row) (next : Cursor) → HasPassed start old past here before
    → rows_behind before.rows here ≡ row ∷ rows_behind now.rows next → is_at_row now.rows next → IsUnchanged before now → AtMost 1 before.touches now.touches → HasPassed start old (past ++ row ∷ []) next now
passed_next {now = now} {past = past} row next kept given stands same touched = record {
  whole = append_assoc past (row ∷ []) (rows_behind now.rows next) ∙ ap (λ (rows : List Row). past ++ rows) (sym given) ∙ kept.whole;
  stands = stands;
  read = record {
    unchanged = record { content = same.content ∙ kept.read.unchanged.content; rows = same.rows ∙ kept.read.unchanged.rows };
    bound = record {
      floor = omega (arith, touched.floor, kept.read.bound.floor);
      bound = omega (arith, touched.bound, kept.read.bound.bound, length-append past (row ∷ []));
    };
  };
}

-- where none is to come, all were passed
pub passed_all : {start here : Cursor} {old now : Counted} {past : List Row} → HasPassed start old past here now → rows_behind now.rows here ≡ [] → past ≡ rows_behind old.rows start
passed_all {past = past} kept none = sym (append-nil past) ∙ ap (λ (rows : List Row). past ++ rows) (sym none) ∙ kept.whole
