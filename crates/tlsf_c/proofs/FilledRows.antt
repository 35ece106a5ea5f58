-- The rows that pass a test are put into a room, one after the other.
use Rattle.std.proofs.Common.{◌≡◌, ℕ, ◌+◌, ◌≤◌, Bool, true, false, List, [], ◌∷◌, ◌++◌, length, map, slice_set, cond, refl, ap, sym, ◌∙◌, arith}
use Rattle.std.specs.Prelude.{filter}
use Rattle.std.proofs.lemmas.List.{append-nil, length-append, length-map, map_push}
use Rattle.std.proofs.lemmas.List.Elements.{filter-append}
use Rattle.tlsf_heap.specs.declared.row.Row.{Row as HeapRow}
use Rattle.tlsf_c.specs.Room.{put_over}
use Rattle.tlsf_c.proofs.RoomLemmas.{placed_none, placed_next}

module _ {R : Type 0} (test : HeapRow → Bool) (told : HeapRow → R) (room : List R) where
  -- of the rows passed, those that pass the test, as they are told, are put over what stood in the room
  pub record HasFilled (past : List HeapRow) (count : ℕ) (rows : List R) : Type 0 where
    pub count_is : count ≡ length (filter test past)
    pub few : count ≤ length past
    pub rows_are : rows ≡ put_over (map told (filter test past)) room

  pub filled_none : HasFilled [] 0 room
  filled_none = record { count_is = refl; few = omega arith; rows_are = sym (placed_none room) }

  -- one row more, which passes
  pub filled_next : (past : List HeapRow) (row : HeapRow) (count more : ℕ) (rows new : List R) → test row ≡ true → HasFilled past count rows → more ≡ count + 1 → new ≡ slice_set rows count (told row)
      → HasFilled (past ++ row ∷ []) more new
  filled_next past row count more rows new passes kept is put =
      let put_so_far : List HeapRow = filter test past in
      let now : filter test (past ++ row ∷ []) ≡ put_so_far ++ row ∷ [] = filter-append test past (row ∷ []) ∙ ap (λ (b : Bool). put_so_far ++ cond b (row ∷ []) []) passes in
      record {
        count_is = omega (arith, is, kept.count_is, ap length now, length-append put_so_far (row ∷ []));
        few = omega (arith, is, kept.few, length-append past (row ∷ []));
        rows_are = put ∙ ap (λ (r : List R). slice_set r count (told row)) kept.rows_are
            ∙ ap (λ (n : ℕ). slice_set (put_over (map told put_so_far) room) n (told row)) (kept.count_is ∙ sym (length-map put_so_far told))
            ∙ placed_next (map told put_so_far) (told row) room
            ∙ ap (λ (r : List R). put_over r room) (sym (map_push told put_so_far row) ∙ sym (ap (map told) now));
      }

  -- one that doesn't
  pub filled_still : (past : List HeapRow) (row : HeapRow) (count more : ℕ) (rows new : List R) → test row ≡ false → HasFilled past count rows → more ≡ count → new ≡ rows → HasFilled (past ++ row ∷ []) more new
  filled_still past row count more rows new fails kept is same =
      let put_so_far : List HeapRow = filter test past in
      let now : filter test (past ++ row ∷ []) ≡ put_so_far = filter-append test past (row ∷ []) ∙ ap (λ (b : Bool). put_so_far ++ cond b (row ∷ []) []) fails ∙ append-nil put_so_far in
      record {
        count_is = is ∙ kept.count_is ∙ sym (ap length now);
        few = omega (arith, is, kept.few, length-append past (row ∷ []));
        rows_are = same ∙ kept.rows_are ∙ sym (ap (λ (r : List HeapRow). put_over (map told r) room) now);
      }
