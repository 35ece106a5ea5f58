-- The keys and the rows of chunks.
use Rattle.std.proofs.Common.{◌≡◌, ℕ, zero, suc, ◌+◌, ◌-◌, ◌*◌, ◌/◌, ◌%◌, ◌<◌, ◌≤◌, List, [], ◌∷◌, ◌++◌, take, length, get_or, set, length-append, length-set, length-take, arith, refl, sym, ap, ◌∙◌, subst}
use Rattle.std.proofs.lemmas.List.{get_or-take, get_or_default, take-append-le, get_or-set_same, get_or-set_other}
use Rattle.std.proofs.lemmas.List.Concat.{flat_map-append}
use Rattle.mtrace_replay.specs.declared.heap.key.Key.{Key}
use Rattle.mtrace_replay.specs.Entry.{Entry}
use Rattle.mtrace_replay.specs.declared.heap.keys.Chunk.{Chunk}
use Rattle.mtrace_replay.specs.declared.heap.keys.Keys.TheInside.{Inside}
use Rattle.std.specs.Vec.{vec_capacity}
use Rattle.std.specs.Prelude.{min}
use Rattle.mtrace_replay.specs.Keys.{Rows, row_number, row_at, Kept, IsWholeChunk, AreWholeChunks, AreChunks, all_keys, all_rows, KeepsRows, SetsRow}
use Rattle.mtrace_replay.proofs.Index.Flat.{Each, flat_length, flat_at, flat_put, flat_same}

pub each_keys : (chunks : List Chunk) → AreWholeChunks chunks → Each (λ (c : Chunk). c.keys) chunks
each_keys [] whole = tt
each_keys (c ∷ chunks) whole = (whole.0.keys, each_keys chunks whole.1)

pub each_rows : (chunks : List Chunk) → AreWholeChunks chunks → Each (λ (c : Chunk). c.rows) chunks
each_rows [] whole = tt
each_rows (c ∷ chunks) whole = (whole.0.rows, each_rows chunks whole.1)

pub whole_at : (chunks : List Chunk) (q : ℕ) (e : Chunk) → AreWholeChunks chunks → q < length chunks → IsWholeChunk (get_or chunks q e)
whole_at [] q e whole within = absurd (omega (arith, within))
whole_at (c ∷ chunks) zero e whole within = whole.0
whole_at (c ∷ chunks) (suc q) e whole within = whole_at chunks q e whole.1 (omega (arith, within))

pub whole_push : (chunks : List Chunk) (new : Chunk) → AreWholeChunks chunks → IsWholeChunk new → AreWholeChunks (chunks ++ new ∷ [])
whole_push [] new whole is = (is, tt)
whole_push (c ∷ chunks) new whole is = (whole.0, whole_push chunks new whole.1 is)

-- a write below a length
pub take_put : {A : Type 0} → (n : ℕ) (xs : List A) (k : ℕ) (a : A) → take n (set xs k a) ≡ set (take n xs) k a
take_put zero xs k a = refl
take_put (suc n) [] k a = refl
take_put (suc n) (x ∷ xs) zero a = refl
take_put (suc n) (x ∷ xs) (suc k) a = ap (λ rest. x ∷ rest) (take_put n xs k a)

module _ (chunks : List Chunk) (whole : AreWholeChunks chunks) where
  pub rows_length : length (all_rows chunks) ≡ 64 * length chunks
  rows_length = flat_length (λ (c : Chunk). c.rows) chunks (each_rows chunks whole)

  pub keys_length : (n : ℕ) → n ≤ 64 * length chunks → length (take n (all_keys chunks)) ≡ n
  keys_length n used = let all = flat_length (λ (c : Chunk). c.keys) chunks (each_keys chunks whole) in omega (arith, length-take n (all_keys chunks), all, used)

  pub key_at : (n k : ℕ) (e : Chunk) (d : Key) → k < n → n ≤ 64 * length chunks → get_or (take n (all_keys chunks)) k d ≡ get_or (get_or chunks (k / 64) e).keys (k % 64) d
  key_at n k e d below used = get_or-take n (all_keys chunks) k d below
      ∙ flat_at (λ (c : Chunk). c.keys) chunks (k / 64) (k % 64) k e d (each_keys chunks whole) (omega (arith, below, used)) (omega arith) (omega arith)

  pub entry_at : (k : ℕ) (e : Chunk) (d : Entry) → k < 64 * length chunks → get_or (all_rows chunks) k d ≡ get_or (get_or chunks (k / 64) e).rows (k % 64) d
  entry_at k e d within =
      flat_at (λ (c : Chunk). c.rows) chunks (k / 64) (k % 64) k e d (each_rows chunks whole) (omega (arith, within)) (omega arith) (omega arith)

  -- a key is written
  pub key_put : (n k : ℕ) (e : Chunk) (key : Key) → k < n → n ≤ 64 * length chunks
      → let old : Chunk = get_or chunks (k / 64) e in
      take n (all_keys (set chunks (k / 64) (record { keys = set old.keys (k % 64) key; hints = old.hints; rows = old.rows }))) ≡ set (take n (all_keys chunks)) k key
  key_put n k e key below used =
      let old : Chunk = get_or chunks (k / 64) e in
      ap (take n) (flat_put (λ (c : Chunk). c.keys) chunks (k / 64) (k % 64) k e (record { keys = set old.keys (k % 64) key; hints = old.hints; rows = old.rows }) key (each_keys chunks whole)
      (omega (arith, below, used)) (omega arith) (omega arith) refl)
      ∙ take_put n (all_keys chunks) k key

-- what an index opened says of the value it is seen as
module _ (inside : Inside) (has : AreChunks inside.chunks.items (vec_capacity inside.chunks) inside.len inside.room inside.most) (now : Kept)
    (is : let seen : Kept = record { keys = take inside.len (all_keys inside.chunks.items); rows = record { entries = all_rows inside.chunks.items; room = inside.room } } in seen ≡ now) where
  abbrev pub chunks : List Chunk
  chunks = inside.chunks.items

  abbrev pub memory : ℕ
  memory = vec_capacity inside.chunks

  abbrev pub len : ℕ
  len = inside.len

  abbrev pub room : ℕ
  room = inside.room

  pub len_is : length now.keys ≡ len
  len_is = sym (ap (λ (k : Kept). length k.keys) is) ∙ keys_length chunks has.whole len has.used

  pub rows_are : length now.rows.entries ≡ 64 * length chunks
  rows_are = sym (ap (λ (k : Kept). length k.rows.entries) is) ∙ rows_length chunks has.whole

  pub key_read : (at : ℕ) (chunk : Chunk) (d e : Key) → at < length now.keys → chunk ≡ get_or chunks (at / 64) chunk → get_or chunk.keys (at % 64) e ≡ get_or now.keys at d
  key_read at chunk d e below from =
      let below_end : at < len = omega (arith, below, len_is) in
      get_or_default chunk.keys (at % 64) e d (subst (λ (c : Chunk). at % 64 < length c.keys) (sym from) (omega (arith, (whole_at chunks (at / 64) chunk has.whole (omega (arith, below_end, has.used))).keys)))
      ∙ ap (λ (c : Chunk). get_or c.keys (at % 64) d) from
      ∙ sym (key_at chunks has.whole len at chunk d below_end has.used)
      ∙ ap (λ (k : Kept). get_or k.keys at d) is

  pub row_read : (at : ℕ) (chunk : Chunk) (entry d : Entry) → at < length now.rows.entries → chunk ≡ get_or chunks (at / 64) chunk → entry ≡ get_or chunk.rows (at % 64) entry → entry ≡ get_or now.rows.entries at d
  row_read at chunk entry d below from there =
      let below_end : at < 64 * length chunks = omega (arith, below, rows_are) in
      there
      ∙ get_or_default chunk.rows (at % 64) entry d (subst (λ (c : Chunk). at % 64 < length c.rows) (sym from) (omega (arith, (whole_at chunks (at / 64) chunk has.whole (omega (arith, below_end))).rows)))
      ∙ ap (λ (c : Chunk). get_or c.rows (at % 64) d) from
      ∙ sym (entry_at chunks has.whole at chunk d below_end)
      ∙ ap (λ (k : Kept). get_or k.rows.entries at d) is

  pub key_written : (at : ℕ) (chunk : Chunk) (key : Key) → at < length now.keys → chunk ≡ get_or chunks (at / 64) chunk
      → take len (all_keys (set chunks (at / 64) (record { keys = set chunk.keys (at % 64) key; hints = chunk.hints; rows = chunk.rows }))) ≡ set now.keys at key
  key_written at chunk key below from =
      let below_end : at < len = omega (arith, below, len_is) in
      ap (λ (c : Chunk). take len (all_keys (set chunks (at / 64) (record { keys = set c.keys (at % 64) key; hints = c.hints; rows = c.rows })))) from
      ∙ key_put chunks has.whole len at chunk key below_end has.used
      ∙ ap (λ (k : Kept). set k.keys at key) is

  pub covers : (count n : ℕ) → n ≡ length chunks → (count / 64 + min 1 (count % 64) ≤ n → count ≤ length now.rows.entries) × (n < count / 64 + min 1 (count % 64) → length now.rows.entries < count)
  covers count n all = ((λ less. omega (arith, rows_are, less, all)), (λ more. omega (arith, rows_are, more, all)))

  -- one more chunk
  pub added_has : (new : Chunk) → IsWholeChunk new → AreChunks (chunks ++ new ∷ []) memory len room inside.most
  added_has new new_whole = record {
    whole = whole_push chunks new has.whole new_whole;
    used = omega (arith, has.used, length-append chunks (new ∷ []));
    within = has.within;
    fits = has.fits;
    reserved = has.reserved;
    few = has.few;
  }

  pub added_keys : (new : Chunk) → take len (all_keys (chunks ++ new ∷ [])) ≡ now.keys
  added_keys new =
      let all = flat_length (λ (c : Chunk). c.keys) chunks (each_keys chunks has.whole) in
      ap (take len) (flat_map-append (λ (c : Chunk). c.keys) chunks (new ∷ []))
      ∙ take-append-le len (all_keys chunks) (all_keys (new ∷ [])) (omega (arith, all, has.used))
      ∙ ap (λ (k : Kept). k.keys) is

  -- a row is written
  pub row_written : (at : ℕ) (chunk : Chunk) (entry : Entry) → at < length now.rows.entries → chunk ≡ get_or chunks (at / 64) chunk
      → all_rows (set chunks (at / 64) (record { keys = chunk.keys; hints = chunk.hints; rows = set chunk.rows (at % 64) entry })) ≡ set now.rows.entries at entry
  row_written at chunk entry below from =
      flat_put (λ (c : Chunk). c.rows) chunks (at / 64) (at % 64) at chunk (record { keys = chunk.keys; hints = chunk.hints; rows = set chunk.rows (at % 64) entry }) entry (each_rows chunks has.whole)
      (omega (arith, below, rows_are)) (omega arith) (omega arith) (ap (λ (c : Chunk). set c.rows (at % 64) entry) from)
      ∙ ap (λ (k : Kept). set k.rows.entries at entry) is

  -- what is not written stays
  pub rows_stay : (q : ℕ) (chunk new : Chunk) → q < length chunks → chunk ≡ get_or chunks q chunk → new.rows ≡ chunk.rows → (let rows : Rows = record { entries = all_rows (set chunks q new); room = room } in rows) ≡ now.rows
  rows_stay q chunk new below from same =
      ap (λ entries. let rows : Rows = record { entries = entries; room = room } in rows) (flat_same (λ (c : Chunk). c.rows) chunks q chunk new below (same ∙ ap (λ (c : Chunk). c.rows) from))
      ∙ ap (λ (k : Kept). k.rows) is

  pub keys_stay : (q : ℕ) (chunk new : Chunk) → q < length chunks → chunk ≡ get_or chunks q chunk → new.keys ≡ chunk.keys → take len (all_keys (set chunks q new)) ≡ now.keys
  keys_stay q chunk new below from same =
      ap (take len) (flat_same (λ (c : Chunk). c.keys) chunks q chunk new below (same ∙ ap (λ (c : Chunk). c.keys) from))
      ∙ ap (λ (k : Kept). k.keys) is

-- a row is written where others were added
pub sets_row : (slot number : ℕ) (entry : Entry) (old mid new : Rows) → KeepsRows old mid → slot < mid.room → number ≡ row_number mid slot → number < length mid.entries → new.room ≡ mid.room → new.entries ≡ set mid.entries number entry
    → SetsRow slot entry old new
sets_row slot number entry old mid new keeps within named below room is = record {
  room = room ∙ keeps.room;
  more = omega (arith, as_many, keeps.more);
  there = (omega (arith, room, within), omega (arith, same_number slot, named, below, as_many));
  is = λ default. read slot default ∙ ap (λ n. get_or (set mid.entries number entry) n default) (sym named) ∙ get_or-set_same mid.entries number entry default below;
  same = λ other default has differ.
      read other default
      ∙ get_or-set_other mid.entries number (row_number mid other) entry default (λ same. differ (omega (arith, same, named, within, has.0, keeps.room)))
      ∙ keeps.same other default has;
}
  where
    as_many : length new.entries ≡ length mid.entries
    as_many = ap (length {A = Entry}) is ∙ length-set mid.entries number entry

    same_number : (other : ℕ) → row_number new other ≡ row_number mid other
    same_number other = ap (λ n. n - suc other) room

    read : (other : ℕ) (default : Entry) → row_at new other default ≡ get_or (set mid.entries number entry) (row_number mid other) default
    read other default = ap (λ n. get_or new.entries n default) (same_number other) ∙ ap (λ all. get_or all (row_number mid other) default) is
