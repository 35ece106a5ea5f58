-- What is held under the keys of an index, by its rows.
use Rattle.std.proofs.Common.{◌≡◌, ℕ, zero, suc, ◌+◌, ◌<◌, ◌≤◌, true, cond, is_some, List, [], ◌∷◌, ◌++◌, take, drop, map, length, slice_index_or, Option, Some, None, arith, refl, sym, ap, ◌∙◌, subst}
use Rattle.std.specs.Prelude.{option_map, option_to_list}
use Rattle.std.specs.List.{AllByRecursion, remove}
use Rattle.std.proofs.lemmas.List.{append_assoc, drop_more, get_or_default}
use Rattle.tlsf_heap.specs.Pointer.{Pointer}
use Rattle.mtrace_replay.specs.Holding.{Holding}
use Rattle.mtrace_replay.specs.Entry.{Entry}
use Rattle.mtrace_replay.specs.declared.heap.key.Key.{Key}
use Rattle.mtrace_replay.specs.Keys.{Rows, row_number, row_at}
use Rattle.mtrace_replay.specs.Key.{no_row, held_under, holding_of, all_held, IsRow, HaveRows, AreBelow, AreAbove}
use Rattle.mtrace_replay.specs.Search.{IsVacantAt}
use Rattle.mtrace_replay.proofs.Index.KeyLemmas.{all_there}

module _ (rows : Rows) where
  -- where something is held under each key, as much is held as there are keys
  pub all_are_held : (keys : List Key) → ((k : ℕ) → k < length keys → (default : Key) → is_some (slice_index_or keys k default).block ≡ true) → length (all_held rows keys) ≡ length keys
  all_are_held [] all = refl
  all_are_held (key ∷ keys) all = one key.block (all 0 (omega arith) key) ∙ ap suc (all_are_held keys (λ k within default. all (suc k) (omega (arith, within)) default))
    where
      one : (block : Option Pointer) → is_some block ≡ true → length (option_to_list (option_map (held_under key.address rows) block) ++ all_held rows keys) ≡ suc (length (all_held rows keys))
      one (Some ptr) is = refl
      one None is = absurd (cc)

  -- no more is held than there are keys
  pub held_within : (keys : List Key) → length (all_held rows keys) ≤ length keys
  held_within [] = omega arith
  held_within (key ∷ keys) = one key.block (held_within keys)
    where
      one : (block : Option Pointer) → length (all_held rows keys) ≤ length keys → length (option_to_list (option_map (held_under key.address rows) block) ++ all_held rows keys) ≤ suc (length keys)
      one (Some ptr) most = omega (arith, most)
      one None most = omega (arith, most)

  -- a key under which nothing is held leaves
  pub held_remove : (keys : List Key) (at : ℕ) → IsVacantAt keys at → all_held rows (remove keys at) ≡ all_held rows keys
  held_remove [] at vacant = absurd (omega (arith, vacant.0))
  held_remove (key ∷ keys) zero vacant = sym (ap (λ block. option_to_list (option_map (held_under key.address rows) block) ++ all_held rows keys) (vacant.1 key))
  held_remove (key ∷ keys) (suc at) vacant = ap (λ all. option_to_list (holding_of rows key) ++ all) (held_remove keys at (omega (arith, vacant.0), vacant.1))

  pub held_split : (keys : List Key) (at : ℕ) → all_held rows keys ≡ all_held rows (take at keys) ++ all_held rows (drop at keys)
  held_split keys zero = refl
  held_split [] (suc at) = refl
  held_split (key ∷ keys) (suc at) =
      ap (λ all. option_to_list (holding_of rows key) ++ all) (held_split keys at)
      ∙ sym (append_assoc (option_to_list (holding_of rows key)) (all_held rows (take at keys)) (all_held rows (drop at keys)))

  -- what is held under keys below an address, or above it
  pub all_below : (address : ℕ) (keys : List Key) → AreBelow address keys → AllByRecursion (λ (held : Holding). held.entry.addr < address) (all_held rows keys)
  all_below address [] below = tt
  all_below address (key ∷ keys) below = one key.block below.0 (all_below address keys below.1)
    where
      one : (block : Option Pointer) → cond (is_some block) (suc key.address) key.address ≤ address → AllByRecursion (λ (held : Holding). held.entry.addr < address) (all_held rows keys)
          → AllByRecursion (λ (held : Holding). held.entry.addr < address) (option_to_list (option_map (held_under key.address rows) block) ++ all_held rows keys)
      one (Some ptr) less all = (omega (arith, less), all)
      one None less all = all

  pub all_above : (address : ℕ) (keys : List Key) → AreAbove address keys → AllByRecursion (λ (held : Holding). address < held.entry.addr) (all_held rows keys)
  all_above address [] above = tt
  all_above address (key ∷ keys) above = one key.block (all_above address keys above.1)
    where
      one : (block : Option Pointer) → AllByRecursion (λ (held : Holding). address < held.entry.addr) (all_held rows keys)
          → AllByRecursion (λ (held : Holding). address < held.entry.addr) (option_to_list (option_map (held_under key.address rows) block) ++ all_held rows keys)
      one (Some ptr) all = (above.0, all)
      one None all = all

  pub own_address : (key : Key) → AllByRecursion (λ (held : Holding). held.entry.addr ≡ key.address) (option_to_list (holding_of rows key))
  own_address key = one key.block
    where
      one : (block : Option Pointer) → AllByRecursion (λ (held : Holding). held.entry.addr ≡ key.address) (option_to_list (option_map (held_under key.address rows) block))
      one (Some ptr) = (refl, tt)
      one None = tt

  -- where something is held under a key, its row is there
  pub slot_there : (keys : List Key) (at : ℕ) (key : Key) (ptr : Pointer) → HaveRows rows keys → at < length keys → key ≡ slice_index_or keys at key → key.block ≡ Some ptr → IsRow rows key.address (Some ptr)
  slot_there keys at key ptr have within there is =
      subst (IsRow rows key.address) is (subst (λ (k : Key). IsRow rows k.address k.block) (sym there) (all_there (λ (k : Key). IsRow rows k.address k.block) keys at key within have))

  -- the entries from a key on: its row, or nothing, and those behind it
  pub next_held : (keys : List Key) (at : ℕ) (key : Key) (ptr : Pointer) (default : Entry) → HaveRows rows keys → at < length keys → key ≡ slice_index_or keys at key → key.block ≡ Some ptr
      → map (λ (holding : Holding). holding.entry) (all_held rows (drop at keys)) ≡ row_at rows ptr.slot default ∷ map (λ (holding : Holding). holding.entry) (all_held rows (drop (at + 1) keys))
  next_held keys at key ptr default have within there is =
      let row = slot_there keys at key ptr have within there is in
      let first : Entry = row_at rows ptr.slot no_row in
      ap (λ rest. map (λ (holding : Holding). holding.entry) (all_held rows rest)) (drop_more keys at key within ∙ ap (λ (k : Key). k ∷ drop (at + 1) keys) (sym there))
      ∙ ap (λ block. map (λ (holding : Holding). holding.entry) (option_to_list (option_map (held_under key.address rows) block) ++ all_held rows (drop (at + 1) keys))) is
      ∙ ap (λ address. let entry : Entry = record { addr = address; size = first.size; line = first.line; at = first.at } in entry ∷ map (λ (holding : Holding). holding.entry) (all_held rows (drop (at + 1) keys))) (sym row.1)
      ∙ ap (λ (entry : Entry). entry ∷ map (λ (holding : Holding). holding.entry) (all_held rows (drop (at + 1) keys))) (get_or_default rows.entries (row_number rows ptr.slot) no_row default row.0.1)

  pub next_vacant : (keys : List Key) (at : ℕ) (key : Key) → at < length keys → key ≡ slice_index_or keys at key → key.block ≡ None
      → map (λ (holding : Holding). holding.entry) (all_held rows (drop at keys)) ≡ map (λ (holding : Holding). holding.entry) (all_held rows (drop (at + 1) keys))
  next_vacant keys at key within there is =
      ap (λ rest. map (λ (holding : Holding). holding.entry) (all_held rows rest)) (drop_more keys at key within ∙ ap (λ (k : Key). k ∷ drop (at + 1) keys) (sym there))
      ∙ ap (λ block. map (λ (holding : Holding). holding.entry) (option_to_list (option_map (held_under key.address rows) block) ++ all_held rows (drop (at + 1) keys))) is
