-- What an index holds, and how it changes where one key enters, leaves or moves.
use Rattle.std.proofs.Common.{sum_by, ◌≡◌, ℕ, Bool, cond, suc, ◌+◌, ◌≤◌, List, [], ◌∷◌, ◌++◌, take, drop, length, slice_index_or, slice_set, is_some, Option, Some, None, true, false, Less, arith, refl, sym, ap, ap₂, ◌∙◌, subst, inl, inr}
use Rattle.std.specs.Prelude.{◌==◌, option_map, option_to_list, Result, Ok, Err, IfOk, IfErr}
use Rattle.std.specs.List.{AllByRecursion, insert, remove}
use Rattle.std.specs.List.Sorted.{IsStrictlySortedBy}
use Rattle.std.specs.Ordering.{nat_cmp}
use Rattle.std.proofs.lemmas.Bool.{eqb-true, eq-eqb}
use Rattle.std.proofs.lemmas.Bool.Decides.{nat_tests}
use Rattle.std.proofs.lemmas.List.{length-append, get_or_default}
use Rattle.std.proofs.lemmas.List.Sums.{sum_by-append}
use Rattle.std.proofs.lemmas.Map.Keys.{IsStrictlyIncreasing-from_sorted}
use Rattle.tlsf_heap.specs.Pointer.{Pointer}
use Rattle.mtrace_replay.specs.Holding.{Holding}
use Rattle.mtrace_replay.specs.Entry.{Entry}
use Rattle.mtrace_replay.specs.declared.heap.key.Key.{Key}
use Rattle.mtrace_replay.specs.Keys.{Rows, Kept, KeepsRows, SetsRow}
use Rattle.mtrace_replay.specs.Key.{no_row, held_under, holding_of, all_held, IsRow, HaveRows, least_behind, RiseFrom, AreAbove}
use Rattle.mtrace_replay.specs.Search.{StandsAt, FitsAt, IsVacantAt, AreOthers}
use Rattle.mtrace_replay.specs.declared.heap.index.LookUp.{LookUp}
use Rattle.mtrace_replay.specs.Index.{addresses, held_at, held_bytes, AreInOrder, IsNewSlot, Indexed, IsFound, IsIndex}
use Rattle.mtrace_replay.proofs.Index.KeyLemmas.{fits_there, rise_remove, rise_insert, all_remove, all_insert, all_there}
use Rattle.mtrace_replay.specs.Arrange.{held_keys}
use Rattle.mtrace_replay.proofs.Index.ArrangeLemmas.{alone_held, alone_rows, rows_of_alone}
use Rattle.mtrace_replay.proofs.Index.GapLemmas.{set_is_put, put_back}
use Rattle.mtrace_replay.proofs.Index.HoldingLemmas.{held_split, held_remove, all_below, all_above, own_address}
use Rattle.mtrace_replay.proofs.Index.HeldChanges.{Changes, found_between, changes_was, changes_held, changes_count, above_from_bound, SameRows, same_rows, rows_added, same_held, rows_there, others_same, sets_on, fits_apart, held_put, changes_sum}

-- what is held changes at one address, and the keys stay in order with their rows
pub record Puts (kept now : Kept) (address : ℕ) (was is : Option Holding) : Type 0 where
  pub changes : Changes address was is (all_held kept.rows kept.keys) (all_held now.rows now.keys)
  pub rise : RiseFrom 0 now.keys
  pub rows : HaveRows now.rows now.keys

-- a key is put among others where its address fits, in place of what was held under that address
puts : (kept now : Kept) (others : List Key) (address to : ℕ) (was : Option Holding) (key : Key) → FitsAt others address to → key.address ≡ address → RiseFrom 0 others → SameRows kept.rows now.rows others
    → IsRow now.rows key.address key.block → now.keys ≡ insert others to key → AllByRecursion (λ (held : Holding). held.entry.addr ≡ address) (option_to_list was)
    → all_held kept.rows kept.keys ≡ all_held kept.rows (take to others) ++ (option_to_list was ++ all_held kept.rows (drop to others)) → Puts kept now address was (holding_of now.rows key)
puts kept now others address to was key fits its rise same row is was_its parts = record {
  changes = record {
    before = all_held kept.rows (take to others);
    behind = all_held kept.rows (drop to others);
    below = all_below kept.rows address (take to others) fits.1;
    above = all_above kept.rows address (drop to others) fits.2;
    was_its = was_its;
    now_its = subst (λ a. AllByRecursion (λ (held : Holding). held.entry.addr ≡ a) (option_to_list (holding_of now.rows key))) its (own_address now.rows key);
    old_is = parts;
    new_is = ap (all_held now.rows) is ∙ held_put kept.rows now.rows others to key fits.0 same;
  };
  rise = subst (RiseFrom 0) (sym is) (rise_insert 0 others to key rise (subst (λ a. FitsAt others a to) (sym its) fits) (omega arith));
  rows = subst (HaveRows now.rows) (sym is) (all_insert (λ (k : Key). IsRow now.rows k.address k.block) others to key fits.0 row (rows_there kept.rows now.rows others same));
}

-- what is held by the key that is put for an entry
pub put_entry : (old now : Rows) (entry : Entry) (ptr : Pointer) → SetsRow ptr.slot entry old now → (key : Key) → key.address ≡ entry.addr → key.block ≡ Some ptr
    → (holding_of now key ≡ Some (record { entry = entry; ptr = ptr })) × IsRow now key.address key.block
put_entry old now entry ptr sets key its under = (
  ap₂ (λ address block. option_map (held_under address now) block) its under
      ∙ ap (λ (row : Entry). let held : Holding = record { entry = record { addr = entry.addr; size = row.size; line = row.line; at = row.at }; ptr = ptr } in Some held) (sets.is no_row),
  subst (λ block. IsRow now key.address block) (sym under) (sets.there, ap (λ (row : Entry). row.addr) (sets.is no_row) ∙ sym its),
)

-- a key of the address stands at the position
pub record IsKeyAt (kept : Kept) (address at : ℕ) (key : Key) : Type 0 where
  pub rise : RiseFrom 0 kept.keys
  pub have : HaveRows kept.rows kept.keys
  pub stands : StandsAt kept.keys address at
  pub there : key ≡ slice_index_or kept.keys at key

module _ (kept : Kept) (address at : ℕ) (key : Key) (is_at : IsKeyAt kept address at key) where
  others : List Key
  others = remove kept.keys at

  its : key.address ≡ address
  its = ap (λ (k : Key). k.address) is_at.there ∙ is_at.stands.1 key

  fits : FitsAt (remove kept.keys at) address at
  fits = fits_there address kept.keys at key is_at.rise is_at.stands

  pub row_there : IsRow kept.rows key.address key.block
  row_there = subst (λ (k : Key). IsRow kept.rows k.address k.block) (sym is_at.there) (all_there (λ (k : Key). IsRow kept.rows k.address k.block) kept.keys at key is_at.stands.0 is_at.have)

  kept_same : SameRows kept.rows kept.rows (remove kept.keys at)
  kept_same = same_rows kept.rows (remove kept.keys at) (all_remove (λ (k : Key). IsRow kept.rows k.address k.block) kept.keys at is_at.have)

  was_its : AllByRecursion (λ (held : Holding). held.entry.addr ≡ address) (option_to_list (holding_of kept.rows key))
  was_its = subst (λ a. AllByRecursion (λ (held : Holding). held.entry.addr ≡ a) (option_to_list (holding_of kept.rows key))) its (own_address kept.rows key)

  parts : all_held kept.rows kept.keys ≡ all_held kept.rows (take at (remove kept.keys at)) ++ (option_to_list (holding_of kept.rows key) ++ all_held kept.rows (drop at (remove kept.keys at)))
  parts = ap (all_held kept.rows) (put_back kept.keys at key is_at.stands.0 is_at.there) ∙ held_put kept.rows kept.rows (remove kept.keys at) at key fits.0 kept_same

  puts_there : (now : Kept) (new : Key) → new.address ≡ address → SameRows kept.rows now.rows (remove kept.keys at) → IsRow now.rows new.address new.block → now.keys ≡ insert (remove kept.keys at) at new
      → Puts kept now address (holding_of kept.rows key) (holding_of now.rows new)
  puts_there now new new_its same row is =
      puts kept now (remove kept.keys at) address at (holding_of kept.rows key) new fits new_its (rise_remove 0 kept.keys at is_at.rise) same row is was_its parts

  -- what is held under it
  pub held_there : held_at (all_held kept.rows kept.keys) address ≡ holding_of kept.rows key
  held_there =
      let same = puts_there kept key its kept_same row_there (put_back kept.keys at key is_at.stands.0 is_at.there) in
      changes_was address (holding_of kept.rows key) (holding_of kept.rows key) (all_held kept.rows kept.keys) (all_held kept.rows kept.keys) same.changes

  -- it is part of all that is held
  pub held_fewer : length (option_to_list (holding_of kept.rows key)) ≤ length (all_held kept.rows kept.keys)
  held_fewer = omega (
    arith,
    ap (length {A = Holding}) parts,
    length-append (all_held kept.rows (take at (remove kept.keys at))) (option_to_list (holding_of kept.rows key) ++ all_held kept.rows (drop at (remove kept.keys at))),
    length-append (option_to_list (holding_of kept.rows key)) (all_held kept.rows (drop at (remove kept.keys at))),
  )

  pub held_less : (f : Holding → ℕ) → sum_by f (option_to_list (holding_of kept.rows key)) ≤ sum_by f (all_held kept.rows kept.keys)
  held_less f = omega (
    arith,
    ap (sum_by f) parts,
    sum_by-append f (all_held kept.rows (take at (remove kept.keys at))) (option_to_list (holding_of kept.rows key) ++ all_held kept.rows (drop at (remove kept.keys at))),
    sum_by-append f (option_to_list (holding_of kept.rows key)) (all_held kept.rows (drop at (remove kept.keys at))),
  )

  -- it is vacated
  pub vacates : (now : Kept) (new : Key) → new.address ≡ address → new.block ≡ None → now.keys ≡ slice_set kept.keys at new → now.rows ≡ kept.rows → Puts kept now address (holding_of kept.rows key) None
  vacates now new new_its none is rows =
      subst (λ held. Puts kept now address (holding_of kept.rows key) held) (ap (option_map (held_under new.address now.rows)) none)
      (puts_there now new new_its (subst (λ (now_rows : Rows). SameRows kept.rows now_rows (remove kept.keys at)) (sym rows) kept_same)
      (subst (λ block. IsRow now.rows new.address block) (sym none) tt) (is ∙ set_is_put kept.keys at new is_at.stands.0))

  -- where it isn't held, the key is vacant
  pub vacant_there : held_at (all_held kept.rows kept.keys) address ≡ None → IsVacantAt kept.keys at
  vacant_there none = (is_at.stands.0, λ default. ap (λ (k : Key). k.block) (get_or_default kept.keys at default key is_at.stands.0 ∙ sym is_at.there) ∙ by_block key.block (sym held_there ∙ none))
    where
      by_block : (block : Option Pointer) → option_map (held_under key.address kept.rows) block ≡ None → block ≡ None
      by_block None is = refl
      by_block (Some ptr) is = absurd (cc)

-- where no key of the address stands
module _ (kept : Kept) (address at : ℕ) (fits : FitsAt kept.keys address at) where
  pub none_there : held_at (all_held kept.rows kept.keys) address ≡ None
  none_there =
      ap (λ all. held_at all address) (held_split kept.rows kept.keys at)
      ∙ found_between address (all_held kept.rows (take at kept.keys)) None (all_held kept.rows (drop at kept.keys)) (all_below kept.rows address (take at kept.keys) fits.1) (all_above kept.rows address (drop at kept.keys) fits.2) tt address
      ∙ ap (λ b. cond b None (held_at (all_held kept.rows (take at kept.keys) ++ all_held kept.rows (drop at kept.keys)) address)) (eq-eqb address address refl)

  pub none_removed : (other : ℕ) → held_at (all_held kept.rows kept.keys) other ≡ cond (address == other) None (held_at (all_held kept.rows kept.keys) other)
  none_removed other = by_test (address == other) refl
    where
      by_test : (b : Bool) → (address == other) ≡ b → held_at (all_held kept.rows kept.keys) other ≡ cond b None (held_at (all_held kept.rows kept.keys) other)
      by_test true is = subst (λ a. held_at (all_held kept.rows kept.keys) a ≡ None) (eqb-true address other is) none_there
      by_test false is = refl

-- an entry enters among others, in which all that was held still is
pub enters : (kept now : Kept) (others : List Key) (mid : Rows) (address to : ℕ) (entry : Entry) (ptr : Pointer) (new : Key) → AreOthers kept.keys others → RiseFrom 0 kept.keys → HaveRows kept.rows kept.keys → FitsAt others address to
    → KeepsRows kept.rows mid → entry.addr ≡ address → new.address ≡ entry.addr → new.block ≡ Some ptr → now.keys ≡ insert others to new → SetsRow ptr.slot entry mid now.rows
    → IsNewSlot ptr.slot address (all_held kept.rows kept.keys) → Puts kept now address None (Some (record { entry = entry; ptr = ptr }))
enters kept now others mid address to entry ptr new are rise have fits keeps entry_its new_its under is sets is_new =
    let put = put_entry mid now.rows entry ptr sets new new_its under in
    subst (λ held. Puts kept now address None held) put.0
    (puts kept now others address to None new fits (new_its ∙ entry_its) rise_others
    (others_same kept.rows now.rows ptr.slot address 0 entry others (sets_on kept.rows mid now.rows ptr.slot entry keeps sets) rise_others have_others (fits_apart address others to fits)
    (subst (IsNewSlot ptr.slot address) (sym held_others) is_new))
    put.1 is tt (sym held_others ∙ held_split kept.rows others to))
  where
    rise_others : RiseFrom 0 others
    rise_others = elim are [
      | inl same ↦ subst (RiseFrom 0) (sym same) rise
      | inr less ↦ subst (RiseFrom 0) (sym less.2) (rise_remove 0 kept.keys less.0 rise)
    ]

    have_others : HaveRows kept.rows others
    have_others = elim are [
      | inl same ↦ subst (HaveRows kept.rows) (sym same) have
      | inr less ↦ subst (HaveRows kept.rows) (sym less.2) (all_remove (λ (k : Key). IsRow kept.rows k.address k.block) kept.keys less.0 have)
    ]

    held_others : all_held kept.rows others ≡ all_held kept.rows kept.keys
    held_others = elim are [
      | inl same ↦ ap (all_held kept.rows) same
      | inr less ↦ ap (all_held kept.rows) less.2 ∙ held_remove kept.rows kept.keys less.0 less.1
    ]

-- an index that changed so is one
module _ (kept now : Kept) (address : ℕ) (was is : Option Holding) (puts : Puts kept now address was is) where
  pub puts_held : (q : ℕ) → held_at (all_held now.rows now.keys) q ≡ cond (address == q) is (held_at (all_held kept.rows kept.keys) q)
  puts_held = changes_held address was is (all_held kept.rows kept.keys) (all_held now.rows now.keys) puts.changes

  pub puts_count : length (all_held now.rows now.keys) + length (option_to_list was) ≡ length (all_held kept.rows kept.keys) + length (option_to_list is)
  puts_count = changes_count address was is (all_held kept.rows kept.keys) (all_held now.rows now.keys) puts.changes

  pub puts_sum : (f : Holding → ℕ) → sum_by f (all_held now.rows now.keys) + sum_by f (option_to_list was) ≡ sum_by f (all_held kept.rows kept.keys) + sum_by f (option_to_list is)
  puts_sum = changes_sum address was is (all_held kept.rows kept.keys) (all_held now.rows now.keys) puts.changes

  pub puts_keeps : (blocks bytes new_blocks new_bytes : ℕ) → IsIndex kept blocks bytes → length now.keys ≤ now.rows.room → now.rows.room ≡ kept.rows.room
      → new_blocks + length (option_to_list was) ≡ blocks + length (option_to_list is) → new_bytes + held_bytes (option_to_list was) ≡ bytes + held_bytes (option_to_list is)
      → IsIndex now new_blocks new_bytes
  puts_keeps blocks bytes new_blocks new_bytes index within room blocks_are bytes_are = record {
    rise = puts.rise;
    rows = puts.rows;
    within = within;
    few = omega (arith, room, index.few);
    blocks_are = omega (arith, blocks_are, index.blocks_are, puts_count);
    bytes_are = omega (arith, bytes_are, index.bytes_are, puts_sum (λ (held : Holding). held.entry.size));
  }

-- the same keys are held, among other vacant ones
module _ (kept now : Kept) (have : HaveRows kept.rows kept.keys) (alone : held_keys now.keys ≡ held_keys kept.keys) (keeps : KeepsRows kept.rows now.rows) where
  same : SameRows kept.rows now.rows now.keys
  same = rows_added kept.rows now.rows now.keys keeps (rows_of_alone kept.rows now.keys (subst (HaveRows kept.rows) (sym alone) (alone_rows kept.rows kept.keys have)))

  pub arranged_held : all_held now.rows now.keys ≡ all_held kept.rows kept.keys
  arranged_held = same_held kept.rows now.rows now.keys same ∙ sym (alone_held kept.rows now.keys) ∙ ap (all_held kept.rows) alone ∙ alone_held kept.rows kept.keys

  pub arranged_keeps : (blocks bytes : ℕ) → IsIndex kept blocks bytes → RiseFrom 0 now.keys → length now.keys ≤ now.rows.room → now.rows.room ≡ kept.rows.room → IsIndex now blocks bytes
  arranged_keeps blocks bytes index rise within room = record {
    rise = rise;
    rows = rows_there kept.rows now.rows now.keys same;
    within = within;
    few = omega (arith, room, index.few);
    blocks_are = index.blocks_are ∙ sym (ap (length {A = Holding}) arranged_held);
    bytes_are = index.bytes_are ∙ sym (ap held_bytes arranged_held);
  }

first_least : (rows : Rows) (address : ℕ) (keys : List Key) → AreAbove address keys → AllByRecursion (λ other. nat_cmp address other ≡ Less) (addresses (all_held rows keys))
first_least rows address [] above = tt
first_least rows address (key ∷ keys) above = one key.block (first_least rows address keys above.1)
  where
    one : (block : Option Pointer) → AllByRecursion (λ other. nat_cmp address other ≡ Less) (addresses (all_held rows keys))
        → AllByRecursion (λ other. nat_cmp address other ≡ Less) (addresses (option_to_list (option_map (held_under key.address rows) block) ++ all_held rows keys))
    one None rest = rest
    one (Some ptr) rest = (let higher = above.0 in grind (arith, nat_tests, higher), rest)

-- the addresses of what is held rise
rise_sorted : (rows : Rows) (bound : ℕ) (keys : List Key) → RiseFrom bound keys → IsStrictlySortedBy nat_cmp (addresses (all_held rows keys))
unfolding IsStrictlySortedBy
rise_sorted rows bound [] rise = tt
rise_sorted rows bound (key ∷ keys) rise = one key.block rise.1 (rise_sorted rows (least_behind key) keys rise.1)
  where
    one : (block : Option Pointer) → RiseFrom (cond (is_some block) (suc key.address) key.address) keys → IsStrictlySortedBy nat_cmp (addresses (all_held rows keys))
        → IsStrictlySortedBy nat_cmp (addresses (option_to_list (option_map (held_under key.address rows) block) ++ all_held rows keys))
    one None rise_rest rest = rest
    one (Some ptr) rise_rest rest = (first_least rows key.address keys (above_from_bound key.address keys rise_rest), rest)

pub index_in_order : (rows : Rows) (keys : List Key) → RiseFrom 0 keys → AreInOrder (all_held rows keys)
index_in_order rows keys rise = IsStrictlyIncreasing-from_sorted (addresses (all_held rows keys)) (rise_sorted rows 0 keys rise)

-- where an address was found in an index that has these keys
module _ (keys : List Key) (index : Indexed) (seen : keys ≡ index.keys) (found : LookUp) (is_found : IsFound index.keys found) (at : ℕ) where
  found_stands : found.position ≡ Ok at → StandsAt keys found.address at
  found_stands is = subst (λ all. StandsAt all found.address at) (sym seen) (subst (λ (position : Result ℕ ℕ). IfOk position (StandsAt index.keys found.address)) is is_found.held)

  pub found_fits : found.position ≡ Err at → FitsAt keys found.address at
  found_fits is = subst (λ all. FitsAt all found.address at) (sym seen) (subst (λ (position : Result ℕ ℕ). IfErr position (FitsAt index.keys found.address)) is is_found.absent)

-- the key that was read where an address was found
pub found_key : (kept : Kept) (index : Indexed) → kept.keys ≡ index.keys → (blocks bytes : ℕ) → IsIndex kept blocks bytes → (found : LookUp) → IsFound index.keys found
    → (at : ℕ) → found.position ≡ Ok at → (key : Key) → key ≡ slice_index_or kept.keys at key → IsKeyAt kept found.address at key
found_key kept index seen blocks bytes has found is_found at is key there = record {
  rise = has.rise;
  have = has.rows;
  stands = found_stands kept.keys index seen found is_found at is;
  there = there;
}
