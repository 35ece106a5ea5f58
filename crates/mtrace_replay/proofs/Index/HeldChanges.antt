-- What an index holds changes at one address, where one key does.
use Rattle.std.proofs.Common.{sum_by, ◌≡◌, ◌≢◌, ℕ, zero, Bool, cond, suc, ◌+◌, ◌<◌, ◌≤◌, List, [], ◌∷◌, ◌++◌, take, drop, length, is_some, Option, Some, None, true, false, arith, refl, sym, ap, ap₂, ◌∙◌, subst, inl, inr}
use Rattle.std.specs.Prelude.{◌==◌, option_map, option_to_list}
use Rattle.std.specs.List.{AllByRecursion, insert}
use Rattle.std.proofs.lemmas.Bool.{cases_Bool, eqb-true, eq-eqb}
use Rattle.std.proofs.lemmas.Bool.Decides.{nat_tests}
use Rattle.std.proofs.lemmas.List.{length-append, append_assoc}
use Rattle.std.proofs.lemmas.List.Sums.{sum_by-append}
use Rattle.tlsf_heap.specs.Pointer.{Pointer}
use Rattle.mtrace_replay.specs.Holding.{Holding}
use Rattle.mtrace_replay.specs.Entry.{Entry}
use Rattle.mtrace_replay.specs.declared.heap.key.Key.{Key}
use Rattle.mtrace_replay.specs.Keys.{Rows, row_at, HasRow, KeepsRows, SetsRow}
use Rattle.mtrace_replay.specs.Key.{no_row, held_under, holding_of, all_held, IsRow, HaveRows, least_behind, RiseFrom, AreAbove}
use Rattle.mtrace_replay.specs.Search.{FitsAt}
use Rattle.mtrace_replay.specs.Index.{held_at, IsNewSlot}
use Rattle.mtrace_replay.proofs.Index.KeyLemmas.{above_all}
use Rattle.mtrace_replay.proofs.Index.HoldingLemmas.{all_above}

-- what is held changes at one address, from `was` to `now`; before it stand lower addresses, behind it higher ones
pub record Changes (address : ℕ) (was now : Option Holding) (old new : List Holding) : Type 0 where
  pub before : List Holding
  pub behind : List Holding
  pub below : AllByRecursion (λ (held : Holding). held.entry.addr < address) before
  pub above : AllByRecursion (λ (held : Holding). address < held.entry.addr) behind
  pub was_its : AllByRecursion (λ (held : Holding). held.entry.addr ≡ address) (option_to_list was)
  pub now_its : AllByRecursion (λ (held : Holding). held.entry.addr ≡ address) (option_to_list now)
  pub old_is : old ≡ before ++ (option_to_list was ++ behind)
  pub new_is : new ≡ before ++ (option_to_list now ++ behind)

-- nothing above an address is held under it
none_above : (address : ℕ) (behind : List Holding) → AllByRecursion (λ (held : Holding). address < held.entry.addr) behind → held_at behind address ≡ None
none_above address [] above = refl
none_above address (held ∷ behind) above =
    let other : (held.entry.addr == address) ≡ false = grind (arith, nat_tests) in
    ap (λ b. cond b (Some held) (held_at behind address)) other ∙ none_above address behind above.1

-- a look-up finds what stands between lower and higher addresses, or else looks among these
pub found_between : (address : ℕ) (before : List Holding) (now : Option Holding) (behind : List Holding)
    → AllByRecursion (λ (held : Holding). held.entry.addr < address) before → AllByRecursion (λ (held : Holding). address < held.entry.addr) behind
    → AllByRecursion (λ (held : Holding). held.entry.addr ≡ address) (option_to_list now)
    → (q : ℕ) → held_at (before ++ (option_to_list now ++ behind)) q ≡ cond (address == q) now (held_at (before ++ behind) q)
found_between address [] (Some held) behind below above its q = ap (λ a. cond (a == q) (Some held) (held_at behind q)) its.0
found_between address [] None behind below above its q = by_test (address == q) refl
  where
    by_test : (b : Bool) → (address == q) ≡ b → held_at behind q ≡ cond b None (held_at behind q)
    by_test true is =
        let same : address ≡ q = grind (arith, nat_tests) in
        subst (λ a. held_at behind a ≡ None) same (none_above address behind above)
    by_test false is = refl
found_between address (held ∷ before) now behind below above its q = by_test (held.entry.addr == q) refl (found_between address before now behind below.1 above its q)
  where
    by_test : (b : Bool) → (held.entry.addr == q) ≡ b → held_at (before ++ (option_to_list now ++ behind)) q ≡ cond (address == q) now (held_at (before ++ behind) q)
        → cond b (Some held) (held_at (before ++ (option_to_list now ++ behind)) q) ≡ cond (address == q) now (cond b (Some held) (held_at (before ++ behind) q))
    by_test true is later =
        let other : (address == q) ≡ false = grind (arith, nat_tests) in
        sym (ap (λ b. cond b now (Some held)) other)
    by_test false is later = later

module _ (address : ℕ) (was now : Option Holding) (old new : List Holding) (changes : Changes address was now old new) where
  same_address : (address == address) ≡ true
  same_address = grind (arith, nat_tests)

  old_at : (q : ℕ) → held_at old q ≡ cond (address == q) was (held_at (changes.before ++ changes.behind) q)
  old_at q = ap (λ all. held_at all q) changes.old_is ∙ found_between address changes.before was changes.behind changes.below changes.above changes.was_its q

  -- what was held under the address
  pub changes_was : held_at old address ≡ was
  changes_was = old_at address ∙ ap (λ b. cond b was (held_at (changes.before ++ changes.behind) address)) same_address

  -- what each look-up finds after it
  pub changes_held : (q : ℕ) → held_at new q ≡ cond (address == q) now (held_at old q)
  changes_held q = ap (λ all. held_at all q) changes.new_is ∙ found_between address changes.before now changes.behind changes.below changes.above changes.now_its q ∙ by_test (address == q) refl
    where
      by_test : (b : Bool) → (address == q) ≡ b → cond b now (held_at (changes.before ++ changes.behind) q) ≡ cond b now (held_at old q)
      by_test true is = refl
      by_test false is = sym (old_at q ∙ ap (λ b. cond b was (held_at (changes.before ++ changes.behind) q)) is)

  lengths : (o : Option Holding) → length (changes.before ++ (option_to_list o ++ changes.behind)) ≡ length changes.before + (length (option_to_list o) + length changes.behind)
  lengths o = length-append changes.before (option_to_list o ++ changes.behind) ∙ ap (λ n. length changes.before + n) (length-append (option_to_list o) changes.behind)

  sums : (f : Holding → ℕ) (o : Option Holding) → sum_by f (changes.before ++ (option_to_list o ++ changes.behind)) ≡ sum_by f changes.before + (sum_by f (option_to_list o) + sum_by f changes.behind)
  sums f o = sum_by-append f changes.before (option_to_list o ++ changes.behind) ∙ ap (λ n. sum_by f changes.before + n) (sum_by-append f (option_to_list o) changes.behind)

  -- how much is held after it, and of how many bytes
  pub changes_count : length new + length (option_to_list was) ≡ length old + length (option_to_list now)
  changes_count = omega (arith, ap (length {A = Holding}) changes.old_is, ap (length {A = Holding}) changes.new_is, lengths was, lengths now)

  pub changes_sum : (f : Holding → ℕ) → sum_by f new + sum_by f (option_to_list was) ≡ sum_by f old + sum_by f (option_to_list now)
  changes_sum f = omega (arith, ap (sum_by f) changes.old_is, ap (sum_by f) changes.new_is, sums f was, sums f now)

pub above_from_bound : (address : ℕ) (keys : List Key) → RiseFrom (suc address) keys → AreAbove address keys
above_from_bound address keys rise = above_all address (suc address) keys rise (omega arith)

-- the keys' rows are there still, and say the same
abbrev pub SameRows : (old new : Rows) → List Key → Type 0
SameRows old new keys = AllByRecursion (λ (key : Key). (holding_of new key ≡ holding_of old key) × IsRow new key.address key.block) keys

pub same_rows : (rows : Rows) (keys : List Key) → HaveRows rows keys → SameRows rows rows keys
same_rows rows [] have = tt
same_rows rows (key ∷ keys) have = ((refl, have.0), same_rows rows keys have.1)

module _ (old new : Rows) where
  same_row : (address : ℕ) (block : Option Pointer) → IsRow old address block → new.room ≡ old.room → length old.entries ≤ length new.entries
      → ((ptr : Pointer) → block ≡ Some ptr → HasRow old ptr.slot → row_at new ptr.slot no_row ≡ row_at old ptr.slot no_row)
      → (option_map (held_under address new) block ≡ option_map (held_under address old) block) × IsRow new address block
  same_row address None is room more same = (refl, tt)
  same_row address (Some ptr) is room more same =
      let row = same ptr refl is.0 in (
        ap (λ (row : Entry). let held : Holding = record { entry = record { addr = address; size = row.size; line = row.line; at = row.at }; ptr = ptr } in Some held) row,
        ((omega (arith, room, is.0.0), omega (arith, room, more, is.0.1)), ap (λ (row : Entry). row.addr) row ∙ is.1),
      )

  -- rows are added
  pub rows_added : (keys : List Key) → KeepsRows old new → HaveRows old keys → SameRows old new keys
  rows_added [] keeps have = tt
  rows_added (key ∷ keys) keeps have =
      (same_row key.address key.block have.0 keeps.room keeps.more (λ ptr is has. keeps.same ptr.slot no_row has), rows_added keys keeps have.1)

  pub same_held : (keys : List Key) → SameRows old new keys → all_held new keys ≡ all_held old keys
  same_held [] same = refl
  same_held (key ∷ keys) same = ap₂ (λ first rest. option_to_list first ++ rest) same.0.0 (same_held keys same.1)

  pub rows_there : (keys : List Key) → SameRows old new keys → HaveRows new keys
  rows_there [] same = tt
  rows_there (key ∷ keys) same = (same.0.1, rows_there keys same.1)

  -- a row is written at a slot that no key has but those of one address, which isn't held
  pub others_same : (slot address bound : ℕ) (entry : Entry) (keys : List Key) → SetsRow slot entry old new → RiseFrom bound keys → HaveRows old keys
      → AllByRecursion (λ (key : Key). is_some key.block ≡ true → key.address ≢ address) keys → IsNewSlot slot address (all_held old keys) → SameRows old new keys
  others_same slot address bound entry [] sets rise have apart is_new = tt
  others_same slot address bound entry (key ∷ keys) sets rise have apart is_new = (
    same_row key.address key.block have.0 sets.room sets.more (λ ptr is has. sets.same ptr.slot no_row has
        (is_new key.address (held_under key.address old ptr) (first ptr is) (apart.0 (ap is_some is)))),
    others_same slot address (least_behind key) entry keys sets rise.1 have.1 apart.1 (λ other held at. is_new other held (later other held at)),
  )
    where
      first : (ptr : Pointer) → key.block ≡ Some ptr → held_at (all_held old (key ∷ keys)) key.address ≡ Some (held_under key.address old ptr)
      first ptr is =
          ap (λ block. held_at (option_to_list (option_map (held_under key.address old) block) ++ all_held old keys) key.address) is
          ∙ ap (λ b. cond b (Some (held_under key.address old ptr)) (held_at (all_held old keys) key.address)) (eq-eqb key.address key.address refl)

      later : (other : ℕ) (held : Holding) → held_at (all_held old keys) other ≡ Some held → held_at (all_held old (key ∷ keys)) other ≡ Some held
      later other held at = one key.block rise.1
        where
          one : (block : Option Pointer) → RiseFrom (cond (is_some block) (suc key.address) key.address) keys → held_at (option_to_list (option_map (held_under key.address old) block) ++ all_held old keys) other ≡ Some held
          one None rise_rest = at
          one (Some ptr) rise_rest = elim (cases_Bool (key.address == other)) [
            | inl same ↦ absurd (let e : None ≡ Some held = sym (none_above key.address (all_held old keys) (all_above old key.address keys (above_from_bound key.address keys rise_rest)))
                ∙ ap (held_at (all_held old keys)) (eqb-true key.address other same) ∙ at in cc)
            | inr differ ↦ ap (λ b. cond b (Some (held_under key.address old ptr)) (held_at (all_held old keys) other)) differ ∙ at
          ]

-- a row is written where others were added
pub sets_on : (old mid now : Rows) (slot : ℕ) (entry : Entry) → KeepsRows old mid → SetsRow slot entry mid now → SetsRow slot entry old now
sets_on old mid now slot entry keeps sets = record {
  room = sets.room ∙ keeps.room;
  more = omega (arith, keeps.more, sets.more);
  there = sets.there;
  is = sets.is;
  same = λ other default has differ. sets.same other default (omega (arith, has.0, keeps.room), omega (arith, has.1, keeps.room, keeps.more)) differ ∙ keeps.same other default has;
}

-- no key among which an address fits is held under it
pub fits_apart : (address : ℕ) (keys : List Key) (at : ℕ) → FitsAt keys address at → AllByRecursion (λ (key : Key). is_some key.block ≡ true → key.address ≢ address) keys
fits_apart address [] at fits = tt
fits_apart address (key ∷ keys) zero fits = ((λ held same. let above = fits.2.0 in omega (arith, above, same)), fits_apart address keys zero (omega arith, tt, fits.2.1))
fits_apart address (key ∷ keys) (suc at) fits = (
  (λ held same. let below = subst (λ b. cond b (suc key.address) key.address ≤ address) held fits.1.0 in omega (arith, below, same)),
  fits_apart address keys at (omega (arith, fits.0), fits.1.1, fits.2),
)

-- a key put among others, where new rows keep the rows of the others
pub held_put : (old new : Rows) (others : List Key) (at : ℕ) (key : Key) → at ≤ length others → SameRows old new others
    → all_held new (insert others at key) ≡ all_held old (take at others) ++ (option_to_list (holding_of new key) ++ all_held old (drop at others))
held_put old new others zero key within same = ap (λ all. option_to_list (holding_of new key) ++ all) (same_held old new others same)
held_put old new [] (suc at) key within same = absurd (omega (arith, within))
held_put old new (first ∷ others) (suc at) key within same =
    ap₂ (λ held all. option_to_list held ++ all) same.0.0 (held_put old new others at key (omega (arith, within)) same.1)
    ∙ sym (append_assoc (option_to_list (holding_of old first)) (all_held old (take at others)) (option_to_list (holding_of new key) ++ all_held old (drop at others)))
