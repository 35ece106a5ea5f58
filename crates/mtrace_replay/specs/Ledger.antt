-- What a ledger holds, as the list of its entries in order of address.
use Rattle.std.specs.Prelude.{◌≡◌, ℕ, suc, ◌+◌, ◌<◌, ◌≤◌, ◌^◌, List, [], ◌∷◌, length, find, Option, None, Some, nat_lt, nat_eq, if◌then◌else◌, ◌==◌}
use Rattle.std.specs.List.{All, IsDistinct, sum_by}
use Rattle.std.specs.Map.{keys_of, values_of}
use Rattle.mtrace_replay.specs.Entry.{Entry}
use Rattle.mtrace_replay.specs.Locations.{location_of, HasLocation}
use Rattle.mtrace_replay.specs.Sites.{Site, AreTallied}
use Rattle.mtrace_replay.specs.declared.ledger.shares.When.{When}
use Rattle.mtrace_replay.specs.declared.ledger.shares.When.TheVariants.{Peak, End}
use Rattle.mtrace_replay.specs.Calls.{Called}
use Rattle.mtrace_replay.specs.Shares.{ByLocation, nothing, amount_less, now_at, marked_at, count_at, Changes, KeepsCounts, IsOfWords}
use Rattle.mtrace_replay.specs.declared.ledger.ledger.Kept.{Kept}

-- the entry of an address, by what is kept for it
abbrev pub entry_of : List (List ℕ) → ℕ × Kept → Entry
entry_of locations (address, held) = record { addr = address; size = held.size; line = held.line; at = location_of locations held.location }

-- an entry among others in order of address, before the first of them that isn't lower
abbrev pub put_in_order : Entry → List Entry → List Entry
put_in_order entry [] = entry ∷ []
put_in_order entry (first ∷ rest) = if nat_lt first.addr entry.addr then first ∷ put_in_order entry rest else entry ∷ (first ∷ rest)

-- the entries in order of address
abbrev pub in_order : List Entry → List Entry
in_order [] = []
in_order (entry ∷ rest) = put_in_order entry (in_order rest)

-- what is held under an address
abbrev pub entry_under : List Entry → ℕ → Option Entry
entry_under all address = find (λ entry. entry.addr == address) all

-- what is kept of an address: its size is a number of 64 bits, and its location is there
pub record IsKept (locations : List (List ℕ)) (held : Kept) : Type 0 where
  pub size : held.size < 2 ^ 64
  pub location : HasLocation locations held.location

-- what a ledger keeps: no address twice, and the sum of the sizes
pub record IsLedger (locations : List (List ℕ)) (held : List (ℕ × Kept)) (bytes : ℕ) : Type 0 where
  pub distinct : IsDistinct nat_eq (keys_of held)
  pub bytes_are : bytes ≡ sum_by (λ one. one.size) (values_of held)
  pub kept : All (IsKept locations) (values_of held)

-- the slot of what is kept, by the number of its location
abbrev pub slot_of : Option ℕ → ℕ
slot_of None = 0
slot_of (Some number) = suc number

-- a measure of what is kept in a slot, in sum
abbrev pub in_slot : (Kept → ℕ) → ℕ → List Kept → ℕ
in_slot measure slot all = sum_by (λ kept. if slot_of kept.location == slot then measure kept else 0) all

-- each slot has what is kept there, and had nothing at the mark where no location has it
pub record AreShared (locations : List (List ℕ)) (shares : ByLocation) (all : List Kept) : Type 0 where
  pub blocks : (slot : ℕ) → (now_at shares slot).blocks ≡ in_slot (λ kept. 1) slot all
  pub bytes : (slot : ℕ) → (now_at shares slot).bytes ≡ in_slot (λ kept. kept.size) slot all
  pub beyond : (slot : ℕ) → length locations < slot → marked_at shares slot ≡ nothing

-- A slot has at least as many calls as held blocks and temporary calls together, since a temporary call's block was released. So have
-- all slots together, where `many` addresses are held. No call has more bytes than fit in 64 bits. A slot behind those of the locations
-- has no call.
pub record AreCalled (locations : List (List ℕ)) (shares : ByLocation) (many : ℕ) : Type 0 where
  pub held : (slot : ℕ) → (now_at shares slot).blocks + (count_at shares slot).temporary ≤ (count_at shares slot).calls
  pub total : many + shares.total.temporary ≤ shares.total.calls
  pub words : (slot : ℕ) → IsOfWords (count_at shares slot)
  pub beyond : (slot : ℕ) → length locations < slot → (count_at shares slot).calls ≡ 0

-- what is kept is counted, in the share of its location and in the sum of bytes
pub record IsCounted (kept : Kept) (shares : ByLocation) (sum : ℕ) : Type 0 where
  pub slot : slot_of kept.location < length shares.all
  pub blocks : 0 < (now_at shares (slot_of kept.location)).blocks
  pub bytes : kept.size ≤ (now_at shares (slot_of kept.location)).bytes
  pub size : kept.size ≤ sum

-- what is kept is counted no more
abbrev pub Forgets : Option Kept → (old new : ByLocation) (sum left : ℕ) → Type 0
Forgets None old new sum left = (new ≡ old) × (left ≡ sum)
Forgets (Some kept) old new sum left = Changes (slot_of kept.location) (amount_less (now_at old (slot_of kept.location)) kept.size) old new × (left + kept.size ≡ sum) × KeepsCounts old new

-- what is held in order of address, the sites at the mark, the mark, and who asked so far
pub record LedgerState : Type 0 where
  pub all : List Entry
  pub at_peak : List Site
  pub mark : ℕ
  pub called : Called

-- the mark is the same, and so are the sites at it
pub record KeepsPeak (old new : LedgerState) : Type 0 where
  pub at_peak : new.at_peak ≡ old.at_peak
  pub mark : new.mark ≡ old.mark

-- the entries that are held, or some that were held at the mark
abbrev pub AreEntries : When → List Entry → LedgerState → Type 0
AreEntries Peak entries state = AreTallied entries state.at_peak
AreEntries End entries state = entries ≡ state.all
