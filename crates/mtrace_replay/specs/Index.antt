-- What is held, by address, as a list in order of address.
use Rattle.std.specs.Prelude.{◌≡◌, ◌≢◌, Bool, ℕ, ◌*◌, ◌<◌, ◌≤◌, ◌^◌, List, length, map, find, sum_by, Option, Some, ◌==◌, IfOk, IfErr}
use Rattle.std.specs.List.Sorted.{IsStrictlyIncreasing}
use Rattle.tlsf_heap.specs.Touches.{AtMost}
use Rattle.mtrace_replay.specs.Holding.{Holding}
use Rattle.mtrace_replay.specs.declared.heap.key.Key.{Key}
use Rattle.mtrace_replay.specs.declared.heap.index.LookUp.{LookUp}
use Rattle.mtrace_replay.specs.Keys.{Kept}
use Rattle.mtrace_replay.specs.Key.{all_held, HaveRows, RiseFrom}
use Rattle.mtrace_replay.specs.Search.{StandsAt, FitsAt}

-- what is held in order of address, the keys, how much can be held, and how many addresses were compared
pub record Indexed : Type 0 where
  pub all : List Holding
  pub keys : List Key
  pub room : ℕ
  pub comparisons : ℕ

-- the addresses, in order
abbrev pub addresses : List Holding → List ℕ
addresses holdings = map (λ holding. holding.entry.addr) holdings

-- what is held under an address
abbrev pub held_at : List Holding → ℕ → Option Holding
held_at holdings address = find (λ holding. holding.entry.addr == address) holdings

-- the addresses rise
abbrev pub AreInOrder : List Holding → Type 0
AreInOrder holdings = IsStrictlyIncreasing (addresses holdings)

-- the sum of the sizes held
abbrev pub held_bytes : List Holding → ℕ
held_bytes holdings = sum_by (λ holding. holding.entry.size) holdings

-- look-ups, this many: each compares at most as many addresses as the room has binary digits; the room stays
pub record LooksUp (times : ℕ) (old new : Indexed) : Type 0 where
  pub room : new.room ≡ old.room
  pub compared : (digits : ℕ) → old.room < 2 ^ digits → AtMost (times * digits) old.comparisons new.comparisons

-- the address stands at the key there, held or not, or else it would stand there
pub record IsFound (keys : List Key) (found : LookUp) : Type 0 where
  pub held : IfOk found.position (StandsAt keys found.address)
  pub absent : IfErr found.position (FitsAt keys found.address)

-- look-ups found where the address stands, and changed nothing
pub record FindsAddress (times wanted : ℕ) (answer : LookUp) (old new : Indexed) : Type 0 where
  pub found : IsFound old.keys answer
  pub address : answer.address ≡ wanted
  pub unchanged : new.all ≡ old.all
  pub keys : new.keys ≡ old.keys
  pub looked : LooksUp times old new

-- look-ups told whether this is so, and changed nothing
pub record TellsWhether (times : ℕ) (is_so answer : Bool) (old new : Indexed) : Type 0 where
  pub value : answer ≡ is_so
  pub unchanged : new.all ≡ old.all
  pub keys : new.keys ≡ old.keys
  pub looked : LooksUp times old new

-- the answer is how many there are, and they are few
pub record Counts (many answer : ℕ) : Type 0 where
  pub len : answer ≡ many
  pub small : answer < 2 ^ 63

-- no block that another address is held under has that slot
abbrev pub IsNewSlot : ℕ → ℕ → List Holding → Type 0
IsNewSlot slot address all = (other : ℕ) (holding : Holding) → held_at all other ≡ Some holding → other ≢ address → holding.ptr.slot ≢ slot

-- what an index keeps. The addresses of its keys rise. What is held has its rows. There are no more keys than room.
-- `blocks` is how much is held, and `bytes` the bytes asked for it
pub record IsIndex (kept : Kept) (blocks bytes : ℕ) : Type 0 where
  pub rise : RiseFrom 0 kept.keys
  pub rows : HaveRows kept.rows kept.keys
  pub within : length kept.keys ≤ kept.rows.room
  pub few : kept.rows.room < 2 ^ 32
  pub blocks_are : blocks ≡ length (all_held kept.rows kept.keys)
  pub bytes_are : bytes ≡ held_bytes (all_held kept.rows kept.keys)
