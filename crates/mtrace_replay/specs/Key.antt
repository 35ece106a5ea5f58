-- The keys of an index in order of address, and what is held under them, by rows.
use Rattle.std.specs.Prelude.{◌≡◌, ℕ, suc, ◌<◌, ◌≤◌, ⊤, List, [], ◌∷◌, ◌++◌, Option, Some, None, option_map, option_to_list, is_some, cond}
use Rattle.std.specs.List.{AllByRecursion}
use Rattle.tlsf_heap.specs.Pointer.{Pointer}
use Rattle.mtrace_replay.specs.Holding.{Holding}
use Rattle.mtrace_replay.specs.Entry.{Entry}
use Rattle.mtrace_replay.specs.Keys.{Rows, row_at, HasRow}
use Rattle.mtrace_replay.specs.declared.heap.key.Key.{Key}

-- stands in for a row that isn't there
abbrev pub no_row : Entry
no_row = record { addr = 0; size = 0; line = 0; at = None }

-- what the row of the block's slot says, under an address
abbrev pub held_under : ℕ → Rows → Pointer → Holding
held_under address rows ptr =
    let row : Entry = row_at rows ptr.slot no_row in
    record { entry = record { addr = address; size = row.size; line = row.line; at = row.at }; ptr = ptr }

-- what is held under a key
abbrev pub holding_of : Rows → Key → Option Holding
holding_of rows key = option_map (held_under key.address rows) key.block

-- what is held under the keys, in their order
abbrev pub all_held : Rows → List Key → List Holding
all_held rows [] = []
all_held rows (key ∷ keys) = option_to_list (holding_of rows key) ++ all_held rows keys

-- the row of a block that is held under the address is there, and has the address
abbrev pub IsRow : Rows → ℕ → Option Pointer → Type 0
IsRow rows address None = ⊤
IsRow rows address (Some ptr) = HasRow rows ptr.slot × ((row_at rows ptr.slot no_row).addr ≡ address)

abbrev pub HaveRows : Rows → List Key → Type 0
HaveRows rows keys = AllByRecursion (λ key. IsRow rows key.address key.block) keys

-- the least address that can be held behind a key: a vacant one may stand before its own address
abbrev pub least_behind : Key → ℕ
least_behind key = cond (is_some key.block) (suc key.address) key.address

-- the keys are in order of address, and none is below the bound
abbrev pub RiseFrom : ℕ → List Key → Type 0
RiseFrom bound [] = ⊤
RiseFrom bound (key ∷ keys) = (bound ≤ key.address) × RiseFrom (least_behind key) keys

-- this address may stand behind all of them, or before all of them
abbrev pub AreBelow : ℕ → List Key → Type 0
AreBelow address keys = AllByRecursion (λ key. least_behind key ≤ address) keys

abbrev pub AreAbove : ℕ → List Key → Type 0
AreAbove address keys = AllByRecursion (λ key. address < key.address) keys
