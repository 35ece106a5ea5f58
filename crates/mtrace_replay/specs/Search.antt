-- Where an address stands among the keys of an index, and where it enters.
use Rattle.std.specs.Prelude.{◌≡◌, ◌⊎◌, ℕ, ◌+◌, ◌<◌, ◌≤◌, ◌^◌, List, length, take, drop, slice_index_or, None}
use Rattle.std.specs.List.{remove}
use Rattle.tlsf_heap.specs.Touches.{AtMost}
use Rattle.mtrace_replay.specs.declared.heap.key.Key.{Key}
use Rattle.mtrace_replay.specs.Key.{AreBelow, AreAbove}

-- the key there has the address, held or not, and the keys behind it have higher ones
abbrev pub StandsAt : List Key → ℕ → ℕ → Type 0
StandsAt keys address at = (at < length keys) × ((default : Key) → (slice_index_or keys at default).address ≡ address) × AreAbove address (drop (at + 1) keys)

-- the address is not held; in order of address it would stand there
abbrev pub FitsAt : List Key → ℕ → ℕ → Type 0
FitsAt keys address at = (at ≤ length keys) × AreBelow address (take at keys) × AreAbove address (drop at keys)

-- a search among this many made at most as many comparisons as their number has binary digits
abbrev pub Compares : ℕ → (before after : ℕ) → Type 0
Compares most before after = (digits : ℕ) → most < 2 ^ digits → AtMost digits before after

-- nothing is held there
abbrev pub IsVacantAt : List Key → ℕ → Type 0
IsVacantAt keys at = (at < length keys) × ((default : Key) → (slice_index_or keys at default).block ≡ None)

-- a vacant key, or the end where there is room
abbrev pub IsGap : List Key → (room at : ℕ) → Type 0
IsGap keys room at = ((at ≡ length keys) × (length keys < room)) ⊎ IsVacantAt keys at

-- the same keys, but for at most one vacant one
abbrev pub AreOthers : (old new : List Key) → Type 0
AreOthers old new = (new ≡ old) ⊎ ((at : ℕ) × IsVacantAt old at × (new ≡ remove old at))
