-- What a program holds of a heap with addresses, as its calls tell it, and numbers that it keeps to.
use Rattle.std.specs.Prelude.{◌≡◌, ◌≢◌, ◌⊎◌, ℕ, ◌+◌, ◌<◌, ◌≤◌, ◌==◌, List, [], ◌∷◌, All, AllPairs, Contains, length, Some, if◌then◌else◌, true, ⊤}
use Rattle.tlsf_class.specs.Classes.{unit}
use Rattle.tlsf_class.specs.Rounding.{round, rounded}
use Rattle.tlsf_heap.specs.Content.{Content}
use Rattle.tlsf_heap.specs.Memalign.{is_alignment}
use Rattle.tlsf_c.specs.Fronts.{front, told_size}
use Rattle.tlsf_c.specs.PlacedHeaps.{IsLiveAt}
use Rattle.tlsf_c.specs.PlacedRuns.{Call, ask, ask_aligned, ask_again, give_back, Told}
use Rattle.tlsf_c.specs.declared.placed_pool.PlacedPool.{PlacedPool}

-- a block that a program holds: its address, the word in front of it, and the bytes that were asked for
pub record Held : Type 0 where
  pub address : ℕ
  pub word : ℕ
  pub asked : ℕ

-- the blocks without the one at the address
abbrev pub without : ℕ → List Held → List Held
without address [] = []
without address (block ∷ held) = if block.address == address then held else block ∷ without address held

-- the block that was told, in front of the others
abbrev pub with_told : (asked : ℕ) → Told → List Held → List Held
with_told asked told held = record { address = told.address; word = told.word; asked = asked } ∷ held

-- what a program holds once a call told this. A refused call changes nothing
abbrev pub held_then : Call → Told → List Held → List Held
held_then (ask n) told held = if told.address == 0 then held else with_told n told held
held_then (ask_aligned align n) told held = if told.address == 0 then held else with_told n told held
held_then (ask_again address word n) told held = if told.address == 0 then held else with_told n told (without address held)
held_then (give_back address word) told held = if told.word == 0 then without address held else held

-- what it holds once all calls told this
abbrev pub held_after : List Call → List Told → List Held → List Held
held_after (call ∷ calls) (told ∷ tolds) held = held_after calls tolds (held_then call told held)
held_after calls tolds held = held

-- a block with this address and word is held
pub record Holds (address word : ℕ) (held : List Held) : Type 0 where
  pub block : Held
  pub has : Contains held block
  pub at : block.address ≡ address
  pub by : block.word ≡ word

-- a program resizes and gives back only what it holds
abbrev pub IsOwn : Call → List Held → Type 0
IsOwn (ask_again address word n) held = Holds address word held
IsOwn (give_back address word) held = Holds address word held
IsOwn call held = ⊤

-- so it is with each call
abbrev pub AreOwn : List Call → List Told → List Held → Type 0
AreOwn (call ∷ calls) (told ∷ tolds) held = IsOwn call held × AreOwn calls tolds (held_then call told held)
AreOwn calls tolds held = ⊤

-- the first block with the bytes asked for ends before the second one's front
abbrev pub EndsBefore : Held → Held → Type 0
EndsBefore one other = one.address + one.asked + front ≤ other.address

-- each block that is held is live by its address and its word, with at least the bytes asked for behind its front, and none overlaps another
pub record AreHeld (pools : List PlacedPool) (content : Content ℕ) (held : List Held) : Type 0 where
  pub live : All (λ block. IsLiveAt block.address block.word pools content) held
  pub long : All (λ block. block.asked + front ≤ told_size block.word block.address) held
  pub apart : AllPairs (λ one other. EndsBefore one other ⊎ EndsBefore other one) held

-- the bytes asked for, each rounded up to the unit
abbrev pub asked_bytes : List Held → ℕ
asked_bytes [] = 0
asked_bytes (block ∷ held) = rounded block.asked + asked_bytes held

-- a program that asks for n bytes holds at most `blocks` blocks, for which it asked for at most `bytes`, each rounded up; and n is at most
-- `largest`
pub record AsksWithin (blocks bytes largest n : ℕ) (held : List Held) : Type 0 where
  pub few : length held ≤ blocks
  pub small : asked_bytes held ≤ bytes
  pub least : n ≤ largest

-- A call keeps to the numbers. One for no bytes always does, and so does one at a bad alignment. An alignment is at most the unit.
abbrev pub KeepsToNumbers : (blocks bytes largest : ℕ) → Call → List Held → Type 0
KeepsToNumbers blocks bytes largest (ask n) held = n ≢ 0 → AsksWithin blocks bytes largest n held
KeepsToNumbers blocks bytes largest (ask_aligned align n) held = is_alignment align ≡ true → n ≢ 0 → (align ≤ unit) × AsksWithin blocks bytes largest n held
KeepsToNumbers blocks bytes largest (ask_again address word n) held = AsksWithin blocks bytes largest n held
KeepsToNumbers blocks bytes largest (give_back address word) held = ⊤

-- so it is with each call
abbrev pub AllKeepToNumbers : (blocks bytes largest : ℕ) → List Call → List Told → List Held → Type 0
AllKeepToNumbers blocks bytes largest (call ∷ calls) (told ∷ tolds) held = KeepsToNumbers blocks bytes largest call held × AllKeepToNumbers blocks bytes largest calls tolds (held_then call told held)
AllKeepToNumbers blocks bytes largest calls tolds held = ⊤

-- a request for n bytes is for a block of this size with its front, and its program holds fewer than `blocks`
pub record AsksOne (blocks size n : ℕ) (held : List Held) : Type 0 where
  pub few : length held < blocks
  pub rounds : round (n + front) ≡ Some size

-- A call is for a block that with its front has this size. One for no bytes always is, and so is one at a bad alignment. An alignment
-- is at most the unit.
abbrev pub KeepsToOneSize : (blocks size : ℕ) → Call → List Held → Type 0
KeepsToOneSize blocks size (ask n) held = n ≢ 0 → AsksOne blocks size n held
KeepsToOneSize blocks size (ask_aligned align n) held = is_alignment align ≡ true → n ≢ 0 → (align ≤ unit) × AsksOne blocks size n held
KeepsToOneSize blocks size (ask_again address word n) held = round (n + front) ≡ Some size
KeepsToOneSize blocks size (give_back address word) held = ⊤

-- so it is with each call
abbrev pub AllKeepToOneSize : (blocks size : ℕ) → List Call → List Told → List Held → Type 0
AllKeepToOneSize blocks size (call ∷ calls) (told ∷ tolds) held = KeepsToOneSize blocks size call held × AllKeepToOneSize blocks size calls tolds (held_then call told held)
AllKeepToOneSize blocks size calls tolds held = ⊤

-- the call tells an address, or of a block given back the status 0. One for no bytes may be refused, and so may one at a bad alignment
abbrev pub IsNoRefusal : Call → Told → Type 0
IsNoRefusal (ask n) told = n ≢ 0 → 0 < told.address
IsNoRefusal (ask_aligned align n) told = is_alignment align ≡ true → n ≢ 0 → 0 < told.address
IsNoRefusal (ask_again address word n) told = 0 < told.address
IsNoRefusal (give_back address word) told = told.word ≡ 0

-- so it is with each call
abbrev pub AreNoRefusals : List Call → List Told → Type 0
AreNoRefusals (call ∷ calls) (told ∷ tolds) = IsNoRefusal call told × AreNoRefusals calls tolds
AreNoRefusals calls tolds = ⊤
