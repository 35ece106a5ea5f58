-- Calls on a heap with addresses, one after the other, as the contracts of these calls tell each, and bounds told beforehand.
use Rattle.std.specs.Prelude.{◌≡◌, ◌≢◌, ℕ, ◌+◌, ◌-◌, ◌*◌, ◌<◌, ◌≤◌, ◌==◌, min, List, [], ◌∷◌, Some, All, if◌then◌else◌, true, ⊤}
use Rattle.tlsf_class.specs.Classes.{unit}
use Rattle.tlsf_class.specs.Rounding.{round}
use Rattle.tlsf_heap.specs.Content.{Content, blocks_of}
use Rattle.tlsf_heap.specs.Counted.{Counted, IsUnchanged}
use Rattle.tlsf_heap.specs.Implied.{live_blocks}
use Rattle.tlsf_heap.specs.Memalign.{is_alignment}
use Rattle.tlsf_heap.specs.OneSize.{TakesOne}
use Rattle.tlsf_heap.specs.Room.{live_bytes}
use Rattle.tlsf_c.specs.Fronts.{front, told_size}
use Rattle.tlsf_c.specs.PlacedPools.{IsAlike}
use Rattle.tlsf_c.specs.PlacedHeaps.{IsLiveAt, IsGivenAt, IsRefusedAt, IsFreedAt, IsResizedAt, IsNotResized, malloc_with_front, memalign_with_front}
use Rattle.tlsf_c.specs.declared.placed_pool.PlacedPool.{PlacedPool}

-- a call of tlsf_placed_malloc, tlsf_placed_memalign, tlsf_placed_realloc or tlsf_placed_free
pub data Call : Type 0 where
  ask : (bytes : ℕ) → Call
  ask_aligned : (align bytes : ℕ) → Call
  ask_again : (address word bytes : ℕ) → Call
  give_back : (address word : ℕ) → Call

-- what it tells: an address, and the word in front of it or a number. Of tlsf_placed_free that is the status, and the address counts
-- for nothing
pub record Told : Type 0 where
  pub address : ℕ
  pub word : ℕ

-- what the contract of the call says of what it tells and leaves
abbrev pub CallStep : List PlacedPool → Call → Told → (old new : Counted) → Type 0
CallStep pools (ask bytes) told old new =
    (0 < told.address → IsGivenAt (λ slot. malloc_with_front slot bytes) bytes told.address pools old.content new.content)
    × (told.address ≡ 0 → IsRefusedAt (λ slot. malloc_with_front slot bytes) told.word old new)
    × (0 < told.address → IsLiveAt told.address told.word pools new.content)
CallStep pools (ask_aligned align bytes) told old new =
    (0 < told.address → IsGivenAt (λ slot. memalign_with_front align slot bytes) bytes told.address pools old.content new.content)
    × (told.address ≡ 0 → All (IsAlike align) pools → IsRefusedAt (λ slot. memalign_with_front align slot bytes) told.word old new)
    × (told.address ≡ 0 → IsUnchanged old new)
    × (0 < told.address → IsLiveAt told.address told.word pools new.content)
CallStep pools (ask_again address word bytes) told old new =
    (0 < told.address → IsResizedAt address word bytes told.address pools old.content new.content)
    × (told.address ≡ 0 → IsNotResized address word bytes told.word pools old new)
    × (0 < told.address → IsLiveAt told.address told.word pools new.content)
CallStep pools (give_back address word) told old new =
    (IsLiveAt address word pools old.content → told.word ≡ 0)
    × (told.word ≡ 0 → IsFreedAt address word pools old.content new.content)
    × (told.word ≢ 0 → IsUnchanged old new)

-- the call that C's realloc is: of no block it asks for one, and a block that is to have no bytes is given back
abbrev pub realloc_call : (address word bytes : ℕ) → Call
realloc_call address word bytes = if address == 0 then ask bytes else (if bytes == 0 then give_back address word else ask_again address word bytes)

-- the bytes to copy of a block that moved: as many as both have behind their fronts. Of one that stays there are none
abbrev pub copied_bytes : (address word address_now word_now : ℕ) → ℕ
copied_bytes address word address_now word_now = if address_now == address then 0 else min (told_size word address - front) (told_size word_now address_now - front)

-- Each call finds the content that the one before left, however often the table is touched and read in between. The pools stay.
abbrev pub CallRun : List PlacedPool → List Call → List Told → (old new : Content ℕ) → Type 0
CallRun pools [] [] old new = new ≡ old
CallRun pools (call ∷ calls) (told ∷ tolds) old new =
    (from : Counted) × (to : Counted) × (from.content ≡ old) × CallStep pools call told from to × CallRun pools calls tolds to.content new
CallRun pools calls tolds old new = ⊥

-- A call for n bytes asks for at most `largest`. It finds at most `blocks` live blocks. Their bytes, without a unit for each, are at
-- most `bytes`: no more than what was asked for, each rounded up to the unit.
pub record KeepsTo {A : Type 0} (blocks bytes largest n : ℕ) (content : Content A) : Type 0 where
  pub few : live_blocks content ≤ blocks
  pub small : live_bytes (blocks_of content.pools) ≤ bytes + live_blocks content * unit
  pub least : n ≤ largest

-- A call keeps to the bounds on the content that it finds. One for no bytes always does, and so does one at a bad alignment, or for
-- a block that isn't live. An alignment is at most the unit.
abbrev pub IsCallWithin : (blocks bytes largest : ℕ) → List PlacedPool → Call → Content ℕ → Type 0
IsCallWithin blocks bytes largest pools (ask n) content = n ≢ 0 → KeepsTo blocks bytes largest n content
IsCallWithin blocks bytes largest pools (ask_aligned align n) content = is_alignment align ≡ true → n ≢ 0 → (align ≤ unit) × KeepsTo blocks bytes largest n content
IsCallWithin blocks bytes largest pools (ask_again address word n) content = IsLiveAt address word pools content → KeepsTo blocks bytes largest n content
IsCallWithin blocks bytes largest pools (give_back address word) content = ⊤

-- each call of the run keeps to the bounds
abbrev pub CallsStayWithin : (blocks bytes largest : ℕ) (pools : List PlacedPool) (calls : List Call) (tolds : List Told) (old new : Content ℕ) → CallRun pools calls tolds old new → Type 0
CallsStayWithin blocks bytes largest pools (call ∷ calls) (told ∷ tolds) old new run =
    IsCallWithin blocks bytes largest pools call old × CallsStayWithin blocks bytes largest pools calls tolds run.1.content new run.4
CallsStayWithin blocks bytes largest pools calls tolds old new run = ⊤

-- A call is for a block that with its front has this size, and leaves at most `blocks` live ones. One for no bytes always passes, and
-- so does one at a bad alignment, or for a block that isn't live. An alignment is at most the unit.
abbrev pub IsCallOfSize : (blocks size : ℕ) → List PlacedPool → Call → Content ℕ → Type 0
IsCallOfSize blocks size pools (ask n) content = n ≢ 0 → TakesOne blocks size (n + front) content
IsCallOfSize blocks size pools (ask_aligned align n) content = is_alignment align ≡ true → n ≢ 0 → (align ≤ unit) × TakesOne blocks size (n + front) content
IsCallOfSize blocks size pools (ask_again address word n) content = IsLiveAt address word pools content → round (n + front) ≡ Some size
IsCallOfSize blocks size pools (give_back address word) content = ⊤

-- each call of the run is of this size
abbrev pub CallsStayOfSize : (blocks size : ℕ) (pools : List PlacedPool) (calls : List Call) (tolds : List Told) (old new : Content ℕ) → CallRun pools calls tolds old new → Type 0
CallsStayOfSize blocks size pools (call ∷ calls) (told ∷ tolds) old new run =
    IsCallOfSize blocks size pools call old × CallsStayOfSize blocks size pools calls tolds run.1.content new run.4
CallsStayOfSize blocks size pools calls tolds old new run = ⊤

-- The call isn't refused, and tells an address: one for some bytes, also at an alignment; or of a live block.
abbrev pub IsServedCall : List PlacedPool → Call → Told → Content ℕ → Type 0
IsServedCall pools (ask n) told content = n ≢ 0 → 0 < told.address
IsServedCall pools (ask_aligned align n) told content = is_alignment align ≡ true → n ≢ 0 → 0 < told.address
IsServedCall pools (ask_again address word n) told content = IsLiveAt address word pools content → 0 < told.address
IsServedCall pools (give_back address word) told content = IsLiveAt address word pools content → told.word ≡ 0

-- so it is with each call of the run
abbrev pub AreServedCalls : (pools : List PlacedPool) (calls : List Call) (tolds : List Told) (old new : Content ℕ) → CallRun pools calls tolds old new → Type 0
AreServedCalls pools (call ∷ calls) (told ∷ tolds) old new run =
    IsServedCall pools call told old × AreServedCalls pools calls tolds run.1.content new run.4
AreServedCalls pools calls tolds old new run = ⊤
