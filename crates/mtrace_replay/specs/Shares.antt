-- What each location holds and asked for, by its slot.
use Rattle.std.specs.Prelude.{◌≡◌, ℕ, suc, ◌+◌, ◌-◌, ◌*◌, ◌≤◌, ◌^◌, ◌==◌, ◌&&◌, ◌||◌, Bool, List, [], ◌∷◌, length, map, None, Some, slice_index_or, if◌then◌else◌}
use Rattle.std.specs.List.{All, sum_by}
use Rattle.mtrace_replay.specs.declared.held.count.Count.{Count}
use Rattle.mtrace_replay.specs.Calls.{Caller, no_calls, count_temporary, has_no_call, caller_of}
use Rattle.mtrace_replay.specs.declared.held.amount.Amount.{Amount}
use Rattle.mtrace_replay.specs.declared.ledger.shares.Share.{Share}
use Rattle.mtrace_replay.specs.declared.ledger.shares.When.{When}
use Rattle.mtrace_replay.specs.declared.ledger.shares.When.TheVariants.{Peak, End}
use Rattle.mtrace_replay.specs.Sites.{Origin, Site}

abbrev pub nothing : Amount
nothing = record { blocks = 0; bytes = 0 }

-- an amount with one block more of this size, and with one less
abbrev pub amount_more : Amount → ℕ → Amount
amount_more amount size = record { blocks = amount.blocks + 1; bytes = amount.bytes + size }

abbrev pub amount_less : Amount → ℕ → Amount
amount_less amount size = record { blocks = amount.blocks - 1; bytes = amount.bytes - size }

abbrev pub no_share : Share
no_share = record { now = nothing; before = nothing; changed = 0; count = no_calls }

-- what a share held at the mark
abbrev pub marked_in : ℕ → Share → Amount
marked_in mark share = if share.changed == mark then share.before else share.now

-- the shares by slot, the mark, and all calls in sum
pub record ByLocation : Type 0 where
  pub all : List Share
  pub mark : ℕ
  pub total : Count

-- what a slot has now, nothing behind the last
abbrev pub now_at : ByLocation → ℕ → Amount
now_at shares slot = (slice_index_or shares.all slot no_share).now

-- what a slot had at the mark
abbrev pub marked_at : ByLocation → ℕ → Amount
marked_at shares slot = marked_in shares.mark (slice_index_or shares.all slot no_share)

-- what a slot asked for
abbrev pub count_at : ByLocation → ℕ → Count
count_at shares slot = (slice_index_or shares.all slot no_share).count

-- the calls of all slots in sum
pub record IsSummed (all : List Share) (total : Count) : Type 0 where
  pub calls : sum_by (λ share. share.count.calls) all ≡ total.calls
  pub bytes : sum_by (λ share. share.count.bytes) all ≡ total.bytes
  pub temporary : sum_by (λ share. share.count.temporary) all ≡ total.temporary

-- no call has more bytes than fit in 64 bits
abbrev pub IsOfWords : Count → Type 0
IsOfWords count = count.bytes ≤ count.calls * 2 ^ 64

-- what the slots keep: none was changed behind a later mark, and all calls are summed
pub record AreKept (all : List Share) (mark : ℕ) (total : Count) : Type 0 where
  pub changed : All (λ share. share.changed ≤ mark) all
  pub summed : IsSummed all total
  pub words : IsOfWords total

-- what a slot has now, or had at the mark
abbrev pub amount_at : When → ByLocation → ℕ → Amount
amount_at Peak shares slot = marked_at shares slot
amount_at End shares slot = now_at shares slot

-- what a slot had at the mark, and has now
pub record Between : Type 0 where
  pub before : Amount
  pub now : Amount

abbrev pub between : ByLocation → ℕ → Between
between shares slot = record { before = marked_at shares slot; now = now_at shares slot }

-- neither the blocks nor their bytes have changed
abbrev pub is_unchanged : Between → Bool
is_unchanged one = one.before.blocks == one.now.blocks && (one.now.blocks == 0 || one.before.bytes == one.now.bytes)

-- one slot has this amount now, the others have what they had; and at the mark each had what it had
pub record Changes (slot : ℕ) (amount : Amount) (old new : ByLocation) : Type 0 where
  pub now : (other : ℕ) → now_at new other ≡ (if slot == other then amount else now_at old other)
  pub marked : (other : ℕ) → marked_at new other ≡ marked_at old other
  pub slots : length new.all ≡ length old.all
  pub mark : new.mark ≡ old.mark

-- no slot's amount has changed, neither now nor at the mark
pub record KeepsAmounts (old new : ByLocation) : Type 0 where
  pub now : (slot : ℕ) → now_at new slot ≡ now_at old slot
  pub marked : (slot : ℕ) → marked_at new slot ≡ marked_at old slot
  pub slots : length new.all ≡ length old.all
  pub mark : new.mark ≡ old.mark

-- one slot has this count now, the others have what they had
abbrev pub Counts : ℕ → Count → (old new : ByLocation) → Type 0
Counts slot count old new = (other : ℕ) → count_at new other ≡ (if slot == other then count else count_at old other)

-- one slot has one temporary call more, and so have all of them together
pub record CountsOne (slot : ℕ) (old new : ByLocation) : Type 0 where
  pub count : Counts slot (count_temporary (count_at old slot)) old new
  pub total : new.total ≡ count_temporary old.total

-- no slot's count of calls has changed, nor have all calls in sum
pub record KeepsCounts (old new : ByLocation) : Type 0 where
  pub now : (slot : ℕ) → count_at new slot ≡ count_at old slot
  pub total : new.total ≡ old.total

-- There may be more slots. No slot's amount has changed, neither now nor at the mark, nor has its count of calls.
pub record KeepsShares (old new : ByLocation) : Type 0 where
  pub now : (slot : ℕ) → now_at new slot ≡ now_at old slot
  pub marked : (slot : ℕ) → marked_at new slot ≡ marked_at old slot
  pub mark : new.mark ≡ old.mark
  pub counts : KeepsCounts old new

-- the mark is set at this line: each slot has at the mark what it has now
pub record Marks (line : ℕ) (old new : ByLocation) : Type 0 where
  pub now : (slot : ℕ) → now_at new slot ≡ now_at old slot
  pub marked : (slot : ℕ) → marked_at new slot ≡ now_at old slot
  pub mark : new.mark ≡ line
  pub counts : KeepsCounts old new

-- the lines without a location, and each location: their slots are 0 and those behind it
abbrev pub origins : List (List ℕ) → List Origin
origins locations = None ∷ map Some locations

-- a row of an origin, unless there is nothing of it, before others
abbrev pub with_row : {C R : Type 0} → (C → Bool) → (Origin → C → R) → Origin → C → List R → List R
with_row is_nothing row at amount rest = if is_nothing amount then rest else row at amount ∷ rest

-- the rows of origins, by what their slots have, of which the first is this one
abbrev pub rows_by : {C R : Type 0} → (C → Bool) → (Origin → C → R) → (ℕ → C) → List Origin → ℕ → List R
rows_by is_nothing row amounts [] slot = []
rows_by is_nothing row amounts (at ∷ rest) slot = with_row is_nothing row at (amounts slot) (rows_by is_nothing row amounts rest (suc slot))

-- whether no block is held, and the site of an origin by its amount
abbrev pub has_no_block : Amount → Bool
has_no_block amount = amount.blocks == 0

abbrev pub site_at : Origin → Amount → Site
site_at at amount = record { blocks = amount.blocks; bytes = amount.bytes; at = at }

-- the site of an origin, unless it has no block, before others
abbrev pub with_site : Origin → Amount → List Site → List Site
with_site at amount rest = with_row has_no_block site_at at amount rest

-- the sites of origins, by the amounts of their slots, of which the first is this one
abbrev pub sites_by : (ℕ → Amount) → List Origin → ℕ → List Site
sites_by amounts all slot = rows_by has_no_block site_at amounts all slot

-- the sites of the locations, in order of slot
abbrev pub sites_of : (ℕ → Amount) → List (List ℕ) → List Site
sites_of amounts locations = sites_by amounts (origins locations) 0

-- the site of an origin by what it has now
abbrev pub site_now : Origin → Between → Site
site_now at one = site_at at one.now

-- the sites that have changed since the mark, in order of slot
abbrev pub changes_of : (ℕ → Between) → List (List ℕ) → List Site
changes_of betweens locations = rows_by is_unchanged site_now betweens (origins locations) 0

-- the callers of the locations, in order of slot
abbrev pub callers_of : (ℕ → Count) → List (List ℕ) → List Caller
callers_of counts locations = rows_by has_no_call caller_of counts (origins locations) 0
