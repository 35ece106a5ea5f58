-- What one line does to the heap and to what is held.
use Rattle.std.specs.Prelude.{◌≡◌, ◌≢◌, ℕ, ◌+◌, ◌<◌, ◌≤◌, Bool, true, false, List, length, map, find, option_map, Option, Some, None, ◌==◌, if◌then◌else◌, Result, Ok, Err, IfOk, IfErr, OnOk, OnErr}
use Rattle.tlsf_class.specs.Classes.{greatest_size}
use Rattle.tlsf_heap.specs.Content.{Content, blocks_of, size_at}
use Rattle.tlsf_heap.specs.Pools.{most_records}
use Rattle.tlsf_heap.specs.Free.{is_live}
use Rattle.tlsf_heap.specs.Bare.{bare}
use Rattle.tlsf_heap.specs.GoodSlots.{slot_times}
use Rattle.tlsf_heap.specs.declared.refusal.Refusal.{Refusal}
use Rattle.tlsf_heap.specs.declared.refusal.Refusal.TheVariants.{OutOfMemory}
use Rattle.tlsf_heap.specs.Pointer.{Pointer}
use Rattle.tlsf_heap.specs.Touches.{AtMost}
use Rattle.mtrace_replay.specs.declared.held.diagnostic.Diagnostic.{Diagnostic}
use Rattle.mtrace_replay.specs.Holding.{Holding}
use Rattle.mtrace_replay.specs.declared.heap.totals.Totals.{Totals}
use Rattle.mtrace_replay.specs.Started.{Bare}
use Rattle.mtrace_replay.specs.declared.heap.holder.Holder.{Holder}
use Rattle.mtrace_replay.specs.declared.heap.step.Block.{Block}
use Rattle.mtrace_replay.specs.Moment.{Given, Moment, Plan, carried_out, acts, without}
use Rattle.mtrace_replay.specs.History.{held_after}
use Rattle.mtrace_replay.specs.Index.{Indexed, held_at, LooksUp}

-- what is held, without slots
abbrev pub given_of : Holding → Given
given_of holding = record { entry = holding.entry; place = holding.ptr.place }

abbrev pub all_given : List Holding → List Given
all_given holdings = map given_of holdings

-- what an address is held under
abbrev pub held_given : List Given → ℕ → Option Given
held_given all address = find (λ given. given.entry.addr == address) all

-- where the block that a moment gave ends, in the heap after it
abbrev pub end_of : Moment → Option ℕ
end_of moment = option_map (λ given. given.place + size_at given.place (blocks_of moment.content.pools)) moment.given

-- the heap and what is held are as the moment says; these are its diagnostics, and the end of the block given
pub record Comes (content_old content_new : Bare) (old new : List Given) (diagnostics : List Diagnostic) (end : Option ℕ) (moment : Moment) : Type 0 where
  pub content_is : content_new ≡ moment.content
  pub held_is : (address : ℕ) → held_given new address ≡ held_after moment (held_given old) address
  pub diagnostics_are : diagnostics ≡ moment.diagnostics
  pub end_is : end ≡ end_of moment

-- the block of what is held is live in the heap, under its slot
abbrev pub IsLive : Holding → Content ℕ → Type 0
IsLive holding content = is_live (λ slot. slot == holding.ptr.slot) holding.ptr.place (blocks_of content.pools) ≡ true

-- what is held is held under this block
abbrev pub IsUnder : Pointer → Option Holding → Type 0
IsUnder ptr held = (holding : Holding) × (held ≡ Some holding) × (holding.ptr ≡ ptr)

-- Each block that is held is live, and was asked for with at most the greatest size. No two addresses are held under
-- one block. The heap has no more records than there can be.
pub record AreLive (holdings : List Holding) (content : Content ℕ) : Type 0 where
  pub live : (address : ℕ) (holding : Holding) → held_at holdings address ≡ Some holding → IsLive holding content
  pub apart : (one other : ℕ) (first second : Holding) → held_at holdings one ≡ Some first → held_at holdings other ≡ Some second
      → first.ptr.place ≡ second.ptr.place → one ≡ other
  pub small : (address : ℕ) (holding : Holding) → held_at holdings address ≡ Some holding → holding.entry.size ≤ greatest_size
  pub records : content.records ≤ most_records

-- what heaps of a type show: the content, how often the table was touched, and whether they may lack memory
pub record View (H : Type 0) : Type 1 where
  pub content : H → Content ℕ
  pub touches : H → ℕ
  pub Lacks : Type 0

abbrev pub view : {H : Type 0} → (H → Content ℕ) → (H → ℕ) → Type 0 → View H
view content touches lacks = record { content = content; touches = touches; Lacks = lacks }

-- What a line does, or a part of it. It answers where the block that was given ends, if there is one. Where no memory is
-- refused, the heap, what is held and the diagnostics are as the plan says, and what is held is live. Else what is held
-- is as it was. The heap has as many records as before. The look-ups are counted, and the touches are at most `most`:
-- none where nothing is asked of the heap.
pub record Replays {H E : Type 0} (heaps : View H) (looks most : ℕ) (planned : Plan) (diagnostics : List Diagnostic)
    (result : Result (Option ℕ) E) (old new : Holder H) : Type 0 where
  pub comes : IfOk result (λ end. Comes (bare (heaps.content old.heap)) (bare (heaps.content new.heap)) (all_given old.held.all) (all_given new.held.all) diagnostics end
      (carried_out planned (bare (heaps.content old.heap))))
  pub live : OnOk result (AreLive new.held.all (heaps.content new.heap))
  pub memory : OnErr result heaps.Lacks
  pub unchanged : OnErr result (new.held.all ≡ old.held.all)
  pub records : (heaps.content new.heap).records ≡ (heaps.content old.heap).records
  pub looked : LooksUp looks old.held new.held
  pub bound : AtMost most (heaps.touches old.heap) (heaps.touches new.heap)
  pub idle : acts planned.act ≡ false → heaps.touches new.heap ≡ heaps.touches old.heap

-- What a call leaves that asks the heap for a block, by the request under each slot. The block that it gives has a slot that no block
-- had, or an old one. Where the heap refuses, it stays as it is.
pub record AsksBlock {H A T : Type 0} (heaps : View H) (request : ℕ → Result (A × Content ℕ) Refusal)
    (answer : Pointer → A) (IsOld : ℕ → Type 0) (ptr_of : T → Pointer) (result : Result T Refusal) (old new : H) : Type 0 where
  pub ok : IfOk result (λ given. request (ptr_of given).slot ≡ Ok (answer (ptr_of given), heaps.content new))
  pub slot_below : IfOk result (λ given. (ptr_of given).slot < (heaps.content old).records)
  pub slot_new : IfOk result (λ given. (IsOld (ptr_of given).slot → ⊥) → slot_times (ptr_of given).slot (blocks_of (heaps.content old).pools) ≡ 0)
  pub refused : IfErr result (λ refusal. refusal ≢ OutOfMemory → (slot : ℕ) → request slot ≡ Err refusal)
  pub memory : IfErr result (λ refusal. refusal ≡ OutOfMemory → heaps.Lacks)
  pub unchanged : OnErr result (heaps.content new ≡ heaps.content old)

-- a call of that kind which also tells where the block ends, with at most this many touches
pub record GivesBlock {H A : Type 0} (heaps : View H) (most : ℕ) (request : ℕ → Result (A × Content ℕ) Refusal)
    (answer : Pointer → A) (IsOld : ℕ → Type 0) (result : Result Block Refusal) (old new : H) : Type 0 where
  pub asks : AsksBlock heaps request answer IsOld (λ given. given.ptr) result old new
  pub end : IfOk result (λ given. given.end ≡ given.ptr.place + size_at given.ptr.place (blocks_of (heaps.content new).pools))
  pub bound : AtMost most (heaps.touches old) (heaps.touches new)

-- what a call leaves that frees the block which an address is held under, and holds the address no more
pub record Takes {H E : Type 0} (heaps : View H) (most address : ℕ) (ptr : Pointer) (result : Result (Unit {0}) E) (old new : Holder H) : Type 0 where
  pub content : OnOk result (bare (heaps.content new.heap) ≡ without ptr.place (bare (heaps.content old.heap)))
  pub held : OnOk result ((other : ℕ) → held_at new.held.all other ≡ (if address == other then None else held_at old.held.all other))
  pub live : OnOk result (AreLive new.held.all (heaps.content new.heap))
  pub memory : OnErr result heaps.Lacks
  pub unchanged : OnErr result (new.held.all ≡ old.held.all)
  pub records : (heaps.content new.heap).records ≡ (heaps.content old.heap).records
  pub looked : LooksUp 0 old.held new.held
  pub bound : AtMost most (heaps.touches old.heap) (heaps.touches new.heap)

-- what a replay keeps. Until memory is refused what is held is live. Memory is refused only by a heap that lacks it.
-- There is at most as much held as there are records, and room for as much. No more lines were served, or refused,
-- than there were
pub record Keeps (held : Indexed) (content : Content ℕ) (totals : Totals) (may_lack : Type 0) (out_of_memory : Bool) : Type 0 where
  pub live : out_of_memory ≡ false → AreLive held.all content
  pub lacks : out_of_memory ≡ true → may_lack
  pub few : length held.all ≤ content.records
  pub room : held.room ≡ content.records
  pub served : totals.served ≤ totals.lines
  pub refused : totals.refused ≤ totals.lines
