-- What calls answer a C program.
use Rattle.std.specs.Prelude.{◌≡◌, ◌≢◌, ◌==◌, ℕ, Option, Some, None, Result, Ok, if◌then◌else◌}
use Rattle.tlsf_heap.specs.declared.refusal.Refusal.{Refusal}
use Rattle.tlsf_heap.specs.Content.{Content}
use Rattle.tlsf_heap.specs.Counted.{Counted, IsUnchanged}
use Rattle.tlsf_heap.specs.Pointer.{Pointer}
use Rattle.tlsf_heap.specs.Served.{IsServed}
use Rattle.tlsf_c.specs.declared.block.Block.{Block}
use Rattle.tlsf_c.specs.Status.{status_of}

-- the place and the slot of a block
abbrev pub pointer_of : Block → Pointer
pointer_of block = record { place = block.place; slot = block.slot }

-- the call is done, or else nothing is changed
pub record Answers (call : Content ℕ → Result (Content ℕ) Refusal) (result : ℕ) (old new : Counted) : Type 0 where
  pub status : status_of (call old.content) ≡ result
  pub ok : result ≡ 0 → call old.content ≡ Ok new.content
  pub unchanged : result ≢ 0 → IsUnchanged old new

-- the call gives this block, or else nothing is changed, and what stood there stays
pub record AnswersBlock (call : ℕ → Content ℕ → Result (ℕ × Content ℕ) Refusal) (result : ℕ) (stood given : Block) (old new : Counted) : Type 0 where
  pub status : status_of (call given.slot old.content) ≡ result
  pub ok : result ≡ 0 → IsServed call (pointer_of given) old.content new.content
  pub unchanged : result ≢ 0 → IsUnchanged old new
  pub out : result ≢ 0 → given ≡ stood

-- what realloc gives: nothing where no byte was asked for, else the place and the slot
abbrev pub block_given : ℕ → ℕ → ℕ → Option (ℕ × ℕ)
block_given bytes place slot = if bytes == 0 then None else Some (place, slot)
