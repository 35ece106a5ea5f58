-- Runs that stay within bounds told beforehand: of live blocks, of the bytes in them, and of what a request asks the lists for.
use Rattle.std.specs.Prelude.{◌≡◌, ◌≢◌, ◌==◌, ℕ, ◌+◌, ◌*◌, ◌<◌, ◌≤◌, List, ◌∷◌, length, Option, Some, None, IsTrue, ⊤}
use Rattle.tlsf_class.specs.Classes.{low, need}
use Rattle.tlsf_class.specs.Rounding.{round}
use Rattle.tlsf_heap.specs.declared.request.Request.{Request}
use Rattle.tlsf_heap.specs.declared.request.Request.TheVariants.{AddPool, RemovePool, Malloc, Memalign, Realloc}
use Rattle.tlsf_heap.specs.declared.answer.Answer.{Answer}
use Rattle.tlsf_heap.specs.declared.answer.Answer.TheVariants.{Refused}
use Rattle.tlsf_heap.specs.declared.refusal.Refusal.TheVariants.{NoFit, TableFull}
use Rattle.tlsf_heap.specs.Content.{Content, blocks_of}
use Rattle.tlsf_heap.specs.Memalign.{is_alignment, size_asked}
use Rattle.tlsf_heap.specs.Free.{is_live}
use Rattle.tlsf_heap.specs.Pointer.{Pointer}
use Rattle.tlsf_heap.specs.Implied.{live_blocks}
use Rattle.tlsf_heap.specs.Room.{live_bytes, pool_bytes}
use Rattle.tlsf_heap.specs.Sizing.{most_refusing}
use Rattle.tlsf_heap.specs.Run.{Run}

-- The bytes n are m when rounded up, and the lists are then asked for a block of `asked m` bytes. Each block of class c or above has
-- them, and the lowest size of class c is at most `size`.
pub record AsksAtMost (size : ℕ) (asked : ℕ → ℕ) (n : ℕ) : Type 0 where
  pub m : ℕ
  pub rounds : round n ≡ Some m
  pub c : ℕ
  pub needed : need (asked m) ≡ Some c
  pub sized : low c ≤ size

-- a request for n bytes, which asks for at most `size`, finds at most `blocks` live blocks, of at most `bytes` bytes together
pub record TakesWithin {A : Type 0} (blocks bytes size : ℕ) (asked : ℕ → ℕ) (n : ℕ) (content : Content A) : Type 0 where
  pub few : live_blocks content ≤ blocks
  pub small : live_bytes (blocks_of content.pools) ≤ bytes
  pub asks : AsksAtMost size asked n

-- the pointer of a realloc names a live block, or there is none
abbrev pub NamesLive : Option Pointer → Content ℕ → Type 0
NamesLive None content = ⊤
NamesLive (Some pointer) content = IsTrue (is_live (λ slot. slot == pointer.slot) pointer.place (blocks_of content.pools))

-- A request keeps to the bounds on the content that it finds. One for no bytes always does, and so does one at a bad alignment, or
-- with a pointer that names no live block. One that adds or removes a pool never does.
abbrev pub IsWithin : (blocks bytes size : ℕ) → Request → Content ℕ → Type 0
IsWithin blocks bytes size (AddPool base pool) content = ⊥
IsWithin blocks bytes size (RemovePool base) content = ⊥
IsWithin blocks bytes size (Malloc n) content = n ≢ 0 → TakesWithin blocks bytes size (λ m. m) n content
IsWithin blocks bytes size (Memalign align n) content = IsTrue (is_alignment align) → n ≢ 0 → TakesWithin blocks bytes size (size_asked align) n content
IsWithin blocks bytes size (Realloc pointer n) content = NamesLive pointer content → n ≢ 0 → TakesWithin blocks bytes size (λ m. m) n content
IsWithin blocks bytes size request content = ⊤

-- each request of the run keeps to the bounds, on the content that the one before left
abbrev pub StaysWithin : (blocks bytes size : ℕ) (lacks : Type 0) (requests : List Request) (answers : List Answer) (old new : Content ℕ) (before after : ℕ) → Run lacks requests answers old new before after → Type 0
StaysWithin blocks bytes size lacks (request ∷ requests) (answer ∷ answers) old new before after run =
    IsWithin blocks bytes size request old × StaysWithin blocks bytes size lacks requests answers run.0 new run.1 after run.5
StaysWithin blocks bytes size lacks requests answers old new before after run = ⊤

-- The pools have more bytes than may refuse. There are more records than two for each of the `blocks`, one for each pool, and
-- one.
pub record IsLargeEnough {A : Type 0} (blocks bytes size : ℕ) (content : Content A) : Type 0 where
  pub pools : most_refusing (length content.pools) blocks bytes size < pool_bytes content.pools
  pub records : 2 * blocks + length content.pools + 1 < content.records

-- the answer isn't that no block fits, nor that no record is left
abbrev pub IsNotFull : Answer → Type 0
IsNotFull answer = (answer ≢ Refused NoFit) × (answer ≢ Refused TableFull)
