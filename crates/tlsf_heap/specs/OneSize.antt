-- Runs that ask for blocks of one size alone, and hold no more of them at once than were told beforehand.
use Rattle.std.specs.Prelude.{◌≡◌, ◌≢◌, ℕ, ◌*◌, ◌<◌, ◌≤◌, ◌⊎◌, List, ◌∷◌, Some, None, IsTrue, ⊤}
use Rattle.tlsf_class.specs.Classes.{unit}
use Rattle.tlsf_class.specs.Rounding.{round}
use Rattle.tlsf_heap.specs.declared.request.Request.{Request}
use Rattle.tlsf_heap.specs.declared.request.Request.TheVariants.{AddPool, RemovePool, Malloc, Memalign, Realloc}
use Rattle.tlsf_heap.specs.declared.answer.Answer.{Answer}
use Rattle.tlsf_heap.specs.Content.{Content}
use Rattle.tlsf_heap.specs.Memalign.{is_alignment}
use Rattle.tlsf_heap.specs.Implied.{live_blocks}
use Rattle.tlsf_heap.specs.Within.{NamesLive}
use Rattle.tlsf_heap.specs.Run.{Run}

-- There are records for as many blocks of this size as have the bytes of the pool; or two for each of the `blocks`.
abbrev pub HasRecords : (blocks size pool records : ℕ) → Type 0
HasRecords blocks size pool records = (pool ≤ records * size) ⊎ (2 * blocks ≤ records)

-- a request for n bytes is for a block of this size, and finds fewer live blocks than `blocks`
pub record TakesOne {A : Type 0} (blocks size n : ℕ) (content : Content A) : Type 0 where
  pub few : live_blocks content < blocks
  pub rounds : round n ≡ Some size

-- A request is for a block of this size, and leaves at most `blocks` live ones. One for no bytes always passes, and so does one at a
-- bad alignment, or with a pointer that names no live block. An alignment is at most the unit, which each block has anyway. A block
-- that is live gets no other size. A request that adds or removes a pool never passes.
abbrev pub IsOfSize : (blocks size : ℕ) → Request → Content ℕ → Type 0
IsOfSize blocks size (AddPool base pool) content = ⊥
IsOfSize blocks size (RemovePool base) content = ⊥
IsOfSize blocks size (Malloc n) content = n ≢ 0 → TakesOne blocks size n content
IsOfSize blocks size (Memalign align n) content = IsTrue (is_alignment align) → n ≢ 0 → (align ≤ unit) × TakesOne blocks size n content
IsOfSize blocks size (Realloc None n) content = n ≢ 0 → TakesOne blocks size n content
IsOfSize blocks size (Realloc (Some pointer) n) content = NamesLive (Some pointer) content → n ≢ 0 → round n ≡ Some size
IsOfSize blocks size request content = ⊤

-- each request of the run is of this size, on the content that the one before left
abbrev pub StaysOfSize : (blocks size : ℕ) (lacks : Type 0) (requests : List Request) (answers : List Answer) (old new : Content ℕ) (before after : ℕ) → Run lacks requests answers old new before after → Type 0
StaysOfSize blocks size lacks (request ∷ requests) (answer ∷ answers) old new before after run =
    IsOfSize blocks size request old × StaysOfSize blocks size lacks requests answers run.0 new run.1 after run.5
StaysOfSize blocks size lacks requests answers old new before after run = ⊤
