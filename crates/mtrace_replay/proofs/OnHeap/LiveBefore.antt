-- A block that is live after a line was live before it, or is the one that the line was given.
use Rattle.std.proofs.Common.{◌≡◌, ◌⊎◌, ℕ, true, false, Option, Some, None, refl, inl, inr}
use Rattle.std.specs.Prelude.{Result, Ok, Err}
use Rattle.std.specs.List.{Contains}
use Rattle.tlsf_heap.specs.declared.refusal.Refusal.{Refusal}
use Rattle.tlsf_heap.specs.Content.{Block, blocks_of, is_free}
use Rattle.tlsf_heap.specs.Free.{free}
use Rattle.tlsf_heap.specs.Realloc.{realloc}
use Rattle.tlsf_heap.proofs.Good.LiveBlocks.{live_from_free, live_from_realloc, live_from_realloc_none}
use Rattle.mtrace_replay.specs.Started.{Bare, left_by}
use Rattle.mtrace_replay.specs.Moment.{ReadLine, Given, Moment, without, outcome, asked_size, asked_block, Act, idle, give, take, move, plan, answered, moved, done}
use Rattle.mtrace_replay.specs.Entry.{Entry}
use Rattle.mtrace_replay.proofs.OnHeap.AskedBlock.{live_from_asked}

-- the block was live in the content, or begins where one was given
abbrev pub HasStood : Bare → Option Given → Block (Unit {0}) → Type 0
HasStood content gave block = Contains (blocks_of content.pools) block ⊎ ((given : Given) × (gave ≡ Some given) × (block.place ≡ given.place))

abbrev pub StoodIn : Bare → Moment → Type 0
StoodIn content moment = (block : Block (Unit {0})) → Contains (blocks_of moment.content.pools) block → is_free block ≡ false → HasStood content moment.given block

module _ (content : Bare) where
  stood_without : (place : ℕ) (block : Block (Unit {0})) → Contains (blocks_of (without place content).pools) block → is_free block ≡ false → Contains (blocks_of content.pools) block
  stood_without place block has live = by_answer (free (λ owner. true) place content) refl has
    where
      by_answer : (answer : Result Bare Refusal) → free (λ owner. true) place content ≡ answer → Contains (blocks_of (left_by content answer).pools) block → Contains (blocks_of content.pools) block
      by_answer (Ok new) is there = live_from_free (λ owner. true) place content new block is there live
      by_answer (Err refusal) is there = there

  module _ (entry : Entry) where
    -- a block that begins where one was given
    given_there : (place : ℕ) (block : Block (Unit {0})) → Contains (blocks_of content.pools) block ⊎ (block.place ≡ place) → HasStood content (Some (record { entry = entry; place = place })) block
    given_there place block (inl stood) = inl stood
    given_there place block (inr here) = inr (record { entry = entry; place = place }, refl, here)

    stood_answered : (align : Option ℕ) (answer : Result (ℕ × Bare) Refusal) → asked_block tt align (asked_size entry.size) content ≡ answer → StoodIn content (answered entry content answer)
    stood_answered align (Ok (place, new)) is block has live = given_there place block (live_from_asked tt align (asked_size entry.size) place content new block is has live)
    stood_answered align (Err refusal) is block has live = inl has

    stood_moved : (old from : ℕ) (answer : Result (Option (ℕ × Unit {0}) × Bare) Refusal) → realloc (λ one other. true) tt (Some (from, tt)) (asked_size entry.size) content ≡ answer
        → StoodIn content (moved old from entry content answer)
    stood_moved old from (Ok (Some (place, owner), new)) is block has live =
        given_there place block (live_from_realloc (λ one other. true) tt tt from (asked_size entry.size) content block place owner new is has live)
    stood_moved old from (Ok (None, new)) is block has live = inl (live_from_realloc_none (λ one other. true) tt tt from (asked_size entry.size) content block new is has live)
    stood_moved old from (Err refusal) is block has live = inl (stood_without from block has live)

  stood_done : (act : Act) → StoodIn content (done act content)
  stood_done idle block has live = inl has
  stood_done (give entry align) block has live = stood_answered entry align _ refl block has live
  stood_done (take address place) block has live = inl (stood_without place block has live)
  stood_done (move old place entry) block has live = stood_moved entry old place _ refl block has live

pub stood_outcome : (content : Bare) (number : ℕ) (line : ReadLine) (pending : Option ℕ) (held : ℕ → Option Given) → StoodIn content (outcome number line pending held content)
stood_outcome content number line pending held block has live = stood_done content (plan number line pending held).act block has live
