-- A block that was asked for, with an alignment or none: what the heap has after it, whichever call was made.
use Rattle.std.proofs.Common.{◌≡◌, ◌≢◌, ℕ, ◌≤◌, Bool, true, false, ◌⊎◌, Option, Some, None, sym, ap, Ok}
use Rattle.std.specs.List.{Contains}
use Rattle.tlsf_class.specs.Classes.{greatest_size}
use Rattle.tlsf_class.proofs.RoundingLaws.{round-Some}
use Rattle.tlsf_heap.specs.Content.{Block, Content, blocks_of, is_free}
use Rattle.tlsf_heap.specs.Free.{is_live}
use Rattle.tlsf_heap.specs.Good.{IsGood}
use Rattle.tlsf_heap.specs.Bare.{renamed, renamed_given}
use Rattle.tlsf_heap.proofs.Content.BareSteps.{malloc-renamed}
use Rattle.tlsf_heap.proofs.Content.BareMemalign.{memalign-renamed}
use Rattle.tlsf_heap.proofs.Content.Given.{malloc_gave}
use Rattle.tlsf_heap.proofs.Content.MemalignCases.{memalign_given}
use Rattle.tlsf_heap.proofs.Good.StaysLive.{live_given, live_through_malloc, given_elsewhere}
use Rattle.tlsf_heap.proofs.Good.AlignedStaysLive.{live_aligned, live_through_memalign, aligned_elsewhere}
use Rattle.tlsf_heap.proofs.Good.LiveBlocks.{live_from_malloc, live_from_memalign}
use Rattle.tlsf_heap.proofs.Good.GivenSizes.{AreRounded, malloc_sized, memalign_sized}
use Rattle.mtrace_replay.specs.Moment.{asked_block}

-- the same place is given, or the refusal is the same, whatever live blocks are known by
pub asked-renamed : {A B : Type 0} (rename : A → B) (owner : A) (align : Option ℕ) (n : ℕ) (content : Content A)
    → asked_block (rename owner) align n (renamed rename content) ≡ renamed_given rename (asked_block owner align n content)
asked-renamed rename owner None n content = malloc-renamed rename owner n content
asked-renamed rename owner (Some align) n content = memalign-renamed rename owner align n content

-- the bytes are at most the greatest size
pub asked_small : {A : Type 0} (owner : A) (align : Option ℕ) (n : ℕ) (content : Content A) (given : ℕ × Content A) → asked_block owner align n content ≡ Ok given → n ≤ greatest_size
asked_small owner None n content given served = let gave = malloc_gave owner content n given served in (round-Some n gave.0 gave.2).most
asked_small owner (Some align) n content given served = let gave = memalign_given owner align n content given served in (round-Some n gave.0.asked gave.0.rounds).most

-- there are as many records
pub asked_records : {A : Type 0} (owner : A) (align : Option ℕ) (n : ℕ) (content : Content A) (given : ℕ × Content A) → asked_block owner align n content ≡ Ok given → given.1.records ≡ content.records
asked_records owner None n content given served = let gave = malloc_gave owner content n given served in sym (ap (λ (g : ℕ × Content _). g.1.records) gave.4)
asked_records owner (Some align) n content given served = let gave = memalign_given owner align n content given served in sym (ap (λ (g : ℕ × Content _). g.1.records) gave.1)

-- the block given is live
pub live_asked : {A : Type 0} (is_meant : A → Bool) (owner : A) (align : Option ℕ) (n place : ℕ) (content new : Content A) → IsGood content → asked_block owner align n content ≡ Ok (place, new) → is_meant owner ≡ true
    → is_live is_meant place (blocks_of new.pools) ≡ true
live_asked is_meant owner None n place content new good served meant = live_given is_meant owner n place content new good served meant
live_asked is_meant owner (Some align) n place content new good served meant = live_aligned is_meant owner align n content new place good served meant

-- a block that was live is live, and is another one
pub live_through_asked : {A : Type 0} (is_meant : A → Bool) (owner : A) (align : Option ℕ) (other n place : ℕ) (content new : Content A) → IsGood content → is_live is_meant other (blocks_of content.pools) ≡ true
    → asked_block owner align n content ≡ Ok (place, new) → is_live is_meant other (blocks_of new.pools) ≡ true
live_through_asked is_meant owner None other n place content new good live served = live_through_malloc is_meant owner other n place content new good live served
live_through_asked is_meant owner (Some align) other n place content new good live served = live_through_memalign is_meant owner align n content new place good served other live

pub asked_elsewhere : {A : Type 0} (is_meant : A → Bool) (owner : A) (align : Option ℕ) (other n place : ℕ) (content new : Content A) → IsGood content → is_live is_meant other (blocks_of content.pools) ≡ true
    → asked_block owner align n content ≡ Ok (place, new) → place ≢ other
asked_elsewhere is_meant owner None other n place content new good live served = given_elsewhere is_meant owner other n place content new good live served
asked_elsewhere is_meant owner (Some align) other n place content new good live served = aligned_elsewhere is_meant owner align n content new place good served other live

-- a live block was one before, or begins where one was given
pub live_from_asked : {A : Type 0} (owner : A) (align : Option ℕ) (n place : ℕ) (content new : Content A) (block : Block A) → asked_block owner align n content ≡ Ok (place, new) → Contains (blocks_of new.pools) block → is_free block ≡ false
    → Contains (blocks_of content.pools) block ⊎ (block.place ≡ place)
live_from_asked owner None n place content new block served = live_from_malloc owner n place content new block served
live_from_asked owner (Some align) n place content new block served = live_from_memalign owner align n place content new block served

-- the live block that begins where one was given has the bytes asked for, rounded up
pub asked_sized : {A : Type 0} (owner : A) (align : Option ℕ) (n : ℕ) (content : Content A) (given : ℕ × Content A) → IsGood content → asked_block owner align n content ≡ Ok given → AreRounded n given.0 given.1
asked_sized owner None n content given good served = malloc_sized owner n content given served
asked_sized owner (Some align) n content given good served = memalign_sized owner align n content given good served
