-- What a region is once a loan of a block's bytes has ended.
use Rattle.std.specs.Prelude.{◌≡◌, ℕ, List, length, Option, OnSome, ⊤}
use Rattle.std.specs.List.{refill}
use Rattle.std.specs.Borrow.{Lends, LendsSo, follows_so, MutBor, Array, Fml, u8}
use mathlib.Core.Option.{none}
use Rattle.tlsf_heap.specs.Content.{blocks_of, size_at}
use Rattle.tlsf_heap.specs.Pointer.{Pointer}
use Rattle.tlsf_heap.specs.Touches.{AtMost}
use Rattle.tlsf_region.specs.Region.{CountedRegion, IsUnchanged, Reads}
use Rattle.tlsf_region.specs.Bytes.{overwritten}
use Rattle.tlsf_region.specs.contracts.region.Region.{the_row}

-- bytes were lent to read
abbrev pub ends_read : MutBor CountedRegion → Fml
ends_read region = follows_so the_row the_row region.ghost_name none (λ _ _. ⊤) (Reads 1 region.now)

-- what was written over the bytes from the place on; there are as many bytes as before
abbrev pub written : ℕ → CountedRegion → List ℕ → CountedRegion
written place region last =
    record { content = region.content; touches = region.touches; rows = region.rows; bytes = refill (length region.bytes) region.bytes (overwritten place last region.bytes) }

-- the bytes from the place on were lent to write
abbrev pub lends_from : MutBor CountedRegion → ℕ → MutBor (List ℕ) → Fml
lends_from region place lent = Lends the_row (Array u8 0) region lent (written place region.now)

-- the bytes of the live block that the pointer names were lent to write, if it names one. Its heap was read. What was
-- written last, as long as the block, is over the block's bytes. No other byte changed
abbrev pub lends_block : MutBor CountedRegion → Pointer → Option (MutBor (List ℕ)) → Fml
lends_block region ptr lent =
    LendsSo the_row (Array u8 0) region lent (λ new last. OnSome lent (IsUnchanged region.now new × AtMost 1 region.now.touches new.touches
    × (length last ≡ size_at ptr.place (blocks_of region.now.content.pools) → new.bytes ≡ overwritten ptr.place last region.now.bytes))) (Reads 1 region.now)
