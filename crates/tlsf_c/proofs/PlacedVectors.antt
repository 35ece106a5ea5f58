-- What fronts and figures tell, and which block a front means, on rows whose words were reckoned outside: the size in units
-- times 65,536 and the slot, times the odd number, and the address.
use Rattle.std.proofs.Common.{◌≡◌, ◌≢◌, ℕ, ◌+◌, ◌∷◌, [], refl, arith, Some, None, Ok, Err}
use Rattle.std.specs.Prelude.{option_and_then}
use Rattle.tlsf_class.specs.Classes.{low, class, need}
use Rattle.tlsf_class.specs.Rounding.{rounded, round}
use Rattle.tlsf_heap.specs.declared.refusal.Refusal.TheVariants.{BadPointer, ZeroSize}
use Rattle.tlsf_heap.specs.Content.{Content, blocks_of}
use Rattle.tlsf_heap.specs.Pointer.{block_size_ptr}
use Rattle.tlsf_c.specs.declared.placed_pool.PlacedPool.{PlacedPool}
use Rattle.tlsf_c.specs.FreeFigures.{free_bytes, entry_bytes, IsBelowClass}
use Rattle.tlsf_c.specs.Fronts.{front, told_slot, told_size}
use Rattle.tlsf_c.specs.PlacedPools.{IsAt}
use Rattle.tlsf_c.specs.PlacedHeaps.{told_block, malloc_with_front}
use Rattle.tlsf_c.proofs.EntriesMoved.{vacant}

-- 112 bytes with slot 3 at address 4,112
size_112 : told_size 3366696039589512271 4112 ≡ 112
size_112 = refl

slot_3 : told_slot 3366696039589512271 4112 ≡ 3
slot_3 = refl

-- the greatest size and slot, at the address 2^64 less 32
size_greatest : told_size 17114066217715042230 18446744073709551584 ≡ 1073741808
size_greatest = refl

slot_greatest : told_slot 17114066217715042230 18446744073709551584 ≡ 65534
slot_greatest = refl

-- the same word at the next unit tells another size, and so does one that is one higher
size_elsewhere : told_size 3366696039589512271 4128 ≢ 112
size_elsewhere = λ e. omega (arith, e)

size_changed : told_size 3366696039589512272 4112 ≢ 112
size_changed = λ e. omega (arith, e)

-- a heap of 1,024 bytes: the block of slot 3, and a free one
abbrev rows : Content ℕ
rows = record {
  records = 4;
  pools = record { base = 0; bytes = 1024; blocks = record { place = 0; size = 112; owner = Some 3 } ∷ record { place = 112; size = 912; owner = None } ∷ [] } ∷ [];
  lists = [];
}

-- its bytes begin at address 4,104, so its first block has the address 4,112
abbrev pool : PlacedPool
pool = record { first = 4112; reach = 1016; place = 0; number = 0; owner = 0 }

at_first : IsAt pool 0 4112
at_first = record { has = (omega arith, omega arith); address_is = refl }

live_row : block_size_ptr (told_block 0 4112 3366696039589512271) rows ≡ Ok 112
live_row = refl

-- the word means no block in another place
stale_row : block_size_ptr (told_block 112 4112 3366696039589512271) rows ≡ Err BadPointer
stale_row = refl

no_byte : malloc_with_front 0 0 rows ≡ Err ZeroSize
no_byte = refl

-- the free block has the bytes of the pool but those of the live one
free_912 : free_bytes (blocks_of rows.pools) ≡ 912
free_912 = refl

entry_1024 : entry_bytes pool ≡ 1024
entry_1024 = refl

entry_0 : entry_bytes vacant ≡ 0
entry_0 = refl

-- A class has the sizes from 3,968 to 4,016 bytes: where the lists serve 3,968, no free block has more than 4,016.
below_4032 : IsBelowClass 4016 (option_and_then need (round (3968 + 1)))
unfolding low need rounded
below_4032 = refl

near_4000 : class (3960 + front) ≡ class (4008 + front)
unfolding low class
near_4000 = refl
