-- A worked run of calls on a heap with addresses, by the definitions. The word was reckoned outside.
use Rattle.std.proofs.Common.{◌≡◌, ℕ, ◌+◌, ◌*◌, ◌∷◌, [], refl, arith, List, Option, Some, None, Result, Ok, Err, lit≤, lit<}
use Rattle.tlsf_class.specs.Classes.{class, need, low}
use Rattle.tlsf_class.specs.Rounding.{rounded}
use Rattle.tlsf_heap.specs.declared.refusal.Refusal.{Refusal}
use Rattle.tlsf_heap.specs.declared.refusal.Refusal.TheVariants.{NoFit}
use Rattle.tlsf_heap.specs.Content.{Content}
use Rattle.tlsf_heap.specs.Counted.{Counted}
use Rattle.tlsf_heap.specs.Free.{after_free}
use Rattle.tlsf_heap.specs.OwnClass.{malloc_or_own}
use Rattle.tlsf_heap.specs.Pointer.{realloc_ptr}
use Rattle.tlsf_heap.specs.Pools.{created, with_pool}
use Rattle.tlsf_heap.specs.Sizing.{class_size, sure_pool}
use Rattle.tlsf_c.specs.declared.placed_pool.PlacedPool.{PlacedPool}
use Rattle.tlsf_c.specs.PlacedHeaps.{IsLiveAt, IsGivenAt, malloc_with_front, memalign_with_front, told_block}
use Rattle.tlsf_c.specs.PlacedRuns.{Call, ask, ask_aligned, ask_again, give_back, Told, CallStep, CallRun, CallsStayWithin, realloc_call}
use Rattle.tlsf_c.specs.HeapPlaces.{ArePlacesOf}
use Rattle.tlsf_c.specs.PoolPlaces.{bytes_in}
use Rattle.tlsf_c.specs.SureMemory.{sure_memory, HasSureBytes}

-- one block of 100 bytes is 112 with its front, and a pool of 336 bytes is enough: as tlsf_sure_bytes reckons it
enough_row : (class_size 1 108 ≡ Some 112) × (sure_pool 1 (112 + 16) (Some 112) ≡ Some 336)
unfolding class need low rounded
enough_row = (refl, refl)

-- The numbers of 60 blocks of at most 1,040 bytes, over a control part of 368 bytes. C.md shows them. No memory is enough where the
-- largest request is none, or more records would be needed than a table has.
sure_row : sure_memory 368 60 (60 * 1040) 1040 ≡ Some 130872
unfolding class need low rounded
sure_row = refl

-- So memory of that many bytes at 4,096 has them. Behind control part and table its pool has 126,832 bytes: more than the sure ones.
sure_memory_row : HasSureBytes 4096 130872 368 60 (60 * 1040) 1040
sure_memory_row = record { begins = record { some = omega arith; in_units = refl }; part_in_units = refl; sure = 130872; sure_is = sure_row; has = omega arith }

places_row : ArePlacesOf 4096 130872 368 123 (record { table = 4464; pool = 8128; bytes = 126840 })
places_row = record { table_in_units = refl; table_behind = omega arith; table_near = omega arith; pool_behind = refl; bytes_are = refl }

pool_row : bytes_in 8128 126840 ≡ 126832
pool_row = refl

sure_for_none : sure_memory 368 1 16 0 ≡ None
sure_for_none = refl

sure_of_too_many : sure_memory 368 40000 16 16 ≡ None
unfolding class need low rounded
sure_of_too_many = refl

-- C's realloc of no block, to no bytes, and of a block to some
realloc_rows : (realloc_call 0 7 100 ≡ ask 100) × (realloc_call 4112 7 0 ≡ give_back 4112 7) × (realloc_call 4112 7 100 ≡ ask_again 4112 7 100)
realloc_rows = (refl, refl, refl)

abbrev empty : Content ℕ
empty = with_pool 0 336 (created 5)

abbrev left_by : Content ℕ → Result (ℕ × Content ℕ) Refusal → Content ℕ
left_by content (Ok new) = new.1
left_by content (Err refusal) = content

-- the place that a realloc tells
abbrev moved_to : Result (Option (ℕ × ℕ) × Content ℕ) Refusal → Result (ℕ × Content ℕ) Refusal
moved_to (Ok (Some given, content)) = Ok (given.0, content)
moved_to (Ok (None, content)) = Err NoFit
moved_to (Err refusal) = Err refusal

abbrev one_block : Content ℕ
one_block = left_by empty (malloc_with_front 3 100 empty)

-- the pool's first block has the address 4,112
abbrev pools : List PlacedPool
pools = record { first = 4112; reach = 328; place = 0; number = 0; owner = 0 } ∷ []

abbrev counted_of : ℕ → Content ℕ → Counted
counted_of touches content = record { content = content; touches = touches; rows = [] }

abbrev told : ℕ → ℕ → Told
told address word = record { address = address; word = word }

abbrev calls : List Call
calls = ask 100 ∷ []

abbrev tolds : List Told
tolds = told 4112 3366696039589512271 ∷ []

-- the block is live by its address and its word
live_row : IsLiveAt 4112 3366696039589512271 pools one_block
unfolding class need low rounded
live_row = record {
  place = 0;
  pool = record { first = 4112; reach = 328; place = 0; number = 0; owner = 0 };
  of_pools = (0, lit< tt, refl);
  at = record { has = (lit≤ tt, lit< tt); address_is = refl };
  live = refl;
}

-- a call that gives this block gives this address
given_row : (call : ℕ → Content ℕ → Result (ℕ × Content ℕ) Refusal) → call 3 empty ≡ Ok (0, one_block) → IsGivenAt call 100 4112 pools empty one_block
unfolding class need low rounded
given_row call gives = record {
  pointer = record { place = 0; slot = 3 };
  pool = record { first = 4112; reach = 328; place = 0; number = 0; owner = 0 };
  served = record { ok = gives; slot_below = lit< tt; slot_new = refl };
  of_pools = (0, lit< tt, refl);
  at = record { has = (lit≤ tt, lit< tt); address_is = refl };
  ends = lit≤ tt;
}

run_row : CallRun pools calls tolds empty one_block
unfolding class need low rounded
run_row = (
  counted_of 0 empty,
  counted_of 5 one_block,
  refl,
  (
    (λ some. given_row (λ slot. malloc_with_front slot 100) refl),
    (λ none. absurd (omega (arith, none))),
    (λ some. live_row),
  ),
  refl,
)

-- it keeps to the bounds of one block
within_row : CallsStayWithin 1 112 100 pools calls tolds empty one_block run_row
unfolding class need low rounded run_row
within_row = ((λ some. record { few = lit≤ tt; small = lit≤ tt; least = lit≤ tt }), tt)

-- the block is given back by its address and its word, and the heap is as it was
abbrev given_back : Content ℕ
given_back = after_free 0 one_block

back_row : CallStep pools (give_back 4112 3366696039589512271) (told 0 0) (counted_of 5 one_block) (counted_of 9 given_back)
unfolding class need low rounded
back_row = (
  (λ live. refl),
  (λ served. record {
    place = 0;
    pool = record { first = 4112; reach = 328; place = 0; number = 0; owner = 0 };
    of_pools = (0, lit< tt, refl);
    at = record { has = (lit≤ tt, lit< tt); address_is = refl };
    freed = refl;
  }),
  (λ refused. absurd (refused refl)),
)

-- it gets 200 bytes where it is, and another word
abbrev resized : Content ℕ
resized = left_by one_block (moved_to (realloc_ptr (Some (told_block 0 4112 3366696039589512271)) 208 3 one_block))

resize_row : CallStep pools (ask_again 4112 3366696039589512271 200) (told 4112 653554061461718095) (counted_of 5 one_block) (counted_of 9 resized)
unfolding class need low rounded live_row
resize_row = (
  (λ some. record {
    was = live_row;
    pointer = record { place = 0; slot = 3 };
    pool = record { first = 4112; reach = 328; place = 0; number = 0; owner = 0 };
    moved = record { ok = refl; slot_below = lit< tt; slot_new = (λ differ. absurd (differ refl)) };
    of_pools = (0, lit< tt, refl);
    at = record { has = (lit≤ tt, lit< tt); address_is = refl };
    ends = lit≤ tt;
  }),
  (λ none. absurd (omega (arith, none))),
  (λ some. record {
    place = 0;
    pool = record { first = 4112; reach = 328; place = 0; number = 0; owner = 0 };
    of_pools = (0, lit< tt, refl);
    at = record { has = (lit≤ tt, lit< tt); address_is = refl };
    live = refl;
  }),
)

-- an address that is a multiple of 16 is given as any
aligned_row : CallStep pools (ask_aligned 16 100) (told 4112 3366696039589512271) (counted_of 0 empty) (counted_of 5 one_block)
unfolding class need low rounded
aligned_row = (
  (λ some. given_row (λ slot. memalign_with_front 16 slot 100) refl),
  (λ none alike. absurd (omega (arith, none))),
  (λ none. absurd (omega (arith, none))),
  (λ some. live_row),
)

-- where the pool is smaller, a request may be refused
small_row : malloc_or_own {A = ℕ} 3 108 (with_pool 0 96 (created 5)) ≡ Err NoFit
unfolding class need low rounded
small_row = refl
