-- Packed records at their ends: the words, and the records that they stand for.
use Rattle.std.proofs.Common.{◌≡◌, refl, Some, None}
use Rattle.tlsf_store.specs.declared.records.State.TheVariants.{Vacant, Free, Live}
use Rattle.tlsf_store.specs.Records.{blank}
use Rattle.tlsf_store.specs.Packed.{unpacked, size_of}
use Rattle.tlsf_store.specs.Slots.{link_of}

no_link : link_of 65535 ≡ None
no_link = refl

last_slot : link_of 65534 ≡ Some 65534
last_slot = refl

first_slot : link_of 0 ≡ Some 0
first_slot = refl

vacant_without_links : unpacked (record { place = 0; size_word = 0; prev = 65535; next = 65535; prev_free = 65535; next_free = 65535 }) ≡ blank
vacant_without_links = refl

-- one of the chain of vacant records
vacant_before_slot_7 : unpacked (record { place = 0; size_word = 0; prev = 65535; next = 7; prev_free = 65535; next_free = 65535 }) ≡ record blank { next = Some 7 }
vacant_before_slot_7 = refl

free_of_64 : unpacked (record { place = 0; size_word = 0x41; prev = 65535; next = 65535; prev_free = 65535; next_free = 65535 }) ≡ record { place = 0; size = 64; state = Free; prev = None; next = None; prev_free = None; next_free = None }
free_of_64 = refl

live_of_112 : unpacked (record { place = 16; size_word = 114; prev = 1; next = 2; prev_free = 65535; next_free = 65535 }) ≡ record { place = 16; size = 112; state = Live; prev = Some 1; next = Some 2; prev_free = None; next_free = None }
live_of_112 = refl

-- the greatest place, size and slot, and all links present
greatest : unpacked (record { place = 0xfffffff0; size_word = 0xfffffff2; prev = 65534; next = 0; prev_free = 65533; next_free = 1 }) ≡ record { place = 4294967280; size = 4294967280; state = Live; prev = Some 65534; next = Some 0; prev_free = Some 65533; next_free = Some 1 }
greatest = refl

-- a code that is none of the three: no block, and a size that no table keeps
of_another_code : unpacked (record { place = 16; size_word = 115; prev = 1; next = 2; prev_free = 65535; next_free = 65535 }) ≡ record { place = 16; size = 115; state = Vacant; prev = Some 1; next = Some 2; prev_free = None; next_free = None }
of_another_code = refl

of_the_last_code : size_of 0xffffffff ≡ 0xffffffff
of_the_last_code = refl
