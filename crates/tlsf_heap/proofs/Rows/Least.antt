-- A unit less than the sure pool, in rows. Each block at a multiple of the size leaves a gap that is just too small.
use Rattle.std.proofs.Common.{◌≡◌, ℕ, [], ◌∷◌, refl, Some, Option, None, Result, Ok, Err}
use Rattle.tlsf_class.specs.Classes.{class, need, low}
use Rattle.tlsf_class.specs.Rounding.{rounded}
use Rattle.tlsf_heap.specs.declared.refusal.Refusal.{Refusal}
use Rattle.tlsf_heap.specs.declared.refusal.Refusal.TheVariants.{NoFit}
use Rattle.tlsf_heap.specs.Content.{Content}
use Rattle.tlsf_heap.specs.Malloc.{malloc}
use Rattle.tlsf_heap.specs.Memalign.{memalign}
use Rattle.tlsf_heap.specs.Free.{after_free}
use Rattle.tlsf_heap.specs.Pointer.{realloc_ptr}
use Rattle.tlsf_heap.specs.Pools.{created, with_pool}
use Rattle.tlsf_heap.specs.Sizing.{sure_pool}

-- what a call leaves
abbrev served : Content ℕ → Result (ℕ × Content ℕ) Refusal → Content ℕ
served content (Ok new) = new.1
served content (Err refusal) = content

abbrev moved : Content ℕ → Result (Option (ℕ × ℕ) × Content ℕ) Refusal → Content ℕ
moved content (Ok new) = new.1
moved content (Err refusal) = content

-- one block of 16 bytes, and a class of 32: 16 + 2 * 16 bytes may refuse
one_block : sure_pool 1 16 (Some 32) ≡ Some 64
one_block = refl

abbrev one : Content ℕ
one = with_pool 16 48 (created 5)

abbrev one_spaced : Content ℕ
one_spaced = served one (memalign 0 32 16 one)

one_pools : one_spaced.pools ≡ record {
  base = 16;
  bytes = 48;
  blocks =
      record { place = 16; size = 16; owner = None } ∷ record { place = 32; size = 16; owner = Some 0 } ∷ record { place = 48; size = 16; owner = None }
      ∷ [];
} ∷ []
unfolding class need low rounded
one_pools = refl

one_refused : malloc 1 32 one_spaced ≡ Err NoFit
unfolding class need low rounded
one_refused = refl

-- two blocks, and a class of 64: 32 + 3 * 48 bytes may refuse
two_blocks : sure_pool 2 32 (Some 64) ≡ Some 192
two_blocks = refl

abbrev two : Content ℕ
two = with_pool 16 176 (created 7)

abbrev two_spaced : Content ℕ
two_spaced = served (served two (memalign 0 64 16 two)) (memalign 1 64 16 (served two (memalign 0 64 16 two)))

two_pools : two_spaced.pools ≡ record {
  base = 16;
  bytes = 176;
  blocks =
      record { place = 16; size = 48; owner = None } ∷ record { place = 64; size = 16; owner = Some 0 } ∷ record { place = 80; size = 48; owner = None }
      ∷ record { place = 128; size = 16; owner = Some 1 } ∷ record { place = 144; size = 48; owner = None } ∷ [];
} ∷ []
unfolding class need low rounded
two_pools = refl

two_refused : malloc 2 64 two_spaced ≡ Err NoFit
unfolding class need low rounded
two_refused = refl

-- the sure pool itself serves it
abbrev sure : Content ℕ
sure = with_pool 16 192 (created 7)

abbrev sure_spaced : Content ℕ
sure_spaced = served (served sure (memalign 0 64 16 sure)) (memalign 1 64 16 (served sure (memalign 0 64 16 sure)))

sure_served : malloc 2 64 sure_spaced ≡ Ok (144, served sure_spaced (malloc 2 64 sure_spaced))
unfolding class need low rounded
sure_served = refl

-- one block of 32 bytes, which had 16 at first, and a class of 64: 32 + 2 * 48 bytes may refuse
grown_block : sure_pool 1 32 (Some 64) ≡ Some 144
grown_block = refl

abbrev grown : Content ℕ
grown =
    let first = served (with_pool 16 128 (created 5)) (memalign 0 64 16 (with_pool 16 128 (created 5))) in
    moved first (realloc_ptr (Some (record { place = 64; slot = 0 })) 32 0 first)

grown_pools : grown.pools ≡ record {
  base = 16;
  bytes = 128;
  blocks =
      record { place = 16; size = 48; owner = None } ∷ record { place = 64; size = 32; owner = Some 0 } ∷ record { place = 96; size = 48; owner = None }
      ∷ [];
} ∷ []
unfolding class need low rounded
grown_pools = refl

grown_refused : malloc 1 64 grown ≡ Err NoFit
unfolding class need low rounded
grown_refused = refl

-- without alignments: a block of 32 bytes, and a class of 32: 32 + 2 * 16 bytes may refuse
larger_block : sure_pool 1 32 (Some 32) ≡ Some 80
larger_block = refl

-- what is left where a block was taken, made smaller by a unit, and given back behind the next one
abbrev shrunk : ℕ → ℕ → Content ℕ → Content ℕ
shrunk place slot content = moved content (realloc_ptr (Some (record { place = place; slot = slot })) 16 0 content)

abbrev laid : ℕ → ℕ → Content ℕ → Content ℕ
laid place slot content =
    let first = shrunk place 9 (served content (malloc 9 32 content)) in
    after_free place (served first (malloc slot 32 first))

larger_pools : (laid 0 0 (with_pool 0 64 (created 5))).pools ≡ record {
  base = 0;
  bytes = 64;
  blocks =
      record { place = 0; size = 16; owner = None } ∷ record { place = 16; size = 32; owner = Some 0 } ∷ record { place = 48; size = 16; owner = None }
      ∷ [];
} ∷ []
unfolding class need low rounded
larger_pools = refl

larger_refused : malloc 1 32 (laid 0 0 (with_pool 0 64 (created 5))) ≡ Err NoFit
unfolding class need low rounded
larger_refused = refl

-- two blocks, of 16 and of 32 bytes: 48 + 3 * 16 bytes may refuse
two_larger : sure_pool 2 48 (Some 32) ≡ Some 112
two_larger = refl

abbrev first_laid : Content ℕ
first_laid = laid 0 0 (with_pool 0 96 (created 7))

abbrev first_shrunk : Content ℕ
first_shrunk = shrunk 16 0 first_laid

two_larger_pools : (laid 32 1 first_shrunk).pools ≡ record {
  base = 0;
  bytes = 96;
  blocks =
      record { place = 0; size = 16; owner = None } ∷ record { place = 16; size = 16; owner = Some 0 } ∷ record { place = 32; size = 16; owner = None }
      ∷ record { place = 48; size = 32; owner = Some 1 } ∷ record { place = 80; size = 16; owner = None } ∷ [];
} ∷ []
unfolding class need low rounded
two_larger_pools = refl

two_larger_refused : malloc 2 32 (laid 32 1 first_shrunk) ≡ Err NoFit
unfolding class need low rounded
two_larger_refused = refl
