-- Worked rows of malloc that may take a block of the bytes' own class.
use Rattle.std.proofs.Common.{◌≡◌, ℕ, refl}
use Rattle.std.specs.Prelude.{Result, Ok, Err}
use Rattle.tlsf_class.specs.Classes.{class, need, low}
use Rattle.tlsf_class.specs.Rounding.{rounded}
use Rattle.tlsf_heap.specs.declared.refusal.Refusal.{Refusal}
use Rattle.tlsf_heap.specs.declared.refusal.Refusal.TheVariants.{ZeroSize, NoFit, TableFull}
use Rattle.tlsf_heap.specs.Content.{Content}
use Rattle.tlsf_heap.specs.Malloc.{malloc}
use Rattle.tlsf_heap.specs.OwnClass.{malloc_or_own}
use Rattle.tlsf_heap.specs.Pools.{created, add_pool}

abbrev after : Content ℕ → Result (Content ℕ) Refusal → Content ℕ
after content (Ok new) = new
after content (Err refusal) = content

-- a heap of these records with one pool of these bytes, at place 0
abbrev of_bytes : ℕ → ℕ → Content ℕ
of_bytes records bytes = after (created records) (add_pool 0 bytes (created records))

abbrev place_of : Result (ℕ × Content ℕ) Refusal → Result ℕ Refusal
place_of (Ok given) = Ok given.0
place_of (Err refusal) = Err refusal

-- 1,040 bytes are in the class of 1,024 to 1,055, from which malloc takes no block for them
malloc-row : malloc 0 1040 (of_bytes 2 1040) ≡ Err NoFit
unfolding class need low rounded
malloc-row = refl

whole-row : place_of (malloc_or_own 0 1040 (of_bytes 2 1040)) ≡ Ok 0
unfolding class need low rounded
whole-row = refl

-- a unit less is too small
small-row : malloc_or_own 0 1040 (of_bytes 2 1024) ≡ Err NoFit
unfolding class need low rounded
small-row = refl

-- a larger block of the class leaves a rest, which needs a record
rest-row : (malloc 0 2064 (of_bytes 2 2096) ≡ Err NoFit) × (place_of (malloc_or_own 0 2064 (of_bytes 2 2096)) ≡ Ok 0) × (malloc_or_own 0 2064 (of_bytes 1 2096) ≡ Err TableFull)
unfolding class need low rounded
rest-row = (refl, refl, refl)

zero-row : malloc_or_own 0 0 (of_bytes 2 1040) ≡ Err ZeroSize
unfolding class need low rounded
zero-row = refl
