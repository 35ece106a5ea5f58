-- How many bytes were last asked for, for the block at a place.
use Rattle.std.specs.Prelude.{◌≡◌, ℕ, Bool, false, List, ◌∷◌, Option, Some, None, if◌then◌else◌, ◌==◌}
use Rattle.std.specs.List.{Contains}
use Rattle.tlsf_class.specs.Rounding.{round}
use Rattle.tlsf_heap.specs.declared.request.Request.{Request}
use Rattle.tlsf_heap.specs.declared.request.Request.TheVariants.{Malloc, Memalign, Realloc}
use Rattle.tlsf_heap.specs.declared.answer.Answer.{Answer}
use Rattle.tlsf_heap.specs.declared.answer.Answer.TheVariants.{Given, Moved}
use Rattle.tlsf_heap.specs.Content.{Block, Content, blocks_of, is_free}

-- how many bytes a request asks for
abbrev pub bytes_asked : Request → ℕ
bytes_asked (Malloc n) = n
bytes_asked (Memalign align n) = n
bytes_asked (Realloc pointer n) = n
bytes_asked request = 0

-- whether an answer gives a block at the place
abbrev pub gives_at : Answer → ℕ → Bool
gives_at (Given pointer) place = pointer.place == place
gives_at (Moved (Some pointer)) place = pointer.place == place
gives_at answer place = false

-- the first number where there is one, else the second
abbrev pub first_of_two : Option ℕ → Option ℕ → Option ℕ
first_of_two (Some n) other = Some n
first_of_two None other = other

-- the bytes that the last request asked for whose answer gave a block at the place; the first request comes first
abbrev pub last_asked : List Request → List Answer → ℕ → Option ℕ
last_asked (request ∷ requests) (answer ∷ answers) place = first_of_two (last_asked requests answers place) (if gives_at answer place then Some (bytes_asked request) else None)
last_asked requests answers place = None

-- each live block has the size of what was last asked for at its place, rounded up
abbrev pub AreAsAsked : (ℕ → Option ℕ) → Content ℕ → Type 0
AreAsAsked asked content = (block : Block ℕ) → Contains (blocks_of content.pools) block → is_free block ≡ false → (n : ℕ) × (asked block.place ≡ Some n) × (round n ≡ Some block.size)
