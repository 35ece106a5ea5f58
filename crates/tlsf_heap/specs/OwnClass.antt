-- malloc from the class that the bytes are in. A block of it may be too small, so the size of the first is looked at.
use Rattle.std.specs.Prelude.{ℕ, List, [], ◌∷◌, Option, Some, None, Result, Err, if◌then◌else◌, ◌==◌, nat_le}
use Rattle.tlsf_heap.specs.declared.refusal.Refusal.{Refusal}
use Rattle.tlsf_heap.specs.declared.refusal.Refusal.TheVariants.{ZeroSize, NoFit}
use Rattle.tlsf_class.specs.Classes.{class}
use Rattle.tlsf_class.specs.Rounding.{round}
use Rattle.tlsf_heap.specs.Content.{Content, blocks_of, size_at}
use Rattle.tlsf_heap.specs.Lists.{list_of, pick}
use Rattle.tlsf_heap.specs.Malloc.{malloc_picked}

-- the first block of a list, if it has m bytes
abbrev pub first_if_holds : {A : Type 0} → ℕ → Content A → List ℕ → Option ℕ
first_if_holds m content [] = None
first_if_holds m content (place ∷ places) = if nat_le m (size_at place (blocks_of content.pools)) then Some place else None

-- the first block of the class that m bytes are in, if it has as many
abbrev pub own_first : {A : Type 0} → ℕ → Content A → Option ℕ
own_first m content = first_if_holds m content (list_of (class m) content.lists)

-- the block picked for m bytes, or that one where none is
abbrev pub picked_or_own : {A : Type 0} → ℕ → Content A → Option ℕ → Option ℕ
picked_or_own m content None = own_first m content
picked_or_own m content (Some place) = Some place

abbrev pub malloc_or_own_rounded : {A : Type 0} → A → Option ℕ → Content A → Result (ℕ × Content A) Refusal
malloc_or_own_rounded owner None content = Err NoFit
malloc_or_own_rounded owner (Some m) content = malloc_picked owner m (picked_or_own m content (pick m content.lists)) content

-- malloc(n) that takes the first block of the bytes' own class, if it has as many, where no other is picked
abbrev pub malloc_or_own : {A : Type 0} → A → ℕ → Content A → Result (ℕ × Content A) Refusal
malloc_or_own owner n content = if n == 0 then Err ZeroSize else malloc_or_own_rounded owner (round n) content
