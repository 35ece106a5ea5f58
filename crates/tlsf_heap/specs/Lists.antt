-- The free lists: one list of places for each class.
use Rattle.std.specs.Prelude.{ℕ, not, List, [], ◌∷◌, slice_index_or, slice_set, filter, ◌==◌, Option, Some, None, option_and_then, drop}
use Rattle.tlsf_class.specs.Classes.{class, need}

-- the free list of a class
abbrev pub list_of : ℕ → List (List ℕ) → List ℕ
list_of number lists = slice_index_or lists number []

-- the places but this one, in order
abbrev pub without : ℕ → List ℕ → List ℕ
without place places = filter (λ other. not (other == place)) places

-- a free block of this size enters its class's list in front
abbrev pub link : ℕ → ℕ → List (List ℕ) → List (List ℕ)
link place size lists = slice_set lists (class size) (place ∷ list_of (class size) lists)

-- a block of this size leaves its class's list
abbrev pub unlink : ℕ → ℕ → List (List ℕ) → List (List ℕ)
unlink place size lists = slice_set lists (class size) (without place (list_of (class size) lists))

-- the first place of the first list that isn't empty
abbrev pub first_of_lists : List (List ℕ) → Option ℕ
first_of_lists [] = None
first_of_lists ([] ∷ lists) = first_of_lists lists
first_of_lists ((place ∷ places) ∷ lists) = Some place

-- the first place of the first list that isn't empty at or above the class from which each block holds m bytes
abbrev pub pick : ℕ → List (List ℕ) → Option ℕ
pick m lists = option_and_then (λ number. first_of_lists (drop number lists)) (need m)
