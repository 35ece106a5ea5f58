-- Records that are linked: the chain of a pool, and the list of a class.
use Rattle.std.specs.Prelude.{ℕ, zero, suc, ◌&&◌, Bool, true, false, List, [], ◌∷◌, length, Option, Some, None, nat_eq}
use Rattle.std.specs.Option.{option_eq}
use Rattle.std.specs.List.{list_all}
use Rattle.tlsf_store.specs.declared.records.Record.{Record}
use Rattle.tlsf_store.specs.Records.{record_at}

-- what the links give from a slot on, if there is one, for at most this many slots
abbrev pub follow : ℕ → (ℕ → Option ℕ) → Option ℕ → List ℕ
follow zero next first = []
follow (suc n) next None = []
follow (suc n) next (Some slot) = slot ∷ follow n next (next slot)

-- the slots from one on in its pool, and in its list
abbrev pub chain_from : List Record → Option ℕ → List ℕ
chain_from records first = follow (length records) (λ slot. (record_at records slot).next) first

abbrev pub list_from : List Record → Option ℕ → List ℕ
list_from records first = follow (length records) (λ slot. (record_at records slot).next_free) first

-- whether the links end after at most this many slots
abbrev pub ends_within : ℕ → (ℕ → Option ℕ) → Option ℕ → Bool
ends_within n next None = true
ends_within zero next (Some slot) = false
ends_within (suc n) next (Some slot) = ends_within n next (next slot)

-- whether the link back of each slot is the slot before it, and that of the first is `before`
abbrev pub are_linked_back : (ℕ → Option ℕ) → Option ℕ → List ℕ → Bool
are_linked_back back before [] = true
are_linked_back back before (slot ∷ slots) = option_eq nat_eq (back slot) before && are_linked_back back (Some slot) slots

-- whether links end after at most this many slots, each of which passes a test and is linked back, the first to `before`
abbrev pub is_linked : (ℕ → Bool) → (next back : ℕ → Option ℕ) → ℕ → (before first : Option ℕ) → Bool
is_linked test next back n before first =
    ends_within n next first && (list_all test (follow n next first) && are_linked_back back before (follow n next first))
