-- Pool entries, with those that have pools first.
use Rattle.std.proofs.Common.{◌≡◌, ℕ, zero, suc, Bool, true, false, List, [], ◌∷◌, ◌++◌, ◌-◌, length, map, Option, Some, None, refl, ap, ◌∙◌}
use Rattle.std.specs.Prelude.{is_none, replicate}
use Rattle.std.specs.List.{list_all}
use Rattle.std.proofs.lemmas.Bool.{and_from}
use Rattle.tlsf_store.specs.declared.pools.Pool.{Pool}
use Rattle.tlsf_store.specs.Cells.{Cells, most_pools}
use Rattle.tlsf_heap.specs.Images.Rules.{are_packed, has_ordered_pools, has_packed_pools}
use Rattle.tlsf_heap.specs.Images.Described.{told_sections}
use Rattle.tlsf_heap.specs.Inner.Nodes.{Area}
use Rattle.tlsf_heap.specs.Inner.Following.{Stands}
use Rattle.tlsf_heap.proofs.Images.Saved.{told_ordered}

-- the entries that are left are packed; none of them has a pool where one without stands in front
abbrev pub are_packed_behind : Bool → List (Option Pool) → Bool
are_packed_behind true entries = list_all is_none entries
are_packed_behind false entries = are_packed entries

none_left : (n : ℕ) → list_all is_none (replicate {A = Option Pool} n None) ≡ true
none_left zero = refl
none_left (suc n) = none_left n

packed : (entries : List Pool) (n : ℕ) → are_packed (map Some entries ++ replicate n None) ≡ true
packed [] zero = refl
packed [] (suc n) = none_left n
packed (entry ∷ entries) n = packed entries n

-- those of cells that stand
pub stand_packed : (cells : Cells) → Stands cells → has_packed_pools (told_sections cells) ≡ true
stand_packed cells stands =
    let entries : List Pool = map (λ (area : Area). area.entry) stands.layout.areas in
    and_from (are_packed cells.pools) (has_ordered_pools (told_sections cells)) (ap are_packed stands.represented.entries ∙ packed entries (most_pools - length entries)) (told_ordered cells stands)
