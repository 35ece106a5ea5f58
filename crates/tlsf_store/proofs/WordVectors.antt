-- Words of two vacant records: those of a store that is empty, and a chain that goes round.
use Rattle.std.proofs.Common.{◌≡◌, ℕ, List, [], ◌∷◌, Option, Some, None, refl, lit<, lit≤}
use Rattle.std.specs.Prelude.{replicate}
use Rattle.std.proofs.lemmas.List.Elements.{All-nil, All-cons, All-replicate}
use Rattle.tlsf_class.specs.Classes.{levels, classes}
use Rattle.tlsf_store.specs.declared.records.Record.{Record}
use Rattle.tlsf_store.specs.Records.{blank, IsBelow, IsKept}
use Rattle.tlsf_store.specs.Cells.{most_pools, empty_cells, IsPoolBelow}
use Rattle.tlsf_store.specs.Table.{next_at}
use Rattle.tlsf_store.specs.Words.{Words, cells_of, AreStoreWords}

-- a vacant record with this link
abbrev to : Option ℕ → Record
to link = record blank { next = link }

-- two of them
abbrev linked : Option ℕ → Option ℕ → List Record
linked first second = to first ∷ to second ∷ []

-- the chain of vacant records is 1, 0
abbrev two_vacant : Words
two_vacant = record {
  records = linked None (Some 0);
  first_vacant = Some 1;
  vacant = 2;
  heads = replicate classes None;
  level_word = 0;
  step_words = replicate levels 0;
  pools = replicate most_pools None;
}

two_vacant_kept : AreStoreWords two_vacant
two_vacant_kept =
    let kept : (link : Option ℕ) → IsBelow 2 link → IsKept 2 (to link) =
    λ link below. record { place = refl; size = refl; prev = tt; next = below; prev_free = tt; next_free = tt } in
    record {
      table = record {
        few = lit≤ tt;
        kept = All-cons (IsKept 2) (to None) (to (Some 0) ∷ []) (kept None tt) (All-cons (IsKept 2) (to (Some 0)) [] (kept (Some 0) (lit< tt)) (All-nil (IsKept 2)));
        chained = (1, refl, (lit< tt, refl), (0, refl, (lit< tt, refl), refl));
        counted = refl;
      };
      cells = record {
        some = lit< tt;
        few = lit≤ tt;
        heads_below = All-replicate (IsBelow 2) classes None tt;
        level = lit< tt;
        pools_below = All-replicate (IsPoolBelow 2) most_pools None tt;
      };
    }

two_vacant_empty : cells_of two_vacant ≡ empty_cells 2
two_vacant_empty = refl

-- a chain that goes round doesn't end
goes_round : next_at (linked (Some 1) (Some 0)) 1 ≡ None → ⊥
goes_round end = cc end
