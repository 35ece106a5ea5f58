-- The locations, as the bytes that are kept.
use Rattle.std.proofs.Common.{Bool, true, false, Some, is_some, ◌≡◌, ℕ, zero, suc, List, [], ◌∷◌, ◌++◌, slice_index_or, refl, sym, ap, ◌∙◌, cond}
use Rattle.std.specs.Prelude.{slice_get, position, nat_eq}
use Rattle.std.specs.List.{list_any}
use Rattle.std.specs.Cmp.Lexicographic.{pointwise}
use Rattle.std.proofs.lemmas.Bool.{false≢true}
use Rattle.std.proofs.lemmas.Bool.Decides.{Decides-eqb}
use Rattle.std.proofs.lemmas.List.Quantifiers.{position-Some}
use Rattle.std.proofs.lemmas.Option.{slice_get-get_or}
use Rattle.std.proofs.lemmas.Slice.Eq.{slice_eq-Decides}
use Rattle.indexmap.specs.IndexSet.{insert_key}
use Rattle.mtrace_replay.specs.Locations.{Extends}

-- equal bytes are the same
pub same_bytes : (one other : List ℕ) → pointwise nat_eq one other ≡ true → one ≡ other
same_bytes one other is = (slice_eq-Decides Decides-eqb one other (pointwise nat_eq one other) refl).0 is

-- what stands at the number that was found
pub stands : (keys : List (List ℕ)) (bytes : List ℕ) (number : ℕ) → position (pointwise nat_eq bytes) keys ≡ Some number → slice_get keys number ≡ Some bytes
stands [] bytes number is = absurd (false≢true (ap is_some is))
stands (first ∷ rest) bytes number is =
    let at = position-Some (pointwise nat_eq bytes) (first ∷ rest) number first is in
    slice_get-get_or (first ∷ rest) number first at.0 ∙ ap Some (sym (same_bytes bytes (slice_index_or (first ∷ rest) number first) at.1))

-- one more at the end changes none before it
more_behind : (keys : List (List ℕ)) (k : List ℕ) → Extends keys (keys ++ k ∷ [])
more_behind [] k number bytes is = absurd (false≢true (ap is_some is))
more_behind (first ∷ rest) k zero bytes is = is
more_behind (first ∷ rest) k (suc number) bytes is = more_behind rest k number bytes is

pub extends_insert : (eq : List ℕ → List ℕ → Bool) (keys : List (List ℕ)) (k : List ℕ) → Extends keys (insert_key eq keys k)
extends_insert eq keys k = by_any (list_any (eq k) keys)
  where
    by_any : (b : Bool) → Extends keys (cond b keys (keys ++ k ∷ []))
    by_any true = λ number bytes is. is
    by_any false = more_behind keys k
