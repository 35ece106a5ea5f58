-- What the clauses of std's sorts imply.
use Rattle.std.proofs.Common.{◌≡◌, ℕ, ◌+◌, ◌<◌, ◌≤◌, Bool, false, List, [], ◌∷◌, length, get_or, map, drop, reverse, ap, arith, subst, zero, suc}
use Rattle.std.specs.List.{sum_by, All, AllByRecursion}
use Rattle.std.specs.List.Sorted.{IsSortedBy, IsSortedByKey}
use Rattle.std.specs.Ordering.{is_lt}
use Rattle.std.specs.Cmp.{IsTotalOrder, IsStrictWeakOrder}
use Rattle.std.specs.Fn.{Called, ComparesAs}
use Rattle.std.specs.declared.cmp.Ordering.{Ordering}
use denote.Param.Members.{Mut}
use denote.Ref.{Bor}
use Rattle.std.proofs.lemmas.Fn.{always_returns_same}
use Rattle.std.proofs.lemmas.List.Sorted.{ranks_by, All-permutation, IsPermutation-reverse, IsPermutation-sym}
use Rattle.std.proofs.lemmas.List.Elements.{All-from_recursion}
use Rattle.std.proofs.lemmas.List.Sums.{sum_by-cons}
use Rattle.mtrace_replay.specs.Sites.{origin_cmp, Site}
use Rattle.mtrace_replay.specs.Gather.{Ordered, lent_origin}
use Rattle.mtrace_replay.specs.Entry.{Entry}

pub sorted-from_sort_by : {X K : Type 0} {R : K → K → Ordering} (o : IsTotalOrder R) (key : X → K) {F : Type 0} {g : Mut F (Bor X × (Bor X × Unit {0})) Ordering} {f : F} (xs : List X)
    → ((lt : X → X → Bool) → IsStrictWeakOrder lt → ComparesAs g lt f → IsSortedBy lt xs)
    → ((a : Bor X × (Bor X × Unit {0})) (r : Ordering) (f' : F) → Called g f a r f' → (r ≡ R (key a.0.now) (key a.1.0.now)) × (f' ≡ f)) → IsSortedByKey key R xs
sorted-from_sort_by {R = R} o key {g = g} {f = f} xs up h =
    up (λ x y. is_lt (R (key x) (key y))) (ranks_by o key)
    (always_returns_same g (λ a r. is_lt r ≡ is_lt (R (key a.0.now) (key a.1.0.now))) f (λ a r f' k. (ap is_lt (h a r f' k).0, (h a r f' k).1)))

pub ordered_from_sorted : (entries : List (Bor Entry)) → IsSortedByKey lent_origin origin_cmp entries → Ordered (map (λ e. e.now) entries)
ordered_from_sorted [] up = tt
ordered_from_sorted (p ∷ []) up = tt
ordered_from_sorted (p ∷ (q ∷ ps)) up = (
  up 0 p (omega arith) (omega arith),
  ordered_from_sorted (q ∷ ps) (λ k d low high. let e : suc k + 1 ≡ suc (k + 1) = omega arith in
      subst (λ j. is_lt (origin_cmp (lent_origin (get_or (p ∷ (q ∷ ps)) j d)) (lent_origin (get_or (q ∷ ps) k d))) ≡ false) e (up (suc k) d (omega arith) (omega (arith, high)))),
)

-- the lent entries behind one, and its own, are among all
pub part_sum : (f : Entry → ℕ) (i : ℕ) (entries : List (Bor Entry)) → (d : Bor Entry) → i < length entries → sum_by f (map (λ e. e.now) (drop (suc i) entries)) + f (get_or entries i d).now ≤ sum_by f (map (λ e. e.now) entries)
part_sum f i [] d lt = absurd (omega (arith, lt))
part_sum f zero (p ∷ ps) d lt = omega (arith, sum_by-cons f p.now (map (λ e. e.now) ps))
part_sum f (suc i) (p ∷ ps) d lt = omega (arith, sum_by-cons f p.now (map (λ e. e.now) ps), part_sum f i ps d (omega (arith, lt)))

-- each site is as small as all of them the other way round are
pub small_sites : (sites : List Site) (n b : ℕ) → AllByRecursion (λ s. (s.blocks ≤ n) × (s.bytes ≤ b)) (reverse sites) → All (λ s. (s.blocks ≤ n) × (s.bytes ≤ b)) sites
small_sites sites n b all =
    let P = λ (s : Site). (s.blocks ≤ n) × (s.bytes ≤ b) in
    All-permutation P (reverse sites) sites (IsPermutation-sym sites (reverse sites) (IsPermutation-reverse sites)) (All-from_recursion P (reverse sites) all)
