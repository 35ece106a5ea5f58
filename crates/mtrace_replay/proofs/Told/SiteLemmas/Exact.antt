-- The runs, in the order of sites, are the sites.
use Rattle.std.proofs.Common.{◌≡◌, ℕ, ◌<◌, ◌≤◌, List, [], ◌∷◌, length, get_or, refl, sym, ap, ◌∙◌, subst, arith, zero, suc}
use Rattle.std.specs.List.{AllByRecursion, sum_by, All}
use Rattle.std.specs.List.Sorted.{IsPermutation, IsSorted}
use Rattle.std.specs.Ordering.{nat_cmp, ordering_then}
use Rattle.std.specs.Cmp.{IsTotalOrder}
use Rattle.std.specs.FinMap.{nat_cmp-IsAntisymmetric}
use Rattle.std.specs.declared.cmp.Ordering.{Ordering}
use Rattle.std.specs.declared.cmp.Ordering.TheVariants.{Less, Equal, Greater}
use Rattle.std.proofs.lemmas.Cmp.{nat_cmp_total, on_total, then_total, back_total}
use Rattle.std.proofs.lemmas.List.Sums.{sum_by-cons}
use Rattle.std.proofs.lemmas.List.Sorted.{sum_by-IsPermutation, All-permutation}
use Rattle.std.proofs.lemmas.List.Elements.{All-from_recursion}
use Rattle.mtrace_replay.specs.Sites.{Origin, origin_cmp, Site, weigh, blocks_at, site_cmp, IsSiteOf, AreSites, AreTallied}
use Rattle.mtrace_replay.specs.Gather.{gather, Ordered}
use Rattle.mtrace_replay.specs.Entry.{Entry}
use Rattle.mtrace_replay.proofs.Told.SiteLemmas.Origins.{origin_total, origin_same, weigh-self}
use Rattle.mtrace_replay.proofs.Told.SiteLemmas.OneEach.{own_one, strict, has_one}
use Rattle.mtrace_replay.proofs.Told.SiteLemmas.Gathered.{gather_total, gather_rising, gather_some, rising_one}

pub site_total : IsTotalOrder site_cmp
site_total =
    then_total (then_total (back_total (on_total (λ (s : Site). s.bytes) nat_cmp_total)) (back_total (on_total (λ (s : Site). s.blocks) nat_cmp_total)))
    (on_total (λ (s : Site). s.at) origin_total)

pub then_Equal : (o p : Ordering) → ordering_then o p ≡ Equal → (o ≡ Equal) × (p ≡ Equal)
then_Equal Less p e = cc
then_Equal Equal p e = (refl, e)
then_Equal Greater p e = cc

pub site_same : (s t : Site) → site_cmp s t ≡ Equal → s ≡ t
site_same s t e =
    let (numbers, at) = then_Equal (ordering_then (nat_cmp t.bytes s.bytes) (nat_cmp t.blocks s.blocks)) (origin_cmp s.at t.at) e in
    let (bytes, blocks) = then_Equal (nat_cmp t.bytes s.bytes) (nat_cmp t.blocks s.blocks) numbers in
    let x : s.bytes ≡ t.bytes = sym (nat_cmp-IsAntisymmetric t.bytes s.bytes bytes) in
    let y : s.blocks ≡ t.blocks = sym (nat_cmp-IsAntisymmetric t.blocks s.blocks blocks) in
    let z : s.at ≡ t.at = origin_same s.at t.at at in
    (λ i. record { blocks = y i; bytes = x i; at = z i })

pub at_least : (f : Entry → ℕ) (es : List Entry) (k : ℕ) (d : Entry) → k < length es → f (get_or es k d) ≤ sum_by f es
at_least f [] k d lt = absurd (omega (arith, lt))
at_least f (e ∷ es) zero d lt = omega (arith, sum_by-cons f e es)
at_least f (e ∷ es) (suc k) d lt = omega (arith, sum_by-cons f e es, at_least f es k d (omega (arith, lt)))

exact_of : (entries : List Entry) (all ss : List Site) → AreTallied entries all → AllByRecursion (λ s. 0 < s.blocks) ss
    → AllByRecursion (λ s. sum_by (λ t. weigh s.at t.at t.blocks) all ≡ s.blocks) ss → AllByRecursion (λ s. sum_by (λ t. weigh s.at t.at t.bytes) all ≡ s.bytes) ss → AllByRecursion (IsSiteOf entries) ss
exact_of entries all [] tallied some a b = tt
exact_of entries all (s ∷ ss) tallied (n, some) (x, a) (y, b) =
    (record { some = n; blocks = sym x ∙ tallied.blocks s.at; bytes = sym y ∙ tallied.bytes s.at }, exact_of entries all ss tallied some a b)

-- sites that count and sum the entries, none of them empty, are their sites when sorted
pub are_sites : (entries : List Entry) (runs sites : List Site) → AreTallied entries runs → AllByRecursion (λ s. 0 < s.blocks) runs → IsPermutation runs sites → IsSorted site_cmp sites → AreSites entries sites
are_sites entries runs sites tallied some arranged up =
    let exact : All (IsSiteOf entries) runs = All-from_recursion (IsSiteOf entries) runs
    (exact_of entries runs runs tallied some (own_one (λ s. s.at) (λ s. s.blocks) runs tallied.one) (own_one (λ s. s.at) (λ s. s.bytes) runs tallied.one)) in
    let one : (p : Origin) → sum_by (λ t. weigh p t.at 1) sites ≤ 1 = λ p. omega (arith, sum_by-IsPermutation (λ t. weigh p t.at 1) runs sites arranged, tallied.one p) in
    let held : (p : Origin) → sum_by (λ t. weigh p t.at t.blocks) sites ≡ blocks_at p entries = λ p. sum_by-IsPermutation (λ t. weigh p t.at t.blocks) runs sites arranged ∙ tallied.blocks p in
    record {
      order = strict (λ s. s.at) site_cmp site_total (λ s t tie. ap (λ (u : Site). u.at) (site_same s t tie)) sites up one;
      exact = All-permutation (IsSiteOf entries) runs sites arranged exact;
      covers = λ k d lt.
          let e = get_or entries k d in
          let least : 1 ≤ blocks_at e.at entries = subst (λ n. n ≤ blocks_at e.at entries) (weigh-self e.at 1) (at_least (λ f. weigh e.at f.at 1) entries k d lt) in
          has_one (λ s. s.at) (λ s. s.blocks) e.at sites (omega (arith, held e.at, least));
    }

-- the sites, by any order of the entries that is sorted by origin, and of the runs
pub sites_are : (entries sorted : List Entry) (sites : List Site) → IsPermutation entries sorted → Ordered sorted → IsPermutation (gather sorted) sites → IsSorted site_cmp sites → AreSites entries sites
sites_are entries sorted sites moved order arranged up =
    are_sites entries (gather sorted) sites (record {
      one = rising_one (gather sorted) (gather_rising sorted order);
      blocks = λ p. gather_total (λ s. s.blocks) (λ e. 1) (λ e. refl) (λ s e. refl) p sorted ∙ sum_by-IsPermutation (λ e. weigh p e.at 1) entries sorted moved;
      bytes = λ p. gather_total (λ s. s.bytes) (λ e. e.size) (λ e. refl) (λ s e. refl) p sorted ∙ sum_by-IsPermutation (λ e. weigh p e.at e.size) entries sorted moved;
    }) (gather_some sorted) arranged up
