-- One list alone is the sites of a list of entries, and one the callers of calls: what is in a list in strict order tells it.
use Rattle.std.proofs.Common.{◌≡◌, ℕ, ◌<◌, List, [], ◌∷◌, length, get_or, refl, sym, ap, ◌∙◌, subst, arith, ◌⊎◌, inl, inr, zero, suc}
use Rattle.std.specs.List.{AllByRecursion, Any}
use Rattle.std.specs.List.Sorted.{IsStrictlySortedBy}
use Rattle.std.specs.Cmp.{IsTotalOrder}
use Rattle.std.specs.declared.cmp.Ordering.{Ordering}
use Rattle.std.specs.declared.cmp.Ordering.TheVariants.{Less, Equal}
use Rattle.std.proofs.lemmas.Cmp.{tied_itself}
use Rattle.std.proofs.lemmas.List.Sums.{sum_by-cons}
use Rattle.std.proofs.lemmas.List.Elements.{recursion_from_All}
use Rattle.mtrace_replay.specs.Sites.{Origin, Site, weigh, blocks_at, bytes_at, site_cmp, IsSiteOf, AreSites}
use Rattle.mtrace_replay.specs.Calls.{Caller}
use Rattle.mtrace_replay.specs.Callers.{caller_cmp, IsCallerOf, AreCallers}
use Rattle.mtrace_replay.specs.Entry.{Entry}
use Rattle.mtrace_replay.proofs.Told.SiteLemmas.Origins.{weighs_at}
use Rattle.mtrace_replay.proofs.Told.SiteLemmas.CallerOrder.{caller_total}
use Rattle.mtrace_replay.proofs.Told.SiteLemmas.Exact.{site_total}

module _ {X : Type 0} (cmp : X → X → Ordering) (total : IsTotalOrder cmp) where
  -- x is in the list
  abbrev pub In : X → List X → Type 0
  In x [] = ⊥
  In x (y ∷ ys) = (y ≡ x) ⊎ In x ys

  pub in_all : (P : X → Type 0) (x : X) (xs : List X) → AllByRecursion P xs → In x xs → P x
  in_all P x [] all i = absurd i
  in_all P x (y ∷ ys) (here, there) (inl e) = subst P e here
  in_all P x (y ∷ ys) (here, there) (inr i) = in_all P x ys there i

  pub in_any : (P : X → Type 0) (xs : List X) → Any P xs → (x : X) × In x xs × P x
  in_any P [] (k, x, lt, is, p) = absurd (omega (arith, lt))
  in_any P (y ∷ ys) (zero, x, lt, is, p) = (x, inl is, p)
  in_any P (y ∷ ys) (suc k, x, lt, is, p) = let (z, i, q) = in_any P ys (k, x, omega (arith, lt), is, p) in (z, inr i, q)

  not_less : (x : X) → cmp x x ≡ Less → ⊥
  not_less x e = let t : cmp x x ≡ Equal = tied_itself total x in cc

  not_both : (x y : X) → cmp x y ≡ Less → cmp y x ≡ Less → ⊥
  not_both x y e f = not_less x (total.trans x y x e f)

  -- strictly sorted lists with the same members are one
  within : (x : X) (xs ys : List X) → AllByRecursion (λ t. cmp x t ≡ Less) xs → ((z : X) → In z (x ∷ xs) → In z (x ∷ ys)) → (z : X) → In z xs → In z ys
  within x xs ys below sub z i = by_position (sub z (inr i))
    where
      by_position : In z (x ∷ ys) → In z ys
      by_position (inl e) = let l : cmp x z ≡ Less = in_all (λ t. cmp x t ≡ Less) z xs below i in absurd (not_less x (subst (λ t. cmp x t ≡ Less) (sym e) l))
      by_position (inr j) = j

  heads : (x y : X) (xs ys : List X) → AllByRecursion (λ t. cmp x t ≡ Less) xs → AllByRecursion (λ t. cmp y t ≡ Less) ys → In x (y ∷ ys) → In y (x ∷ xs) → y ≡ x
  heads x y xs ys a b (inl e) j = e
  heads x y xs ys a b (inr i) (inl e) = sym e
  heads x y xs ys a b (inr i) (inr j) = absurd (not_both x y (in_all (λ t. cmp x t ≡ Less) y xs a j) (in_all (λ t. cmp y t ≡ Less) x ys b i))

  pub one_order : (xs ys : List X) → IsStrictlySortedBy cmp xs → IsStrictlySortedBy cmp ys → ((z : X) → In z xs → In z ys) → ((z : X) → In z ys → In z xs) → xs ≡ ys
  unfolding IsStrictlySortedBy
  one_order [] [] a b f g = refl
  one_order [] (y ∷ ys) a b f g = absurd (g y (inl refl))
  one_order (x ∷ xs) [] a b f g = absurd (f x (inl refl))
  one_order (x ∷ xs) (y ∷ ys) a b f g =
      let e : y ≡ x = heads x y xs ys a.0 b.0 (f x (inl refl)) (g y (inl refl)) in
      let f' = subst (λ w. (z : X) → In z (x ∷ xs) → In z (w ∷ ys)) e f in
      let g' = subst (λ w. (z : X) → In z (w ∷ ys) → In z (x ∷ xs)) e g in
      let b' = subst (λ w. AllByRecursion (λ t. cmp w t ≡ Less) ys) e b.0 in
      let rest : xs ≡ ys = one_order xs ys a.1 b.1 (within x xs ys a.0 f') (within x ys xs b' g') in
      ap (λ t. x ∷ t) rest ∙ ap (λ w. w ∷ ys) (sym e)

-- where the entries at a origin weigh something, one is there
entry_found : (p : Origin) (es : List Entry) → 0 < blocks_at p es → (k : ℕ) × (k < length es) × ((d : Entry) → (get_or es k d).at ≡ p)
entry_found p [] some = absurd (omega (arith, some))
entry_found p (e ∷ es) some = by_weight (weigh p e.at 1) refl (entry_found p es)
  where
    by_weight : (n : ℕ) → weigh p e.at 1 ≡ n → (0 < blocks_at p es → (k : ℕ) × (k < length es) × ((d : Entry) → (get_or es k d).at ≡ p)) → (k : ℕ) × (k < length (e ∷ es)) × ((d : Entry) → (get_or (e ∷ es) k d).at ≡ p)
    by_weight zero is later = let (k, lt, at) = later (omega (arith, some, is, sum_by-cons (λ (f : Entry). weigh p f.at 1) e es)) in (suc k, omega (arith, lt), at)
    by_weight (suc n) is later = (0, omega arith, λ d. weighs_at p e.at 1 (omega (arith, is)))

member : (entries : List Entry) (xs ys : List Site) → AreSites entries xs → AreSites entries ys → (x : Site) → In site_cmp site_total x xs → In site_cmp site_total x ys
member entries xs ys a b x i =
    let s : IsSiteOf entries x = in_all site_cmp site_total (IsSiteOf entries) x xs (recursion_from_All (IsSiteOf entries) xs a.exact) i in
    let (k, lt, at) = entry_found x.at entries (omega (arith, s.some, s.blocks)) in
    let none : Entry = record { addr = 0; size = 0; line = 0; at = x.at } in
    let (y, j, same) = in_any site_cmp site_total (λ (t : Site). t.at ≡ (get_or entries k none).at) ys (b.covers k none lt) in
    let t : IsSiteOf entries y = in_all site_cmp site_total (IsSiteOf entries) y ys (recursion_from_All (IsSiteOf entries) ys b.exact) j in
    let location : y.at ≡ x.at = same ∙ at none in
    let blocks : y.blocks ≡ x.blocks = t.blocks ∙ ap (λ p. blocks_at p entries) location ∙ sym s.blocks in
    let bytes : y.bytes ≡ x.bytes = t.bytes ∙ ap (λ p. bytes_at p entries) location ∙ sym s.bytes in
    let whole : y ≡ x = (λ i. record { blocks = blocks i; bytes = bytes i; at = location i }) in
    subst (λ z. In site_cmp site_total z ys) whole j

pub one_list : (entries : List Entry) (xs ys : List Site) → AreSites entries xs → AreSites entries ys → xs ≡ ys
one_list entries xs ys a b = one_order site_cmp site_total xs ys a.order b.order (member entries xs ys a b) (member entries ys xs b a)

-- so is each caller of the one list a caller of the other
caller_in : (calls temporary : List Entry) (xs ys : List Caller) → AreCallers calls temporary xs → AreCallers calls temporary ys
    → (x : Caller) → In caller_cmp caller_total x xs → In caller_cmp caller_total x ys
caller_in calls temporary xs ys a b x i =
    let s : IsCallerOf calls temporary x = in_all caller_cmp caller_total (IsCallerOf calls temporary) x xs (recursion_from_All (IsCallerOf calls temporary) xs a.exact) i in
    let (k, lt, at) = entry_found x.at calls (omega (arith, s.some, s.calls_are)) in
    let none : Entry = record { addr = 0; size = 0; line = 0; at = x.at } in
    let (y, j, same) = in_any caller_cmp caller_total (λ (t : Caller). t.at ≡ (get_or calls k none).at) ys (b.covers k none lt) in
    let t : IsCallerOf calls temporary y = in_all caller_cmp caller_total (IsCallerOf calls temporary) y ys (recursion_from_All (IsCallerOf calls temporary) ys b.exact) j in
    let location : y.at ≡ x.at = same ∙ at none in
    let asked : y.calls ≡ x.calls = t.calls_are ∙ ap (λ p. blocks_at p calls) location ∙ sym s.calls_are in
    let bytes : y.bytes ≡ x.bytes = t.bytes_are ∙ ap (λ p. bytes_at p calls) location ∙ sym s.bytes_are in
    let short : y.temporary ≡ x.temporary = t.temporary_are ∙ ap (λ p. blocks_at p temporary) location ∙ sym s.temporary_are in
    let whole : y ≡ x = (λ i. record { calls = asked i; bytes = bytes i; temporary = short i; at = location i }) in
    subst (λ z. In caller_cmp caller_total z ys) whole j

pub one_list_of_callers : (calls temporary : List Entry) (xs ys : List Caller) → AreCallers calls temporary xs → AreCallers calls temporary ys → xs ≡ ys
one_list_of_callers calls temporary xs ys a b = one_order caller_cmp caller_total xs ys a.order b.order (caller_in calls temporary xs ys a b) (caller_in calls temporary ys xs b a)
