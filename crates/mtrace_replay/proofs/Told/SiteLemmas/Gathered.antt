-- What the runs are.
use Rattle.std.proofs.Common.{◌≡◌, ℕ, ◌+◌, ◌<◌, ◌≤◌, true, false, cond, List, [], ◌∷◌, length, refl, sym, ap, ◌∙◌, subst, arith, ◌⊎◌, inl, inr}
use Rattle.std.specs.Bool.{⊤}
use Rattle.std.specs.List.{AllByRecursion, sum_by}
use Rattle.std.specs.Ordering.{is_eq, is_lt}
use Rattle.std.specs.declared.cmp.Ordering.TheVariants.{Less}
use Rattle.std.proofs.lemmas.List.Sums.{sum_by-cons}
use Rattle.mtrace_replay.specs.Sites.{Origin, origin_cmp, Site, weigh}
use Rattle.mtrace_replay.specs.Gather.{own, joined, is_same, onto, gather, Ordered, Rising}
use Rattle.mtrace_replay.specs.Entry.{Entry}
use Rattle.mtrace_replay.proofs.Told.SiteLemmas.Origins.{origin_total, origin_same, is_eq-Equal, below_other, bool_cases, weigh-add, weigh-same, weigh-other, weigh-below}

pub onto-same : (e : Entry) (s : Site) (ss : List Site) → is_same s e ≡ true → onto e (s ∷ ss) ≡ joined s e ∷ ss
onto-same e s ss is = ap (λ t. cond t (joined s e ∷ ss) (own e ∷ (s ∷ ss))) is

pub onto-other : (e : Entry) (s : Site) (ss : List Site) → is_same s e ≡ false → onto e (s ∷ ss) ≡ own e ∷ (s ∷ ss)
onto-other e s ss is = ap (λ t. cond t (joined s e ∷ ss) (own e ∷ (s ∷ ss))) is

-- ---- the runs at a origin have in sum what the entries have there, by any measure that joins
module _ (m : Site → ℕ) (n : Entry → ℕ) (begins : (e : Entry) → m (own e) ≡ n e) (joins : (s : Site) (e : Entry) → m (joined s e) ≡ m s + n e) where
  abbrev in_runs : Origin → List Site → ℕ
  in_runs p ss = sum_by (λ s. weigh p s.at (m s)) ss

  onto_total : (p : Origin) (e : Entry) (ss : List Site) → in_runs p (onto e ss) ≡ weigh p e.at (n e) + in_runs p ss
  onto_total p e [] = sum_by-cons (λ s. weigh p s.at (m s)) (own e) [] ∙ ap (λ k. weigh p e.at k + 0) (begins e)
  onto_total p e (s ∷ ss) = by_test (bool_cases (is_same s e))
    where
      f : Site → ℕ
      f t = weigh p t.at (m t)

      by_test : (is_same s e ≡ true) ⊎ (is_same s e ≡ false) → in_runs p (onto e (s ∷ ss)) ≡ weigh p e.at (n e) + in_runs p (s ∷ ss)
      by_test (inl is) =
          let at : s.at ≡ e.at = origin_same s.at e.at (is_eq-Equal (origin_cmp s.at e.at) is) in
          let a : in_runs p (onto e (s ∷ ss)) ≡ in_runs p (joined s e ∷ ss) = ap (in_runs p) (onto-same e s ss is) in
          let b : in_runs p (joined s e ∷ ss) ≡ weigh p s.at (m (joined s e)) + in_runs p ss = sum_by-cons (λ t. weigh p t.at (m t)) (joined s e) ss in
          let c : weigh p s.at (m (joined s e)) ≡ weigh p s.at (m s) + weigh p s.at (n e) = ap (weigh p s.at) (joins s e) ∙ weigh-add p s.at (m s) (n e) in
          let d : in_runs p (s ∷ ss) ≡ weigh p s.at (m s) + in_runs p ss = sum_by-cons (λ t. weigh p t.at (m t)) s ss in
          let g : weigh p s.at (n e) ≡ weigh p e.at (n e) = ap (λ q. weigh p q (n e)) at in
          omega (arith, a, b, c, d, g)
      by_test (inr is) = ap (in_runs p) (onto-other e s ss is) ∙ sum_by-cons (λ t. weigh p t.at (m t)) (own e) (s ∷ ss) ∙ ap (λ k. weigh p e.at k + in_runs p (s ∷ ss)) (begins e)

  pub gather_total : (p : Origin) (es : List Entry) → in_runs p (gather es) ≡ sum_by (λ e. weigh p e.at (n e)) es
  gather_total p [] = refl
  gather_total p (e ∷ es) = onto_total p e (gather es) ∙ ap (λ k. weigh p e.at (n e) + k) (gather_total p es) ∙ sym (sum_by-cons (λ f. weigh p f.at (n f)) e es)

-- ---- the runs rise
all_map : {X : Type 0} (P Q : X → Type 0) → ((x : X) → P x → Q x) → (xs : List X) → AllByRecursion P xs → AllByRecursion Q xs
all_map P Q h [] all = tt
all_map P Q h (x ∷ xs) (here, there) = (h x here, all_map P Q h xs there)

abbrev FirstAt : Origin → List Site → Type 0
FirstAt p [] = ⊤
FirstAt p (s ∷ ss) = s.at ≡ p

abbrev FirstNotBelow : Entry → List Site → Type 0
FirstNotBelow e [] = ⊤
FirstNotBelow e (s ∷ ss) = is_lt (origin_cmp s.at e.at) ≡ false

first_at : (e : Entry) (ss : List Site) → FirstAt e.at (onto e ss)
first_at e [] = refl
first_at e (s ∷ ss) = by_test (bool_cases (is_same s e))
  where
    by_test : (is_same s e ≡ true) ⊎ (is_same s e ≡ false) → FirstAt e.at (onto e (s ∷ ss))
    by_test (inl is) = subst (FirstAt e.at) (sym (onto-same e s ss is)) (origin_same s.at e.at (is_eq-Equal (origin_cmp s.at e.at) is))
    by_test (inr is) = subst (FirstAt e.at) (sym (onto-other e s ss is)) refl

first_ok : (e : Entry) (p : Origin) (ss : List Site) → FirstAt p ss → is_lt (origin_cmp p e.at) ≡ false → FirstNotBelow e ss
first_ok e p [] at not = tt
first_ok e p (s ∷ ss) at not = ap (λ q. is_lt (origin_cmp q e.at)) at ∙ not

rising_onto : (e : Entry) (ss : List Site) → Rising ss → FirstNotBelow e ss → Rising (onto e ss)
rising_onto e [] up first = (tt, tt)
rising_onto e (s ∷ ss) up first = by_test (bool_cases (is_same s e))
  where
    by_test : (is_same s e ≡ true) ⊎ (is_same s e ≡ false) → Rising (onto e (s ∷ ss))
    by_test (inl is) = subst Rising (sym (onto-same e s ss is)) (up.0, up.1)
    by_test (inr is) =
        let less : origin_cmp e.at s.at ≡ Less = below_other e.at s.at first is in
        subst Rising (sym (onto-other e s ss is))
        ((less, all_map (λ t. origin_cmp s.at t.at ≡ Less) (λ t. origin_cmp e.at t.at ≡ Less) (λ t h. origin_total.trans e.at s.at t.at less h) ss up.0), up)

pub gather_rising : (es : List Entry) → Ordered es → Rising (gather es)
gather_rising [] order = tt
gather_rising (e ∷ []) order = (tt, tt)
gather_rising (e ∷ (f ∷ es)) order = rising_onto e (gather (f ∷ es)) (gather_rising (f ∷ es) order.1) (first_ok e f.at (gather (f ∷ es)) (first_at f (gather es)) order.0)

-- ---- an origin below all runs has none
none : (m : Site → ℕ) (p : Origin) (ss : List Site) → AllByRecursion (λ t. origin_cmp p t.at ≡ Less) ss → sum_by (λ t. weigh p t.at (m t)) ss ≡ 0
none m p [] all = refl
none m p (s ∷ ss) (here, there) = sum_by-cons (λ t. weigh p t.at (m t)) s ss ∙ (omega (arith, weigh-below p s.at (m s) here, none m p ss there))

-- no origin has two runs
pub rising_one : (ss : List Site) → Rising ss → (p : Origin) → sum_by (λ t. weigh p t.at 1) ss ≤ 1
rising_one [] up p = omega arith
rising_one (s ∷ ss) (below, up) p = by_test (rising_one ss up p) (bool_cases (is_eq (origin_cmp p s.at)))
  where
    by_test : sum_by (λ t. weigh p t.at 1) ss ≤ 1 → (is_eq (origin_cmp p s.at) ≡ true) ⊎ (is_eq (origin_cmp p s.at) ≡ false) → sum_by (λ t. weigh p t.at 1) (s ∷ ss) ≤ 1
    by_test rest_one (inl is) =
        let at : p ≡ s.at = origin_same p s.at (is_eq-Equal (origin_cmp p s.at) is) in
        let rest : sum_by (λ t. weigh p t.at 1) ss ≡ 0 = subst (λ q. sum_by (λ t. weigh q t.at 1) ss ≡ 0) (sym at) (none (λ t. 1) s.at ss below) in
        omega (arith, sum_by-cons (λ t. weigh p t.at 1) s ss, weigh-same p s.at 1 is, rest)
    by_test rest_one (inr is) = omega (arith, sum_by-cons (λ t. weigh p t.at 1) s ss, weigh-other p s.at 1 is, rest_one)

-- no run is empty
onto_some : (e : Entry) (ss : List Site) → AllByRecursion (λ s. 0 < s.blocks) ss → AllByRecursion (λ s. 0 < s.blocks) (onto e ss)
onto_some e [] all = (omega arith, tt)
onto_some e (s ∷ ss) (here, there) = by_test (bool_cases (is_same s e))
  where
    by_test : (is_same s e ≡ true) ⊎ (is_same s e ≡ false) → AllByRecursion (λ s. 0 < s.blocks) (onto e (s ∷ ss))
    by_test (inl is) = subst (AllByRecursion (λ s. 0 < s.blocks)) (sym (onto-same e s ss is)) (omega arith, there)
    by_test (inr is) = subst (AllByRecursion (λ s. 0 < s.blocks)) (sym (onto-other e s ss is)) (omega arith, (here, there))

pub gather_some : (es : List Entry) → AllByRecursion (λ s. 0 < s.blocks) (gather es)
gather_some [] = tt
gather_some (e ∷ es) = onto_some e (gather es) (gather_some es)

-- no run has more than all entries have
onto_small : (e : Entry) (n b : ℕ) (ss : List Site) → AllByRecursion (λ s. (s.blocks ≤ n) × (s.bytes ≤ b)) ss → AllByRecursion (λ s. (s.blocks ≤ n + 1) × (s.bytes ≤ e.size + b)) (onto e ss)
onto_small e n b [] all = ((omega arith, omega arith), tt)
onto_small e n b (s ∷ ss) (here, there) = by_test (all_map (λ t. (t.blocks ≤ n) × (t.bytes ≤ b)) (λ t. (t.blocks ≤ n + 1) × (t.bytes ≤ e.size + b)) (λ t h. (omega (arith, h.0), omega (arith, h.1))) ss there) (bool_cases (is_same s e))
  where
    by_test : AllByRecursion (λ t. (t.blocks ≤ n + 1) × (t.bytes ≤ e.size + b)) ss → (is_same s e ≡ true) ⊎ (is_same s e ≡ false) → AllByRecursion (λ s. (s.blocks ≤ n + 1) × (s.bytes ≤ e.size + b)) (onto e (s ∷ ss))
    by_test rest (inl is) = subst (AllByRecursion (λ s. (s.blocks ≤ n + 1) × (s.bytes ≤ e.size + b))) (sym (onto-same e s ss is)) ((omega (arith, here.0), omega (arith, here.1)), rest)
    by_test rest (inr is) = subst (AllByRecursion (λ s. (s.blocks ≤ n + 1) × (s.bytes ≤ e.size + b))) (sym (onto-other e s ss is)) ((omega arith, omega arith), ((omega (arith, here.0), omega (arith, here.1)), rest))

pub gather_small : (es : List Entry) → AllByRecursion (λ s. (s.blocks ≤ length es) × (s.bytes ≤ sum_by (λ e. e.size) es)) (gather es)
gather_small [] = tt
gather_small (e ∷ es) =
    let more : length (e ∷ es) ≡ length es + 1 = omega arith in
    let P = λ (n b : ℕ). AllByRecursion (λ (s : Site). (s.blocks ≤ n) × (s.bytes ≤ b)) (gather (e ∷ es)) in
    subst (λ n. P n (sum_by (λ e. e.size) (e ∷ es))) (sym more)
    (subst (λ b. P (length es + 1) b) (sym (sum_by-cons (λ (e : Entry). e.size) e es)) (onto_small e (length es) (sum_by (λ e. e.size) es) (gather es) (gather_small es)))
