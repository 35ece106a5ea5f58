-- The sites that have changed, by their slots, are those of the entries.
use Rattle.std.proofs.Common.{cond, Bool, true, false, ◌≡◌, ◌⊎◌, ℕ, suc, ◌+◌, ◌≤◌, List, [], ◌∷◌, inl, inr, refl, sym, ap, ◌∙◌, arith}
use Rattle.std.specs.Prelude.{◌==◌, ◌&&◌, ◌||◌, nat_eq, if◌then◌else◌}
use Rattle.std.specs.List.{AllByRecursion, Any, sum_by, IsDistinct}
use Rattle.std.specs.List.Sorted.{IsPermutation, IsSorted}
use Rattle.std.specs.Ordering.{is_eq}
use Rattle.std.specs.Cmp.Lexicographic.{pointwise}
use Rattle.std.proofs.lemmas.List.Sums.{sum_by-cons}
use Rattle.std.proofs.lemmas.List.Sorted.{sum_by-IsPermutation, All-permutation}
use Rattle.std.proofs.lemmas.List.Elements.{All-from_recursion}
use Rattle.std.proofs.lemmas.Bool.{eqb-true, eq-eqb, false≢true}
use Rattle.mtrace_replay.specs.Entry.{Entry}
use Rattle.mtrace_replay.specs.Sites.{Origin, Site, origin_cmp, weigh, blocks_at, bytes_at, site_cmp, AreTallied}
use Rattle.mtrace_replay.specs.Changes.{AreChanges, HasChanged, IsChange}
use Rattle.mtrace_replay.specs.declared.held.amount.Amount.{Amount}
use Rattle.mtrace_replay.specs.Shares.{Between, has_no_block, is_unchanged, origins, rows_by, site_at, site_now, sites_of, changes_of}
use Rattle.mtrace_replay.proofs.Told.SiteLemmas.Exact.{site_total, site_same}
use Rattle.mtrace_replay.proofs.Told.SiteLemmas.OneEach.{has_one, strict, weigh-nothing}
use Rattle.mtrace_replay.proofs.Told.SiteLemmas.Origins.{is_eq-Equal, origin_same, weigh-self}
use Rattle.mtrace_replay.proofs.OnLedger.RowsBySlot.{one_origin, one_row, rows_weigh, weighed}

-- an origin has this slot, where the first of these has the other
abbrev IsAt : List Origin → (first slot : ℕ) → Origin → Type 0
IsAt [] first slot at = ⊥
IsAt (one ∷ rest) first slot at = ((first ≡ slot) × (one ≡ at)) ⊎ IsAt rest (suc first) slot at

-- an origin that has a slot weighs, and one that has none doesn't
some_weigh : (all : List Origin) (first slot : ℕ) (p : Origin) → IsAt all first slot p → 1 ≤ weighed p all first (λ s. 1)
unfolding weighed
some_weigh [] first slot p is = absurd is
some_weigh (one ∷ rest) first slot p (inl (number, same)) = omega (arith, ap (λ (q : Origin). weigh p q 1) same, weigh-self p 1)
some_weigh (one ∷ rest) first slot p (inr later) = omega (arith, some_weigh rest (suc first) slot p later)

none_weigh : (all : List Origin) (first : ℕ) (p : Origin) (f : ℕ → ℕ) → weighed p all first (λ s. 1) ≡ 0 → weighed p all first f ≡ 0
unfolding weighed
none_weigh [] first p f none = refl
none_weigh (one ∷ rest) first p f none =
    omega (arith, weigh-nothing p one (f first) (omega (arith, none)), none_weigh rest (suc first) p f (omega (arith, none)))

-- what an origin weighs is what its slot has
its_weight : (all : List Origin) (first slot : ℕ) (p : Origin) (f : ℕ → ℕ) → weighed p all first (λ s. 1) ≤ 1 → IsAt all first slot p → weighed p all first f ≡ f slot
unfolding weighed
its_weight [] first slot p f few is = absurd is
its_weight (one ∷ rest) first slot p f few (inl (number, same)) =
    let whole : weigh p one 1 ≡ 1 = ap (λ (q : Origin). weigh p q 1) same ∙ weigh-self p 1 in
    let its : weigh p one (f first) ≡ f slot = ap (λ (q : Origin). weigh p q (f first)) same ∙ weigh-self p (f first) ∙ ap f number in
    omega (arith, its, none_weigh rest (suc first) p f (omega (arith, few, whole)))
its_weight (one ∷ rest) first slot p f few (inr later) =
    let some = some_weigh rest (suc first) slot p later in
    omega (arith, weigh-nothing p one (f first) (omega (arith, few, some)), its_weight rest (suc first) slot p f (omega (arith, few)) later)

-- an origin has a slot, or weighs nothing
find_slot : (all : List Origin) (first : ℕ) (p : Origin) → ((slot : ℕ) × IsAt all first slot p) ⊎ ((f : ℕ → ℕ) → weighed p all first f ≡ 0)
unfolding weighed
find_slot [] first p = inr (λ f. refl)
find_slot (one ∷ rest) first p = by (is_eq (origin_cmp p one)) refl (find_slot rest (suc first) p)
  where
    by : (b : Bool) → is_eq (origin_cmp p one) ≡ b → ((slot : ℕ) × IsAt rest (suc first) slot p) ⊎ ((f : ℕ → ℕ) → weighed p rest (suc first) f ≡ 0)
        → ((slot : ℕ) × IsAt (one ∷ rest) first slot p) ⊎ ((f : ℕ → ℕ) → weigh p one (f first) + weighed p rest (suc first) f ≡ 0)
    by true is later = inl (first, inl (refl, sym (origin_same p one (is_eq-Equal (origin_cmp p one) is))))
    by false is (inl found) = inl (found.0, inr found.1)
    by false is (inr none) = inr (λ f. omega (arith, none f, ap (λ b. cond {A = ℕ} b (f first) 0) is))

module _ {C R : Type 0} (is_nothing : C → Bool) (row : Origin → C → R) (f : ℕ → C) where
  -- what is so of each row, by its slot
  rows_hold : (P : R → Type 0) (all : List Origin) (first : ℕ) → ((slot : ℕ) (at : Origin) → IsAt all first slot at → is_nothing (f slot) ≡ false → P (row at (f slot)))
      → AllByRecursion P (rows_by is_nothing row f all first)
  rows_hold P [] first each = tt
  rows_hold P (one ∷ rest) first each = by (is_nothing (f first)) refl (rows_hold P rest (suc first) (λ slot at is. each slot at (inr is)))
    where
      by : (b : Bool) → is_nothing (f first) ≡ b → AllByRecursion P (rows_by is_nothing row f rest (suc first))
          → AllByRecursion P (cond b (rows_by is_nothing row f rest (suc first)) (row one (f first) ∷ rows_by is_nothing row f rest (suc first)))
      by true is later = later
      by false is later = (each first one (inl (refl, refl)) is, later)

  -- where there is something of a slot its origin has a row
  has_row : (at_of : R → Origin) → ((at : Origin) (c : C) → at_of (row at c) ≡ at) → (all : List Origin) (first slot : ℕ) (p : Origin) → IsAt all first slot p → is_nothing (f slot) ≡ false
      → 1 ≤ sum_by (λ r. weigh p (at_of r) 1) (rows_by is_nothing row f all first)
  has_row at_of its [] first slot p is some = absurd is
  has_row at_of its (one ∷ rest) first slot p is some = by (is_nothing (f first)) refl is (λ later. has_row at_of its rest (suc first) slot p later some)
    where
      by : (b : Bool) → is_nothing (f first) ≡ b → ((first ≡ slot) × (one ≡ p)) ⊎ IsAt rest (suc first) slot p
          → (IsAt rest (suc first) slot p → 1 ≤ sum_by (λ r. weigh p (at_of r) 1) (rows_by is_nothing row f rest (suc first)))
          → 1 ≤ sum_by (λ r. weigh p (at_of r) 1) (cond b (rows_by is_nothing row f rest (suc first)) (row one (f first) ∷ rows_by is_nothing row f rest (suc first)))
      by true nothing (inl (number, same)) later = absurd (false≢true (sym (ap (λ s. is_nothing (f s)) number ∙ some) ∙ nothing))
      by true nothing (inr is) later = later is
      by false nothing (inl (number, same)) later =
          let here : weigh p (at_of (row one (f first))) 1 ≡ 1 = ap (λ (q : Origin). weigh p q 1) (its one (f first) ∙ same) ∙ weigh-self p 1 in
          omega (arith, sum_by-cons (λ (r : R). weigh p (at_of r) 1) (row one (f first)) (rows_by is_nothing row f rest (suc first)), here)
      by false nothing (inr is) later = omega (arith, sum_by-cons (λ (r : R). weigh p (at_of r) 1) (row one (f first)) (rows_by is_nothing row f rest (suc first)), later is)

-- the bytes that count: none where there is no block
abbrev counted_bytes : Amount → ℕ
counted_bytes amount = if amount.blocks == 0 then 0 else amount.bytes

module _ (locations : List (List ℕ)) (distinct : IsDistinct (pointwise nat_eq) locations) (f : ℕ → Amount) (entries : List Entry) (tallied : AreTallied entries (sites_of f locations)) where
  -- the blocks and the bytes of an origin are those that its slot has, and none where it has no slot
  blocks_weigh : (p : Origin) → blocks_at p entries ≡ weighed p (origins locations) 0 (λ slot. (f slot).blocks)
  blocks_weigh p =
      sym (tallied.blocks p)
      ∙ rows_weigh p has_no_block site_at (λ s. s.at) (λ at a. refl) f (λ a. a.blocks) (λ s. s.blocks) (λ at a some. refl) (λ slot none. eqb-true (f slot).blocks 0 none) (origins locations) 0

  bytes_weigh : (p : Origin) → bytes_at p entries ≡ weighed p (origins locations) 0 (λ slot. counted_bytes (f slot))
  bytes_weigh p =
      sym (tallied.bytes p)
      ∙ rows_weigh p has_no_block site_at (λ s. s.at) (λ at a. refl) f counted_bytes (λ s. s.bytes) (λ at a some. sym (ap (λ b. cond {A = ℕ} b 0 a.bytes) some))
      (λ slot none. ap (λ b. cond {A = ℕ} b 0 (f slot).bytes) none) (origins locations) 0

  its_blocks : (slot : ℕ) (p : Origin) → IsAt (origins locations) 0 slot p → blocks_at p entries ≡ (f slot).blocks
  its_blocks slot p is = blocks_weigh p ∙ its_weight (origins locations) 0 slot p (λ s. (f s).blocks) (one_origin p locations distinct) is

  its_bytes : (slot : ℕ) (p : Origin) → IsAt (origins locations) 0 slot p → bytes_at p entries ≡ counted_bytes (f slot)
  its_bytes slot p is = bytes_weigh p ∙ its_weight (origins locations) 0 slot p (λ s. counted_bytes (f s)) (one_origin p locations distinct) is

-- neither has changed exactly where both amounts count the same
same_amounts : (one : Between) → is_unchanged one ≡ true → (one.before.blocks ≡ one.now.blocks) × (counted_bytes one.before ≡ counted_bytes one.now)
same_amounts one = by (one.before.blocks == one.now.blocks) (one.now.blocks == 0) (one.before.bytes == one.now.bytes) refl refl refl
  where
    by : (blocks none bytes : Bool) → (one.before.blocks == one.now.blocks) ≡ blocks → (one.now.blocks == 0) ≡ none → (one.before.bytes == one.now.bytes) ≡ bytes
        → (blocks && (none || bytes)) ≡ true → (one.before.blocks ≡ one.now.blocks) × (counted_bytes one.before ≡ counted_bytes one.now)
    by false none bytes b n y is = absurd (false≢true is)
    by true false false b n y is = absurd (false≢true is)
    by true true bytes b n y is =
        let same = eqb-true one.before.blocks one.now.blocks b in (
          same,
          ap (λ t. cond {A = ℕ} t 0 one.before.bytes) (ap (λ m. m == 0) same ∙ n) ∙ sym (ap (λ t. cond {A = ℕ} t 0 one.now.bytes) n),
        )
    by true false true b n y is =
        let same = eqb-true one.before.blocks one.now.blocks b in (
          same,
          ap (λ t. cond {A = ℕ} t 0 one.before.bytes) (ap (λ m. m == 0) same ∙ n) ∙ eqb-true one.before.bytes one.now.bytes y ∙ sym (ap (λ t. cond {A = ℕ} t 0 one.now.bytes) n),
        )

other_amounts : (one : Between) → is_unchanged one ≡ false → (one.before.blocks ≡ one.now.blocks) → (counted_bytes one.before ≡ counted_bytes one.now) → ⊥
other_amounts one other blocks bytes = by (one.now.blocks == 0) refl
  where
    by : (none : Bool) → (one.now.blocks == 0) ≡ none → ⊥
    by true n =
        false≢true (sym other ∙ ap (λ t. t && ((one.now.blocks == 0) || (one.before.bytes == one.now.bytes))) (eq-eqb one.before.blocks one.now.blocks blocks) ∙ ap (λ t. t || (one.before.bytes == one.now.bytes)) n)
    by false n =
        let same : one.before.bytes ≡ one.now.bytes =
        sym (ap (λ t. cond {A = ℕ} t 0 one.before.bytes) (ap (λ m. m == 0) blocks ∙ n)) ∙ bytes ∙ ap (λ t. cond {A = ℕ} t 0 one.now.bytes) n in
        false≢true (sym other ∙ ap (λ t. t && ((one.now.blocks == 0) || (one.before.bytes == one.now.bytes))) (eq-eqb one.before.blocks one.now.blocks blocks)
        ∙ ap (λ t. t || (one.before.bytes == one.now.bytes)) n ∙ eq-eqb one.before.bytes one.now.bytes same)

its_counted : (amount : Amount) → (amount.blocks ≡ 0 → amount.bytes ≡ 0) → amount.bytes ≡ counted_bytes amount
its_counted amount none = by (amount.blocks == 0) refl
  where
    by : (b : Bool) → (amount.blocks == 0) ≡ b → amount.bytes ≡ cond b 0 amount.bytes
    by true is = none (eqb-true amount.blocks 0 is)
    by false is = refl

module _ (locations : List (List ℕ)) (distinct : IsDistinct (pointwise nat_eq) locations) (f : ℕ → Between) (before now : List Entry)
    (tallied_before : AreTallied before (sites_of (λ slot. (f slot).before) locations)) (tallied_now : AreTallied now (sites_of (λ slot. (f slot).now) locations))
    (no_bytes : (slot : ℕ) → (f slot).now.blocks ≡ 0 → (f slot).now.bytes ≡ 0) where
  blocks_before : (slot : ℕ) (at : Origin) → IsAt (origins locations) 0 slot at → blocks_at at before ≡ (f slot).before.blocks
  blocks_before = its_blocks locations distinct (λ slot. (f slot).before) before tallied_before

  bytes_before : (slot : ℕ) (at : Origin) → IsAt (origins locations) 0 slot at → bytes_at at before ≡ counted_bytes (f slot).before
  bytes_before = its_bytes locations distinct (λ slot. (f slot).before) before tallied_before

  blocks_now : (slot : ℕ) (at : Origin) → IsAt (origins locations) 0 slot at → blocks_at at now ≡ (f slot).now.blocks
  blocks_now = its_blocks locations distinct (λ slot. (f slot).now) now tallied_now

  bytes_now : (slot : ℕ) (at : Origin) → IsAt (origins locations) 0 slot at → bytes_at at now ≡ counted_bytes (f slot).now
  bytes_now = its_bytes locations distinct (λ slot. (f slot).now) now tallied_now

  exact_row : (slot : ℕ) (at : Origin) → IsAt (origins locations) 0 slot at → is_unchanged (f slot) ≡ false → IsChange before now (site_now at (f slot))
  exact_row slot at is other = record {
    blocks = sym (blocks_now slot at is);
    bytes = its_counted (f slot).now (no_bytes slot) ∙ sym (bytes_now slot at is);
    changed = by ((f slot).before.blocks == (f slot).now.blocks) refl;
  }
    where
      by : (b : Bool) → ((f slot).before.blocks == (f slot).now.blocks) ≡ b → HasChanged before now at
      by false differ = inl (λ same. false≢true (sym differ ∙ eq-eqb (f slot).before.blocks (f slot).now.blocks (sym (blocks_before slot at is) ∙ same ∙ blocks_now slot at is)))
      by true alike = inr (λ same. other_amounts (f slot) other (eqb-true (f slot).before.blocks (f slot).now.blocks alike) (sym (bytes_before slot at is) ∙ same ∙ bytes_now slot at is))

  unchanged_row : (slot : ℕ) (at : Origin) → IsAt (origins locations) 0 slot at → is_unchanged (f slot) ≡ true → HasChanged before now at → ⊥
  unchanged_row slot at is same (inl blocks) = blocks (blocks_before slot at is ∙ (same_amounts (f slot) same).0 ∙ sym (blocks_now slot at is))
  unchanged_row slot at is same (inr bytes) = bytes (bytes_before slot at is ∙ (same_amounts (f slot) same).1 ∙ sym (bytes_now slot at is))

  nowhere : (at : Origin) → ((g : ℕ → ℕ) → weighed at (origins locations) 0 g ≡ 0) → HasChanged before now at → ⊥
  nowhere at none (inl blocks) = blocks
      (blocks_weigh locations distinct (λ slot. (f slot).before) before tallied_before at ∙ none (λ slot. (f slot).before.blocks)
      ∙ sym (blocks_weigh locations distinct (λ slot. (f slot).now) now tallied_now at ∙ none (λ slot. (f slot).now.blocks)))
  nowhere at none (inr bytes) = bytes
      (bytes_weigh locations distinct (λ slot. (f slot).before) before tallied_before at ∙ none (λ slot. counted_bytes (f slot).before)
      ∙ sym (bytes_weigh locations distinct (λ slot. (f slot).now) now tallied_now at ∙ none (λ slot. counted_bytes (f slot).now)))

  -- the rows of what has changed, in the order of sites, are the changes
  pub are_changes : (sites : List Site) → IsPermutation (changes_of f locations) sites → IsSorted site_cmp sites → AreChanges before now sites
  are_changes sites arranged up =
      let rows = changes_of f locations in
      record {
        order = strict (λ s. s.at) site_cmp site_total (λ s t tie. ap (λ (u : Site). u.at) (site_same s t tie)) sites up
            (λ p. omega (arith, sum_by-IsPermutation (λ t. weigh p t.at 1) rows sites arranged, one_row p is_unchanged site_now (λ s. s.at) (λ at a. refl) f locations distinct));
        exact = All-permutation (IsChange before now) rows sites arranged
            (All-from_recursion (IsChange before now) rows (rows_hold is_unchanged site_now f (IsChange before now) (origins locations) 0 exact_row));
        covers = λ at changed. covered at changed (find_slot (origins locations) 0 at);
      }
    where
      covered : (at : Origin) → HasChanged before now at → ((slot : ℕ) × IsAt (origins locations) 0 slot at) ⊎ ((g : ℕ → ℕ) → weighed at (origins locations) 0 g ≡ 0) → Any (λ s. s.at ≡ at) sites
      covered at changed (inr none) = absurd (nowhere at none changed)
      covered at changed (inl (slot, is)) = by (is_unchanged (f slot)) refl
        where
          by : (b : Bool) → is_unchanged (f slot) ≡ b → Any (λ s. s.at ≡ at) sites
          by true same = absurd (unchanged_row slot at is same changed)
          by false other =
              let some = has_row is_unchanged site_now f (λ s. s.at) (λ at a. refl) (origins locations) 0 slot at is other in
              has_one (λ s. s.at) (λ s. 1) at sites (omega (arith, sum_by-IsPermutation (λ t. weigh at t.at 1) (changes_of f locations) sites arranged, some))
