-- The sites of locations by their slots are those of the entries.
use Rattle.std.proofs.Common.{cond, Bool, true, false, ◌≡◌, ℕ, suc, ◌+◌, ◌<◌, List, [], ◌∷◌, map, sum_by, refl, sym, ap, ◌∙◌, arith}
use Rattle.std.specs.Prelude.{◌==◌, nat_eq, nat_lt, if◌then◌else◌}
use Rattle.std.specs.List.{All, AllByRecursion, IsDistinct}
use Rattle.std.specs.Map.{values_of}
use Rattle.std.specs.Cmp.Lexicographic.{pointwise}
use Rattle.std.proofs.lemmas.List.Sums.{sum_by-cons}
use Rattle.std.proofs.lemmas.Bool.{eqb-true}
use Rattle.mtrace_replay.specs.Entry.{Entry}
use Rattle.mtrace_replay.specs.Sites.{Origin, Site, weigh, AreTallied}
use Rattle.mtrace_replay.specs.declared.ledger.ledger.Kept.{Kept}
use Rattle.mtrace_replay.specs.declared.held.amount.Amount.{Amount}
use Rattle.mtrace_replay.specs.Locations.{location_of, HasLocation}
use Rattle.mtrace_replay.specs.Shares.{ByLocation, now_at, origins, has_no_block, site_at, sites_by, sites_of}
use Rattle.mtrace_replay.specs.Ledger.{entry_of, put_in_order, in_order, slot_of, in_slot, AreShared}
use Rattle.mtrace_replay.proofs.OnLedger.RowsBySlot.{above_zero, rows_by-some, weighed, weighed-same, weighed-none, weighed-add, weighed-its, one_slot, rows_weigh, one_row}

pub sites_by-some : (f : ℕ → Amount) (all : List Origin) (slot : ℕ) → AllByRecursion (λ (s : Site). 0 < s.blocks) (sites_by f all slot)
sites_by-some = rows_by-some has_no_block site_at (λ (s : Site). s.blocks) (λ at amount. above_zero amount.blocks)

module _ (p : Origin) (locations : List (List ℕ)) (measure : Kept → ℕ) where
  abbrev there_of : Kept → ℕ
  there_of h = weigh p (location_of locations h.location) (measure h)

  weighed-kept : (all : List Kept) → All (λ h. HasLocation locations h.location) all → weighed p (origins locations) 0 (λ s. in_slot measure s all) ≡ sum_by there_of all
  unfolding one_slot
  weighed-kept [] there = weighed-none p (origins locations) 0 (λ s. in_slot measure s []) (λ s above. refl)
  weighed-kept (h ∷ all) there =
      let split = weighed-same p (origins locations) 0 (λ s. in_slot measure s (h ∷ all)) (λ s. one_slot (slot_of h.location) (measure h) s + in_slot measure s all) one_more in
      let parts = weighed-add p (origins locations) 0 (one_slot (slot_of h.location) (measure h)) (λ s. in_slot measure s all) in
      omega (arith, split, parts, weighed-its p locations h.location (measure h) (there 0 h (omega arith)), weighed-kept all (λ k d lt. there (suc k) d (omega (arith, lt))), sum_by-cons there_of h all)
    where
      one_more : (s : ℕ) → in_slot measure s (h ∷ all) ≡ one_slot (slot_of h.location) (measure h) s + in_slot measure s all
      one_more s = sum_by-cons (λ kept. if slot_of kept.location == s then measure kept else 0) h all

-- ---- entries in order have what the map has

pub sum_by-put : (f : Entry → ℕ) (e : Entry) (es : List Entry) → sum_by f (put_in_order e es) ≡ f e + sum_by f es
sum_by-put f e [] = sum_by-cons f e []
sum_by-put f e (x ∷ xs) = by (sum_by-put f e xs) (nat_lt x.addr e.addr)
  where
    by : sum_by f (put_in_order e xs) ≡ f e + sum_by f xs → (b : Bool) → sum_by f (cond b (x ∷ put_in_order e xs) (e ∷ (x ∷ xs))) ≡ f e + sum_by f (x ∷ xs)
    by later false = sum_by-cons f e (x ∷ xs)
    by later true = omega (arith, later, sum_by-cons f x (put_in_order e xs), sum_by-cons f x xs)

module _ (p : Origin) (locations : List (List ℕ)) (m : Entry → ℕ) (measure : Kept → ℕ) (same : (one : ℕ × Kept) → m (entry_of locations one) ≡ measure one.1) where
  in_entries : (held : List (ℕ × Kept)) → sum_by (λ e. weigh p e.at (m e)) (in_order (map (entry_of locations) held)) ≡ sum_by (λ h. weigh p (location_of locations h.location) (measure h)) (values_of held)
  in_entries [] = refl
  in_entries (one ∷ more) =
      let first : weigh p (location_of locations one.1.location) (m (entry_of locations one)) ≡ weigh p (location_of locations one.1.location) (measure one.1) = ap (weigh p (location_of locations one.1.location)) (same one) in
      omega (
        arith,
        sum_by-put (λ e. weigh p e.at (m e)) (entry_of locations one) (in_order (map (entry_of locations) more)),
        first,
        in_entries more,
        sum_by-cons (λ (h : Kept). weigh p (location_of locations h.location) (measure h)) one.1 (values_of more),
      )

-- no block, no byte
pub no_bytes : (slot : ℕ) (all : List Kept) → in_slot (λ kept. 1) slot all ≡ 0 → in_slot (λ kept. kept.size) slot all ≡ 0
no_bytes slot [] none = refl
no_bytes slot (h ∷ all) none = by (slot_of h.location == slot) refl (no_bytes slot all)
  where
    by : (b : Bool) → (slot_of h.location == slot) ≡ b → (in_slot (λ kept. 1) slot all ≡ 0 → in_slot (λ kept. kept.size) slot all ≡ 0) → in_slot (λ kept. kept.size) slot (h ∷ all) ≡ 0
    by true is later = absurd (omega (arith, none, sum_by-cons (λ (kept : Kept). if slot_of kept.location == slot then 1 else 0) h all, ap (λ t. cond {A = ℕ} t 1 0) is))
    by false is later =
        let rest = later (omega (arith, none, sum_by-cons (λ (kept : Kept). if slot_of kept.location == slot then 1 else 0) h all, ap (λ t. cond {A = ℕ} t 1 0) is)) in
        omega (arith, rest, sum_by-cons (λ (kept : Kept). if slot_of kept.location == slot then kept.size else 0) h all, ap (λ t. cond t h.size 0) is)

-- the sites of what is kept are those of its entries
pub tallied : (locations : List (List ℕ)) (shares : ByLocation) (held : List (ℕ × Kept)) → IsDistinct (pointwise nat_eq) locations → All (λ h. HasLocation locations h.location) (values_of held)
    → AreShared locations shares (values_of held) → AreTallied (in_order (map (entry_of locations) held)) (sites_of (now_at shares) locations)
tallied locations shares held distinct there shared = record {
  one = λ p. one_row p has_no_block site_at (λ s. s.at) (λ at a. refl) (now_at shares) locations distinct;
  blocks = λ p.
      rows_weigh p has_no_block site_at (λ s. s.at) (λ at a. refl) (now_at shares) (λ a. a.blocks) (λ s. s.blocks) (λ at a some. refl)
      (λ slot none. eqb-true (now_at shares slot).blocks 0 none) (origins locations) 0
      ∙ weighed-same p (origins locations) 0 (λ s. (now_at shares s).blocks) (λ s. in_slot (λ kept. 1) s (values_of held)) shared.blocks
      ∙ weighed-kept p locations (λ kept. 1) (values_of held) there
      ∙ sym (in_entries p locations (λ e. 1) (λ kept. 1) (λ one. refl) held);
  bytes = λ p.
      rows_weigh p has_no_block site_at (λ s. s.at) (λ at a. refl) (now_at shares) (λ a. a.bytes) (λ s. s.bytes) (λ at a some. refl)
      (λ slot none. shared.bytes slot ∙ no_bytes slot (values_of held) (sym (shared.blocks slot) ∙ eqb-true (now_at shares slot).blocks 0 none)) (origins locations) 0
      ∙ weighed-same p (origins locations) 0 (λ s. (now_at shares s).bytes) (λ s. in_slot (λ kept. kept.size) s (values_of held)) shared.bytes
      ∙ weighed-kept p locations (λ kept. kept.size) (values_of held) there
      ∙ sym (in_entries p locations (λ e. e.size) (λ kept. kept.size) (λ one. refl) held);
}
