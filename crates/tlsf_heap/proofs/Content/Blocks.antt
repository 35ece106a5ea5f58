-- Blocks in order of place: the one at a place, and how many there are of a kind once it gives way to others.
use Rattle.std.proofs.Common.{◌≡◌, ℕ, ◌+◌, ◌<◌, ◌≤◌, true, false, ◌&&◌, List, [], ◌∷◌, ◌++◌, refl, sym, ap, ◌∙◌, subst, arith, count_by, inl, inr}
use Rattle.std.specs.Prelude.{⊤, ◌==◌}
use Rattle.tlsf_heap.proofs.Counts.{one_if, count-cons}
use Rattle.std.proofs.lemmas.Bool.{cases_Bool, eqb-true, ne_eqb, and_parts, and_left}
use Rattle.std.specs.List.{AllByRecursion}
use Rattle.tlsf_class.specs.Classes.{class}
use Rattle.tlsf_heap.specs.Content.{Block, Pool, blocks_of, is_free, is_at}
use Rattle.tlsf_heap.specs.Good.{Covers, AreGoodPools, is_listed}

-- each block begins at or above the end of the one before
abbrev pub Ascends : {A : Type 0} → ℕ → List (Block A) → Type 0
Ascends from [] = ⊤
Ascends from (block ∷ blocks) = (from ≤ block.place) × (0 < block.size) × Ascends (block.place + block.size) blocks

pub Ascends-higher : {A : Type 0} (from lower : ℕ) (blocks : List (Block A)) → lower ≤ from → Ascends from blocks → Ascends lower blocks
Ascends-higher from lower [] h a = tt
Ascends-higher from lower (block ∷ blocks) h a = (omega (arith, a.0), a.1, a.2)

pub Ascends-append : {A : Type 0} (from to : ℕ) (blocks more : List (Block A)) → Covers from to blocks → Ascends to more → Ascends from (blocks ++ more)
Ascends-append from to [] more c a = let P : ℕ → Type 0 = λ n. Ascends n more in subst P (sym c) a
Ascends-append from to (block ∷ blocks) more c a =
    (omega (arith, c.0), c.1, let P : ℕ → Type 0 = λ n. Ascends (n + block.size) (blocks ++ more) in subst P (sym c.0) (Ascends-append (from + block.size) to blocks more c.3 a))

-- the blocks of good pools ascend
pub Ascends-pools : {A : Type 0} (from : ℕ) (pools : List (Pool A)) → AreGoodPools from pools → Ascends from (blocks_of pools)
Ascends-pools from [] g = tt
Ascends-pools from (pool ∷ pools) g =
    Ascends-higher pool.base from _ g.0 (Ascends-append pool.base (pool.base + pool.bytes) pool.blocks (blocks_of pools) g.1.covered (Ascends-pools (pool.base + pool.bytes) pools g.2))

-- no block begins at the place
abbrev pub NoneAt : {A : Type 0} → ℕ → List (Block A) → Type 0
NoneAt place blocks = AllByRecursion (λ block. is_at place block ≡ false) blocks

pub NoneAt-below : {A : Type 0} (place from : ℕ) (blocks : List (Block A)) → place < from → Ascends from blocks → NoneAt place blocks
NoneAt-below place from [] h a = tt
NoneAt-below place from (block ∷ blocks) h a =
    (ne_eqb block.place place (λ e. absurd (omega (arith, a.0))), NoneAt-below place (block.place + block.size) blocks (omega (arith, a.0, a.1)) a.2)

-- what is listed at a place begins there
pub is_listed-elsewhere : {A : Type 0} (number place : ℕ) (block : Block A) → is_at place block ≡ false → is_listed number place block ≡ false
is_listed-elsewhere number place block h = elim (is_free block) as (λ free. (free && (is_at place block && (class block.size == number))) ≡ false) [
  | true ↦ and_left _ _ h
  | false ↦ refl
]

pub count_listed-none : {A : Type 0} (number place : ℕ) (blocks : List (Block A)) → NoneAt place blocks → count_by (is_listed number place) blocks ≡ 0
count_listed-none number place [] n = refl
count_listed-none number place (block ∷ blocks) n =
    count-cons (is_listed number place) block blocks ∙ rw (is_listed-elsewhere number place block n.0, count_listed-none number place blocks n.1) refl

-- the one block at a place, with those before it and behind it
pub record Found {A : Type 0} (place : ℕ) (blocks : List (Block A)) : Type 0 where
  pub front : List (Block A)
  pub block : Block A
  pub back : List (Block A)
  pub whole : blocks ≡ front ++ block ∷ back
  pub here : block.place ≡ place
  pub none_before : NoneAt place front
  pub none_behind : NoneAt place back

-- a place that is listed is that of a free block of the class
pub found_listed : {A : Type 0} (number place from : ℕ) (blocks : List (Block A)) → Ascends from blocks → 1 ≤ count_by (is_listed number place) blocks
    → (found : Found place blocks) × (is_free found.block ≡ true) × (class found.block.size ≡ number)
found_listed number place from [] a h = absurd (omega arith)
found_listed number place from (block ∷ blocks) a h = elim (cases_Bool (is_at place block)) [
  | inl here ↦
      let at : block.place ≡ place = eqb-true block.place place here in
      let none : NoneAt place blocks = NoneAt-below place (block.place + block.size) blocks (omega (arith, a.1, at)) a.2 in
      let sums = count-cons (is_listed number place) block blocks in
      let rest = count_listed-none number place blocks none in
      let listed : is_listed number place block ≡ true = elim (cases_Bool (is_listed number place block)) [
        | inl yes_listed ↦ yes_listed
        | inr not_listed ↦ absurd (omega (arith, h, sums, rest, ap one_if not_listed))
      ] in
      let parts = and_parts _ _ listed in
      let more = and_parts _ _ parts.1 in
      (record { front = []; block = block; back = blocks; whole = refl; here = at; none_before = tt; none_behind = none }, parts.0, eqb-true _ _ more.1)
  | inr elsewhere ↦
      let sums = count-cons (is_listed number place) block blocks in
      let here = is_listed-elsewhere number place block elsewhere in
      let found = found_listed number place (block.place + block.size) blocks a.2 (omega (arith, h, sums, ap one_if here)) in (
        record { front = block ∷ found.0.front; block = found.0.block; back = found.0.back; whole = ap (λ xs. block ∷ xs) found.0.whole; here = found.0.here; none_before = (elsewhere, found.0.none_before); none_behind = found.0.none_behind },
        found.1,
        found.2,
      )
]
