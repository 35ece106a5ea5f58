-- A gap, or a live block with one behind it: what they cover in front of other blocks, their free neighbours, what is counted.
use Rattle.std.proofs.Common.{◌≡◌, ℕ, suc, ◌+◌, ◌-◌, ◌%◌, ◌<◌, ◌≤◌, Bool, true, false, cond, not, ◌&&◌, List, [], ◌∷◌, ◌++◌, length, refl, sym, count_by, ap, subst, arith, IsTrue, Some, None, inl, inr}
use Rattle.std.specs.Prelude.{◌==◌}
use Rattle.std.proofs.lemmas.Bool.{cases_Bool, eqb-true, eqb-false}
use Rattle.tlsf_class.specs.Classes.{unit}
use Rattle.tlsf_heap.specs.Content.{Block, is_free}
use Rattle.tlsf_heap.specs.Malloc.{gap, split}
use Rattle.tlsf_heap.specs.Good.{Covers, NoFreeNeighbours}
use Rattle.tlsf_heap.proofs.Counts.{one_if, count-cons}

module _ {A : Type 0} where
  -- blocks that cover what is behind the gap cover it with the gap
  pub covers_gap : (from to size : ℕ) (blocks : List (Block A)) → size % unit ≡ 0 → Covers (from + size) to blocks → Covers from to (gap from size ++ blocks)
  covers_gap from to size blocks in_units c =
      let P : Bool → Type 0 = λ b. Covers from to (cond b [] (record { place = from; size = size; owner = None } ∷ []) ++ blocks) in
      elim (cases_Bool (size == 0)) [
        | inl none ↦
            let Q : ℕ → Type 0 = λ n. Covers n to blocks in
            let same : from + size ≡ from = omega (arith, eqb-true size 0 none) in
            subst P (sym none) (subst Q same c)
        | inr some ↦
            let positive : 0 < size = (let apart = eqb-false size 0 some in grind arith) in
            subst P (sym some) (refl, positive, in_units, c)
      ]

  -- where no free block is first, a free one may stand in front
  pub apart_later : (blocks : List (Block A)) → NoFreeNeighbours true blocks → NoFreeNeighbours false blocks
  apart_later [] n = tt
  apart_later (block ∷ blocks) n = (refl, n.1)

  pub apart_gap : (place size : ℕ) (blocks : List (Block A)) → NoFreeNeighbours true blocks → NoFreeNeighbours false (gap place size ++ blocks)
  apart_gap place size blocks n =
      elim (size == 0) as (λ b. NoFreeNeighbours false (cond b [] (record { place = place; size = size; owner = None } ∷ []) ++ blocks)) [
        | true ↦ apart_later blocks n
        | false ↦ (refl, n)
      ]

  -- a live block and what is left behind it
  pub covers_split : (owner : A) (from to place m size : ℕ) (blocks : List (Block A)) → place ≡ from → 0 < m → m % unit ≡ 0 → m ≤ size → size % unit ≡ 0 → Covers (from + size) to blocks → Covers from to (split owner place m size ++ blocks)
  covers_split owner from to place m size blocks begins some whole fits size_whole c =
      let P : ℕ → Type 0 = λ p. Covers from to (split owner p m size ++ blocks) in
      let Q : ℕ → Type 0 = λ n. Covers n to blocks in
      let ends : from + size ≡ from + m + (size - m) = omega (arith, fits) in
      subst P (sym begins) (refl, some, whole, covers_gap (from + m) to (size - m) blocks (omega (arith, whole, fits, size_whole)) (subst Q ends c))

  pub apart_split : (owner : A) (place m size : ℕ) (was : Bool) (blocks : List (Block A)) → NoFreeNeighbours true blocks → NoFreeNeighbours was (split owner place m size ++ blocks)
  apart_split owner place m size was blocks n = (elim was as (λ w. IsTrue (not (w && false))) [ true ↦ refl | false ↦ refl ], apart_gap (place + m) (size - m) blocks n)

  -- a test that no free block passes
  abbrev pub FailsOnFree : (Block A → Bool) → Type 0
  FailsOnFree test = (block : Block A) → is_free block ≡ true → test block ≡ false

  module _ (test : Block A → Bool) (fails : FailsOnFree test) where
    pub gap_counts : (place size : ℕ) → count_by test (gap place size) ≡ 0
    gap_counts place size =
        let rest : Block A = record { place = place; size = size; owner = None } in
        elim (size == 0) as (λ b. count_by test (cond b [] (rest ∷ [])) ≡ 0) [ true ↦ refl | false ↦ omega (arith, count-cons test rest [], ap one_if (fails rest refl)) ]

    pub split_counts : (owner : A) (place m size : ℕ) → count_by test (split owner place m size) ≡ one_if (test (record { place = place; size = m; owner = Some owner }))
    split_counts owner place m size = omega (arith, count-cons test (record { place = place; size = m; owner = Some owner }) (gap (place + m) (size - m)), gap_counts (place + m) (size - m))

  -- they are two at most
  pub length-split : (owner : A) (place m size : ℕ) → length (split owner place m size) ≡ cond ((size - m) == 0) 1 2
  length-split owner place m size =
      let rest : Block A = record { place = place + m; size = size - m; owner = None } in
      elim ((size - m) == 0) as (λ b. suc (length (cond b [] (rest ∷ []))) ≡ cond b 1 2) [ true ↦ refl | false ↦ refl ]

  pub length-split_most : (owner : A) (place m size : ℕ) → length (split owner place m size) ≤ 2
  length-split_most owner place m size =
      let most : cond ((size - m) == 0) 1 2 ≤ 2 = (elim ((size - m) == 0) as (λ b. cond b 1 2 ≤ 2) [ true ↦ omega arith | false ↦ omega arith ]) in
      omega (arith, most, length-split owner place m size)
