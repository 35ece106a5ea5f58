-- Blocks that a program holds, none at the address of another: what one more or one less leaves of them.
use Rattle.std.proofs.Common.{◌≡◌, ◌≢◌, ℕ, ◌+◌, true, false, List, [], ◌∷◌, length, refl, sym, ap, ◌∙◌, subst, arith, cond, inl, inr}
use Rattle.std.specs.Prelude.{◌==◌, ⊤}
use Rattle.std.specs.List.{AllByRecursion, Contains}
use Rattle.std.proofs.lemmas.Bool.{cases_Bool, eq-eqb, ne_eqb, eqb-true, eqb-false}
use Rattle.std.proofs.lemmas.List.Elements.{All-contains, All-from_recursion}
use Rattle.tlsf_c.specs.Fronts.{told_size}
use Rattle.tlsf_c.specs.Held.{Held, without}
use Rattle.tlsf_c.proofs.Stands.{never_stands, stands_first_or_later}

-- the block isn't at the address
abbrev pub IsAway : ℕ → Held → Type 0
IsAway address block = block.address ≢ address

-- no block is at the address of another
abbrev pub AreDistinct : List Held → Type 0
AreDistinct [] = ⊤
AreDistinct (block ∷ held) = AllByRecursion (IsAway block.address) held × AreDistinct held

-- the bytes that the words tell
abbrev pub told_bytes : List Held → ℕ
told_bytes [] = 0
told_bytes (block ∷ held) = told_size block.word block.address + told_bytes held

pub each_map : (P Q : Held → Type 0) → ((block : Held) → P block → Q block) → (held : List Held) → AllByRecursion P held → AllByRecursion Q held
each_map P Q implies [] all = tt
each_map P Q implies (block ∷ held) all = (implies block all.0, each_map P Q implies held all.1)

pub each_zip : (P Q R : Held → Type 0) → ((block : Held) → P block → Q block → R block) → (held : List Held) → AllByRecursion P held → AllByRecursion Q held → AllByRecursion R held
each_zip P Q R implies [] all others = tt
each_zip P Q R implies (block ∷ held) all others = (implies block all.0 others.0, each_zip P Q R implies held all.1 others.1)

-- one that is held is as each is
pub each_of : (P : Held → Type 0) (block : Held) (held : List Held) → AllByRecursion P held → Contains held block → P block
each_of P block held all has = All-contains P held block (All-from_recursion P held all) has

pub each_without : (P : Held → Type 0) (address : ℕ) (held : List Held) → AllByRecursion P held → AllByRecursion P (without address held)
each_without P address [] all = tt
each_without P address (block ∷ held) all = elim (block.address == address) as (λ here. AllByRecursion P (cond here held (block ∷ without address held))) [
  | true ↦ all.1
  | false ↦ (all.0, each_without P address held all.1)
]

pub distinct_without : (address : ℕ) (held : List Held) → AreDistinct held → AreDistinct (without address held)
distinct_without address [] distinct = tt
distinct_without address (block ∷ held) distinct = elim (block.address == address) as (λ here. AreDistinct (cond here held (block ∷ without address held))) [
  | true ↦ distinct.1
  | false ↦ (each_without (IsAway block.address) address held distinct.0, distinct_without address held distinct.1)
]

-- without the one at an address, none is there
pub away_without : (address : ℕ) (held : List Held) → AreDistinct held → AllByRecursion (IsAway address) (without address held)
away_without address [] distinct = tt
away_without address (block ∷ held) distinct = elim (cases_Bool (block.address == address)) [
  | inl here ↦
      let left : without address (block ∷ held) ≡ held = rw here refl in
      let same : block.address ≡ address = eqb-true block.address address here in
      subst (AllByRecursion (IsAway address)) (sym left) (each_map (IsAway block.address) (IsAway address) (λ other away e. away (e ∙ sym same)) held distinct.0)
  | inr there ↦
      let left : without address (block ∷ held) ≡ block ∷ without address held = rw there refl in
      subst (AllByRecursion (IsAway address)) (sym left) (eqb-false block.address address there, away_without address held distinct.1)
]

-- a block that is taken out leaves the others' bytes, and one less
pub taken_out : (block : Held) (held : List Held) → AreDistinct held → Contains held block
    → (told_bytes (without block.address held) + told_size block.word block.address ≡ told_bytes held) × (length (without block.address held) + 1 ≡ length held)
taken_out block [] distinct has = never_stands block has
taken_out block (first ∷ held) distinct has = elim (stands_first_or_later first block held has) [
  | inl same ↦
      let left : without block.address (first ∷ held) ≡ held = rw (eq-eqb first.address block.address (ap (λ (b : Held). b.address) same)) refl in
      (omega (arith, ap told_bytes left, ap (λ (b : Held). told_size b.word b.address) same), omega (arith, ap (λ (l : List Held). length l) left))
  | inr later ↦
      let away : block.address ≢ first.address = each_of (IsAway first.address) block held distinct.0 later in
      let left : without block.address (first ∷ held) ≡ first ∷ without block.address held = rw (ne_eqb first.address block.address (λ e. away (sym e))) refl in
      let rest = taken_out block held distinct.1 later in
      (omega (arith, ap told_bytes left, rest.0), omega (arith, ap (λ (l : List Held). length l) left, rest.1))
]
