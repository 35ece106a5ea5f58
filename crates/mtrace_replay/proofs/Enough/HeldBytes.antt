-- The live blocks have no more bytes than the things that have them together, where each has as many as its block.
use Rattle.std.proofs.Common.{◌≡◌, ℕ, ◌+◌, ◌≤◌, Bool, true, false, List, [], ◌∷◌, count_by, inl, inr, refl, sym, ap, ◌∙◌, arith}
use Rattle.std.specs.Prelude.{if◌then◌else◌}
use Rattle.std.specs.List.{Contains}
use Rattle.std.proofs.lemmas.Bool.{cases_Bool, eq-eqb}
use Rattle.tlsf_heap.specs.Content.{Block, Content, blocks_of, is_free, is_at}
use Rattle.tlsf_heap.specs.Good.{IsGood}
use Rattle.tlsf_heap.specs.Room.{live_bytes}
use Rattle.tlsf_heap.proofs.Counts.{one_if, count-cons}
use Rattle.tlsf_heap.proofs.Content.Blocks.{Ascends-pools}
use Rattle.tlsf_heap.proofs.Good.LiveBlocks.{stands_first, stands_later}
use Rattle.tlsf_heap.proofs.Meaning.BlockPositions.{at_most_one}
use Rattle.mtrace_replay.proofs.Enough.EnoughBlocks.{contains_first_or_later}

-- the bytes of all
abbrev pub all_bytes : {X : Type 0} → (X → ℕ) → List X → ℕ
all_bytes bytes_of [] = 0
all_bytes bytes_of (x ∷ xs) = bytes_of x + all_bytes bytes_of xs

module _ {A X : Type 0} (place_of bytes_of : X → ℕ) where
  -- the bytes of a thing that has the block's place
  abbrev one_here : X → Block A → ℕ
  one_here x b = if is_at (place_of x) b then bytes_of x else 0

  abbrev here : List X → Block A → ℕ
  here [] b = 0
  here (x ∷ xs) b = one_here x b + here xs b

  -- the bytes at all blocks
  abbrev one_at : X → List (Block A) → ℕ
  one_at x [] = 0
  one_at x (b ∷ blocks) = one_here x b + one_at x blocks

  abbrev all_at : List X → List (Block A) → ℕ
  all_at xs [] = 0
  all_at xs (b ∷ blocks) = here xs b + all_at xs blocks

  enough_here : (xs : List X) (x : X) (b : Block A) → Contains xs x → place_of x ≡ b.place → bytes_of x ≤ here xs b
  enough_here [] x b has at = absurd (omega (arith, has.1))
  enough_here (first ∷ xs) x b has at = elim (contains_first_or_later first x xs has) [
    | inl same ↦
        let there : is_at (place_of first) b ≡ true = eq-eqb b.place (place_of first) (sym at ∙ ap place_of (sym same)) in
        let bytes : one_here first b ≡ bytes_of first = rw there refl in
        omega (arith, bytes, ap bytes_of same)
    | inr rest ↦ omega (arith, enough_here xs x b rest at)
  ]

  -- each live block stands at one of the places, and has no more bytes
  abbrev pub AreOf : List X → List (Block A) → Type 0
  AreOf xs blocks = (b : Block A) → Contains blocks b → is_free b ≡ false → (x : X) × Contains xs x × (place_of x ≡ b.place) × (b.size ≤ bytes_of x)

  live_within : (xs : List X) (blocks : List (Block A)) → AreOf xs blocks → live_bytes blocks ≤ all_at xs blocks
  live_within xs [] of = omega arith
  live_within xs (b ∷ blocks) of =
      let rest = live_within xs blocks (λ c has live. of c (stands_later b c blocks has) live) in
      elim (cases_Bool (is_free b)) [
        | inl empty ↦ let bytes : live_bytes (b ∷ blocks) ≡ 0 + live_bytes blocks = ap (λ f. (if f then 0 else b.size) + live_bytes blocks) empty in omega (arith, rest, bytes)
        | inr live ↦
            let bytes : live_bytes (b ∷ blocks) ≡ b.size + live_bytes blocks = ap (λ f. (if f then 0 else b.size) + live_bytes blocks) live in
            let found = of b (stands_first b blocks) live in
            omega (arith, rest, bytes, found.3, enough_here xs found.0 b found.1 found.2)
      ]

  none_at : (blocks : List (Block A)) → all_at [] blocks ≡ 0
  none_at [] = refl
  none_at (b ∷ blocks) = omega (arith, none_at blocks)

  one_and_all : (x : X) (xs : List X) (blocks : List (Block A)) → all_at (x ∷ xs) blocks ≡ one_at x blocks + all_at xs blocks
  one_and_all x xs [] = refl
  one_and_all x xs (b ∷ blocks) = omega (arith, one_and_all x xs blocks)

  not_at : (x : X) (blocks : List (Block A)) → count_by (is_at (place_of x)) blocks ≡ 0 → one_at x blocks ≡ 0
  not_at x [] none = refl
  not_at x (b ∷ blocks) none = of (is_at (place_of x) b) refl (not_at x blocks)
    where
      counted : count_by (is_at (place_of x)) (b ∷ blocks) ≡ one_if (is_at (place_of x) b) + count_by (is_at (place_of x)) blocks
      counted = count-cons (is_at (place_of x)) b blocks

      of : (at : Bool) → is_at (place_of x) b ≡ at → (count_by (is_at (place_of x)) blocks ≡ 0 → one_at x blocks ≡ 0) → one_at x (b ∷ blocks) ≡ 0
      of true is behind = absurd (omega (arith, none, counted, ap one_if is))
      of false is behind =
          let bytes : one_here x b ≡ 0 = rw is refl in
          omega (arith, bytes, behind (omega (arith, none, counted)))

  once_at : (x : X) (blocks : List (Block A)) → count_by (is_at (place_of x)) blocks ≤ 1 → one_at x blocks ≤ bytes_of x
  once_at x [] once = omega arith
  once_at x (b ∷ blocks) once = of (is_at (place_of x) b) refl (once_at x blocks)
    where
      counted : count_by (is_at (place_of x)) (b ∷ blocks) ≡ one_if (is_at (place_of x) b) + count_by (is_at (place_of x)) blocks
      counted = count-cons (is_at (place_of x)) b blocks

      of : (at : Bool) → is_at (place_of x) b ≡ at → (count_by (is_at (place_of x)) blocks ≤ 1 → one_at x blocks ≤ bytes_of x) → one_at x (b ∷ blocks) ≤ bytes_of x
      of true is behind =
          let bytes : one_here x b ≡ bytes_of x = rw is refl in
          omega (arith, bytes, not_at x blocks (omega (arith, once, counted, ap one_if is)))
      of false is behind =
          let bytes : one_here x b ≡ 0 = rw is refl in
          omega (arith, bytes, behind (omega (arith, once, counted)))

  all_within : (xs : List X) (blocks : List (Block A)) → ((place : ℕ) → count_by (is_at place) blocks ≤ 1) → all_at xs blocks ≤ all_bytes bytes_of xs
  all_within [] blocks once = omega (arith, none_at blocks)
  all_within (x ∷ xs) blocks once = omega (arith, one_and_all x xs blocks, once_at x blocks (once (place_of x)), all_within xs blocks once)

  -- so the live blocks have no more together
  pub few_bytes : (content : Content A) (xs : List X) → IsGood content → AreOf xs (blocks_of content.pools) → live_bytes (blocks_of content.pools) ≤ all_bytes bytes_of xs
  few_bytes content xs good of = omega (arith, live_within xs (blocks_of content.pools) of, all_within xs (blocks_of content.pools) (at_most_one 0 (blocks_of content.pools) (Ascends-pools 0 content.pools good.pools_good)))
