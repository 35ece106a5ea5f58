-- Where a block was freed none is live; and there are no more live blocks than places that have them.
use Rattle.std.proofs.Common.{◌≡◌, ◌≢◌, ◌⊎◌, ℕ, ◌+◌, ◌≤◌, Bool, true, false, not, List, [], ◌∷◌, length, count_by, Option, Some, None, Ok, Err, inl, inr, refl, sym, ap, ◌∙◌, subst, arith}
use Rattle.std.specs.Prelude.{◌&&◌}
use Rattle.std.specs.List.{Contains}
use Rattle.std.proofs.lemmas.Bool.{cases_Bool, eq-eqb}
use Rattle.std.proofs.lemmas.List.Elements.{Contains-append_cases, Contains-push_cases}
use Rattle.tlsf_heap.specs.declared.refusal.Refusal.{Refusal}
use Rattle.tlsf_heap.specs.declared.refusal.Refusal.TheVariants.{TableFull}
use Rattle.tlsf_heap.specs.Content.{Block, Pool, Content, blocks_of, is_free, is_at, size_at}
use Rattle.tlsf_heap.specs.Free.{free, after_free, free_block, free_previous, free_next, start_of, size_of, without_block, is_live, is_owned_by}
use Rattle.tlsf_heap.specs.Realloc.{realloc}
use Rattle.tlsf_heap.specs.Good.{IsGood}
use Rattle.tlsf_heap.specs.Implied.{live_blocks, HasFewRecords}
use Rattle.tlsf_heap.proofs.Counts.{one_if, count-cons}
use Rattle.tlsf_heap.proofs.Content.Blocks.{Ascends-pools}
use Rattle.tlsf_heap.proofs.Content.Given.{realloc_gave}
use Rattle.tlsf_heap.proofs.Content.ReallocCases.{realloc_refused}
use Rattle.tlsf_heap.proofs.Content.Replacing.{blocks_of-replaced}
use Rattle.tlsf_heap.proofs.Meaning.BlockPositions.{at_most_one}
use Rattle.tlsf_heap.proofs.Good.Implied.{malloc_full}
use Rattle.tlsf_heap.proofs.Good.LiveBlocks.{none_stands, stands_first, stands_later, stands_first_or_later, elsewhere_or_other}

module _ {A : Type 0} where
  -- where a block was freed none is live
  pub freed_elsewhere : (place : ℕ) (content : Content A) (b : Block A) → Contains (blocks_of (after_free place content).pools) b → is_free b ≡ false → b.place ≢ place
  freed_elsewhere place content b has live =
      let previous = free_previous place content in
      let next = free_next place content in
      let merged : Block A = free_block (start_of previous place) (size_of previous + size_at place (blocks_of content.pools) + size_of next) in
      let before : List (Pool A) = without_block next (without_block previous content.pools) in
      elim (elsewhere_or_other place (merged ∷ []) (blocks_of before) b (subst (λ (xs : List (Block A)). Contains xs b) (blocks_of-replaced place (merged ∷ []) before) has)) [
        | inl away ↦ away
        | inr came ↦ elim (stands_first_or_later merged b [] came) [
          | inl same ↦ λ at. (let e : true ≡ false = ap (λ (x : Block A). is_free x) same ∙ live in cc)
          | inr none ↦ none_stands b none
        ]
      ]

  -- a live block is live at its place, whoever owns it
  live_there : (blocks : List (Block A)) (b : Block A) → Contains blocks b → is_free b ≡ false → is_live (λ owner. true) b.place blocks ≡ true
  live_there [] b has live = none_stands b has
  live_there (block ∷ blocks) b has live = elim (stands_first_or_later block b blocks has) [
    | inl same ↦ subst (λ (x : Block A). is_live (λ owner. true) x.place (block ∷ blocks) ≡ true) same (first block blocks (ap (λ (x : Block A). is_free x) same ∙ live))
    | inr rest ↦ later block blocks b.place (live_there blocks b rest live)
  ]
    where
      owned : (owner : Option A) → (is_free (record { place = 0; size = 0; owner = owner }) ≡ false) → is_owned_by (λ (o : A). true) owner ≡ true
      owned None live = absurd (cc)
      owned (Some owner) live = refl

      first : (block : Block A) (blocks : List (Block A)) → is_free block ≡ false → is_live (λ owner. true) block.place (block ∷ blocks) ≡ true
      first block blocks live = rw (eq-eqb block.place block.place refl, owned block.owner live) refl

      later : (block : Block A) (blocks : List (Block A)) (place : ℕ) → is_live (λ (owner : A). true) place blocks ≡ true → is_live (λ owner. true) place (block ∷ blocks) ≡ true
      later block blocks place there = elim (cases_Bool (is_at place block && is_owned_by (λ (owner : A). true) block.owner)) [
        | inl is ↦ rw is refl
        | inr other ↦ rw (other, there) refl
      ]

  -- where a free of any owner fails, no block is live there
  pub stale_elsewhere : (place : ℕ) (content : Content A) (refusal : Refusal) (b : Block A) → free (λ owner. true) place content ≡ Err refusal → Contains (blocks_of content.pools) b → is_free b ≡ false → b.place ≢ place
  stale_elsewhere place content refusal b refused has live at =
      let there : is_live (λ (owner : A). true) place (blocks_of content.pools) ≡ true = subst (λ n. is_live (λ (owner : A). true) n (blocks_of content.pools) ≡ true) at (live_there (blocks_of content.pools) b has live) in
      let is : free (λ owner. true) place content ≡ Ok (after_free place content) = rw there refl in
      cc

pub contains_first_or_later : {X : Type 0} (first x : X) (rest : List X) → Contains (first ∷ rest) x → (first ≡ x) ⊎ Contains rest x
contains_first_or_later first x rest has = elim (Contains-append_cases (first ∷ []) rest x has) [
  | inl one ↦ elim (Contains-push_cases [] first x one) [
    | inl none ↦ absurd (omega (arith, none.1))
    | inr same ↦ inl same
  ]
  | inr later ↦ inr later
]

-- things with a place each
module _ {A X : Type 0} (place_of : X → ℕ) where
  -- how many of them have the block's place
  abbrev here : List X → Block A → ℕ
  here [] b = 0
  here (x ∷ xs) b = one_if (is_at (place_of x) b) + here xs b

  -- how many blocks stand at their places
  abbrev at_places : List X → List (Block A) → ℕ
  at_places [] blocks = 0
  at_places (x ∷ xs) blocks = count_by (is_at (place_of x)) blocks + at_places xs blocks

  one_here : (xs : List X) (x : X) (b : Block A) → Contains xs x → place_of x ≡ b.place → 1 ≤ here xs b
  one_here [] x b has at = absurd (omega (arith, has.1))
  one_here (first ∷ xs) x b has at = elim (contains_first_or_later first x xs has) [
    | inl same ↦
        let there : is_at (place_of first) b ≡ true = eq-eqb b.place (place_of first) (sym at ∙ ap place_of (sym same)) in
        omega (arith, ap one_if there)
    | inr rest ↦ omega (arith, one_here xs x b rest at)
  ]

  at_places-cons : (xs : List X) (b : Block A) (blocks : List (Block A)) → at_places xs (b ∷ blocks) ≡ here xs b + at_places xs blocks
  at_places-cons [] b blocks = refl
  at_places-cons (x ∷ xs) b blocks = omega (arith, count-cons (is_at (place_of x)) b blocks, at_places-cons xs b blocks)

  -- each live block stands at one of the places
  abbrev pub AreAt : List X → List (Block A) → Type 0
  AreAt xs blocks = (b : Block A) → Contains blocks b → is_free b ≡ false → (x : X) × Contains xs x × (place_of x ≡ b.place)

  live_within : (xs : List X) (blocks : List (Block A)) → AreAt xs blocks → count_by (λ (b : Block A). not (is_free b)) blocks ≤ at_places xs blocks
  live_within xs [] at = omega arith
  live_within xs (b ∷ blocks) at =
      let rest = live_within xs blocks (λ c has live. at c (stands_later b c blocks has) live) in
      let counted = count-cons (λ (c : Block A). not (is_free c)) b blocks in
      let summed = at_places-cons xs b blocks in
      elim (cases_Bool (is_free b)) [
        | inl empty ↦ omega (arith, rest, counted, summed, ap (λ f. one_if (not f)) empty)
        | inr live ↦
            let found = at b (stands_first b blocks) live in
            omega (arith, rest, counted, summed, one_here xs found.0 b found.1 found.2, ap (λ f. one_if (not f)) live)
      ]

  one_each : (xs : List X) (blocks : List (Block A)) → ((place : ℕ) → count_by (is_at place) blocks ≤ 1) → at_places xs blocks ≤ length xs
  one_each [] blocks once = omega arith
  one_each (x ∷ xs) blocks once = omega (arith, once (place_of x), one_each xs blocks once)

  -- so there are at most as many live blocks
  pub few_live : (content : Content A) (xs : List X) → IsGood content → AreAt xs (blocks_of content.pools) → live_blocks content ≤ length xs
  few_live content xs good at =
      omega (
        arith,
        live_within xs (blocks_of content.pools) at,
        one_each xs (blocks_of content.pools) (at_most_one 0 (blocks_of content.pools) (Ascends-pools 0 content.pools good.pools_good)),
      )

-- where realloc finds the table full, there are few records
pub realloc_full : {A : Type 0} (same : A → A → Bool) (owner : A) (pointer : Option (ℕ × A)) (n : ℕ) (content : Content A) → IsGood content → realloc same owner pointer n content ≡ Err TableFull → HasFewRecords content
realloc_full same owner pointer n content good full = elim (realloc_refused owner TableFull same pointer n content full) [
  | inl malloc_is ↦ malloc_full owner n content good malloc_is
  | inr (inl fit) ↦ let other = fit.0 in absurd (cc)
  | inr (inr other) ↦ absurd (cc)
]

-- where realloc left a live block at the old one's place, it gave that place
pub moved_elsewhere : {A : Type 0} (same : A → A → Bool) (owner known : A) (place n : ℕ) (content : Content A) (b : Block A) (answer : Option (ℕ × A) × Content A)
    → realloc same owner (Some (place, known)) n content ≡ Ok answer → Contains (blocks_of answer.1.pools) b → is_free b ≡ false → b.place ≡ place
    → (o : A) × (answer.0 ≡ Some (place, o))
moved_elsewhere {A} same owner known place n content b answer e =
    realloc_gave same owner known place n content
    (λ (given : Option (ℕ × A) × Content A). Contains (blocks_of given.1.pools) b → is_free b ≡ false → b.place ≡ place → (o : A) × (given.0 ≡ Some (place, o)))
    (λ there nothing has live at. absurd (freed_elsewhere place content b has live at))
    (λ there some has live at. (known, refl))
    (λ m there some has live at. (known, refl))
    (λ given there some is has live at. absurd (freed_elsewhere place given.1 b has live at))
    answer e
