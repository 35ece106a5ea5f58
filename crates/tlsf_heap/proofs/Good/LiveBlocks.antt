-- Each live block after a call was one before it, or begins where the call gave one; and the live block that a test tells.
use Rattle.std.proofs.Common.{◌≡◌, ◌≢◌, ℕ, ◌+◌, ◌-◌, ◌≤◌, Bool, true, false, ◌&&◌, List, [], ◌∷◌, ◌++◌, map, refl, sym, ap, ◌∙◌, subst, arith, Option, Some, None, Ok, ◌⊎◌, inl, inr}
use Rattle.std.specs.Prelude.{◌==◌}
use Rattle.std.specs.Int.{next_multiple_of}
use Rattle.std.specs.List.{Contains, list_any}
use Rattle.std.proofs.lemmas.Bool.{cases_Bool, eq-eqb, ne_eqb, eqb-true, and_parts}
use Rattle.std.proofs.lemmas.List.Elements.{Contains-append_left, Contains-append_right, Contains-append_cases, Contains-push, Contains-push_cases}
use Rattle.tlsf_heap.specs.Content.{Block, Pool, Content, blocks_of, is_free, is_at, size_at}
use Rattle.tlsf_heap.specs.Malloc.{gap, replaced, replaced_in, split, malloc}
use Rattle.tlsf_heap.specs.Free.{is_owned_by, is_live, free_previous, free_next, size_of, start_of, free_block, without_block, after_free, free}
use Rattle.tlsf_heap.specs.Memalign.{split_in_three, memalign}
use Rattle.tlsf_heap.specs.Realloc.{size_with_next, realloc}
use Rattle.tlsf_heap.specs.Good.{IsGood}
use Rattle.tlsf_heap.specs.Bare.{renamed_block, renamed, bare}
use Rattle.tlsf_heap.proofs.Content.Blocks.{Ascends, Ascends-pools}
use Rattle.tlsf_heap.proofs.Content.Replacing.{replaced-here, blocks_of-replaced}
use Rattle.tlsf_heap.proofs.Content.Given.{malloc_gave, free_gave, realloc_gave}
use Rattle.tlsf_heap.proofs.Content.MemalignCases.{IsPicked, memalign_given}
use Rattle.tlsf_heap.proofs.Content.BareSteps.{blocks_of-renamed, size_at-renamed}
use Rattle.tlsf_heap.proofs.Good.StaysLive.{live_bare}
use Rattle.tlsf_heap.proofs.Meaning.FreedIsGood.{owned_is_live}

module _ {A : Type 0} where
  -- no block stands in an empty list
  pub none_stands : {X : Type 0} (b : Block A) → Contains [] b → X
  none_stands b has = absurd (omega (arith, has.1))

  -- what stands in a list is its first, or in the rest
  pub stands_first_or_later : (first b : Block A) (rest : List (Block A)) → Contains (first ∷ rest) b → (first ≡ b) ⊎ Contains rest b
  stands_first_or_later first b rest has = elim (Contains-append_cases (first ∷ []) rest b has) [
    | inl one ↦ elim (Contains-push_cases [] first b one) [
      | inl none ↦ none_stands b none
      | inr same ↦ inl same
    ]
    | inr later ↦ inr later
  ]

  pub stands_first : (first : Block A) (rest : List (Block A)) → Contains (first ∷ rest) first
  stands_first first rest = Contains-append_left (first ∷ []) rest first (Contains-push [] first)

  pub stands_later : (first b : Block A) (rest : List (Block A)) → Contains rest b → Contains (first ∷ rest) b
  stands_later first b rest has = Contains-append_right (first ∷ []) rest b has

  -- what stands once a block gave way stood before, or came in
  pub from_replaced : (place : ℕ) (others blocks : List (Block A)) (b : Block A) → Contains (replaced place others blocks) b → Contains blocks b ⊎ Contains others b
  from_replaced place others [] b has = inl has
  from_replaced place others (block ∷ blocks) b has =
      let later : Contains (replaced place others blocks) b → Contains (block ∷ blocks) b ⊎ Contains others b = λ rest. elim (from_replaced place others blocks b rest) [
        | inl stood ↦ inl (stands_later block b blocks stood)
        | inr came ↦ inr came
      ] in
      elim (cases_Bool (is_at place block)) [
        | inl here ↦ elim (Contains-append_cases others (replaced place others blocks) b (subst (λ (xs : List (Block A)). Contains xs b) (replaced-here place others block blocks here) has)) [
          | inl came ↦ inr came
          | inr rest ↦ later rest
        ]
        | inr elsewhere ↦
            let left : replaced place others (block ∷ blocks) ≡ block ∷ replaced place others blocks = rw elsewhere refl in
            elim (stands_first_or_later block b (replaced place others blocks) (subst (λ (xs : List (Block A)). Contains xs b) left has)) [
              | inl same ↦ inl (subst (Contains (block ∷ blocks)) same (stands_first block blocks))
              | inr rest ↦ later rest
            ]
      ]

  -- what stands where a block gave way to others is one of these, or stands elsewhere
  pub elsewhere_or_other : (place : ℕ) (others blocks : List (Block A)) (b : Block A) → Contains (replaced place others blocks) b → (b.place ≢ place) ⊎ Contains others b
  elsewhere_or_other place others [] b has = none_stands b has
  elsewhere_or_other place others (block ∷ blocks) b has = elim (cases_Bool (is_at place block)) [
    | inl here ↦
        let is : replaced place others (block ∷ blocks) ≡ others ++ replaced place others blocks = rw here refl in
        elim (Contains-append_cases others (replaced place others blocks) b (subst (λ (xs : List (Block A)). Contains xs b) is has)) [
          | inl came ↦ inr came
          | inr rest ↦ elsewhere_or_other place others blocks b rest
        ]
    | inr away ↦
        let is : replaced place others (block ∷ blocks) ≡ block ∷ replaced place others blocks = rw away refl in
        elim (stands_first_or_later block b (replaced place others blocks) (subst (λ (xs : List (Block A)). Contains xs b) is has)) [
          | inl same ↦ inl (λ at. let there : is_at place block ≡ true = eq-eqb block.place place (ap (λ (x : Block A). x.place) same ∙ at) in let e : true ≡ false = sym there ∙ away in cc)
          | inr rest ↦ elsewhere_or_other place others blocks b rest
        ]
  ]

  pub from_replaced_in : (place : ℕ) (others : List (Block A)) (pools : List (Pool A)) (b : Block A) → Contains (blocks_of (map (replaced_in place others) pools)) b → Contains (blocks_of pools) b ⊎ Contains others b
  from_replaced_in place others pools b has = from_replaced place others (blocks_of pools) b (subst (λ (xs : List (Block A)). Contains xs b) (blocks_of-replaced place others pools) has)

  -- what stands without a block stood with it
  pub from_without : (gone : Option (Block A)) (pools : List (Pool A)) (b : Block A) → Contains (blocks_of (without_block gone pools)) b → Contains (blocks_of pools) b
  from_without None pools b has = has
  from_without (Some block) pools b has = elim (from_replaced_in block.place [] pools b has) [
    | inl stood ↦ stood
    | inr none ↦ none_stands b none
  ]

  -- a gap is free
  pub gap_is_free : (place size : ℕ) (b : Block A) → Contains (gap place size) b → is_free b ≡ true
  gap_is_free place size b has = elim (cases_Bool (size == 0)) [
    | inl empty ↦
        let none : gap {A = A} place size ≡ [] = rw empty refl in
        none_stands b (subst (λ (xs : List (Block A)). Contains xs b) none has)
    | inr some ↦
        let one : gap {A = A} place size ≡ free_block place size ∷ [] = rw some refl in
        elim (stands_first_or_later (free_block place size) b [] (subst (λ (xs : List (Block A)). Contains xs b) one has)) [
          | inl same ↦ ap (λ (block : Block A). is_free block) (sym same)
          | inr none ↦ none_stands b none
        ]
  ]

  live_or_free : {X : Type 0} (b : Block A) → is_free b ≡ false → is_free b ≡ true → X
  live_or_free b live empty = absurd (cc)

  -- the live block of a split begins at the place
  from_split : (owner : A) (place m size : ℕ) (b : Block A) → Contains (split owner place m size) b → is_free b ≡ false → b.place ≡ place
  from_split owner place m size b has live = elim (stands_first_or_later (record { place = place; size = m; owner = Some owner }) b (gap (place + m) (size - m)) has) [
    | inl same ↦ ap (λ (block : Block A). block.place) (sym same)
    | inr left ↦ live_or_free b live (gap_is_free (place + m) (size - m) b left)
  ]

  from_split_in : (owner : A) (place m size : ℕ) (pools : List (Pool A)) (b : Block A) → Contains (blocks_of (map (replaced_in place (split owner place m size)) pools)) b → is_free b ≡ false
      → Contains (blocks_of pools) b ⊎ (b.place ≡ place)
  from_split_in owner place m size pools b has live = elim (from_replaced_in place (split owner place m size) pools b has) [
    | inl stood ↦ inl stood
    | inr came ↦ inr (from_split owner place m size b came live)
  ]

  pub live_from_after_free : (place : ℕ) (content : Content A) (b : Block A) → Contains (blocks_of (after_free place content).pools) b → is_free b ≡ false → Contains (blocks_of content.pools) b
  live_from_after_free place content b has live =
      let previous = free_previous place content in
      let next = free_next place content in
      let merged : Block A = free_block (start_of previous place) (size_of previous + size_at place (blocks_of content.pools) + size_of next) in
      elim (from_replaced_in place (merged ∷ []) (without_block next (without_block previous content.pools)) b has) [
        | inl stood ↦ from_without previous content.pools b (from_without next (without_block previous content.pools) b stood)
        | inr came ↦ elim (stands_first_or_later merged b [] came) [
          | inl same ↦ live_or_free b live (ap (λ (block : Block A). is_free block) (sym same))
          | inr none ↦ none_stands b none
        ]
      ]

  -- a live block after malloc was one before, or begins where malloc gave one
  pub live_from_malloc : (owner : A) (n place : ℕ) (content new : Content A) (b : Block A) → malloc owner n content ≡ Ok (place, new) → Contains (blocks_of new.pools) b → is_free b ≡ false
      → Contains (blocks_of content.pools) b ⊎ (b.place ≡ place)
  live_from_malloc owner n place content new b e =
      let gave = malloc_gave owner content n (place, new) e in
      let P : ℕ × Content A → Type 0 = λ given. Contains (blocks_of given.1.pools) b → is_free b ≡ false → Contains (blocks_of content.pools) b ⊎ (b.place ≡ given.0) in
      subst P gave.4 (from_split_in owner gave.1 gave.0 (size_at gave.1 (blocks_of content.pools)) content.pools b)

  -- the live block of a split in three begins at its start
  from_split_in_three : (owner : A) (start m place size : ℕ) (b : Block A) → Contains (split_in_three owner start m place size) b → is_free b ≡ false → b.place ≡ start
  from_split_in_three owner start m place size b has live =
      let left : ℕ = size - (start - place) in
      elim (Contains-append_cases (gap place (start - place)) (split owner start m left) b has) [
        | inl front ↦ live_or_free b live (gap_is_free place (start - place) b front)
        | inr back ↦ from_split owner start m left b back live
      ]

  -- a live block after memalign was one before, or begins where memalign gave one
  pub live_from_memalign : (owner : A) (align n place : ℕ) (content new : Content A) (b : Block A) → memalign owner align n content ≡ Ok (place, new) → Contains (blocks_of new.pools) b → is_free b ≡ false
      → Contains (blocks_of content.pools) b ⊎ (b.place ≡ place)
  live_from_memalign owner align n place content new b e =
      let gave = memalign_given owner align n content (place, new) e in
      let p : IsPicked owner align n content = gave.0 in
      let start : ℕ = next_multiple_of p.place align in
      let size : ℕ = size_at p.place (blocks_of content.pools) in
      let P : ℕ × Content A → Type 0 = λ given. Contains (blocks_of given.1.pools) b → is_free b ≡ false → Contains (blocks_of content.pools) b ⊎ (b.place ≡ given.0) in
      subst P gave.1 (λ has live. elim (from_replaced_in p.place (split_in_three owner start p.asked p.place size) content.pools b has) [
        | inl stood ↦ inl stood
        | inr came ↦ inr (from_split_in_three owner start p.asked p.place size b came live)
      ])

  -- a live block after free was one before
  pub live_from_free : (meant : A → Bool) (place : ℕ) (content new : Content A) (b : Block A) → free meant place content ≡ Ok new → Contains (blocks_of new.pools) b → is_free b ≡ false → Contains (blocks_of content.pools) b
  live_from_free meant place content new b e =
      let gave = free_gave meant place content new e in
      subst (λ (left : Content A). Contains (blocks_of left.pools) b → is_free b ≡ false → Contains (blocks_of content.pools) b) gave.1 (live_from_after_free place content b)

module _ {A : Type 0} (same : A → A → Bool) (owner known : A) (place n : ℕ) (content : Content A) (b : Block A) where
  -- a live block after realloc was one before, or begins where realloc left one
  abbrev IsFrom : Option (ℕ × A) → Content A → Type 0
  IsFrom None new = Contains (blocks_of new.pools) b → is_free b ≡ false → Contains (blocks_of content.pools) b
  IsFrom (Some given) new = Contains (blocks_of new.pools) b → is_free b ≡ false → Contains (blocks_of content.pools) b ⊎ (b.place ≡ given.0)

  live_from_any : (given : Option (ℕ × A)) (new : Content A) → realloc same owner (Some (place, known)) n content ≡ Ok (given, new) → IsFrom given new
  live_from_any given new e =
      realloc_gave same owner known place n content (λ answer. IsFrom answer.0 answer.1)
      (λ there nothing. live_from_after_free place content b)
      (λ there some has live. inl has)
      (λ m there some has live. elim (from_split_in known place m (size_with_next place content) (without_block (free_next place content) content.pools) b has live) [
        | inl stood ↦ inl (from_without (free_next place content) content.pools b stood)
        | inr here ↦ inr here
      ])
      (λ served there some is has live. live_from_malloc owner n served.0 content served.1 b is (live_from_after_free place served.1 b has live) live)
      (given, new) e

  -- realloc left a block at q
  pub live_from_realloc : (q : ℕ) (o : A) (new : Content A) → realloc same owner (Some (place, known)) n content ≡ Ok (Some (q, o), new) → Contains (blocks_of new.pools) b → is_free b ≡ false
      → Contains (blocks_of content.pools) b ⊎ (b.place ≡ q)
  live_from_realloc q o new e = live_from_any (Some (q, o)) new e

  -- realloc freed the block
  pub live_from_realloc_none : (new : Content A) → realloc same owner (Some (place, known)) n content ≡ Ok (None, new) → Contains (blocks_of new.pools) b → is_free b ≡ false → Contains (blocks_of content.pools) b
  live_from_realloc_none new e = live_from_any None new e

module _ {A : Type 0} where
  -- what a test finds stands in the list, and passes
  stands_where_any : (test : Block A → Bool) (blocks : List (Block A)) → list_any test blocks ≡ true → (b : Block A) × Contains blocks b × (test b ≡ true)
  stands_where_any test [] any = absurd (cc)
  stands_where_any test (block ∷ blocks) any = elim (cases_Bool (test block)) [
    | inl passes ↦ (block, stands_first block blocks, passes)
    | inr fails ↦
        let rest : list_any test (block ∷ blocks) ≡ list_any test blocks = rw fails refl in
        let found = stands_where_any test blocks (sym rest ∙ any) in
        (found.0, stands_later block found.0 blocks found.1, found.2)
  ]

  -- a live block at a place is one of the blocks
  pub live_here : (meant : A → Bool) (p : ℕ) (content : Content A) → is_live meant p (blocks_of content.pools) ≡ true → (b : Block A) × Contains (blocks_of content.pools) b × (b.place ≡ p) × (is_free b ≡ false)
  live_here meant p content live =
      let found = stands_where_any (λ block. is_at p block && is_owned_by meant block.owner) (blocks_of content.pools) live in
      let parts = and_parts _ _ found.2 in
      (found.0, found.1, eqb-true found.0.place p parts.0, owned_is_live meant found.0.owner parts.1)

  -- no block begins below those before it
  stands_above : (from : ℕ) (blocks : List (Block A)) (b : Block A) → Ascends from blocks → Contains blocks b → from ≤ b.place
  stands_above from [] b ascends has = none_stands b has
  stands_above from (block ∷ blocks) b ascends has = elim (stands_first_or_later block b blocks has) [
    | inl same ↦ omega (arith, ascends.0, ap (λ (other : Block A). other.place) same)
    | inr later ↦ omega (arith, ascends.0, stands_above (block.place + block.size) blocks b ascends.2 later)
  ]

  size_among : (from : ℕ) (blocks : List (Block A)) (b : Block A) → Ascends from blocks → Contains blocks b → b.size ≡ size_at b.place blocks
  size_among from [] b ascends has = none_stands b has
  size_among from (block ∷ blocks) b ascends has = elim (stands_first_or_later block b blocks has) [
    | inl same ↦
        let here : block.place == b.place ≡ true = eq-eqb block.place b.place (ap (λ (other : Block A). other.place) same) in
        let first : size_at b.place (block ∷ blocks) ≡ block.size = rw here refl in
        ap (λ (other : Block A). other.size) (sym same) ∙ sym first
    | inr later ↦
        let elsewhere : block.place == b.place ≡ false = ne_eqb block.place b.place (λ e. omega (arith, e, ascends.1, stands_above (block.place + block.size) blocks b ascends.2 later)) in
        let rest : size_at b.place (block ∷ blocks) ≡ size_at b.place blocks = rw elsewhere refl in
        size_among (block.place + block.size) blocks b ascends.2 later ∙ sym rest
  ]

  -- a block of a good content has the size that is told of its place
  pub size_here : (p : ℕ) (content : Content A) (b : Block A) → IsGood content → Contains (blocks_of content.pools) b → b.place ≡ p → b.size ≡ size_at p (blocks_of content.pools)
  size_here p content b good has at = size_among 0 (blocks_of content.pools) b (Ascends-pools 0 content.pools good.pools_good) has ∙ ap (λ q. size_at q (blocks_of content.pools)) at

module _ {A B : Type 0} (rename : A → B) where
  Ascends-renamed : (from : ℕ) (blocks : List (Block A)) → Ascends from blocks → Ascends from (map (renamed_block rename) blocks)
  Ascends-renamed from [] ascends = tt
  Ascends-renamed from (block ∷ blocks) ascends = (ascends.0, ascends.1, Ascends-renamed (block.place + block.size) blocks ascends.2)

  -- the same where blocks are known by something else
  pub end_here_renamed : (p : ℕ) (content : Content A) (b : Block B) → IsGood content → Contains (blocks_of (renamed rename content).pools) b → b.place ≡ p → b.place + b.size ≡ p + size_at p (blocks_of content.pools)
  end_here_renamed p content b good has at =
      let blocks : List (Block A) = blocks_of content.pools in
      let pools : List (Pool B) = (renamed rename content).pools in
      let stands : Contains (map (renamed_block rename) blocks) b = subst (λ (xs : List (Block B)). Contains xs b) (blocks_of-renamed rename content.pools) has in
      let size = size_among 0 (map (renamed_block rename) blocks) b (Ascends-renamed 0 blocks (Ascends-pools 0 content.pools good.pools_good)) stands in
      let back = ap (size_at b.place) (blocks_of-renamed rename content.pools) in
      let as_told = size_at-renamed rename b.place content.pools in
      let there = ap (λ q. size_at q blocks) at in
      omega (arith, at, size, back, as_told, there)

-- or by nothing
pub end_here_bare : {A : Type 0} (p : ℕ) (content : Content A) (b : Block (Unit {0})) → IsGood content → Contains (blocks_of (bare content).pools) b → b.place ≡ p → b.place + b.size ≡ p + size_at p (blocks_of content.pools)
end_here_bare p content b good has at = end_here_renamed (λ owner. tt) p content b good has at

-- where a block is live one stands with nothing told of it, and ends so far behind its place
pub live_end_bare : {A : Type 0} (meant : A → Bool) (p : ℕ) (content : Content A) → IsGood content → is_live meant p (blocks_of content.pools) ≡ true
    → (b : Block (Unit {0})) × Contains (blocks_of (bare content).pools) b × (is_free b ≡ false) × (b.place + b.size ≡ p + size_at p (blocks_of content.pools))
live_end_bare meant p content good live =
    let here = live_here (λ owner. true) p (bare content) (live_bare meant p content live) in
    (here.0, here.1, here.3, end_here_bare p content here.0 good here.1 here.2)
