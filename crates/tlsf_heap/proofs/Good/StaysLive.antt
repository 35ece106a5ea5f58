-- Which live blocks a good content has after a call.
use Rattle.std.proofs.Common.{◌≡◌, ◌≢◌, ℕ, ◌+◌, ◌≤◌, Bool, true, false, not, ◌&&◌, ◌||◌, List, [], ◌∷◌, map, refl, sym, ap, ◌∙◌, subst, arith, count_by, Option, Some, None, option_map, Ok, inl, inr}
use Rattle.std.specs.Prelude.{⊤, is_none}
use Rattle.std.specs.List.{list_any}
use Rattle.std.proofs.lemmas.Bool.{cases_Bool, eq-eqb, ne_eqb, eqb-true, and_left, and_right, or_right}
use Rattle.tlsf_heap.specs.Content.{Block, Content, blocks_of, is_free, is_at, size_at}
use Rattle.tlsf_heap.specs.Malloc.{replaced, replaced_in, split, allocated, malloc_rounded, malloc}
use Rattle.tlsf_heap.specs.Free.{is_owned_by, is_live, after_free, free}
use Rattle.tlsf_heap.specs.Realloc.{resized, realloc}
use Rattle.tlsf_heap.specs.Good.{IsGood}
use Rattle.tlsf_heap.specs.Bare.{renamed_block, renamed, bare}
use Rattle.tlsf_heap.proofs.Counts.{one_if, count-cons, count-append, count_apart, count_and, any_counts, counts_any, any-map}
use Rattle.tlsf_heap.proofs.Content.Blocks.{Found}
use Rattle.tlsf_heap.proofs.Content.Replacing.{replaced-here, blocks_of-replaced, count_by-replaced}
use Rattle.tlsf_heap.proofs.Content.BareSteps.{blocks_of-renamed}
use Rattle.tlsf_heap.proofs.Content.Given.{rounded_gave, malloc_gave, free_gave, realloc_gave}
use Rattle.tlsf_heap.proofs.Meaning.FreeFirst.{begins_once}
use Rattle.tlsf_heap.proofs.Meaning.Gaps.{FailsOnFree, split_counts}
use Rattle.tlsf_heap.proofs.Meaning.FreedIsGood.{freed_counts}
use Rattle.tlsf_heap.proofs.Meaning.ResizedIsGood.{resized_counts}
use Rattle.tlsf_heap.proofs.Good.MallocIsGood.{Picked, picked, malloc_is_good}

-- whether a free block begins at the place
abbrev pub is_free_at : {A : Type 0} → ℕ → Block A → Bool
is_free_at place block = is_at place block && is_free block

-- whether a live block begins at the place, and has the owner that is meant
abbrev pub is_live_at : {A : Type 0} → (A → Bool) → ℕ → Block A → Bool
is_live_at is_meant place block = is_at place block && is_owned_by is_meant block.owner

-- a call gave a block: a test that no free block passes counts that block more, and all else as before
pub record Gives {A : Type 0} (owner : A) (place : ℕ) (old new : Content A) : Type 0 where
  pub size : ℕ
  pub counts : (test : Block A → Bool) → FailsOnFree test → count_by test (blocks_of new.pools) ≡ count_by test (blocks_of old.pools) + one_if (test (record { place = place; size = size; owner = Some owner }))

module _ {A : Type 0} where
  free_at_own : (block : Block A) → is_free block ≡ true → is_free_at block.place block ≡ true
  free_at_own block free = ap (λ b. b && is_free block) (eq-eqb block.place block.place refl) ∙ free

  pub found_stands : (kind : Block A → Bool) (place : ℕ) (blocks : List (Block A)) (found : Found place blocks) → kind found.block ≡ true → 1 ≤ count_by kind blocks
  found_stands kind place blocks found passes =
      omega (arith, ap (count_by kind) found.whole, count-append kind found.front (found.block ∷ found.back), count-cons kind found.block found.back, ap one_if passes)

  pub picked_stands : (m place : ℕ) (content : Content A) → Picked m place content → 1 ≤ count_by (is_free_at place) (blocks_of content.pools)
  picked_stands m place content there =
      let P : ℕ → Type 0 = λ at. 1 ≤ count_by (is_free_at at) (blocks_of content.pools) in
      subst P there.found.here (found_stands (is_free_at there.found.block.place) place (blocks_of content.pools) there.found (free_at_own there.found.block there.free))

  -- others come in where a block gives way
  pub given_replaced : (test kind : Block A → Bool) (place : ℕ) (others blocks : List (Block A)) → ((block : Block A) → is_at place block ≡ false → kind block ≡ false) → 1 ≤ count_by kind blocks
      → count_by test others ≤ count_by test (replaced place others blocks)
  given_replaced test kind place others [] there some = absurd (omega (arith, some))
  given_replaced test kind place others (block ∷ blocks) there some = elim (cases_Bool (is_at place block)) [
    | inl here ↦ omega (arith, ap (count_by test) (replaced-here place others block blocks here), count-append test others (replaced place others blocks))
    | inr elsewhere ↦
        let left : replaced place others (block ∷ blocks) ≡ block ∷ replaced place others blocks = rw elsewhere refl in
        let rest = given_replaced test kind place others blocks there (omega (arith, some, count-cons kind block blocks, ap one_if (there block elsewhere))) in
        omega (arith, ap (count_by test) left, count-cons test block (replaced place others blocks), rest)
  ]

  -- others come in where a free block was picked
  pub picked_counts : (m place : ℕ) (others : List (Block A)) (content : Content A) → Picked m place content → (test : Block A → Bool) → FailsOnFree test
      → count_by test (blocks_of (map (replaced_in place others) content.pools)) ≡ count_by test (blocks_of content.pools) + count_by test others
  picked_counts m place others content there test fails =
      omega (arith, ap (count_by test) (blocks_of-replaced place others content.pools), count_by-replaced place others (blocks_of content.pools) test there.found, ap one_if (fails there.found.block there.free))

  -- the block picked was split
  pub split_gives : (owner : A) (m place : ℕ) (content : Content A) → Picked m place content → Gives owner place content (allocated owner place m (size_at place (blocks_of content.pools)) content)
  split_gives owner m place content there =
      let size : ℕ = size_at place (blocks_of content.pools) in
      record {
        size = m;
        counts = (λ test fails. omega (arith, picked_counts m place (split owner place m size) content there test fails, split_counts test fails owner place m size));
      }

  pub malloc_gives : (owner : A) (n place : ℕ) (content new : Content A) → IsGood content → malloc owner n content ≡ Ok (place, new) → Gives owner place content new
  malloc_gives owner n place content new good e =
      let gave = malloc_gave owner content n (place, new) e in
      subst (λ (g : ℕ × Content A). Gives owner g.0 content g.1) gave.4 (split_gives owner gave.0 gave.1 content (picked gave.0 gave.1 content good gave.3))

module _ {A : Type 0} (is_meant : A → Bool) where
  not_owned : (owner : Option A) → is_none owner ≡ true → is_owned_by is_meant owner ≡ false
  not_owned None free = refl
  not_owned (Some owner) free = absurd (cc)

  fails_on_free : (place : ℕ) → FailsOnFree (is_live_at is_meant place)
  fails_on_free place block free = and_right (is_at place block) _ (not_owned block.owner free)

  fails_elsewhere : (place other : ℕ) → place ≢ other → (block : Block A) → is_at other block ≡ true → is_live_at is_meant place block ≡ false
  fails_elsewhere place other apart block here = and_left (is_at place block) (is_owned_by is_meant block.owner) (ne_eqb block.place place (λ e. apart (sym e ∙ eqb-true block.place other here)))

  -- the block given is live
  pub given_is_live : (owner : A) (place : ℕ) (old new : Content A) → Gives owner place old new → is_meant owner ≡ true → is_live is_meant place (blocks_of new.pools) ≡ true
  given_is_live owner place old new gives meant =
      let test : Block A → Bool = is_live_at is_meant place in
      let passes : test (record { place = place; size = gives.size; owner = Some owner }) ≡ true = ap (λ b. b && is_meant owner) (eq-eqb place place refl) ∙ meant in
      counts_any test (blocks_of new.pools) (omega (arith, gives.counts test (fails_on_free place), ap one_if passes))

  -- a live block is live still
  pub live_still : (owner : A) (p place : ℕ) (old new : Content A) → Gives owner place old new → is_live is_meant p (blocks_of old.pools) ≡ true → is_live is_meant p (blocks_of new.pools) ≡ true
  live_still owner p place old new gives live =
      let test : Block A → Bool = is_live_at is_meant p in
      counts_any test (blocks_of new.pools) (omega (arith, gives.counts test (fails_on_free p), any_counts test (blocks_of old.pools) live))

  -- and the block given is another: two would begin at one place
  pub given_apart : (owner : A) (p place : ℕ) (old new : Content A) → Gives owner place old new → IsGood new → is_live is_meant p (blocks_of old.pools) ≡ true → place ≢ p
  given_apart owner p place old new gives good live same =
      let used : Block A → Bool = λ block. not (is_free block) in
      let test : Block A → Bool = λ block. used block && is_at p block in
      let passes : test (record { place = place; size = gives.size; owner = Some owner }) ≡ true = eq-eqb place p same in
      omega (
        arith,
        any_counts (is_live_at is_meant p) (blocks_of old.pools) live,
        count_apart (is_live_at is_meant p) (λ block. false) test (λ block. less (is_at p block) block.owner) (blocks_of old.pools),
        gives.counts test (λ block free. ap (λ b. not b && is_at p block) free),
        ap one_if passes,
        count_and used (is_at p) (blocks_of new.pools),
        begins_once new good p,
      )
    where
      less : (here : Bool) (owner : Option A) → one_if (here && is_owned_by is_meant owner) + 0 ≤ one_if (not (is_none owner) && here)
      less true None = omega arith
      less true (Some owner) = elim (is_meant owner) as (λ b. one_if b + 0 ≤ 1) [ true ↦ omega arith | false ↦ omega arith ]
      less false None = omega arith
      less false (Some owner) = omega arith

  -- malloc
  pub live_after : (owner : A) (m p : ℕ) (content : Content A) (given : ℕ × Content A) → IsGood content → is_live is_meant p (blocks_of content.pools) ≡ true → malloc_rounded owner (Some m) content ≡ Ok given → is_live is_meant p (blocks_of given.1.pools) ≡ true
  live_after owner m p content given good live e =
      let gave = rounded_gave owner content (Some m) given e in
      subst (λ (g : ℕ × Content A). is_live is_meant p (blocks_of g.1.pools) ≡ true) gave.4 (live_still owner p gave.1 content (allocated owner gave.1 gave.0 (size_at gave.1 (blocks_of content.pools)) content) (split_gives owner gave.0 gave.1 content (picked gave.0 gave.1 content good gave.3)) live)

  pub live_given : (owner : A) (n place : ℕ) (content new : Content A) → IsGood content → malloc owner n content ≡ Ok (place, new) → is_meant owner ≡ true → is_live is_meant place (blocks_of new.pools) ≡ true
  live_given owner n place content new good e meant = given_is_live owner place content new (malloc_gives owner n place content new good e) meant

  pub live_through_malloc : (owner : A) (p n place : ℕ) (content new : Content A) → IsGood content → is_live is_meant p (blocks_of content.pools) ≡ true → malloc owner n content ≡ Ok (place, new)
      → is_live is_meant p (blocks_of new.pools) ≡ true
  live_through_malloc owner p n place content new good live e = live_still owner p place content new (malloc_gives owner n place content new good e) live

  pub given_elsewhere : (owner : A) (p n place : ℕ) (content new : Content A) → IsGood content → is_live is_meant p (blocks_of content.pools) ≡ true → malloc owner n content ≡ Ok (place, new) → place ≢ p
  given_elsewhere owner p n place content new good live e = given_apart owner p place content new (malloc_gives owner n place content new good e) (malloc_is_good owner n content (place, new) good e) live

  -- a live block is live where another becomes free
  live_past_free : (is_other : A → Bool) (p freed : ℕ) (content : Content A) → IsGood content → is_live is_meant p (blocks_of content.pools) ≡ true → is_live is_other freed (blocks_of content.pools) ≡ true → p ≢ freed
      → is_live is_meant p (blocks_of (after_free freed content).pools) ≡ true
  live_past_free is_other p freed content good live there apart =
      let test : Block A → Bool = is_live_at is_meant p in
      counts_any test (blocks_of (after_free freed content).pools) (omega (
        arith,
        any_counts test (blocks_of content.pools) live,
        freed_counts is_other freed content good there test (fails_on_free p) (fails_elsewhere p freed apart),
      ))

module _ {A : Type 0} (is_meant : A → Bool) where
  -- free of a live block
  pub free_of_live : (place : ℕ) (content : Content A) → is_live is_meant place (blocks_of content.pools) ≡ true → free is_meant place content ≡ Ok (after_free place content)
  free_of_live place content live = rw live refl

  -- a live block is live after the free of another
  pub live_through_free : (is_other : A → Bool) (p place : ℕ) (content new : Content A) → IsGood content → is_live is_meant p (blocks_of content.pools) ≡ true → p ≢ place → free is_other place content ≡ Ok new
      → is_live is_meant p (blocks_of new.pools) ≡ true
  live_through_free is_other p place content new good live apart e =
      let gave = free_gave is_other place content new e in
      subst (λ (left : Content A). is_live is_meant p (blocks_of left.pools) ≡ true) gave.1 (live_past_free is_meant is_other p place content good live gave.0 apart)

  -- and after the realloc of another, which leaves that one elsewhere
  pub live_through_realloc : (same : A → A → Bool) (owner known : A) (p place n : ℕ) (given : Option (ℕ × A)) (content new : Content A) → IsGood content → is_live is_meant p (blocks_of content.pools) ≡ true → p ≢ place
      → realloc same owner (Some (place, known)) n content ≡ Ok (given, new) → is_live is_meant p (blocks_of new.pools) ≡ true
  live_through_realloc same owner known p place n given content new good live apart e =
      let meant : A → Bool = λ other. same other known in
      realloc_gave same owner known place n content (λ answer. is_live is_meant p (blocks_of answer.1.pools) ≡ true)
      (λ there nothing. live_past_free is_meant meant p place content good live there apart)
      (λ there some. live)
      (λ m there some.
      let test : Block A → Bool = is_live_at is_meant p in
      let fails : test (record { place = place; size = m; owner = Some known }) ≡ false = fails_elsewhere is_meant p place apart (record { place = place; size = m; owner = Some known }) (eq-eqb place place refl) in
      counts_any test (blocks_of (resized known place m content).pools) (omega (
        arith,
        any_counts test (blocks_of content.pools) live,
        resized_counts meant known place m content good there test false (fails_on_free is_meant p) (λ block here owned. fails_elsewhere is_meant p place apart block here) fails,
      )))
      (λ served there some is. live_past_free is_meant meant p place served.1 (malloc_is_good owner n content served good is) (live_through_malloc is_meant owner p n served.0 content served.1 good live is) (live_through_malloc meant owner place n served.0 content served.1 good there is) apart)
      (given, new) e

  -- a block that was given begins elsewhere
  abbrev IsNotAt : ℕ → Option (ℕ × A) → Type 0
  IsNotAt p None = ⊤
  IsNotAt p (Some given) = given.0 ≢ p

  pub moved_elsewhere : (same : A → A → Bool) (owner known : A) (p place n q : ℕ) (o : A) (given : Option (ℕ × A)) (content new : Content A) → IsGood content → is_live is_meant p (blocks_of content.pools) ≡ true → p ≢ place
      → realloc same owner (Some (place, known)) n content ≡ Ok (given, new) → given ≡ Some (q, o) → q ≢ p
  moved_elsewhere same owner known p place n q o given content new good live apart e is =
      subst (IsNotAt p) is (realloc_gave same owner known place n content (λ answer. IsNotAt p answer.0)
      (λ there nothing. tt)
      (λ there some here. apart (sym here))
      (λ m there some here. apart (sym here))
      (λ served there some asked. given_elsewhere is_meant owner p n served.0 content served.1 good live asked)
      (given, new) e)

-- where realloc leaves a block, it is live
module _ {A : Type 0} (same : A → A → Bool) (owner known : A) (place n : ℕ) (content : Content A) where
  abbrev meant : A → A → Bool
  meant o other = same other o

  -- where a block is, it is live, known by what is told of it
  abbrev IsLiveNow : Option (ℕ × A) → Content A → Type 0
  IsLiveNow None new = ⊤
  IsLiveNow (Some given) new = is_live (meant given.1) given.0 (blocks_of new.pools) ≡ true

  pub live_moved : (q : ℕ) (o : A) (new : Content A) → ((a : A) → same a a ≡ true) → IsGood content → realloc same owner (Some (place, known)) n content ≡ Ok (Some (q, o), new) → is_live (λ other. same other o) q (blocks_of new.pools) ≡ true
  live_moved q o new reflexive good e =
      realloc_gave same owner known place n content (λ answer. IsLiveNow answer.0 answer.1)
      (λ there nothing. tt)
      (λ there some. there)
      (λ m there some. grown m there)
      (λ served there some is. live_past_free (meant owner) (meant known) served.0 place served.1 (malloc_is_good owner n content served good is)
      (live_given (meant owner) owner n served.0 content served.1 good is (reflexive owner))
      (live_through_malloc (meant known) owner place n served.0 content served.1 good there is)
      (given_elsewhere (meant known) owner place n served.0 content served.1 good there is))
      (Some (q, o), new) e
    where
      grown : (m : ℕ) → is_live (meant known) place (blocks_of content.pools) ≡ true → is_live (meant known) place (blocks_of (resized known place m content).pools) ≡ true
      grown m there =
          let test : Block A → Bool = is_live_at (meant known) place in
          let passes : test (record { place = place; size = m; owner = Some known }) ≡ true = ap (λ b. b && same known known) (eq-eqb place place refl) ∙ reflexive known in
          counts_any test (blocks_of (resized known place m content).pools) (omega (
            arith,
            any_counts test (blocks_of content.pools) there,
            resized_counts (meant known) known place m content good there test true (fails_on_free (meant known) place) (λ block here owned. ap (λ b. b && is_owned_by (meant known) block.owner) here ∙ owned) passes,
          ))

-- what passes a test passes a weaker one
any_more : {X : Type 0} (test weaker : X → Bool) → ((x : X) → test x ≡ true → weaker x ≡ true) → (xs : List X) → list_any test xs ≡ true → list_any weaker xs ≡ true
any_more test weaker implied [] any = any
any_more test weaker implied (x ∷ xs) any = elim (cases_Bool (test x)) [
  | inl passes ↦ ap (λ b. b || list_any weaker xs) (implied x passes)
  | inr fails ↦ or_right (weaker x) (list_any weaker xs) (any_more test weaker implied xs (sym (ap (λ b. b || list_any test xs) fails) ∙ any))
]

-- a live block is live whatever blocks are known by
pub live_renamed : {A B : Type 0} (rename : A → B) (is_meant : A → Bool) (place : ℕ) (content : Content A) → is_live is_meant place (blocks_of content.pools) ≡ true → is_live (λ owner. true) place (blocks_of (renamed rename content).pools) ≡ true
live_renamed {A = A} rename is_meant place content live =
    let test : Block A → Bool = is_live_at is_meant place in
    let weaker : Block A → Bool = λ block. is_live_at (λ owner. true) place (renamed_block rename block) in
    ap (is_live (λ owner. true) place) (blocks_of-renamed rename content.pools)
    ∙ any-map (is_live_at (λ owner. true) place) (renamed_block rename) (blocks_of content.pools)
    ∙ any_more test weaker (λ block passes. more (is_at place block) block.owner passes) (blocks_of content.pools) live
  where
    more : (here : Bool) (owner : Option A) → (here && is_owned_by is_meant owner) ≡ true → (here && is_owned_by (λ o. true) (option_map rename owner)) ≡ true
    more true None h = h
    more true (Some owner) h = refl
    more false owner h = h

-- also where nothing is told of it
pub live_bare : {A : Type 0} (is_meant : A → Bool) (place : ℕ) (content : Content A) → is_live is_meant place (blocks_of content.pools) ≡ true → is_live (λ owner. true) place (blocks_of (bare content).pools) ≡ true
live_bare is_meant place content live = live_renamed (λ owner. tt) is_meant place content live
