-- Pools whose blocks all have one size: what is free in them, and how many there are.
use Rattle.std.proofs.Common.{◌≡◌, ◌≢◌, ℕ, ◌+◌, ◌-◌, ◌*◌, ◌<◌, ◌≤◌, Bool, true, not, cond, List, [], ◌∷◌, ◌++◌, length, count_by, Option, Some, None, Ok, Err, inl, inr, refl, sym, ap, ◌∙◌, subst, arith, length-append}
use Rattle.std.specs.Prelude.{◌==◌, Result, nat_lt, IsTrue}
use Rattle.std.specs.List.{AllByRecursion}
use Rattle.std.specs.Int.{next_multiple_of}
use Rattle.std.proofs.lemmas.Bool.{cases_Bool, cases_lt, cases_eq, lt-ltb, le-leb, ne_eqb, ltb-true}
use Rattle.std.proofs.lemmas.List.Elements.{recursion_from_All}
use Rattle.tlsf_class.specs.Classes.{unit, low, need}
use Rattle.tlsf_class.specs.Rounding.{round}
use Rattle.tlsf_class.proofs.RoundingLaws.{round-Some}
use Rattle.tlsf_heap.specs.declared.refusal.Refusal.{Refusal}
use Rattle.tlsf_heap.specs.declared.refusal.Refusal.TheVariants.{NoFit, TableFull, BadPointer}
use Rattle.tlsf_heap.specs.Content.{Block, Pool, Content, blocks_of, is_free, size_at, used_records}
use Rattle.tlsf_heap.specs.Lists.{pick}
use Rattle.tlsf_heap.specs.Malloc.{malloc_rounded, malloc}
use Rattle.tlsf_heap.specs.Memalign.{size_asked, gap_records, aligned, memalign}
use Rattle.tlsf_heap.specs.Free.{is_live, after_free}
use Rattle.tlsf_heap.specs.Realloc.{given_anew, realloc}
use Rattle.tlsf_heap.specs.Good.{AreGoodPools, IsGood}
use Rattle.tlsf_heap.specs.Implied.{AreFreeBelow, live_blocks}
use Rattle.tlsf_heap.specs.Room.{pool_bytes}
use Rattle.tlsf_heap.specs.OneSize.{HasRecords, TakesOne}
use Rattle.tlsf_heap.proofs.Content.Given.{malloc_gave}
use Rattle.tlsf_heap.proofs.Content.MallocCases.{IsPicked, split_there, malloc_cases}
use Rattle.tlsf_heap.proofs.Content.MemalignCases.{few_gap, used_aligned, IsPicked as IsPickedAligned, split_aligned_of, memalign_cases, memalign_given}
use Rattle.tlsf_heap.proofs.Content.ReallocCases.{realloc_freed, realloc_resized, sized_same}
use Rattle.tlsf_heap.proofs.Counts.{count-append}
use Rattle.tlsf_heap.proofs.Good.Cut.{IsCut, AreCut, found_at, allocated_cut, cut_stands, freed_cut, is_larger, sizes_more, sizes_least}
use Rattle.tlsf_heap.proofs.Good.Implied.{no_fit, few_blocks}
use Rattle.tlsf_heap.proofs.Good.MallocIsGood.{picked, malloc_is_good}
use Rattle.tlsf_heap.proofs.Good.AlignedImplied.{aligned_no_fit}
use Rattle.tlsf_heap.proofs.Good.LiveBlocks.{live_here, size_here}
use Rattle.tlsf_heap.proofs.Good.Room.{product_le, add_product, front_of}
use Rattle.tlsf_heap.proofs.Good.StaysLive.{found_stands}
use Rattle.tlsf_heap.proofs.Good.Within.{IsWant, not_bad, Keeps, malloc_keeps, memalign_keeps, freed_keeps}
use Rattle.tlsf_heap.proofs.Meaning.AlignedIsGood.{can_split_aligned, memalign_is_good}
use Rattle.tlsf_heap.proofs.Meaning.FreedIsGood.{freed_is_good}
use Rattle.tlsf_heap.proofs.Meaning.SplitInThree.{aligned_here}

-- slots are compared as numbers
abbrev pub are_same : ℕ → ℕ → Bool
are_same a b = a == b

-- the size is the lowest of a class
pub record IsLowest (size : ℕ) : Type 0 where
  pub c : ℕ
  pub needed : need size ≡ Some c
  pub sized : low c ≡ size
  pub rounds : round size ≡ Some size

-- a size that is rounded to has bytes
pub positive : (size n : ℕ) → round n ≡ Some size → 0 < size
positive size n rounds = let is = round-Some n size rounds in omega (arith, is.least, is.some)

-- at an alignment of at most the unit no more is asked of the lists
size_asked_within : (align m : ℕ) → align ≤ unit → size_asked align m ≡ m
size_asked_within align m few = ap (λ b. cond b m ((m + align) - unit)) (le-leb align unit few)

-- the bytes of one pool, by its blocks
module _ {A : Type 0} (size base : ℕ) (some : 0 < size) where
  -- where each free block is smaller than the size, there are fewer than in one block more than the live ones
  bytes_least : (from : ℕ) (pools : List (Pool A)) → length pools ≡ 1 → AreGoodPools from pools → AreCut size base (blocks_of pools) → AllByRecursion (λ block. IsTrue (is_free block) → block.size < size) (blocks_of pools)
      → pool_bytes pools < count_by (λ block. not (is_free block)) (blocks_of pools) * size + size
  bytes_least from [] one g all below = absurd (omega (arith, one))
  bytes_least from (pool ∷ []) one g all below =
      let used : Block A → Bool = λ block. not (is_free block) in
      let Below : Block A → Type 0 = λ block. IsTrue (is_free block) → block.size < size in
      let least = sizes_least size base pool.base (pool.base + pool.bytes) pool.blocks some g.1.covered (front_of (IsCut size base) pool.blocks [] all) (front_of Below pool.blocks [] below) in
      let counts : count_by used (pool.blocks ++ []) * size ≡ (count_by used pool.blocks + 0) * size = ap (λ n. n * size) (count-append used pool.blocks []) in
      omega (arith, least, counts, add_product (count_by used pool.blocks) 0 size)
  bytes_least from (pool ∷ other ∷ pools) one g all below = absurd (omega (arith, one))

  -- where a block is larger, there are more than as many blocks of the size have
  bytes_more : (from : ℕ) (pools : List (Pool A)) → length pools ≡ 1 → AreGoodPools from pools → AreCut size base (blocks_of pools) → 1 ≤ count_by (is_larger size base) (blocks_of pools) → length (blocks_of pools) * size < pool_bytes pools
  bytes_more from [] one g all larger = absurd (omega (arith, one))
  bytes_more from (pool ∷ []) one g all larger =
      let more = sizes_more size base pool.base (pool.base + pool.bytes) pool.blocks some g.1.covered (front_of (IsCut size base) pool.blocks [] all) (omega (arith, larger, count-append (is_larger size base) pool.blocks [])) in
      let counts : length (pool.blocks ++ []) * size ≡ (length pool.blocks + 0) * size = ap (λ n. n * size) (length-append pool.blocks []) in
      omega (arith, more, counts, add_product (length pool.blocks) 0 size)
  bytes_more from (pool ∷ other ∷ pools) one g all larger = absurd (omega (arith, one))

module _ {A : Type 0} (blocks size base : ℕ) where
  -- A good content of one pool, whose blocks each begin a whole multiple of the size behind its base, and are of the size where they
  -- are live. The pool has the bytes of `blocks` such blocks. There are as many records as blocks of the size have its bytes, or two
  -- for each of the `blocks`.
  pub record IsForSize (content : Content A) : Type 0 where
    pub good : IsGood content
    pub cut : AreCut size base (blocks_of content.pools)
    pub one : length content.pools ≡ 1
    pub bytes : blocks * size ≤ pool_bytes content.pools
    pub records : HasRecords blocks size (pool_bytes content.pools) content.records

  pub still_for : (old new : Content A) → IsForSize old → IsGood new → AreCut size base (blocks_of new.pools) → Keeps old new → IsForSize new
  still_for old new is good cut keeps = record {
    good = good;
    cut = cut;
    one = keeps.pools ∙ is.one;
    bytes = omega (arith, is.bytes, keeps.bytes);
    records = subst (HasRecords blocks size (pool_bytes new.pools)) (sym keeps.records) (subst (λ bytes. HasRecords blocks size bytes old.records) (sym keeps.bytes) is.records);
  }

  -- not each free block is too small, where fewer blocks are live
  one_fits : (lowest : IsLowest size) (content : Content A) → IsForSize content → 0 < size → live_blocks content < blocks → AreFreeBelow (low lowest.c) (blocks_of content.pools) → ⊥
  one_fits lowest content is some few below =
      let Below : ℕ → Type 0 = λ bound. AllByRecursion (λ (block : Block A). is_free block ≡ true → block.size < bound) (blocks_of content.pools) in
      let all = subst Below lowest.sized (recursion_from_All (λ (block : Block A). is_free block ≡ true → block.size < low lowest.c) (blocks_of content.pools) below) in
      let least = bytes_least size base some 0 content.pools is.one is.good.pools_good is.cut all in
      omega (arith, least, is.bytes, product_le (1 + live_blocks content) blocks size (omega (arith, few)), add_product 1 (live_blocks content) size)

  -- where a larger block was picked there is a record for the rest
  one_left : (content : Content A) → IsForSize content → 0 < size → live_blocks content < blocks → 1 ≤ count_by (is_larger size base) (blocks_of content.pools) → used_records content < content.records
  one_left content is some few larger = elim is.records [
    | inl as_many ↦ elim (cases_lt (used_records content) content.records) [
      | inl less ↦ less
      | inr most ↦ absurd (omega (arith, bytes_more size base some 0 content.pools is.one is.good.pools_good is.cut larger, as_many, product_le content.records (used_records content) size most))
    ]
    | inr twice ↦ omega (arith, few_blocks content.pools 0 is.good.pools_good, is.one, few, twice)
  ]

  picked_larger : (content : Content A) → IsForSize content → (place : ℕ) → pick size content.lists ≡ Some place → size < size_at place (blocks_of content.pools) → 1 ≤ count_by (is_larger size base) (blocks_of content.pools)
  picked_larger content is place found larger =
      let there = picked size place content is.good found in
      found_stands (is_larger size base) place (blocks_of content.pools) there.found (lt-ltb size there.found.block.size (omega (arith, larger, there.size_is)))

  -- malloc finds a block and a record
  pub malloc_fits : IsLowest size → (owner : A) (n : ℕ) (content : Content A) → IsForSize content → TakesOne blocks size n content → malloc owner n content ≡ Err NoFit → ⊥
  malloc_fits lowest owner n content is takes refused =
      one_fits lowest content is (positive size n takes.rounds) takes.few (no_fit owner n content is.good refused size lowest.c takes.rounds lowest.needed)

  pub malloc_recorded : (owner : A) (n : ℕ) (content : Content A) → IsForSize content → n ≢ 0 → TakesOne blocks size n content → malloc owner n content ≡ Err TableFull → ⊥
  malloc_recorded owner n content is some takes refused =
      malloc_cases owner content n (λ r. r ≡ Err TableFull → ⊥) (λ nothing e. absurd (cc)) (λ more none e. absurd (cc)) (λ p used e. full p used) (λ p e. absurd (cc)) refused
    where
      full : (p : IsPicked owner content (round n)) → content.records ≤ used_records content → ⊥
      full p used =
          let same : p.asked ≡ size = cc (p.rounds, takes.rounds) in
          let found : pick size content.lists ≡ Some p.place = ap (λ m. pick m content.lists) (sym same) ∙ p.found in
          elim (cases_Bool (nat_lt size (size_at p.place (blocks_of content.pools)))) [
            | inl larger ↦
                omega (arith, used, one_left content is (positive size n takes.rounds) takes.few (picked_larger content is p.place found (ltb-true _ _ larger)))
            | inr whole ↦
                let asked : malloc owner n content ≡ malloc_rounded owner (round n) content = rw (ne_eqb n 0 some) refl in
                let sized : malloc_rounded owner (round n) content ≡ malloc_rounded owner (Some size) content = ap (λ m. malloc_rounded owner m content) takes.rounds in
                let served : malloc_rounded owner (Some size) content ≡ Ok (split_there owner content size p.place) = rw (found, whole) refl in
                cc (asked ∙ sized ∙ served, refused)
          ]

  -- who is given a block asked for bytes
  pub some_served : (owner : A) (n : ℕ) (content : Content A) (given : ℕ × Content A) → malloc owner n content ≡ Ok given → n ≢ 0
  some_served owner n content given served nothing = let gave = malloc_gave owner content n given served in absurd (omega (arith, (round-Some n gave.0 gave.2).some, nothing))

  -- what malloc leaves
  malloc_cut : (owner : A) (n : ℕ) (content : Content A) (given : ℕ × Content A) → IsGood content → AreCut size base (blocks_of content.pools) → round n ≡ Some size → malloc owner n content ≡ Ok given → AreCut size base (blocks_of given.1.pools)
  malloc_cut owner n content given good cut rounds served =
      let gave = malloc_gave owner content n given served in
      let same : gave.0 ≡ size = cc (gave.2, rounds) in
      let found : pick size content.lists ≡ Some gave.1 = ap (λ m. pick m content.lists) (sym same) ∙ gave.3 in
      let P : ℕ × Content A → Type 0 = λ g. AreCut size base (blocks_of g.1.pools) in
      subst P (ap (λ m. split_there owner content m gave.1) (sym same) ∙ gave.4) (allocated_cut size base owner gave.1 content cut (found_at size base gave.1 (blocks_of content.pools) cut (picked size gave.1 content good found).found))

  -- at an alignment of at most the unit a block begins where the one picked does
  starts_there : (align n : ℕ) (owner : A) (content : Content A) → IsGood content → align ≤ unit → (p : IsPickedAligned owner align n content) → next_multiple_of p.place align ≡ p.place
  starts_there align n owner content good few p =
      let start = (can_split_aligned align p.asked p.place content good p.is p.found).start in
      omega (arith, start.begins, start.fits, size_asked_within align p.asked few)

  memalign_cut : (owner : A) (align n : ℕ) (content : Content A) (given : ℕ × Content A) → IsGood content → AreCut size base (blocks_of content.pools) → align ≤ unit → round n ≡ Some size → memalign owner align n content ≡ Ok given → AreCut size base (blocks_of given.1.pools)
  memalign_cut owner align n content given good cut few rounds served =
      let gave = memalign_given owner align n content given served in
      let p : IsPickedAligned owner align n content = gave.0 in
      let bytes : ℕ = size_at p.place (blocks_of content.pools) in
      let same : p.asked ≡ size = cc (p.rounds, rounds) in
      let there = starts_there align n owner content good few p in
      let is : split_aligned_of owner align n content p ≡ (split_there owner content size p.place).1 =
      ap (λ start. aligned owner start p.asked p.place bytes content) there ∙ ap (λ m. aligned owner p.place m p.place bytes content) same ∙ aligned_here owner size p.place bytes content in
      let P : Content A → Type 0 = λ left. AreCut size base (blocks_of left.pools) in
      subst (λ (g : ℕ × Content A). P g.1) gave.1 (subst P (sym is) (allocated_cut size base owner p.place content cut (found_at size base p.place (blocks_of content.pools) cut (can_split_aligned align p.asked p.place content good p.is p.found).picked.found)))

  -- memalign finds a block and a record, too
  pub memalign_fits : IsLowest size → (owner : A) (align n : ℕ) (content : Content A) → IsForSize content → align ≤ unit → TakesOne blocks size n content → memalign owner align n content ≡ Err NoFit → ⊥
  memalign_fits lowest owner align n content is few takes refused =
      let needed : need (size_asked align size) ≡ Some lowest.c = ap need (size_asked_within align size few) ∙ lowest.needed in
      one_fits lowest content is (positive size n takes.rounds) takes.few (aligned_no_fit owner align n content is.good refused size lowest.c takes.rounds needed)

  pub memalign_recorded : (owner : A) (align n : ℕ) (content : Content A) → IsForSize content → align ≤ unit → TakesOne blocks size n content → memalign owner align n content ≡ Err TableFull → ⊥
  memalign_recorded owner align n content is few takes =
      memalign_cases owner align n content (λ r. r ≡ Err TableFull → ⊥) (λ e. absurd (cc)) (λ nothing e. absurd (cc)) (λ none e. absurd (cc)) (λ p over e. full p over) (λ p room e. absurd (cc))
    where
      full : (p : IsPickedAligned owner align n content) → content.records < used_records (split_aligned_of owner align n content p) → ⊥
      full p over =
          let bytes : ℕ = size_at p.place (blocks_of content.pools) in
          let start : ℕ = next_multiple_of p.place align in
          let same : p.asked ≡ size = cc (p.rounds, takes.rounds) in
          let there : start ≡ p.place = starts_there align n owner content is.good few p in
          let found : pick size content.lists ≡ Some p.place = ap (λ m. pick m content.lists) (sym same ∙ sym (size_asked_within align p.asked few)) ∙ p.found in
          let at_once : start - p.place ≡ 0 = omega (arith, there) in
          let front : gap_records (start - p.place) ≡ 0 = ap gap_records at_once in
          let used = used_aligned owner start p.asked p.place bytes content (picked size p.place content is.good found).found in
          let back : ℕ = (bytes - (start - p.place)) - p.asked in
          elim (cases_lt size bytes) [
            | inl larger ↦ omega (arith, over, used, front, few_gap back, one_left content is (positive size n takes.rounds) takes.few (picked_larger content is p.place found larger))
            | inr whole ↦
                let nothing : back ≡ 0 = omega (arith, whole, same) in
                let none : gap_records back ≡ 0 = ap gap_records nothing in
                omega (arith, over, used, front, none, is.good.blocks_few)
          ]

  -- what each call leaves is for the size still
  pub malloc_for : (owner : A) (n : ℕ) (content : Content A) (given : ℕ × Content A) → IsForSize content → round n ≡ Some size → malloc owner n content ≡ Ok given → IsForSize given.1
  malloc_for owner n content given is rounds served =
      still_for content given.1 is (malloc_is_good owner n content given is.good served) (malloc_cut owner n content given is.good is.cut rounds served) (malloc_keeps owner n content given served)

  pub memalign_for : (owner : A) (align n : ℕ) (content : Content A) (given : ℕ × Content A) → IsForSize content → align ≤ unit → round n ≡ Some size → memalign owner align n content ≡ Ok given → IsForSize given.1
  memalign_for owner align n content given is few rounds served =
      still_for content given.1 is (memalign_is_good owner align n content given is.good served) (memalign_cut owner align n content given is.good is.cut few rounds served) (memalign_keeps owner align n content given served)

  pub freed_for : (meant : A → Bool) (place : ℕ) (content : Content A) → IsForSize content → is_live meant place (blocks_of content.pools) ≡ true → IsForSize (after_free place content)
  freed_for meant place content is live =
      still_for content (after_free place content) is (freed_is_good meant place content is.good live) (freed_cut size base meant place content live is.cut) (freed_keeps place content)

  -- a live block has the size
  live_size : (meant : A → Bool) (place : ℕ) (content : Content A) → IsGood content → AreCut size base (blocks_of content.pools) → is_live meant place (blocks_of content.pools) ≡ true → size ≡ size_at place (blocks_of content.pools)
  live_size meant place content good cut live =
      let here = live_here meant place content live in
      sym ((cut_stands size base (blocks_of content.pools) here.0 cut here.1).live here.3) ∙ size_here place content here.0 good here.1 here.2

  -- so a live block stays as it is
  pub realloc_kept : (same : A → A → Bool) (owner : A) (place : ℕ) (known : A) (n : ℕ) (content : Content A) → IsGood content → AreCut size base (blocks_of content.pools) → is_live (λ other. same other known) place (blocks_of content.pools) ≡ true → n ≢ 0 → round n ≡ Some size
      → realloc same owner (Some (place, known)) n content ≡ Ok (Some (place, known), content)
  realloc_kept same owner place known n content good cut live some rounds =
      realloc_resized same owner known place n size content live some rounds ∙ sized_same owner known place size content (live_size (λ other. same other known) place content good cut live)

  pub realloc_fits : (same : A → A → Bool) (why : Refusal) → IsWant why → (owner : A) (place : ℕ) (known : A) (n : ℕ) (content : Content A) → IsForSize content → (IsTrue (is_live (λ other. same other known) place (blocks_of content.pools)) → n ≢ 0 → round n ≡ Some size) → realloc same owner (Some (place, known)) n content ≡ Err why → ⊥
  realloc_fits same why want owner place known n content is rounds refused = elim (cases_Bool (is_live (λ other. same other known) place (blocks_of content.pools))) [
    | inr stale ↦ let bad : realloc same owner (Some (place, known)) n content ≡ Err BadPointer = rw stale refl in not_bad why want (cc (bad, refused))
    | inl live ↦ elim (cases_eq n 0) [
      | inl nothing ↦ cc (realloc_freed same owner known place n content live nothing, refused)
      | inr some ↦ cc (realloc_kept same owner place known n content is.good is.cut live some (rounds live some), refused)
    ]
  ]

  pub realloc_cut : (same : A → A → Bool) (owner : A) (place : ℕ) (known : A) (n : ℕ) (content : Content A) (given : Option (ℕ × A) × Content A) → IsForSize content → (IsTrue (is_live (λ other. same other known) place (blocks_of content.pools)) → n ≢ 0 → round n ≡ Some size) → realloc same owner (Some (place, known)) n content ≡ Ok given → AreCut size base (blocks_of given.1.pools)
  realloc_cut same owner place known n content given is rounds served = elim (cases_Bool (is_live (λ other. same other known) place (blocks_of content.pools))) [
    | inr stale ↦ let bad : realloc same owner (Some (place, known)) n content ≡ Err BadPointer = rw stale refl in absurd (cc (bad, served))
    | inl live ↦ elim (cases_eq n 0) [
      | inl nothing ↦ left (None, after_free place content) (realloc_freed same owner known place n content live nothing) (freed_cut size base (λ other. same other known) place content live is.cut)
      | inr some ↦ left (Some (place, known), content) (realloc_kept same owner place known n content is.good is.cut live some (rounds live some)) is.cut
    ]
  ]
    where
      left : (there : Option (ℕ × A) × Content A) → realloc same owner (Some (place, known)) n content ≡ Ok there → AreCut size base (blocks_of there.1.pools) → AreCut size base (blocks_of given.1.pools)
      left there gave cut = let is : there ≡ given = cc (gave, served) in subst (λ (g : Option (ℕ × A) × Content A). AreCut size base (blocks_of g.1.pools)) is cut

  pub anew_cut : (same : A → A → Bool) (owner : A) (n : ℕ) (content : Content A) (given : Option (ℕ × A) × Content A) → IsForSize content → (n ≢ 0 → TakesOne blocks size n content) → realloc same owner None n content ≡ Ok given → AreCut size base (blocks_of given.1.pools)
  anew_cut same owner n content given is takes served = of (malloc owner n content) refl served
    where
      of : (answer : Result (ℕ × Content A) Refusal) → malloc owner n content ≡ answer → given_anew owner answer ≡ Ok given → AreCut size base (blocks_of given.1.pools)
      of (Err refusal) gave e = absurd (cc)
      of (Ok new) gave e =
          let there : (Some (new.0, owner), new.1) ≡ given = cc in
          let some : n ≢ 0 = some_served owner n content new gave in
          subst (λ (g : Option (ℕ × A) × Content A). AreCut size base (blocks_of g.1.pools)) there (malloc_cut owner n content new is.good is.cut (takes some).rounds gave)
