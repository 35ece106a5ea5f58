-- Calls on the last blocks of a heap's one pool: what they leave there.
use Rattle.std.proofs.Common.{◌≡◌, ℕ, ◌+◌, ◌-◌, ◌<◌, ◌≤◌, Bool, true, false, List, [], ◌∷◌, ◌++◌, length, map, count_by, Option, Some, None, Ok, refl, sym, ap, ◌∙◌, subst, arith, ◌%◌, inl, inr, ◌≢◌}
use Rattle.std.specs.Prelude.{◌==◌, ◌&&◌, IsTrue, nat_lt}
use Rattle.std.specs.List.{AllByRecursion}
use Rattle.std.specs.Int.{next_multiple_of}
use Rattle.std.proofs.lemmas.Bool.{eq-eqb, ne_eqb, lt-ltb, lt-leb, cases_lt, le-ltb, le-leb}
use Rattle.std.proofs.lemmas.List.Elements.{recursion_from_All}
use Rattle.std.proofs.Math.Nat.{mod-eq_of_lt}
use Rattle.tlsf_class.specs.Classes.{unit, low}
use Rattle.tlsf_class.specs.Rounding.{round}
use Rattle.tlsf_class.proofs.RoundingLaws.{round_within, rounded_from}
use Rattle.tlsf_heap.specs.Memalign.{is_alignment, size_asked, split_in_three, aligned, memalign_picked, memalign_rounded, memalign}
use Rattle.tlsf_heap.specs.Content.{Block, Pool, Content, blocks_of, is_free, is_at, size_at, used_records}
use Rattle.tlsf_heap.specs.Lists.{pick}
use Rattle.tlsf_heap.specs.Malloc.{gap, replaced_in, split, allocated, malloc_rounded, malloc}
use Rattle.tlsf_heap.specs.Free.{is_owned_by, is_live, next_of, if_free, first_in_pools, free_next, after_free, size_of}
use Rattle.tlsf_heap.specs.Realloc.{fits_in_place, resized, size_with_next}
use Rattle.tlsf_heap.specs.Pointer.{free_ptr, realloc_ptr}
use Rattle.tlsf_heap.specs.Good.{IsGood}
use Rattle.tlsf_heap.specs.Room.{live_bytes}
use Rattle.tlsf_heap.specs.Inner.Positions.{plug}
use Rattle.tlsf_heap.proofs.Counts.{count-cons, count_all, counts_any, one_if}
use Rattle.tlsf_heap.proofs.Content.MemalignCases.{few_gap, used_aligned, aligned_rounded}
use Rattle.tlsf_heap.proofs.Content.ReallocCases.{sized_in_place, realloc_resized}
use Rattle.tlsf_heap.proofs.Good.Implied.{none_picked}
use Rattle.tlsf_heap.proofs.Good.MallocIsGood.{picked, all-append, malloc_is_good}
use Rattle.tlsf_heap.proofs.Good.OneSizePool.{are_same, IsLowest}
use Rattle.tlsf_heap.proofs.Good.Realloc.{realloc_is_good}
use Rattle.tlsf_heap.proofs.Good.Room.{live_bytes-append, front_of, back_of}
use Rattle.tlsf_heap.proofs.Meaning.AlignedIsGood.{memalign_is_good}
use Rattle.tlsf_heap.proofs.Meaning.BlockPositions.{BlockPosition, filled_pools, count-filled_pools, IsAlone, block_alone, replaced_at, back_at, size_here}
use Rattle.tlsf_heap.proofs.Meaning.FreeFirst.{past_free, free_first, begins_once}
use Rattle.tlsf_heap.proofs.Meaning.FreedIsGood.{after_is, freed_is_good}
use Rattle.tlsf_heap.proofs.Meaning.ResizedIsGood.{resized_is}

-- a gap of some bytes is a block
pub gap_some : (A : Type 0) (place size : ℕ) → size ≢ 0 → gap {A = A} place size ≡ record { place = place; size = size; owner = None } ∷ []
gap_some A place size some = rw (ne_eqb size 0 some) refl

-- from a place that is a unit behind a multiple of the size, it is a unit less than the size to the next multiple
next_is : (size place : ℕ) → unit < size → place % size ≡ unit → next_multiple_of place size ≡ place + (size - unit)
next_is size place above at =
    let step : (size - unit) % size ≡ size - unit = mod-eq_of_lt {n = size - unit} {m = size} (omega (arith, above)) in
    let same : (size - place % size) % size ≡ (size - unit) % size = ap (λ r. (size - r) % size) at in
    omega (arith, same, step)

-- a unit at a multiple of the size asks for the size
pub asks_size : (size : ℕ) → unit < size → size_asked size unit ≡ size
asks_size size above = rw (lt-leb size unit above) (omega (arith, above))

-- a unit is what a unit is rounded to
pub unit_rounds : round unit ≡ Some unit
unit_rounds = round_within unit (omega arith) (omega arith) ∙ ap (λ m. Some m) (rounded_from unit unit refl (omega arith) (omega arith))

-- a free block, and a live one
abbrev pub rest_at : (place size : ℕ) → Block ℕ
rest_at place size = record { place = place; size = size; owner = None }

abbrev pub live_at : (owner place size : ℕ) → Block ℕ
live_at owner place size = record { place = place; size = size; owner = Some owner }

all_plug : (P : Block ℕ → Type 0) (before ends : List (Block ℕ)) → AllByRecursion P before → AllByRecursion P ends → AllByRecursion P (plug before ends)
all_plug P [] ends all last = last
all_plug P (block ∷ before) ends all last = all_plug P before (block ∷ ends) all.1 (all.0, last)

plug_all : (P : Block ℕ → Type 0) (before ends : List (Block ℕ)) → AllByRecursion P (plug before ends) → AllByRecursion P ends
plug_all P [] ends all = all
plug_all P (block ∷ before) ends all = (plug_all P before (block ∷ ends) all).1

plug_bytes : (before ends : List (Block ℕ)) → live_bytes (plug before ends) ≡ live_bytes before + live_bytes ends
plug_bytes [] ends = omega arith
plug_bytes (block ∷ before) ends = omega (arith, plug_bytes before (block ∷ ends))

module _ (base bytes count : ℕ) where
  -- the position behind some blocks of the one pool, nearest first
  abbrev pub behind : List (Block ℕ) → BlockPosition ℕ
  behind before = record { pools_before = []; base = base; bytes = bytes; before = before; pools_behind = [] }

  -- a good content whose one pool ends by these blocks, behind others
  pub record EndsBy (before ends : List (Block ℕ)) (content : Content ℕ) : Type 0 where
    pub good : IsGood content
    pub pools : content.pools ≡ filled_pools (behind before) ends
    pub records : content.records ≡ count

  module _ (before ends : List (Block ℕ)) (content : Content ℕ) (is : EndsBy before ends content) where
    pub ends_count : (kind : Block ℕ → Bool) → count_by kind (blocks_of content.pools) ≡ count_by kind before + count_by kind ends
    ends_count kind = omega (arith, ap (λ pools. count_by kind (blocks_of pools)) is.pools, count-filled_pools kind (behind before) ends)

    pub ends_bytes : live_bytes (blocks_of content.pools) ≡ live_bytes before + live_bytes ends
    ends_bytes = omega (arith, ap (λ (pools : List (Pool ℕ)). live_bytes (blocks_of pools)) is.pools, live_bytes-append (plug before ends) [], plug_bytes before ends)

    pub ends_used : used_records content ≡ length before + length ends
    ends_used = let any : Block ℕ → Bool = λ block. true in omega (arith, ends_count any, count_all (blocks_of content.pools), count_all before, count_all ends)

    pub ends_all : (P : Block ℕ → Type 0) → AllByRecursion P before → AllByRecursion P ends → AllByRecursion P (blocks_of content.pools)
    ends_all P all last = subst (λ (pools : List (Pool ℕ)). AllByRecursion P (blocks_of pools)) (sym is.pools) (all-append P (plug before ends) [] (all_plug P before ends all last) tt)

    all_ends : (P : Block ℕ → Type 0) → AllByRecursion P (blocks_of content.pools) → AllByRecursion P ends
    all_ends P all = plug_all P before ends (front_of P (plug before ends) [] (subst (λ (pools : List (Pool ℕ)). AllByRecursion P (blocks_of pools)) is.pools all))

  -- the first of the ends begins where no other block does
  first_alone : (before : List (Block ℕ)) (block : Block ℕ) (ends : List (Block ℕ)) (content : Content ℕ) → EndsBy before (block ∷ ends) content → IsAlone (behind before) block ends
  first_alone before block ends content is =
      block_alone (behind before) block ends (subst (λ (pools : List (Pool ℕ)). (place : ℕ) → count_by (is_at place) (blocks_of pools) ≤ 1) is.pools (begins_once content is.good))

  first_size : (before : List (Block ℕ)) (block : Block ℕ) (ends : List (Block ℕ)) (content : Content ℕ) → EndsBy before (block ∷ ends) content → size_at block.place (blocks_of content.pools) ≡ block.size
  first_size before block ends content is = ap (λ (pools : List (Pool ℕ)). size_at block.place (blocks_of pools)) is.pools ∙ size_here (behind before) block ends (first_alone before block ends content is)

  first_live : (owner place size : ℕ) (before ends : List (Block ℕ)) (content : Content ℕ) → EndsBy before (live_at owner place size ∷ ends) content → is_live (λ slot. slot == owner) place (blocks_of content.pools) ≡ true
  first_live owner place size before ends content is =
      let meant : ℕ → Bool = λ slot. slot == owner in
      let test : Block ℕ → Bool = λ block. is_at place block && is_owned_by meant block.owner in
      let passes : test (live_at owner place size) ≡ true = rw (eq-eqb place place refl, eq-eqb owner owner refl) refl in
      counts_any test (blocks_of content.pools) (omega (arith, ends_count before (live_at owner place size ∷ ends) content is test, count-cons test (live_at owner place size) ends, ap one_if passes))

  -- the content by its pools
  by_pools : (before ends : List (Block ℕ)) (content : Content ℕ) → EndsBy before ends content → content ≡ record content { pools = filled_pools (behind before) ends }
  by_pools before ends content is = ap (λ (pools : List (Pool ℕ)). record content { pools = pools }) is.pools

  -- malloc of a size, where no free block but the last is as large
  module _ (size : ℕ) (lowest : IsLowest size) (some : 0 < size) where
    abbrev pub IsBelow : Block ℕ → Type 0
    IsBelow block = is_free block ≡ true → block.size < size

    -- no free block is as large
    pub none_large : (before ends : List (Block ℕ)) (content : Content ℕ) → EndsBy before ends content → AllByRecursion IsBelow before → AllByRecursion IsBelow ends → pick size content.lists ≡ None
    none_large before ends content is all last = of (pick size content.lists) refl
      where
        of : (answer : Option ℕ) → pick size content.lists ≡ answer → answer ≡ None
        of None found = refl
        of (Some at) found =
            let there = picked size at content is.good found in
            let here : AllByRecursion IsBelow (there.found.block ∷ there.found.back) = back_of IsBelow there.found.front (there.found.block ∷ there.found.back) (subst (AllByRecursion IsBelow) there.found.whole (ends_all before ends content is IsBelow all last)) in
            absurd (omega (arith, here.0 there.free, there.holds, there.size_is))

    module _ (before : List (Block ℕ)) (place left : ℕ) (content : Content ℕ) (is : EndsBy before (rest_at place left ∷ []) content) (all : AllByRecursion IsBelow before) (larger : size < left) where
      last_picked : pick size content.lists ≡ Some place
      last_picked = of (pick size content.lists) refl
        where
          IsLast : Block ℕ → Type 0
          IsLast block = is_free block ≡ true → size ≤ block.size → block.place ≡ place

          of_below : (blocks : List (Block ℕ)) → AllByRecursion IsBelow blocks → AllByRecursion IsLast blocks
          of_below [] below = tt
          of_below (block ∷ blocks) below = (λ free large. absurd (omega (arith, below.0 free, large)), of_below blocks below.1)

          of : (answer : Option ℕ) → pick size content.lists ≡ answer → answer ≡ Some place
          of None found =
              let Below : Block ℕ → Type 0 = λ block. IsTrue (is_free block) → block.size < low lowest.c in
              let below = recursion_from_All Below (blocks_of content.pools) (none_picked size lowest.c content is.good found lowest.needed) in
              let last : AllByRecursion Below (rest_at place left ∷ []) = all_ends before (rest_at place left ∷ []) content is Below below in
              absurd (omega (arith, last.0 refl, lowest.sized, larger))
          of (Some at) found =
              let there = picked size at content is.good found in
              let whole : AllByRecursion IsLast (blocks_of content.pools) = ends_all before (rest_at place left ∷ []) content is IsLast (of_below before all) (λ free large. refl, tt) in
              let here : AllByRecursion IsLast (there.found.block ∷ there.found.back) = back_of IsLast there.found.front (there.found.block ∷ there.found.back) (subst (AllByRecursion IsLast) there.found.whole whole) in
              ap (λ p. Some p) (sym there.found.here ∙ here.0 there.free (omega (arith, there.holds, there.size_is)))

      -- the last block is split
      abbrev pub taken : ℕ → Content ℕ
      taken owner = allocated owner place size (size_at place (blocks_of content.pools)) content

      total_is : size_at place (blocks_of content.pools) ≡ left
      total_is = first_size before (rest_at place left) [] content is

      pub taken_served : (owner : ℕ) → used_records content < content.records → malloc owner size content ≡ Ok (place, taken owner)
      taken_served owner room =
          let asked : malloc owner size content ≡ malloc_rounded owner (round size) content = rw (ne_eqb size 0 (omega (arith, some))) refl in
          let rounds : malloc_rounded owner (round size) content ≡ malloc_rounded owner (Some size) content = ap (λ m. malloc_rounded owner m content) lowest.rounds in
          let split_there = lt-ltb size (size_at place (blocks_of content.pools)) (omega (arith, total_is, larger)) in
          let gives : malloc_rounded owner (Some size) content ≡ Ok (place, taken owner) = rw (last_picked, split_there, lt-leb content.records (used_records content) room) refl in
          asked ∙ rounds ∙ gives

      pub taken_ends : (owner : ℕ) → used_records content < content.records → EndsBy before (live_at owner place size ∷ rest_at (place + size) (left - size) ∷ []) (taken owner)
      taken_ends owner room =
          let total : ℕ = size_at place (blocks_of content.pools) in
          record {
            good = malloc_is_good owner size content (place, taken owner) is.good (taken_served owner room);
            pools =
                ap (map (replaced_in place (split owner place size total))) is.pools
                ∙ replaced_at (behind before) (rest_at place left) [] (first_alone before (rest_at place left) [] content is) (split owner place size total)
                ∙ ap (λ n. filled_pools (behind before) (live_at owner place size ∷ (gap (place + size) (n - size) ++ []))) total_is
                ∙ ap (λ (blocks : List (Block ℕ)). filled_pools (behind before) (live_at owner place size ∷ (blocks ++ []))) (gap_some ℕ (place + size) (left - size) (omega (arith, larger)));
            records = is.records;
          }

    -- memalign of a unit at a multiple of the size, where the last block begins a unit behind one
    module _ (is_aligned : is_alignment size ≡ true) (above : unit < size) (before : List (Block ℕ)) (place left : ℕ) (content : Content ℕ) (is : EndsBy before (rest_at place left ∷ []) content) (all : AllByRecursion IsBelow before) (larger : size < left)
        (at : place % size ≡ unit) where
      start_is : next_multiple_of place size ≡ place + (size - unit)
      start_is = next_is size place above at

      abbrev pub spaced : ℕ → Content ℕ
      spaced owner = aligned owner (next_multiple_of place size) unit place (size_at place (blocks_of content.pools)) content

      pub spaced_served : (owner : ℕ) → used_records content + 2 ≤ content.records → memalign owner size unit content ≡ Ok (place + (size - unit), spaced owner)
      spaced_served owner room =
          let start : ℕ = next_multiple_of place size in
          let total : ℕ = size_at place (blocks_of content.pools) in
          let asked : memalign owner size unit content ≡ memalign_rounded owner size (round unit) content = aligned_rounded owner size unit content is_aligned (omega arith) in
          let rounds : memalign_rounded owner size (round unit) content ≡ memalign_rounded owner size (Some unit) content = ap (λ m. memalign_rounded owner size m content) unit_rounds in
          let found : pick (size_asked size unit) content.lists ≡ Some place = ap (λ m. pick m content.lists) (asks_size size above) ∙ last_picked before place left content is all larger in
          let picks : memalign_rounded owner size (Some unit) content ≡ memalign_picked owner size unit (Some place) content = ap (λ p. memalign_picked owner size unit p content) found in
          let used = used_aligned owner start unit place total content (picked size place content is.good (last_picked before place left content is all larger)).found in
          let few : used_records (spaced owner) ≤ content.records = omega (arith, used, few_gap (start - place), few_gap ((total - (start - place)) - unit), room) in
          let kept : nat_lt content.records (used_records (spaced owner)) ≡ false = le-ltb content.records (used_records (spaced owner)) few in
          let gives : memalign_picked owner size unit (Some place) content ≡ Ok (start, spaced owner) = rw kept refl in
          asked ∙ rounds ∙ picks ∙ gives ∙ ap (λ s. Ok (s, spaced owner)) start_is

      parts : (owner : ℕ) → split_in_three owner (next_multiple_of place size) unit place (size_at place (blocks_of content.pools)) ≡ rest_at place (size - unit) ∷ live_at owner (place + (size - unit)) unit ∷ rest_at (place + size) (left - size) ∷ []
      parts owner =
          let gap_is : (place + (size - unit)) - place ≡ size - unit = omega arith in
          let end_is : (place + (size - unit)) + unit ≡ place + size = omega (arith, above) in
          let rest_is : (left - ((place + (size - unit)) - place)) - unit ≡ left - size = omega (arith, above) in
          ap (split_in_three owner (next_multiple_of place size) unit place) (total_is before place left content is all larger)
          ∙ ap (λ s. split_in_three owner s unit place left) start_is
          ∙ ap (λ n. gap place n ++ live_at owner (place + (size - unit)) unit ∷ gap ((place + (size - unit)) + unit) ((left - ((place + (size - unit)) - place)) - unit)) gap_is
          ∙ ap (λ n. gap place (size - unit) ++ live_at owner (place + (size - unit)) unit ∷ gap n ((left - ((place + (size - unit)) - place)) - unit)) end_is
          ∙ ap (λ n. gap place (size - unit) ++ live_at owner (place + (size - unit)) unit ∷ gap (place + size) n) rest_is
          ∙ ap (λ (front : List (Block ℕ)). front ++ live_at owner (place + (size - unit)) unit ∷ gap (place + size) (left - size)) (gap_some ℕ place (size - unit) (omega (arith, above)))
          ∙ ap (λ (back : List (Block ℕ)). rest_at place (size - unit) ∷ live_at owner (place + (size - unit)) unit ∷ back) (gap_some ℕ (place + size) (left - size) (omega (arith, larger)))

      pub spaced_ends : (owner : ℕ) → used_records content + 2 ≤ content.records → EndsBy before (rest_at place (size - unit) ∷ live_at owner (place + (size - unit)) unit ∷ rest_at (place + size) (left - size) ∷ []) (spaced owner)
      spaced_ends owner room =
          let split_so : List (Block ℕ) = split_in_three owner (next_multiple_of place size) unit place (size_at place (blocks_of content.pools)) in
          record {
            good = memalign_is_good owner size unit content (place + (size - unit), spaced owner) is.good (spaced_served owner room);
            pools =
                ap (map (replaced_in place split_so)) is.pools
                ∙ replaced_at (behind before) (rest_at place left) [] (first_alone before (rest_at place left) [] content is) split_so
                ∙ ap (λ (ends : List (Block ℕ)). filled_pools (behind before) (ends ++ [])) (parts owner);
            records = is.records;
          }

  -- realloc of the live block in front of the last, which is free, to other bytes than both have
  module _ (known place size at left m : ℕ) (before : List (Block ℕ)) (content : Content ℕ) (is : EndsBy before (live_at known place size ∷ rest_at at left ∷ []) content) (rounds : round m ≡ Some m) (some : 0 < m) (other : m ≢ size) (less : m < size + left) where
    total_of : size_at place (blocks_of content.pools) ≡ size
    total_of = first_size before (live_at known place size) (rest_at at left ∷ []) content is

    next_of_it : free_next place content ≡ Some (rest_at at left)
    next_of_it =
        ap (λ (pools : List (Pool ℕ)). if_free (first_in_pools (next_of place) pools)) is.pools
        ∙ ap if_free (back_at (behind before) (live_at known place size) (rest_at at left ∷ []) (first_alone before (live_at known place size) (rest_at at left ∷ []) content is))

    fits : fits_in_place place m content ≡ true
    fits = elim (cases_lt m (size_at place (blocks_of content.pools))) [
      | inl smaller ↦ rw (lt-ltb m (size_at place (blocks_of content.pools)) smaller, next_of_it) refl
      | inr larger ↦ (let within : m ≤ size_with_next place content = omega (arith, less, total_of, ap size_of next_of_it) in
          rw (le-ltb m (size_at place (blocks_of content.pools)) larger, le-leb m (size_with_next place content) within) refl)
    ]

    pub resized_served : realloc_ptr (Some (record { place = place; slot = known })) m known content ≡ Ok (Some (place, known), resized known place m content)
    resized_served =
        realloc_resized are_same known known place m m content (first_live known place size before (rest_at at left ∷ []) content is) (omega (arith, some)) rounds
        ∙ sized_in_place known known place m content (λ e. other (e ∙ total_of)) fits

    pub resized_ends : EndsBy before (live_at known place m ∷ rest_at (place + m) ((size + left) - m) ∷ []) (resized known place m content)
    resized_ends = record {
      good = realloc_is_good are_same known (Some (place, known)) m content (Some (place, known), resized known place m content) is.good resized_served;
      pools =
          let ends : List (Block ℕ) = live_at known place size ∷ rest_at at left ∷ [] in
          let good : IsGood (record content { pools = filled_pools (behind before) ends }) = subst (λ (c : Content ℕ). IsGood c) (by_pools before ends content is) is.good in
          ap (λ (c : Content ℕ). (resized known place m c).pools) (by_pools before ends content is)
          ∙ ap (λ (c : Content ℕ). c.pools) (resized_is known m (live_at known place size) (rest_at at left ∷ []) content.lists content.records (behind before) good)
          ∙ ap (λ (blocks : List (Block ℕ)). filled_pools (behind before) (live_at known place m ∷ (blocks ++ []))) (gap_some ℕ (place + m) ((size + left) - m) (omega (arith, less)));
      records = is.records;
    }

  -- free of a live block between live ones
  module _ (known place size : ℕ) (before : List (Block ℕ)) (next last : Block ℕ) (content : Content ℕ) (is : EndsBy before (live_at known place size ∷ next ∷ last ∷ []) content)
      (next_live : is_free next ≡ false) (none_free : free_first before ≡ None) (none_past : past_free before ≡ before) where
    pub freed_served : free_ptr (record { place = place; slot = known }) content ≡ Ok (after_free place content)
    freed_served = rw (first_live known place size before (next ∷ last ∷ []) content is) refl

    pub freed_ends : EndsBy before (rest_at place size ∷ next ∷ last ∷ []) (after_free place content)
    freed_ends = record {
      good = freed_is_good (λ slot. slot == known) place content is.good (first_live known place size before (next ∷ last ∷ []) content is);
      pools =
          let ends : List (Block ℕ) = live_at known place size ∷ next ∷ last ∷ [] in
          let good : IsGood (record content { pools = filled_pools (behind before) ends }) = subst (λ (c : Content ℕ). IsGood c) (by_pools before ends content is) is.good in
          let whole : 0 + size + 0 ≡ size = omega arith in
          ap (λ (c : Content ℕ). (after_free place c).pools) (by_pools before ends content is)
          ∙ ap (λ (c : Content ℕ). c.pools) (after_is content.records (behind before) (live_at known place size) (next ∷ last ∷ []) content.lists good refl)
          ∙ rw (next_live, none_free, none_past, whole) refl;
      records = is.records;
    }
