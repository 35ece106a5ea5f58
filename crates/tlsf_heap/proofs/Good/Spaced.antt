-- Runs that leave free blocks that are too small: between live ones of more than a unit, and between ones at a multiple of a size.
use Rattle.std.proofs.Common.{◌≡◌, ℕ, zero, suc, ◌+◌, ◌-◌, ◌*◌, ◌%◌, ◌<◌, ◌≤◌, false, List, [], ◌∷◌, length, count_by, Option, Some, None, Err, inl, inr, refl, ap, ◌∙◌, subst, arith, true, ◌≢◌, Bool, not}
use Rattle.std.specs.Prelude.{◌==◌}
use Rattle.std.specs.List.{AllByRecursion}
use Rattle.std.proofs.lemmas.Bool.{cases_lt, ne_eqb}
use Rattle.std.proofs.Math.Nat.{add-mod_right}
use Rattle.tlsf_class.specs.Classes.{unit, classes, need}
use Rattle.tlsf_class.specs.Rounding.{round}
use Rattle.tlsf_class.proofs.LowestSizes.{low-le}
use Rattle.tlsf_class.proofs.ClassLaws.{need-lt, need-None, low_before_need}
use Rattle.tlsf_class.proofs.RoundingLaws.{round-Some, round_within, rounded_from}
use Rattle.tlsf_heap.specs.declared.request.Request.TheVariants.{Malloc, Free, Realloc, Memalign}
use Rattle.tlsf_heap.specs.declared.answer.Answer.TheVariants.{Done, Given, Moved}
use Rattle.tlsf_heap.specs.declared.refusal.Refusal.TheVariants.{NoFit}
use Rattle.tlsf_heap.specs.Content.{Block, Content, blocks_of, used_records, is_free}
use Rattle.tlsf_heap.specs.Lists.{pick}
use Rattle.tlsf_heap.specs.Malloc.{malloc, malloc_rounded}
use Rattle.tlsf_heap.specs.Free.{after_free}
use Rattle.tlsf_heap.specs.Realloc.{resized}
use Rattle.tlsf_heap.specs.Pointer.{Pointer}
use Rattle.tlsf_heap.specs.GoodSlots.{is_slot, slot_times}
use Rattle.tlsf_heap.specs.Room.{live_bytes}
use Rattle.tlsf_heap.specs.Within.{AsksAtMost, TakesWithin}
use Rattle.tlsf_heap.specs.Memalign.{is_alignment, size_asked}
use Rattle.tlsf_heap.proofs.Counts.{count-cons, one_if}
use Rattle.tlsf_heap.proofs.Good.AtEnd.{rest_at, live_at, EndsBy, ends_count, ends_bytes, ends_used, IsBelow, none_large, taken, taken_served, taken_ends, resized_served, resized_ends, freed_served, freed_ends, asks_size, unit_rounds, spaced, spaced_served, spaced_ends}
use Rattle.tlsf_heap.proofs.Good.OneSizePool.{IsLowest}
use Rattle.tlsf_heap.proofs.Good.RefusedRuns.{IsRefusedFrom, refused_behind, refused_here}
use Rattle.tlsf_heap.proofs.Good.Slots.{slot_times-cons}
use Rattle.tlsf_heap.proofs.Meaning.FreeFirst.{past_free, free_first}

the_le : (a b : ℕ) → a ≡ b → a ≤ b
the_le a b same = omega arith

-- The bytes of the next block. `more` blocks follow it before the last one, and all of them have the `left` bytes.
record Share (size more left : ℕ) : Type 0 where
  m : ℕ
  whole : m % unit ≡ 0
  some : 0 < m
  few : m ≤ size
  within : m ≤ left
  least : more * unit ≤ left - m
  most : left - m ≤ more * size
  rest_whole : (left - m) % unit ≡ 0

units_le : (more size : ℕ) → unit ≤ size → more * unit ≤ more * size
units_le zero size least = omega arith
units_le (suc more) size least = omega (arith, units_le more size least, least)

share : (size more left : ℕ) → unit < size → size % unit ≡ 0 → left % unit ≡ 0 → suc more * unit ≤ left → left ≤ suc more * size → Share size more left
share size more left some whole left_whole least most = elim (cases_lt left (size + more * unit)) [
  | inl fewer ↦ record {
    m = left - more * unit;
    whole = omega (arith, left_whole, least);
    some = omega (arith, least);
    few = omega (arith, fewer);
    within = omega arith;
    least = omega (arith, least);
    most = omega (arith, least, units_le more size (omega (arith, some)));
    rest_whole = omega (arith, least);
  }
  | inr as_many ↦ record {
    m = size;
    whole = whole;
    some = omega (arith, some);
    few = omega arith;
    within = omega (arith, as_many);
    least = omega (arith, as_many);
    most = omega (arith, most);
    rest_whole = omega (arith, left_whole, whole, as_many);
  }
]

-- the bytes at the end of the pool, where `more` blocks come before the last one
abbrev pub end_bytes : (size more left : ℕ) → ℕ
end_bytes size more left = left + more * (size - unit) + (size + (size - unit) + (size - unit))

end_larger : (size more left : ℕ) → unit < size → (size - unit) + size < end_bytes size more left
end_larger size more left some = omega (arith, some)

end_last : (size left : ℕ) → unit < size → left ≤ 0 * size → (end_bytes size 0 left - (size - unit)) - size < size
end_last size left some none = omega (arith, some, none)

end_kept : (size more left : ℕ) → unit < size → size ≤ left → (end_bytes size (suc more) left - (size - unit)) - size ≡ end_bytes size more (left - size)
end_kept size more left some within = omega (arith, some, within)

end_shrunk : (size more left m : ℕ) → unit < size → m ≤ left → (size + ((end_bytes size (suc more) left - (size - unit)) - size)) - m ≡ end_bytes size more (left - m)
end_shrunk size more left m some within = omega (arith, some, within)

abbrev is_used : Block ℕ → Bool
is_used block = not (is_free block)

module _ (blocks bytes size : ℕ) (lacks : Type 0) where
  abbrev pub Refuses : Content ℕ → Type 0
  Refuses content = IsRefusedFrom blocks bytes size lacks content

  module _ (lowest : IsLowest size) (some : unit < size) where
    -- a unit less than the size
    abbrev pub gap_bytes : ℕ
    gap_bytes = size - unit

    size_whole : size % unit ≡ 0
    size_whole = (round-Some size size lowest.rounds).whole

    rounds_less : (m : ℕ) → m % unit ≡ 0 → 0 < m → m ≤ size → round m ≡ Some m
    rounds_less m whole positive few =
        round_within m positive (omega (arith, few, (round-Some size size lowest.rounds).within)) ∙ ap (λ n. Some n) (rounded_from m m whole (omega arith) (omega arith))

    -- no more bytes than the size ask for no larger class
    asks_less : (m : ℕ) → m % unit ≡ 0 → 0 < m → m ≤ size → AsksAtMost size (λ m. m) m
    asks_less m whole positive few = of (need m) refl
      where
        of : (answer : Option ℕ) → need m ≡ answer → AsksAtMost size (λ m. m) m
        of None is = absurd (omega (arith, need-None m is, low-le lowest.c (classes - 1) (omega (arith, need-lt size lowest.c lowest.needed)), lowest.sized, few))
        of (Some c) is = elim (cases_lt lowest.c c) [
          | inl less ↦ absurd (omega (arith, low_before_need m c lowest.c is less, lowest.sized, few))
          | inr most ↦ record { m = m; rounds = rounds_less m whole positive few; c = c; needed = is; sized = omega (arith, low-le c lowest.c most, lowest.sized) }
        ]

    size_asks : AsksAtMost size (λ m. m) size
    size_asks = asks_less size size_whole (omega (arith, some)) (omega arith)

    gap_asks : AsksAtMost size (λ m. m) gap_bytes
    gap_asks = asks_less gap_bytes (omega (arith, size_whole, some)) (omega (arith, some)) (omega arith)

    abbrev pub positive : 0 < size
    positive = omega (arith, some)

    module _ (base pool count : ℕ) (many : 2 * blocks + 3 ≤ count) where
      -- What stands in front of the rest: j live blocks of `held` bytes, of slots below j, and free ones that are too small. The
      -- nearest isn't free.
      pub record IsFront (j held : ℕ) (before : List (Block ℕ)) : Type 0 where
        pub below : AllByRecursion (IsBelow base pool count size lowest positive) before
        pub live : count_by is_used before ≡ j
        pub bytes_held : live_bytes before ≡ held
        pub few : length before ≤ 2 * j
        pub slots : (slot : ℕ) → j ≤ slot → slot_times slot before ≡ 0
        pub none_free : free_first before ≡ None
        pub none_past : past_free before ≡ before

      -- a live block more, behind a gap
      front_more : (j held place at m : ℕ) (before : List (Block ℕ)) → IsFront j held before → IsFront (suc j) (held + m) (live_at j at m ∷ rest_at place gap_bytes ∷ before)
      front_more j held place at m before front = record {
        below = (λ free. absurd (cc), (λ free. omega (arith, some), front.below));
        live = omega (arith, count-cons is_used (live_at j at m) (rest_at place gap_bytes ∷ before), count-cons is_used (rest_at place gap_bytes) before, front.live);
        bytes_held = omega (arith, front.bytes_held);
        few = omega (arith, front.few);
        slots = λ slot above. (
            let other : (j == slot) ≡ false = ne_eqb j slot (λ e. absurd (omega (arith, e, above))) in
            omega (arith, slot_times-cons slot (live_at j at m) (rest_at place gap_bytes ∷ before), slot_times-cons slot (rest_at place gap_bytes) before, ap one_if other, front.slots slot (omega (arith, above))));
        none_free = refl;
        none_past = refl;
      }

      abbrev pub Ends : List (Block ℕ) → List (Block ℕ) → Content ℕ → Type 0
      Ends before ends content = EndsBy base pool count before ends content

      -- what a request takes, by the blocks in front and at the end
      takes : (asked : ℕ → ℕ) (n j held : ℕ) (before ends : List (Block ℕ)) (content : Content ℕ) → Ends before ends content → IsFront j held before → j + count_by is_used ends ≤ blocks → held + live_bytes ends ≤ bytes → AsksAtMost size asked n
          → TakesWithin blocks bytes size asked n content
      takes asked n j held before ends content is front few small asks = record {
        few = omega (arith, ends_count base pool count before ends content is is_used, front.live, few);
        small = omega (arith, ends_bytes base pool count before ends content is, front.bytes_held, small);
        asks = asks;
      }

      unused : (slot j held : ℕ) (before ends : List (Block ℕ)) (content : Content ℕ) → Ends before ends content → IsFront j held before → j ≤ slot → slot_times slot ends ≡ 0 → slot_times slot (blocks_of content.pools) ≡ 0
      unused slot j held before ends content is front above none = omega (arith, ends_count base pool count before ends content is (λ block. is_slot slot block.owner), front.slots slot above, none)

      room : (j held : ℕ) (before ends : List (Block ℕ)) (content : Content ℕ) → Ends before ends content → IsFront j held before → j < blocks → length ends ≤ 2 → used_records content < content.records
      room j held before ends content is front less few = omega (arith, ends_used base pool count before ends content is, front.few, less, few, is.records, many)

      -- a block of the size, with a gap in front of it: a block is taken, made smaller by a unit, and given back once the next is taken
      module _ (j held place left : ℕ) (before : List (Block ℕ)) (content : Content ℕ) (is : Ends before (rest_at place left ∷ []) content) (front : IsFront j held before)
          (less : j < blocks) (small : held + size ≤ bytes) (larger : gap_bytes + size < left) where
        abbrev first : Content ℕ
        first = taken base pool count size lowest positive before place left content is front.below (omega (arith, larger)) blocks

        first_room : used_records content < content.records
        first_room = room j held before (rest_at place left ∷ []) content is front less (omega arith)

        first_ends : Ends before (live_at blocks place size ∷ rest_at (place + size) (left - size) ∷ []) first
        first_ends = taken_ends base pool count size lowest positive before place left content is front.below (omega (arith, larger)) blocks first_room

        gap_rounds : round gap_bytes ≡ Some gap_bytes
        gap_rounds = rounds_less gap_bytes (omega (arith, size_whole, some)) (omega (arith, some)) (omega arith)

        abbrev second : Content ℕ
        second = resized blocks place gap_bytes first

        second_ends : Ends before (live_at blocks place gap_bytes ∷ rest_at (place + gap_bytes) (left - gap_bytes) ∷ []) second
        second_ends =
            let whole : (size + (left - size)) - gap_bytes ≡ left - gap_bytes = omega (arith, larger) in
            subst (λ n. Ends before (live_at blocks place gap_bytes ∷ rest_at (place + gap_bytes) n ∷ []) second) whole
            (resized_ends base pool count blocks place size (place + size) (left - size) gap_bytes before first first_ends gap_rounds (omega (arith, some)) (λ e. absurd (omega (arith, e, some))) (omega (arith, some)))

        -- the same, with the block among those in front
        second_behind : Ends (live_at blocks place gap_bytes ∷ before) (rest_at (place + gap_bytes) (left - gap_bytes) ∷ []) second
        second_behind = record { good = second_ends.good; pools = second_ends.pools; records = second_ends.records }

        second_below : AllByRecursion (IsBelow base pool count size lowest positive) (live_at blocks place gap_bytes ∷ before)
        second_below = (λ free. absurd (cc), front.below)

        second_room : used_records second < second.records
        second_room = room j held before (live_at blocks place gap_bytes ∷ rest_at (place + gap_bytes) (left - gap_bytes) ∷ []) second second_ends front less (omega arith)

        abbrev third : Content ℕ
        third = taken base pool count size lowest positive (live_at blocks place gap_bytes ∷ before) (place + gap_bytes) (left - gap_bytes) second second_behind second_below (omega (arith, larger)) j

        third_ends : Ends (live_at blocks place gap_bytes ∷ before) (live_at j (place + gap_bytes) size ∷ rest_at ((place + gap_bytes) + size) ((left - gap_bytes) - size) ∷ []) third
        third_ends = taken_ends base pool count size lowest positive (live_at blocks place gap_bytes ∷ before) (place + gap_bytes) (left - gap_bytes) second second_behind second_below (omega (arith, larger)) j second_room

        third_before : Ends before (live_at blocks place gap_bytes ∷ live_at j (place + gap_bytes) size ∷ rest_at ((place + gap_bytes) + size) ((left - gap_bytes) - size) ∷ []) third
        third_before = record { good = third_ends.good; pools = third_ends.pools; records = third_ends.records }

        abbrev laid : Content ℕ
        laid = after_free place third

        laid_ends : Ends (rest_at place gap_bytes ∷ before) (live_at j (place + gap_bytes) size ∷ rest_at ((place + gap_bytes) + size) ((left - gap_bytes) - size) ∷ []) laid
        laid_ends =
            let ends = freed_ends base pool count blocks place gap_bytes before (live_at j (place + gap_bytes) size) (rest_at ((place + gap_bytes) + size) ((left - gap_bytes) - size)) third third_before refl front.none_free front.none_past in
            record { good = ends.good; pools = ends.pools; records = ends.records }

        apart : (blocks == j) ≡ false
        apart = ne_eqb blocks j (λ e. absurd (omega (arith, e, less)))

        laid_refused : Refuses laid → Refuses content
        laid_refused then =
            let held_block : Pointer = record { place = place; slot = blocks } in
            refused_behind blocks bytes size lacks (Malloc size) (Given held_block) content first
            (record {
              ok = taken_served base pool count size lowest positive before place left content is front.below (omega (arith, larger)) blocks first_room;
              slot_below = omega (arith, is.records, many);
              slot_new = unused blocks j held before (rest_at place left ∷ []) content is front (omega (arith, less)) refl;
            })
            (λ nonzero. takes (λ m. m) size j held before (rest_at place left ∷ []) content is front (omega (arith, less)) (omega (arith, small)) size_asks)
            (refused_behind blocks bytes size lacks (Realloc (Some held_block) gap_bytes) (Moved (Some held_block)) first second
            (record {
              ok = resized_served base pool count blocks place size (place + size) (left - size) gap_bytes before first first_ends gap_rounds (omega (arith, some)) (λ e. absurd (omega (arith, e, some))) (omega (arith, some));
              slot_below = omega (arith, first_ends.records, many);
              slot_new = λ moved. absurd (moved refl);
            })
            (λ named nonzero. takes (λ m. m) gap_bytes j held before (live_at blocks place size ∷ rest_at (place + size) (left - size) ∷ []) first first_ends front (omega (arith, less)) (omega (arith, small)) gap_asks)
            (refused_behind blocks bytes size lacks (Malloc size) (Given (record { place = place + gap_bytes; slot = j })) second third
            (record {
              ok = taken_served base pool count size lowest positive (live_at blocks place gap_bytes ∷ before) (place + gap_bytes) (left - gap_bytes) second second_behind second_below (omega (arith, larger)) j second_room;
              slot_below = omega (arith, second_ends.records, many, less);
              slot_new = unused j j held before (live_at blocks place gap_bytes ∷ rest_at (place + gap_bytes) (left - gap_bytes) ∷ []) second second_ends front (omega arith)
                  (omega (arith, slot_times-cons j (live_at blocks place gap_bytes) (rest_at (place + gap_bytes) (left - gap_bytes) ∷ []), slot_times-cons j (rest_at (place + gap_bytes) (left - gap_bytes)) [], ap one_if apart));
            })
            (λ nonzero. takes (λ m. m) size j held before (live_at blocks place gap_bytes ∷ rest_at (place + gap_bytes) (left - gap_bytes) ∷ []) second second_ends front (omega (arith, less)) (omega (arith, small)) size_asks)
            (refused_behind blocks bytes size lacks (Free held_block) Done third laid
            (freed_served base pool count blocks place gap_bytes before (live_at j (place + gap_bytes) size) (rest_at ((place + gap_bytes) + size) ((left - gap_bytes) - size)) third third_before refl front.none_free front.none_past)
            tt then)))

      picks_none : (slot : ℕ) (content : Content ℕ) → pick size content.lists ≡ None → malloc slot size content ≡ Err NoFit
      picks_none slot content none =
          let asked : malloc slot size content ≡ malloc_rounded slot (round size) content = rw (ne_eqb size 0 (omega (arith, some))) refl in
          let rounds : malloc_rounded slot (round size) content ≡ malloc_rounded slot (Some size) content = ap (λ m. malloc_rounded slot m content) lowest.rounds in
          let refused : malloc_rounded slot (Some size) content ≡ Err NoFit = rw none refl in
          asked ∙ rounds ∙ refused

      -- where all free blocks are too small the size is refused
      small_refused : (j held place left : ℕ) (before : List (Block ℕ)) (content : Content ℕ) → Ends before (rest_at place left ∷ []) content → IsFront j held before → left < size → j ≤ blocks → held ≤ bytes → Refuses content
      small_refused j held place left before content is front small few less =
          let none = none_large base pool count size lowest positive before (rest_at place left ∷ []) content is front.below (λ free. small, tt) in
          refused_here blocks bytes size lacks size content (λ slot. picks_none slot content none) (takes (λ m. m) size j held before (rest_at place left ∷ []) content is front (omega (arith, few)) (omega (arith, less)) size_asks)

      -- what is known where a block of the size was laid
      module _ (j held place left : ℕ) (before : List (Block ℕ)) (content : Content ℕ) (is : Ends before (rest_at place left ∷ []) content) (front : IsFront j held before)
          (less : j < blocks) (small : held + size ≤ bytes) (larger : gap_bytes + size < left) where
        abbrev here : Content ℕ
        here = laid j held place left before content is front less small larger

        -- the last one has the size, and what is left is too small
        last_refused : suc j ≡ blocks → (left - gap_bytes) - size < size → Refuses content
        last_refused sum few =
            let ends = laid_ends j held place left before content is front less small larger in
            laid_refused j held place left before content is front less small larger
            (small_refused (suc j) (held + size) ((place + gap_bytes) + size) ((left - gap_bytes) - size) (live_at j (place + gap_bytes) size ∷ rest_at place gap_bytes ∷ before) here
            (record { good = ends.good; pools = ends.pools; records = ends.records }) (front_more j held place (place + gap_bytes) size before front) few (the_le (suc j) blocks sum) small)

        -- the others go on, the size as it is
        size_kept : ((at : ℕ) (behind : List (Block ℕ)) (new : Content ℕ) → Ends behind (rest_at at ((left - gap_bytes) - size) ∷ []) new → IsFront (suc j) (held + size) behind → Refuses new) → Refuses content
        size_kept more =
            let ends = laid_ends j held place left before content is front less small larger in
            laid_refused j held place left before content is front less small larger
            (more ((place + gap_bytes) + size) (live_at j (place + gap_bytes) size ∷ rest_at place gap_bytes ∷ before) here
            (record { good = ends.good; pools = ends.pools; records = ends.records }) (front_more j held place (place + gap_bytes) size before front))

        -- or made smaller
        module _ (m : ℕ) (rounded : round m ≡ Some m) (asks : AsksAtMost size (λ n. n) m) (some_bytes : 0 < m) (smaller : m < size) where
          abbrev over : ℕ
          over = (left - gap_bytes) - size

          abbrev shrunk : Content ℕ
          shrunk = resized j (place + gap_bytes) m here

          laid_behind : Ends (rest_at place gap_bytes ∷ before) (live_at j (place + gap_bytes) size ∷ rest_at ((place + gap_bytes) + size) over ∷ []) here
          laid_behind = laid_ends j held place left before content is front less small larger

          shrunk_behind : Ends (live_at j (place + gap_bytes) m ∷ rest_at place gap_bytes ∷ before) (rest_at ((place + gap_bytes) + m) ((size + over) - m) ∷ []) shrunk
          shrunk_behind =
              let ends = resized_ends base pool count j (place + gap_bytes) size ((place + gap_bytes) + size) over m (rest_at place gap_bytes ∷ before) here laid_behind rounded some_bytes (λ e. absurd (omega (arith, e, smaller))) (omega (arith, smaller)) in
              record { good = ends.good; pools = ends.pools; records = ends.records }

          laid_takes : TakesWithin blocks bytes size (λ n. n) m here
          laid_takes = record {
            few = omega (arith, ends_count base pool count (rest_at place gap_bytes ∷ before) (live_at j (place + gap_bytes) size ∷ rest_at ((place + gap_bytes) + size) over ∷ []) here laid_behind is_used, count-cons is_used (rest_at place gap_bytes) before, front.live, less);
            small = omega (arith, ends_bytes base pool count (rest_at place gap_bytes ∷ before) (live_at j (place + gap_bytes) size ∷ rest_at ((place + gap_bytes) + size) over ∷ []) here laid_behind, front.bytes_held, small);
            asks = asks;
          }

          size_shrunk : ((at : ℕ) (behind : List (Block ℕ)) (new : Content ℕ) → Ends behind (rest_at at ((size + over) - m) ∷ []) new → IsFront (suc j) (held + m) behind → Refuses new) → Refuses content
          size_shrunk more =
              let pointer : Pointer = record { place = place + gap_bytes; slot = j } in
              laid_refused j held place left before content is front less small larger
              (refused_behind blocks bytes size lacks (Realloc (Some pointer) m) (Moved (Some pointer)) here shrunk
              (record {
                ok = resized_served base pool count j (place + gap_bytes) size ((place + gap_bytes) + size) over m (rest_at place gap_bytes ∷ before) here laid_behind rounded some_bytes (λ e. absurd (omega (arith, e, smaller))) (omega (arith, smaller));
                slot_below = slot_few;
                slot_new = λ moved. absurd (moved refl);
              })
              (λ named nonzero. laid_takes)
              (more ((place + gap_bytes) + m) (live_at j (place + gap_bytes) m ∷ rest_at place gap_bytes ∷ before) shrunk shrunk_behind (front_more j held place (place + gap_bytes) m before front)))
            where
              slot_few : j < here.records
              slot_few = omega (arith, laid_behind.records, many, less)

      -- from where `more` blocks are to be laid before the last one, of the bytes that are left
      abbrev pub Lays : ℕ → Type 0
      Lays more = (left j held : ℕ) → suc (j + more) ≡ blocks → held + left + size ≡ bytes → left % unit ≡ 0 → more * unit ≤ left → left ≤ more * size
          → (place : ℕ) (before : List (Block ℕ)) (content : Content ℕ) → Ends before (rest_at place (end_bytes size more left) ∷ []) content → IsFront j held before → Refuses content

      lays_last : Lays 0
      lays_last left j held sum all whole least most place before content is front =
          last_refused j held place (end_bytes size 0 left) before content is front (omega (arith, sum)) (omega (arith, all)) (end_larger size 0 left some) (omega (arith, sum)) (end_last size left some most)

      lays_more : (more : ℕ) → Lays more → Lays (suc more)
      lays_more more then left j held sum all whole least most place before content is front = of (share size more left some size_whole whole least most)
        where
          less : j < blocks
          less = omega (arith, sum)

          small : held + size ≤ bytes
          small = omega (arith, all)

          of : Share size more left → Refuses content
          of s = elim (cases_lt s.m size) [
            | inl smaller ↦ size_shrunk j held place (end_bytes size (suc more) left) before content is front less small (end_larger size (suc more) left some) s.m
                (rounds_less s.m s.whole s.some s.few) (asks_less s.m s.whole s.some s.few) s.some smaller
                (λ at behind new ends next. then (left - s.m) (suc j) (held + s.m) (omega (arith, sum)) (omega (arith, all, s.within)) s.rest_whole s.least s.most at behind new
                (subst (λ n. Ends behind (rest_at at n ∷ []) new) (end_shrunk size more left s.m some s.within) ends) next)
            | inr larger ↦ (let same : s.m ≡ size = omega (arith, larger, s.few) in
                size_kept j held place (end_bytes size (suc more) left) before content is front less small (end_larger size (suc more) left some)
                (λ at behind new ends next. then (left - size) (suc j) (held + size) (omega (arith, sum)) (omega (arith, all, s.within, same))
                (omega (arith, s.rest_whole, same)) (omega (arith, s.least, same)) (omega (arith, s.most, same)) at behind new
                (subst (λ n. Ends behind (rest_at at n ∷ []) new) (end_kept size more left some (omega (arith, s.within, same))) ends) next))
          ]

      pub laid_in_turn : (more : ℕ) → Lays more
      laid_in_turn zero = lays_last
      laid_in_turn (suc more) = lays_more more (laid_in_turn more)

      -- blocks of a unit, each at a multiple of the size
      module _ (is_aligned : is_alignment size ≡ true) where
        unit_asks : AsksAtMost size (size_asked size) unit
        unit_asks = record { m = unit; rounds = unit_rounds; c = lowest.c; needed = ap need (asks_size size some) ∙ lowest.needed; sized = omega (arith, lowest.sized) }

        one_spaced : (j held place left : ℕ) (before : List (Block ℕ)) (content : Content ℕ) → Ends before (rest_at place left ∷ []) content → IsFront j held before → j < blocks → held ≤ bytes → size < left → place % size ≡ unit
            → ((new : Content ℕ) → Ends (rest_at place gap_bytes ∷ before) (live_at j (place + gap_bytes) unit ∷ rest_at (place + size) (left - size) ∷ []) new → Refuses new) → Refuses content
        one_spaced j held place left before content is front less small larger at then =
            let room_two : used_records content + 2 ≤ content.records = omega (arith, ends_used base pool count before (rest_at place left ∷ []) content is, front.few, less, is.records, many) in
            let ends = spaced_ends base pool count size lowest positive is_aligned some before place left content is front.below larger at j room_two in
            refused_behind blocks bytes size lacks (Memalign size unit) (Given (record { place = place + gap_bytes; slot = j })) content
            (spaced base pool count size lowest positive is_aligned some before place left content is front.below larger at j)
            (record {
              ok = spaced_served base pool count size lowest positive is_aligned some before place left content is front.below larger at j room_two;
              slot_below = omega (arith, is.records, many, less);
              slot_new = unused j j held before (rest_at place left ∷ []) content is front (omega arith) refl;
            })
            (λ named nonzero. takes (size_asked size) unit j held before (rest_at place left ∷ []) content is front (omega (arith, less)) (omega (arith, small)) unit_asks)
            (then (spaced base pool count size lowest positive is_aligned some before place left content is front.below larger at j) (record { good = ends.good; pools = ends.pools; records = ends.records }))

        -- the last of them gets more bytes where it is
        module _ (j held place at rest left last : ℕ) (before : List (Block ℕ)) (content : Content ℕ) (is : Ends (rest_at place gap_bytes ∷ before) (live_at j at unit ∷ rest_at rest left ∷ []) content) (front : IsFront j held before)
            (rounded : round last ≡ Some last) (asks : AsksAtMost size (λ m. m) last) (more : unit < last) (less : j < blocks) (small : held + unit ≤ bytes) (fits : last < unit + left) where
          is_behind : Ends before (rest_at place gap_bytes ∷ live_at j at unit ∷ rest_at rest left ∷ []) content
          is_behind = record { good = is.good; pools = is.pools; records = is.records }

          grown_refused : (Ends (live_at j at last ∷ rest_at place gap_bytes ∷ before) (rest_at (at + last) ((unit + left) - last) ∷ []) (resized j at last content) → Refuses (resized j at last content)) → Refuses content
          grown_refused then =
              let pointer : Pointer = record { place = at; slot = j } in
              let other : last ≢ unit = λ e. absurd (omega (arith, e, more)) in
              let positive_bytes : 0 < last = omega (arith, more) in
              let ends = resized_ends base pool count j at unit rest left last (rest_at place gap_bytes ∷ before) content is rounded positive_bytes other fits in
              refused_behind blocks bytes size lacks (Realloc (Some pointer) last) (Moved (Some pointer)) content (resized j at last content)
              (record {
                ok = resized_served base pool count j at unit rest left last (rest_at place gap_bytes ∷ before) content is rounded positive_bytes other fits;
                slot_below = omega (arith, is.records, many, less);
                slot_new = λ moved. absurd (moved refl);
              })
              (λ named nonzero. takes (λ m. m) last j held before (rest_at place gap_bytes ∷ live_at j at unit ∷ rest_at rest left ∷ []) content is_behind front (omega (arith, less)) (omega (arith, small)) asks)
              (then (record { good = ends.good; pools = ends.pools; records = ends.records }))

        module _ (last : ℕ) (last_whole : last % unit ≡ 0) (last_least : unit ≤ last) (last_most : last ≤ size) where
          abbrev pub bytes_spaced : ℕ → ℕ
          bytes_spaced more = more * size + (gap_bytes + last + gap_bytes)

          abbrev pub Spaces : ℕ → Type 0
          Spaces more = (j held : ℕ) → suc (j + more) ≡ blocks → held + more * unit + last ≡ bytes → (place : ℕ) (before : List (Block ℕ)) (content : Content ℕ) → place % size ≡ unit
              → Ends before (rest_at place (bytes_spaced more) ∷ []) content → IsFront j held before → Refuses content

          last_gap : (left : ℕ) → left ≡ bytes_spaced 0 - size → unit ≡ last → left < size
          last_gap left is same = omega (arith, is, same, some)

          grown_gap : (left : ℕ) → left ≡ bytes_spaced 0 - size → (last < unit + left) × ((unit + left) - last < size)
          grown_gap left is = (omega (arith, is, some, last_least), omega (arith, is, some, last_least))

          spaces_last : Spaces 0
          spaces_last j held sum all place before content at is front =
              one_spaced j held place (bytes_spaced 0) before content is front (omega (arith, sum)) (omega (arith, all)) (omega (arith, some, last_least)) at (λ new ends. elim (cases_lt unit last) [
                | inl more ↦ (let fits = grown_gap (bytes_spaced 0 - size) refl in
                    grown_refused j held place (place + gap_bytes) (place + size) (bytes_spaced 0 - size) last before new ends front (rounds_less last last_whole (omega (arith, last_least)) last_most)
                    (asks_less last last_whole (omega (arith, last_least)) last_most) more (omega (arith, sum)) (omega (arith, all, last_least)) fits.0
                    (λ grown. small_refused (suc j) (held + last) ((place + gap_bytes) + last) ((unit + (bytes_spaced 0 - size)) - last) (live_at j (place + gap_bytes) last ∷ rest_at place gap_bytes ∷ before) (resized j (place + gap_bytes) last new) grown
                    (front_more j held place (place + gap_bytes) last before front) fits.1 (omega (arith, sum)) (omega (arith, all))))
                | inr few ↦ small_refused (suc j) (held + unit) (place + size) (bytes_spaced 0 - size) (live_at j (place + gap_bytes) unit ∷ rest_at place gap_bytes ∷ before) new (record { good = ends.good; pools = ends.pools; records = ends.records })
                    (front_more j held place (place + gap_bytes) unit before front) (last_gap (bytes_spaced 0 - size) refl (omega (arith, few, last_least))) (omega (arith, sum)) (omega (arith, all, last_least))
              ])

          spaces_more : (more : ℕ) → Spaces more → Spaces (suc more)
          spaces_more more then j held sum all place before content at is front =
              let rest_is : bytes_spaced (suc more) - size ≡ bytes_spaced more = omega arith in
              one_spaced j held place (bytes_spaced (suc more)) before content is front (omega (arith, sum)) (omega (arith, all)) (omega (arith, some, last_least)) at
              (λ new ends. then (suc j) (held + unit) (omega (arith, sum)) (omega (arith, all)) (place + size) (live_at j (place + gap_bytes) unit ∷ rest_at place gap_bytes ∷ before) new (add-mod_right place size ∙ at)
              (subst (λ n. Ends (live_at j (place + gap_bytes) unit ∷ rest_at place gap_bytes ∷ before) (rest_at (place + size) n ∷ []) new) rest_is (record { good = ends.good; pools = ends.pools; records = ends.records }))
              (front_more j held place (place + gap_bytes) unit before front))

          pub spaced_in_turn : (more : ℕ) → Spaces more
          spaced_in_turn zero = spaces_last
          spaced_in_turn (suc more) = spaces_more more (spaced_in_turn more)
