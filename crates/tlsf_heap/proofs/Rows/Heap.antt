-- The worked rows of the heap, computed by the definitions.
use Rattle.std.proofs.Common.{◌≡◌, ℕ, suc, ◌<◌, List, [], ◌∷◌, ◌++◌, refl, sym, subst, arith, Bool, true, false, map, not, Option, Some, None, inl, inr}
use Rattle.std.specs.Prelude.{Result, Ok, Err, ◌==◌, All, AllPairs, IsTrue}
use Rattle.std.proofs.lemmas.List.Elements.{All-nil, All-from_recursion}
use Rattle.std.proofs.lemmas.List.Kept.{AllPairs-cons}
use Rattle.tlsf_heap.specs.declared.refusal.Refusal.{Refusal}
use Rattle.tlsf_heap.specs.declared.refusal.Refusal.TheVariants.{ZeroSize, NoFit, TableFull, BadPool, BadPointer, BadAlign, NoPool, PoolInUse}
use Rattle.tlsf_class.specs.Classes.{class, need, low}
use Rattle.tlsf_class.specs.Rounding.{rounded}
use Rattle.tlsf_heap.specs.Lists.{list_of}
use Rattle.tlsf_heap.specs.Content.{Block, Content, blocks_of, is_free}
use Rattle.tlsf_heap.specs.Malloc.{malloc}
use Rattle.tlsf_heap.specs.Free.{free}
use Rattle.tlsf_heap.specs.Memalign.{memalign, is_alignment}
use Rattle.tlsf_heap.specs.Realloc.{realloc}
use Rattle.tlsf_heap.specs.BlockSize.{block_size}
use Rattle.tlsf_heap.specs.Pools.{created, add_pool, remove_pool}
use Rattle.tlsf_heap.specs.Good.{times}
use Rattle.tlsf_heap.specs.Implied.{IsAligned, AreDisjoint, AreFreeBelow, live_blocks, HasFewRecords}

-- a request of the rows
data Request : Type 0 where
  pool : ℕ → ℕ → Request
  malloc_of : ℕ → Request
  free_of : ℕ → ℕ → Request
  memalign_of : ℕ → ℕ → Request
  realloc_of : Option (ℕ × ℕ) → ℕ → Request
  remove : ℕ → Request
  size_of : ℕ → ℕ → Request

-- what is answered: the place, where one is
data Answer : Type 0 where
  done : Answer
  given : ℕ → Answer
  moved : Option (ℕ × ℕ) → Answer
  sized : ℕ → Answer
  refused : Refusal → Answer

abbrev Held : Type 0
Held = Content ℕ

record After : Type 0 where
  answers : List Answer
  content : Held

abbrev after_add : Held → Result Held Refusal → After
after_add content (Ok new) = record { answers = done ∷ []; content = new }
after_add content (Err refusal) = record { answers = refused refusal ∷ []; content = content }

abbrev after_malloc : Held → Result (ℕ × Held) Refusal → After
after_malloc content (Ok new) = record { answers = given new.0 ∷ []; content = new.1 }
after_malloc content (Err refusal) = record { answers = refused refusal ∷ []; content = content }

abbrev after_realloc : Held → Result (Option (ℕ × ℕ) × Held) Refusal → After
after_realloc content (Ok new) = record { answers = moved new.0 ∷ []; content = new.1 }
after_realloc content (Err refusal) = record { answers = refused refusal ∷ []; content = content }

abbrev after_size : Held → Result ℕ Refusal → After
after_size content (Ok bytes) = record { answers = sized bytes ∷ []; content = content }
after_size content (Err refusal) = record { answers = refused refusal ∷ []; content = content }

-- one request, under the number of the request as the slot
abbrev one : ℕ → Request → Held → After
one number (pool base bytes) content = after_add content (add_pool base bytes content)
one number (malloc_of n) content = after_malloc content (malloc number n content)
one number (free_of place slot) content = after_add content (free (λ owner. owner == slot) place content)
one number (memalign_of align n) content = after_malloc content (memalign number align n content)
one number (realloc_of pointer n) content = after_realloc content (realloc (λ a b. a == b) number pointer n content)
one number (remove base) content = after_add content (remove_pool base content)
one number (size_of place slot) content = after_size content (block_size (λ owner. owner == slot) place content)

abbrev requests : ℕ → List Request → Held → After
requests number [] content = record { answers = []; content = content }
requests number (request ∷ more) content =
    let first = one number request content in
    let then = requests (suc number) more first.content in
    record { answers = first.answers ++ then.answers; content = then.content }

-- the rows of all pools: place, size, and whether it is live
abbrev rows : Held → List (ℕ × ℕ × Bool)
rows content = map (λ block. (block.place, block.size, not (is_free block))) (blocks_of content.pools)

-- where the pools begin, and their bytes
abbrev pools : Held → List (ℕ × ℕ)
pools content = map {B = ℕ × ℕ} (λ area. (area.base, area.bytes)) content.pools

abbrev from_create : ℕ → List Request → After
from_create records asked = requests 0 asked (created records)

-- what a run answers, and the rows that it leaves
abbrev told : After → List Answer × List (ℕ × ℕ × Bool)
told after = (after.answers, rows after.content)

abbrev first_split : After
first_split = from_create 4 (pool 0 1024 ∷ malloc_of 100 ∷ [])

first_split-list : list_of 57 first_split.content.lists ≡ 112 ∷ []
unfolding class need low rounded
first_split-list = refl

-- greatest-class
abbrev greatest : After
greatest = from_create 2 (pool 0 1073741808 ∷ malloc_of 1056964609 ∷ malloc_of 1056964608 ∷ [])

greatest-list : list_of 511 greatest.content.lists ≡ 1056964608 ∷ []
unfolding class need low rounded
greatest-list = refl

-- pools-in-order
abbrev in_order : After
in_order = from_create 3 (pool 128 64 ∷ pool 0 64 ∷ pool 64 64 ∷ pool 192 64 ∷ pool 32 64 ∷ [])

in_order-pools : pools in_order.content ≡ (0, 64) ∷ (64, 64) ∷ (128, 64) ∷ []
unfolding class need low rounded
in_order-pools = refl

-- merge-both-sides
abbrev both_sides : Held
both_sides = (from_create 4 (pool 0 1024 ∷ malloc_of 100 ∷ malloc_of 1 ∷ free_of 0 1 ∷ free_of 112 2 ∷ [])).content

both_sides-rows : rows both_sides ≡ (0, 1024, false) ∷ []
unfolding class need low rounded
both_sides-rows = refl

both_sides-lists : list_of 64 both_sides.lists ≡ 0 ∷ []
unfolding class need low rounded
both_sides-lists = refl

-- first-split: its two blocks are aligned and disjoint
abbrev two_blocks : List (Block ℕ)
two_blocks = record { place = 0; size = 112; owner = Some 1 } ∷ record { place = 112; size = 912; owner = None } ∷ []

first_split-blocks : blocks_of first_split.content.pools ≡ two_blocks
unfolding class need low rounded
first_split-blocks = refl

first_split-aligned : All IsAligned (blocks_of first_split.content.pools)
first_split-aligned =
    let P : List (Block ℕ) → Type 0 = λ blocks. All IsAligned blocks in
    subst P (sym first_split-blocks) (All-from_recursion IsAligned two_blocks ((refl, refl), ((refl, refl), tt)))

first_split-disjoint : AllPairs AreDisjoint (blocks_of first_split.content.pools)
first_split-disjoint =
    let P : List (Block ℕ) → Type 0 = λ blocks. AllPairs AreDisjoint blocks in
    let last : Block ℕ = record { place = 112; size = 912; owner = None } in
    let none_behind : AllPairs {X = Block ℕ} AreDisjoint (last ∷ []) = AllPairs-cons AreDisjoint last [] (All-nil (AreDisjoint last)) (λ i j d less within. absurd (omega (arith, within))) in
    subst P (sym first_split-blocks)
    (AllPairs-cons AreDisjoint (record { place = 0; size = 112; owner = Some 1 }) (last ∷ []) (All-from_recursion (AreDisjoint (record { place = 0; size = 112; owner = Some 1 })) (last ∷ []) (inl (omega arith), tt)) none_behind)

first_split-once : times 112 (list_of (class 912) first_split.content.lists) ≡ 1
unfolding class need low rounded
first_split-once = refl

first_split-live : live_blocks first_split.content ≡ 1
unfolding class need low rounded
first_split-live = refl

-- blocks that overlap are not disjoint
overlapping : AreDisjoint {A = ℕ} (record { place = 0; size = 16; owner = None }) (record { place = 8; size = 16; owner = None }) → ⊥
overlapping (inl e) = omega (arith, e)
overlapping (inr e) = omega (arith, e)

-- lower-class-not-taken: 1040 bytes need the class of 1056, and the free block of 1040 is smaller
lower_class-need : need 1040 ≡ Some 65
unfolding class need low rounded
lower_class-need = refl

lower_class-low : low 65 ≡ 1056
unfolding low
lower_class-low = refl

abbrev one_free : List (Block ℕ)
one_free = record { place = 0; size = 1040; owner = None } ∷ []

lower_class-blocks : blocks_of (from_create 2 (pool 0 1040 ∷ malloc_of 1040 ∷ [])).content.pools ≡ one_free
unfolding class need low rounded
lower_class-blocks = refl

lower_class-free : AreFreeBelow 1056 (blocks_of (from_create 2 (pool 0 1040 ∷ malloc_of 1040 ∷ [])).content.pools)
lower_class-free =
    let P : List (Block ℕ) → Type 0 = λ blocks. AreFreeBelow 1056 blocks in
    subst P (sym lower_class-blocks) (All-from_recursion (λ (block : Block ℕ). IsTrue (is_free block) → block.size < 1056) one_free (λ _. omega arith, tt))

lower_class-not_below : AreFreeBelow 1040 one_free → ⊥
lower_class-not_below below = omega (arith, below 0 (record { place = 0; size = 0; owner = None }) (omega arith) refl)

-- full-table: one record, one pool, no live block
full_table-few : HasFewRecords (from_create 1 (pool 0 64 ∷ malloc_of 8 ∷ [])).content
unfolding class need low rounded
full_table-few = omega arith

not_full : HasFewRecords (from_create 2 (pool 0 64 ∷ [])).content → ⊥
unfolding class need low rounded
not_full few = omega (arith, few)

-- the gap enters its list before the rest, where both are of one class
gap_first : list_of 3 (from_create 3 (pool 16 128 ∷ memalign_of 64 32 ∷ [])).content.lists ≡ 96 ∷ 16 ∷ []
unfolding class need low rounded
gap_first = refl

-- the powers of two up to 2^29
alignments : map is_alignment (0 ∷ 1 ∷ 2 ∷ 3 ∷ 536870912 ∷ 536870913 ∷ 1073741824 ∷ []) ≡ false ∷ true ∷ true ∷ false ∷ true ∷ false ∷ false ∷ []
alignments = refl

-- a block that gets smaller before a live one leaves a free block
shrunk_beside : rows (from_create 4 (pool 0 80 ∷ malloc_of 32 ∷ malloc_of 48 ∷ realloc_of (Some (0, 1)) 8 ∷ [])).content ≡ (0, 16, true) ∷ (16, 16, false) ∷ (32, 48, true) ∷ []
unfolding class need low rounded
shrunk_beside = refl

-- runs, with what they answer and the rows that they leave
abbrev told_rows : List (After × (List Answer × List (ℕ × ℕ × Bool)))
told_rows =
    (first_split, (done ∷ given 0 ∷ [], (0, 112, true) ∷ (112, 912, false) ∷ []))
    -- lower-class-not-taken
    ∷ (from_create 2 (pool 0 1040 ∷ malloc_of 1040 ∷ malloc_of 1024 ∷ []), (done ∷ refused NoFit ∷ given 0 ∷ [], (0, 1024, true) ∷ (1024, 16, false) ∷ []))
    ∷ (greatest, (done ∷ refused NoFit ∷ given 0 ∷ [], (0, 1056964608, true) ∷ (1056964608, 16777200, false) ∷ []))
    -- memalign-gap-and-rest
    ∷ (
      from_create 4 (pool 16 256 ∷ memalign_of 64 32 ∷ memalign_of 3 0 ∷ memalign_of 1073741824 8 ∷ memalign_of 8 0 ∷ []),
      (done ∷ given 64 ∷ refused BadAlign ∷ refused BadAlign ∷ refused ZeroSize ∷ [], (16, 48, false) ∷ (64, 32, true) ∷ (96, 176, false) ∷ []),
    )
    -- memalign-needs-records: the gap alone takes the one that is vacant
    ∷ (from_create 2 (pool 16 256 ∷ memalign_of 64 32 ∷ memalign_of 64 200 ∷ []), (done ∷ refused TableFull ∷ given 64 ∷ [], (16, 48, false) ∷ (64, 208, true) ∷ []))
    -- grow-and-shrink-in-place
    ∷ (from_create 4 (pool 0 1024 ∷ malloc_of 100 ∷ realloc_of (Some (0, 1)) 200 ∷ []), (done ∷ given 0 ∷ moved (Some (0, 1)) ∷ [], (0, 208, true) ∷ (208, 816, false) ∷ []))
    ∷ (from_create 4 (pool 0 1024 ∷ malloc_of 100 ∷ realloc_of (Some (0, 1)) 200 ∷ realloc_of (Some (0, 1)) 8 ∷ []), (done ∷ given 0 ∷ moved (Some (0, 1)) ∷ moved (Some (0, 1)) ∷ [], (0, 16, true) ∷ (16, 1008, false) ∷ []))
    -- realloc-moves
    ∷ (from_create 4 (pool 0 1024 ∷ malloc_of 100 ∷ malloc_of 1 ∷ realloc_of (Some (0, 1)) 200 ∷ []), (done ∷ given 0 ∷ given 112 ∷ moved (Some (128, 3)) ∷ [], (0, 112, false) ∷ (112, 16, true) ∷ (128, 208, true) ∷ (336, 688, false) ∷ []))
    -- realloc-grows-over-freed
    ∷ (from_create 3 (pool 0 64 ∷ malloc_of 8 ∷ malloc_of 8 ∷ free_of 16 2 ∷ realloc_of (Some (0, 1)) 64 ∷ []), (done ∷ given 0 ∷ given 16 ∷ done ∷ moved (Some (0, 1)) ∷ [], (0, 64, true) ∷ []))
    ∷ []

all_told : map (λ row. told row.0) told_rows ≡ map (λ row. row.1) told_rows
unfolding class need low rounded
all_told = refl

-- runs, with what they answer
abbrev answer_rows : List (After × List Answer)
answer_rows =
    -- pool-limits, its add_pool
    (
      from_create 4 (pool 4294967232 64 ∷ pool 4294967240 64 ∷ pool 4 64 ∷ pool 0 0 ∷ pool 4294967168 72 ∷ pool 8 64 ∷ pool 4294967248 64 ∷ pool 4294967168 80 ∷ []),
      done ∷ refused BadPool ∷ refused BadPool ∷ refused BadPool ∷ refused BadPool ∷ refused BadPool ∷ refused BadPool ∷ refused BadPool ∷ [],
    )
    ∷ (in_order, done ∷ done ∷ done ∷ refused TableFull ∷ refused BadPool ∷ [])
    -- reuse-without-split: the slot of a live block is the number of its request
    ∷ (from_create 4 (pool 0 1024 ∷ malloc_of 100 ∷ malloc_of 1 ∷ free_of 0 1 ∷ malloc_of 100 ∷ []), done ∷ given 0 ∷ given 112 ∷ done ∷ given 0 ∷ [])
    -- newest-freed-first
    ∷ (
      from_create 8 (pool 0 128 ∷ malloc_of 8 ∷ malloc_of 8 ∷ malloc_of 8 ∷ malloc_of 8 ∷ malloc_of 8 ∷ malloc_of 8 ∷ malloc_of 8 ∷ malloc_of 8 ∷ free_of 0 1 ∷ free_of 32 3 ∷ malloc_of 8 ∷ malloc_of 8 ∷ malloc_of 8 ∷ []),
      done ∷ given 0 ∷ given 16 ∷ given 32 ∷ given 48 ∷ given 64 ∷ given 80 ∷ given 96 ∷ given 112 ∷ done ∷ done ∷ given 32 ∷ given 0 ∷ refused NoFit ∷ [],
    )
    -- pools-never-merged
    ∷ (from_create 4 (pool 0 64 ∷ pool 64 64 ∷ malloc_of 64 ∷ free_of 64 2 ∷ malloc_of 128 ∷ malloc_of 0 ∷ []), done ∷ done ∷ given 64 ∷ done ∷ refused NoFit ∷ refused ZeroSize ∷ [])
    -- a second free of the block, and one by its place alone
    ∷ (from_create 4 (pool 0 1024 ∷ malloc_of 100 ∷ free_of 0 9 ∷ free_of 16 1 ∷ free_of 0 1 ∷ free_of 0 1 ∷ []), done ∷ given 0 ∷ refused BadPointer ∷ refused BadPointer ∷ done ∷ refused BadPointer ∷ [])
    -- full-table
    ∷ (from_create 1 (pool 0 64 ∷ malloc_of 8 ∷ malloc_of 64 ∷ realloc_of (Some (0, 2)) 8 ∷ size_of 0 2 ∷ []), done ∷ refused TableFull ∷ given 0 ∷ moved (Some (0, 2)) ∷ sized 64 ∷ [])
    -- double-free-and-realloc-to-zero
    ∷ (
      from_create 4 (pool 0 1024 ∷ malloc_of 100 ∷ free_of 0 1 ∷ free_of 0 1 ∷ realloc_of None 0 ∷ malloc_of 100 ∷ realloc_of (Some (0, 5)) 0 ∷ size_of 0 5 ∷ []),
      done ∷ given 0 ∷ done ∷ refused BadPointer ∷ refused ZeroSize ∷ given 0 ∷ moved None ∷ refused BadPointer ∷ [],
    )
    -- a move that is refused, and sizes that are the block's or too large
    ∷ (
      from_create 4 (pool 0 64 ∷ malloc_of 8 ∷ malloc_of 8 ∷ realloc_of (Some (0, 1)) 128 ∷ realloc_of (Some (0, 1)) 1 ∷ realloc_of (Some (0, 1)) 1073741809 ∷ realloc_of (Some (16, 1)) 1 ∷ []),
      done ∷ given 0 ∷ given 16 ∷ refused NoFit ∷ moved (Some (0, 1)) ∷ refused NoFit ∷ refused BadPointer ∷ [],
    )
    -- pool-limits, whole
    ∷ (
      from_create 4 (pool 4294967232 64 ∷ remove 8 ∷ malloc_of 8 ∷ remove 4294967232 ∷ free_of 4294967232 2 ∷ remove 4294967232 ∷ remove 4294967232 ∷ malloc_of 8 ∷ []),
      done ∷ refused NoPool ∷ given 4294967232 ∷ refused PoolInUse ∷ done ∷ done ∷ refused NoPool ∷ refused NoFit ∷ [],
    )
    ∷ []

all_answered : map (λ row. row.0.answers) answer_rows ≡ map (λ row. row.1) answer_rows
unfolding class need low rounded
all_answered = refl
