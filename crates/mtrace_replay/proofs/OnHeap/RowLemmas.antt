-- The rows of a heap's pools, read one after the other.
use Rattle.std.proofs.Common.{codes, Bool, Option, ◌≡◌, ℕ, suc, ◌+◌, ◌<◌, ◌≤◌, max, List, [], ◌∷◌, ◌++◌, length, map, drop, flat_map, refl, sym, ap, subst, not, ◌∙◌, arith, length-append, if◌then◌else◌, ◌==◌, true, false, Some, None}
use Rattle.std.specs.Prelude.{Ok, sum_by}
use Rattle.std.specs.List.{filter}
use Rattle.std.proofs.Math.ListN.{get_or}
use Rattle.std.proofs.Math.Seq.{drop-cons}
use Rattle.std.proofs.lemmas.Bool.Decides.{nat_tests}
use Rattle.std.proofs.lemmas.List.{length-map, map-append}
use Rattle.std.proofs.lemmas.Grind.{flat_map-append}
use Rattle.std.proofs.lemmas.List.Sums.{sum_by-append}
use Rattle.tlsf_heap.specs.declared.row.Row.{Row}
use Rattle.tlsf_heap.specs.Content.{Block, Pool, Content, blocks_of, is_free}
use Rattle.tlsf_heap.specs.Bare.{bare, renamed_block, renamed_pool}
use Rattle.tlsf_heap.specs.Counted.{range_of}
use Rattle.tlsf_heap.specs.Good.{IsGood, AreGoodPools}
use Rattle.tlsf_heap.specs.Rows.{row_of, rows_from}
use Rattle.mtrace_replay.specs.declared.heap.survey.Survey.{Survey}
use Rattle.mtrace_replay.specs.declared.heap.totals.Totals.{Totals}
use Rattle.mtrace_replay.specs.Started.{Bare}
use Rattle.mtrace_replay.specs.Texts.{peak_lines, peak_report, pair_line, row_text, greatest, free_sizes, rows_text, pool_text, walk_report}
use Rattle.mtrace_replay.specs.Rows.{or_none, pool_rows}
use Rattle.mtrace_replay.specs.Survey.{live_ends, free_size, live_end, IsSurvey, SurveysRows}

max_assoc : (a b c : ℕ) → max a (max b c) ≡ max (max a b) c
max_assoc a b c = omega arith

pub greatest-append : (first second : List ℕ) → greatest (first ++ second) ≡ max (greatest first) (greatest second)
greatest-append [] second = omega arith
greatest-append (size ∷ first) second = ap (max size) (greatest-append first second) ∙ max_assoc size (greatest first) (greatest second)

-- the greater one of both, where each is the greatest of its list
greater_of : (one more larger : ℕ) (first second : List ℕ) → larger ≡ max one more → one ≡ greatest first → more ≡ greatest second → larger ≡ greatest (first ++ second)
greater_of one more larger first second is own others = is ∙ ap (λ n. max n more) own ∙ ap (max (greatest first)) others ∙ sym (greatest-append first second)

survey_joined : (one more : Survey) (largest reach : ℕ) (sizes more_sizes ends more_ends : List ℕ) → largest ≡ max one.largest_free more.largest_free → reach ≡ max one.reach more.reach
    → IsSurvey one sizes ends → IsSurvey more more_sizes more_ends
    → IsSurvey (record { free_blocks = one.free_blocks + more.free_blocks; free_bytes = one.free_bytes + more.free_bytes; largest_free = largest; reach = reach }) (sizes ++ more_sizes) (ends ++ more_ends)
survey_joined one more largest reach sizes more_sizes ends more_ends largest_is reach_is own others = record {
  blocks = omega (arith, own.blocks, others.blocks, length-append {A = ℕ});
  bytes = omega (arith, own.bytes, others.bytes, sum_by-append (λ (size : ℕ). size) sizes more_sizes);
  largest = greater_of one.largest_free more.largest_free largest sizes more_sizes largest_is own.largest others.largest;
  reach = greater_of one.reach more.reach reach ends more_ends reach_is own.reach others.reach;
}

-- the survey of the rows of both
pub rows_joined : (one more : Survey) (largest reach : ℕ) (first second : List Row) → largest ≡ max one.largest_free more.largest_free → reach ≡ max one.reach more.reach
    → SurveysRows first one → SurveysRows second more
    → SurveysRows (first ++ second) (record { free_blocks = one.free_blocks + more.free_blocks; free_bytes = one.free_bytes + more.free_bytes; largest_free = largest; reach = reach })
rows_joined one more largest reach first second largest_is reach_is own others =
    let joined : Survey = record { free_blocks = one.free_blocks + more.free_blocks; free_bytes = one.free_bytes + more.free_bytes; largest_free = largest; reach = reach } in
    let P : List ℕ → Type 0 = λ sizes. IsSurvey joined sizes (flat_map live_end (first ++ second)) in
    let Q : List ℕ → Type 0 = λ ends. IsSurvey joined (flat_map free_size first ++ flat_map free_size second) ends in
    subst P (sym (flat_map-append free_size first second)) (subst Q (sym (flat_map-append live_end first second))
    (survey_joined one more largest reach (flat_map free_size first) (flat_map free_size second) (flat_map live_end first) (flat_map live_end second) largest_is reach_is own others))

few_by : (pool : Pool ℕ) (pools : List (Pool ℕ)) (base : ℕ) (same : Bool) → length (pool_rows pools base) ≤ length (blocks_of pools)
    → length (or_none (if same then Ok (map row_of pool.blocks) else rows_from base pools)) ≤ length (blocks_of (pool ∷ pools))
few_by pool pools base true others = omega (arith, length-map pool.blocks (row_of {A = ℕ}), length-append {A = Block ℕ})
few_by pool pools base false others = omega (arith, others, length-append {A = Block ℕ})

-- the rows of a pool are no more than all blocks
pub rows_few : (pools : List (Pool ℕ)) (base : ℕ) → length (pool_rows pools base) ≤ length (blocks_of pools)
rows_few [] base = omega arith
rows_few (pool ∷ pools) base = few_by pool pools base (pool.base == base) (rows_few pools base)

-- the next of the items, before the rest
pub next_of : {A B : Type 0} (f : A → List B) (items all : List A) (index : ℕ) (other : A) → items ≡ all → index < length items
    → flat_map f (drop index all) ≡ f (get_or items index other) ++ flat_map f (drop (index + 1) all)
next_of {A} {B} f items all index other same below =
    let next : index + 1 ≡ suc index = omega arith in
    let first : get_or items index other ≡ get_or all index other = ap (λ ones. get_or ones index other) same in
    let inside : index < length all = omega (arith, below, ap (λ (ones : List A). length ones) same) in
    ap (flat_map f) (drop-cons all index other inside ∙ ap (λ one. one ∷ drop (suc index) all) (sym first) ∙ ap (λ n. get_or items index other ∷ drop n all) (sym next))

-- the text of a pool, as its line and those of its rows
pub rows_text-is : (range : ℕ × ℕ) (rows : List Row) → pair_line (codes "pool ") range.0 (codes ": ") range.1 (codes " bytes") ++ flat_map row_text rows ≡ rows_text range rows
rows_text-is range rows = refl

-- what is made of the rows of each pool, the pools found by their bases
abbrev pub by_base : {B : Type 0} → (ℕ × ℕ → List Row → List B) → List (Pool ℕ) → ℕ × ℕ → List B
by_base g pools range = g range (pool_rows pools range.0)

-- a pool in front changes nothing for those behind its end
rows_behind : {B : Type 0} (g : ℕ × ℕ → List Row → List B) (pool : Pool ℕ) (pools : List (Pool ℕ)) (from : ℕ) (rest : List (Pool ℕ)) → pool.base < from → AreGoodPools from rest
    → flat_map (by_base g (pool ∷ pools)) (map range_of rest) ≡ flat_map (by_base g pools) (map range_of rest)
rows_behind g pool pools from [] below good = refl
rows_behind g pool pools from (first ∷ rest) below good =
    let other : (pool.base == first.base) ≡ false = grind (arith, nat_tests, below, good.0) in
    let here : by_base g (pool ∷ pools) (range_of first) ≡ by_base g pools (range_of first)
    = ap (λ same. g (range_of first) (or_none (if same then Ok (map row_of pool.blocks) else rows_from first.base pools))) other in
    let below_next : pool.base < first.base + first.bytes = omega (arith, below, good.0) in
    let later = rows_behind g pool pools (first.base + first.bytes) rest below_next good.2 in
    ap (λ text. text ++ flat_map (by_base g (pool ∷ pools)) (map range_of rest)) here ∙ ap (λ text. by_base g pools (range_of first) ++ text) later

-- good pools are found by their bases
pub rows_found : {B : Type 0} (g : ℕ × ℕ → List Row → List B) (from : ℕ) (pools : List (Pool ℕ)) → AreGoodPools from pools
    → flat_map (by_base g pools) (map range_of pools) ≡ flat_map (λ pool. g (range_of pool) (map row_of pool.blocks)) pools
rows_found g from [] good = refl
rows_found g from (pool ∷ pools) good =
    let itself : (pool.base == pool.base) ≡ true = grind (arith, nat_tests) in
    let here : by_base g (pool ∷ pools) (range_of pool) ≡ g (range_of pool) (map row_of pool.blocks)
    = ap (λ same. g (range_of pool) (or_none (if same then Ok (map row_of pool.blocks) else rows_from pool.base pools))) itself in
    let below : pool.base < pool.base + pool.bytes = omega (arith, good.1.least_bytes) in
    ap (λ text. text ++ flat_map (by_base g (pool ∷ pools)) (map range_of pools)) here
    ∙ ap (λ text. g (range_of pool) (map row_of pool.blocks) ++ text)
    (rows_behind g pool pools (pool.base + pool.bytes) pools below good.2 ∙ rows_found g (pool.base + pool.bytes) pools good.2)

-- what a block is known by is not told
abbrev forget : ℕ → Unit {0}
forget = λ known. tt

-- a block's row doesn't tell what the block is known by
row_bare : (place size : ℕ) (owner : Option ℕ) → row_of {A = ℕ} (record { place = place; size = size; owner = owner }) ≡ row_of (renamed_block forget (record { place = place; size = size; owner = owner }))
row_bare place size None = refl
row_bare place size (Some known) = refl

rows_bare : (blocks : List (Block ℕ)) → map (row_of {A = ℕ}) blocks ≡ map (row_of {A = Unit {0}}) (map (renamed_block forget) blocks)
rows_bare [] = refl
rows_bare (block ∷ blocks) =
    ap (λ row. row ∷ map row_of blocks) (row_bare block.place block.size block.owner) ∙ ap (λ rows. row_of (renamed_block forget block) ∷ rows) (rows_bare blocks)

walk_bare : (pools : List (Pool ℕ)) → flat_map pool_text pools ≡ flat_map pool_text (map (renamed_pool forget) pools)
walk_bare [] = refl
walk_bare (pool ∷ pools) =
    ap (λ rows. rows_text (pool.base, pool.bytes) rows ++ flat_map pool_text pools) (rows_bare pool.blocks)
    ∙ ap (λ text. pool_text (renamed_pool forget pool) ++ text) (walk_bare pools)

pub walk_is : (content : Content ℕ) → IsGood content → flat_map (by_base rows_text content.pools) (map range_of content.pools) ≡ walk_report (bare content)
walk_is content good = rows_found rows_text 0 content.pools good.pools_good ∙ walk_bare content.pools

-- the rows of a pool, whatever its range
abbrev pub just_rows : ℕ × ℕ → List Row → List Row
just_rows range rows = rows

-- the rows of all pools, as those of all blocks
all_rows : (pools : List (Pool ℕ)) → flat_map (λ pool. map row_of pool.blocks) pools ≡ map row_of (blocks_of (map (renamed_pool forget) pools))
all_rows [] = refl
all_rows (pool ∷ pools) =
    let own = map (renamed_block forget) pool.blocks in
    ap (λ rows. rows ++ flat_map (λ (p : Pool ℕ). map row_of p.blocks) pools) (rows_bare pool.blocks)
    ∙ ap (λ rows. map row_of own ++ rows) (all_rows pools)
    ∙ sym (map-append (row_of {A = Unit {0}}) own (blocks_of (map (renamed_pool forget) pools)))

pub rows_are : (content : Content ℕ) → IsGood content → flat_map (by_base just_rows content.pools) (map range_of content.pools) ≡ map row_of (blocks_of (bare content).pools)
rows_are content good = rows_found just_rows 0 content.pools good.pools_good ∙ all_rows content.pools

sizes_by : (place size : ℕ) (owner : Option (Unit {0})) (blocks : List (Block (Unit {0})))
    → flat_map free_size (map (row_of {A = Unit {0}}) blocks) ≡ map (λ (block : Block (Unit {0})). block.size) (filter is_free blocks)
    → flat_map free_size (map (row_of {A = Unit {0}}) (record { place = place; size = size; owner = owner } ∷ blocks))
    ≡ map (λ (block : Block (Unit {0})). block.size) (filter is_free (record { place = place; size = size; owner = owner } ∷ blocks))
sizes_by place size None blocks others = ap (λ sizes. size ∷ sizes) others
sizes_by place size (Some known) blocks others = others

-- the sizes of the free rows are those of the free blocks
sizes_are : (blocks : List (Block (Unit {0}))) → flat_map free_size (map (row_of {A = Unit {0}}) blocks) ≡ map (λ (block : Block (Unit {0})). block.size) (filter is_free blocks)
sizes_are [] = refl
sizes_are (block ∷ blocks) = sizes_by block.place block.size block.owner blocks (sizes_are blocks)

ends_by : (place size : ℕ) (owner : Option (Unit {0})) (blocks : List (Block (Unit {0})))
    → flat_map live_end (map (row_of {A = Unit {0}}) blocks) ≡ map (λ (block : Block (Unit {0})). block.place + block.size) (filter (λ (block : Block (Unit {0})). not (is_free block)) blocks)
    → flat_map live_end (map (row_of {A = Unit {0}}) (record { place = place; size = size; owner = owner } ∷ blocks))
    ≡ map (λ (block : Block (Unit {0})). block.place + block.size) (filter (λ (block : Block (Unit {0})). not (is_free block)) (record { place = place; size = size; owner = owner } ∷ blocks))
ends_by place size None blocks others = others
ends_by place size (Some known) blocks others = ap (λ ends. (place + size) ∷ ends) others

-- the ends of the live rows are those of the live blocks
ends_are : (blocks : List (Block (Unit {0}))) → flat_map live_end (map (row_of {A = Unit {0}}) blocks)
    ≡ map (λ (block : Block (Unit {0})). block.place + block.size) (filter (λ (block : Block (Unit {0})). not (is_free block)) blocks)
ends_are [] = refl
ends_are (block ∷ blocks) = ends_by block.place block.size block.owner blocks (ends_are blocks)

-- the survey of all rows
pub survey_is : (content : Content ℕ) (survey : Survey) (rows : List Row) → IsGood content → rows ≡ flat_map (by_base just_rows content.pools) (map range_of content.pools)
    → SurveysRows rows survey → IsSurvey survey (free_sizes (bare content)) (live_ends (bare content))
survey_is content survey rows good all is =
    let blocks = blocks_of (bare content).pools in
    let P : List ℕ → Type 0 = λ sizes. IsSurvey survey sizes (live_ends (bare content)) in
    let Q : List ℕ → Type 0 = λ ends. IsSurvey survey (flat_map free_size (map row_of blocks)) ends in
    let R : List Row → Type 0 = λ ones. SurveysRows ones survey in
    subst P (sizes_are blocks) (subst Q (ends_are blocks) (subst R (all ∙ rows_are content good) is))

-- the lines of the peak, where what is free is known
pub peak_is : (totals others : Totals) (survey : Survey) (content : Bare) → totals ≡ others → IsSurvey survey (free_sizes content) (live_ends content)
    → peak_lines totals survey.free_bytes survey.free_blocks survey.largest_free ≡ peak_report others content
peak_is totals others survey content same is =
    let sizes = free_sizes content in
    let sum = sum_by (λ (size : ℕ). size) sizes in
    ap (λ t. peak_lines t survey.free_bytes survey.free_blocks survey.largest_free) same
    ∙ ap (λ n. peak_lines others n survey.free_blocks survey.largest_free) is.bytes
    ∙ ap (λ n. peak_lines others sum n survey.largest_free) is.blocks
    ∙ ap (λ n. peak_lines others sum (length sizes) n) is.largest
