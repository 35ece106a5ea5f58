-- The rows of the plain heap, by the number of blocks in front.
use Rattle.std.proofs.Common.{◌≡◌, ℕ, zero, suc, ◌+◌, ◌-◌, ◌<◌, cond, List, [], ◌∷◌, length, map, drop, refl, sym, ap, ◌∙◌, arith, Option, Some, None, inl, inr, length-append}
use Rattle.std.specs.Prelude.{nat_lt, ◌==◌, ◌⊎◌, Result, Ok, Err, option_map}
use Rattle.std.proofs.lemmas.Bool.{cases_Bool, lt-ltb, le-ltb, ltb-true, ltb-false}
use Rattle.tlsf_heap.specs.declared.row.Row.{Row}
use Rattle.tlsf_heap.specs.declared.refusal.Refusal.{Refusal}
use Rattle.tlsf_heap.specs.declared.refusal.Refusal.TheVariants.{NoPool}
use Rattle.tlsf_heap.specs.Content.{Block, Pool, blocks_of}
use Rattle.tlsf_heap.specs.Good.{Covers, AreGoodPools}
use Rattle.tlsf_heap.specs.Rows.{row_of, rows_from}
use Rattle.tlsf_heap.specs.PlainHeap.{blocks_from, blocks_in_front, rows_from_number}

-- a block that is found so has that many in front of it
pub number_within : (number : ℕ) (pools : List (Pool ℕ)) (block : Block ℕ) (behind : List (Block ℕ)) → blocks_from number pools ≡ block ∷ behind → number < length (blocks_of pools)
number_within number [] block behind is = absurd (cc)
number_within number (pool ∷ pools) block behind is = elim (cases_Bool (nat_lt number (length pool.blocks))) [
  | inl here ↦ omega (arith, ltb-true number (length pool.blocks) here, length-append pool.blocks (blocks_of pools))
  | inr later ↦
      let rest = number_within (number - length pool.blocks) pools block behind (sym (ap (λ b. cond b (drop number pool.blocks) (blocks_from (number - length pool.blocks) pools)) later) ∙ is) in
      omega (arith, ltb-false number (length pool.blocks) later, rest, length-append pool.blocks (blocks_of pools))
]

drop_next : (number : ℕ) (blocks : List (Block ℕ)) (block next : Block ℕ) (behind : List (Block ℕ)) → drop number blocks ≡ block ∷ next ∷ behind → (drop (number + 1) blocks ≡ next ∷ behind) × (number + 1 < length blocks)
drop_next zero blocks block next behind is = (ap (drop 1) is, omega (arith, ap length is))
drop_next (suc number) [] block next behind is = absurd (cc)
drop_next (suc number) (first ∷ blocks) block next behind is =
    let rest = drop_next number blocks block next behind is in
    let one : suc number + 1 ≡ suc (number + 1) = omega arith in
    (ap (λ n. drop n (first ∷ blocks)) one ∙ rest.0, omega (arith, rest.1))

-- those behind it in its pool have one more
pub blocks_behind : (number : ℕ) (pools : List (Pool ℕ)) (block next : Block ℕ) (behind : List (Block ℕ)) → blocks_from number pools ≡ block ∷ next ∷ behind → blocks_from (number + 1) pools ≡ next ∷ behind
blocks_behind number [] block next behind is = absurd (cc)
blocks_behind number (pool ∷ pools) block next behind is = elim (cases_Bool (nat_lt number (length pool.blocks))) [
  | inl here ↦
      let both = drop_next number pool.blocks block next behind (sym (ap (λ b. cond b (drop number pool.blocks) (blocks_from (number - length pool.blocks) pools)) here) ∙ is) in
      ap (λ b. cond b (drop (number + 1) pool.blocks) (blocks_from (number + 1 - length pool.blocks) pools)) (lt-ltb (number + 1) (length pool.blocks) both.1) ∙ both.0
  | inr later ↦
      let above = ltb-false number (length pool.blocks) later in
      let more : number + 1 - length pool.blocks ≡ number - length pool.blocks + 1 = omega (arith, above) in
      ap (λ b. cond b (drop (number + 1) pool.blocks) (blocks_from (number + 1 - length pool.blocks) pools)) (le-ltb (number + 1) (length pool.blocks) (omega (arith, above)))
      ∙ ap (λ n. blocks_from n pools) more
      ∙ blocks_behind (number - length pool.blocks) pools block next behind (sym (ap (λ b. cond b (drop number pool.blocks) (blocks_from (number - length pool.blocks) pools)) later) ∙ is)
]

-- the rows from a block on are its own, and those from the one behind it on
pub rows_next : (number : ℕ) (pools : List (Pool ℕ)) (start next : Option ℕ) (block : Block ℕ) (behind : List (Block ℕ)) → start ≡ Some number → blocks_from number pools ≡ block ∷ behind
    → ((length behind ≡ 0) × (next ≡ None)) ⊎ ((0 < length behind) × (next ≡ Some (number + 1))) → rows_from_number start pools ≡ row_of block ∷ rows_from_number next pools
rows_next number pools start next block behind is found which =
    ap (λ o. rows_from_number o pools) is ∙ ap (map row_of) found ∙ ap (λ rows. row_of block ∷ rows) (rest behind found which)
  where
    rest : (others : List (Block ℕ)) → blocks_from number pools ≡ block ∷ others → ((length others ≡ 0) × (next ≡ None)) ⊎ ((0 < length others) × (next ≡ Some (number + 1))) → map row_of others ≡ rows_from_number next pools
    rest [] at (inl last) = sym (ap (λ o. rows_from_number o pools) last.1)
    rest [] at (inr more) = absurd (omega (arith, more.0))
    rest (other ∷ others) at (inl last) = absurd (omega (arith, last.0))
    rest (other ∷ others) at (inr more) = sym (ap (λ o. rows_from_number o pools) more.1 ∙ ap (map row_of) (blocks_behind number pools block other others at))

-- the rows from a number on, or why there are none
abbrev pub rows_by : List (Pool ℕ) → Option ℕ → Result (List Row) Refusal
rows_by pools None = Err NoPool
rows_by pools (Some number) = Ok (map row_of (blocks_from number pools))

pool_passed : (pool : Pool ℕ) (pools : List (Pool ℕ)) (o : Option ℕ) → rows_by pools o ≡ rows_by (pool ∷ pools) (option_map (λ number. length pool.blocks + number) o)
pool_passed pool pools None = refl
pool_passed pool pools (Some number) =
    let same : length pool.blocks + number - length pool.blocks ≡ number = omega arith in
    sym (ap (λ b. Ok (map row_of (cond b (drop (length pool.blocks + number) pool.blocks) (blocks_from (length pool.blocks + number - length pool.blocks) pools)))) (le-ltb (length pool.blocks + number) (length pool.blocks) (omega arith))
    ∙ ap (λ n. Ok (map row_of (blocks_from n pools))) same)

some_blocks : (from to : ℕ) (blocks : List (Block ℕ)) → from < to → Covers from to blocks → 0 < length blocks
some_blocks from to [] h c = absurd (omega (arith, h, c))
some_blocks from to (block ∷ blocks) h c = omega arith

-- the rows of the first pool that begins at the base
pub first_rows : (base from : ℕ) (pools : List (Pool ℕ)) → AreGoodPools from pools → rows_from base pools ≡ rows_by pools (blocks_in_front base pools)
first_rows base from [] g = refl
first_rows base from (pool ∷ pools) g = elim (cases_Bool (pool.base == base)) [
  | inl here ↦
      rw (here, lt-ltb 0 (length pool.blocks) (some_blocks pool.base (pool.base + pool.bytes) pool.blocks (omega (arith, g.1.least_bytes)) g.1.covered)) refl
  | inr later ↦ rw later (first_rows base (pool.base + pool.bytes) pools g.2 ∙ pool_passed pool pools (blocks_in_front base pools))
]
