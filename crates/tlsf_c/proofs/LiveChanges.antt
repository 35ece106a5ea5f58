-- What calls of the heap leave of the number of live blocks and of their bytes.
use Rattle.std.proofs.Common.{◌≡◌, ℕ, ◌+◌, ◌*◌, ◌≤◌, List, [], ◌∷◌, refl, ap, arith, count_by, Some, Ok, inl, inr}
use Rattle.std.specs.Prelude.{◌==◌, ◌/◌, not, if◌then◌else◌}
use Rattle.std.specs.List.{AllByRecursion}
use Rattle.std.proofs.lemmas.Bool.{cases_Bool, eq-eqb}
use Rattle.tlsf_heap.specs.Content.{Block, Content, blocks_of, is_free}
use Rattle.tlsf_heap.specs.Free.{after_free}
use Rattle.tlsf_heap.specs.Good.{IsGood}
use Rattle.tlsf_heap.specs.Implied.{live_blocks}
use Rattle.tlsf_heap.specs.Pointer.{Pointer, free_ptr, realloc_ptr, block_size_ptr}
use Rattle.tlsf_heap.specs.Pools.{add_pool, remove_pool}
use Rattle.tlsf_heap.specs.Room.{live_bytes}
use Rattle.tlsf_heap.proofs.Counts.{one_if, count-cons}
use Rattle.tlsf_heap.proofs.Content.Given.{free_gave}
use Rattle.tlsf_heap.proofs.Good.LiveBytes.{given_bytes, given_blocks, freed_less, realloc_figures, add_pool_figures, remove_pool_figures, live_most}
use Rattle.tlsf_heap.proofs.Good.MallocIsGood.{IsWholeBlock, whole_in_pools}
use Rattle.tlsf_heap.proofs.Meaning.FreedIsGood.{freed_is_good}
use Rattle.tlsf_region.proofs.Sizes.{size_is}
use Rattle.tlsf_c.specs.Fronts.{front}
use Rattle.tlsf_c.specs.declared.live_figures.LiveFigures.{LiveFigures}
use Rattle.tlsf_c.specs.LiveFigures.{AreFigures, IsLiveChange}
use Rattle.tlsf_c.proofs.GivenBlock.{IsGiven, given_size}

-- each live block has more bytes than a front
fronts_among : (blocks : List (Block ℕ)) → AllByRecursion IsWholeBlock blocks → front * count_by (λ block. not (is_free block)) blocks ≤ live_bytes blocks
fronts_among [] all = omega arith
fronts_among (block ∷ blocks) all = elim (cases_Bool (is_free block)) [
  | inl free ↦
      let rest : live_bytes (block ∷ blocks) ≡ 0 + live_bytes blocks = ap (λ b. (if b then 0 else block.size) + live_bytes blocks) free in
      omega (arith, rest, count-cons (λ (b : Block ℕ). not (is_free b)) block blocks, ap (λ f. one_if (not f)) free, fronts_among blocks all.1)
  | inr live ↦
      let rest : live_bytes (block ∷ blocks) ≡ block.size + live_bytes blocks = ap (λ b. (if b then 0 else block.size) + live_bytes blocks) live in
      omega (arith, rest, count-cons (λ (b : Block ℕ). not (is_free b)) block blocks, ap (λ f. one_if (not f)) live, all.0.positive, all.0.in_units, fronts_among blocks all.1)
]

pub fronts_least : (content : Content ℕ) → IsGood content → front * live_blocks content ≤ live_bytes (blocks_of content.pools)
fronts_least content good = fronts_among (blocks_of content.pools) (whole_in_pools 0 content.pools good.pools_good)

pub given_change : (bytes : ℕ) (ptr : Pointer) (old new : Content ℕ) → IsGood old → IsGood new → IsGiven bytes ptr old new → IsLiveChange 0 0 1 ((bytes + 15) / 16 * 16) old new
given_change bytes ptr old new good good_new is =
    let size = size_is ptr new ((bytes + 15) / 16 * 16) (given_size bytes ptr old new good_new is) in
    record {
      blocks = omega (arith, given_blocks ptr.slot ptr.place old new good good_new is.gives);
      bytes = omega (arith, given_bytes ptr.slot ptr.place old new good good_new is.gives, size.1);
      held = omega (arith, fronts_least old good);
      least = fronts_least new good_new;
      most = omega (arith, live_most new good_new);
    }

-- what is left without a live block holds the fronts of the others
held_without : (ptr : Pointer) (size : ℕ) (content : Content ℕ) → IsGood content → block_size_ptr ptr content ≡ Ok size → front * live_blocks content + size ≤ live_bytes (blocks_of content.pools) + front
held_without ptr size content good told =
    let is = size_is ptr content size told in
    let meant = λ (slot : ℕ). slot == ptr.slot in
    let less = freed_less meant ptr.place content good is.0 in
    omega (arith, is.1, less.0, less.1, fronts_least (after_free ptr.place content) (freed_is_good meant ptr.place content good is.0))

pub freed_change : (ptr : Pointer) (size : ℕ) (old new : Content ℕ) → IsGood old → IsGood new → block_size_ptr ptr old ≡ Ok size → free_ptr ptr old ≡ Ok new → IsLiveChange 1 size 0 0 old new
freed_change ptr size old new good good_new told freed =
    let is = size_is ptr old size told in
    let meant = λ (slot : ℕ). slot == ptr.slot in
    let gave = free_gave meant ptr.place old new freed in
    let less = freed_less meant ptr.place old good is.0 in
    record {
      blocks = omega (arith, less.1, ap (λ (k : Content ℕ). live_blocks k) gave.1);
      bytes = omega (arith, less.0, is.1, ap (λ (k : Content ℕ). live_bytes (blocks_of k.pools)) gave.1);
      held = omega (arith, held_without ptr size old good told);
      least = fronts_least new good_new;
      most = omega (arith, live_most new good_new);
    }

pub resized_change : (ptr given : Pointer) (n had has : ℕ) (old new : Content ℕ) → IsGood old → IsGood new → block_size_ptr ptr old ≡ Ok had → block_size_ptr given new ≡ Ok has → realloc_ptr (Some ptr) n given.slot old ≡ Ok (Some (given.place, given.slot), new) → IsLiveChange 1 had 1 has old new
resized_change ptr given n had has old new good good_new told told_now served =
    let is = size_is ptr old had told in
    let now = size_is given new has told_now in
    let figures = realloc_figures (λ a b. a == b) given.slot ptr.slot ptr.place n old (λ a. eq-eqb a a refl) good (Some (given.place, given.slot), new) served in
    record {
      blocks = omega (arith, figures.1);
      bytes = omega (arith, figures.0, is.1, now.1);
      held = omega (arith, held_without ptr had old good told);
      least = fronts_least new good_new;
      most = omega (arith, live_most new good_new);
    }

pub added_change : (place bytes : ℕ) (old new : Content ℕ) → IsGood old → IsGood new → add_pool place bytes old ≡ Ok new → IsLiveChange 0 0 0 0 old new
added_change place bytes old new good good_new added =
    let same = add_pool_figures place bytes old new good added in
    record { blocks = omega (arith, same.1); bytes = omega (arith, same.0); held = omega (arith, fronts_least old good); least = fronts_least new good_new; most = omega (arith, live_most new good_new) }

pub removed_change : (place : ℕ) (old new : Content ℕ) → IsGood old → IsGood new → remove_pool place old ≡ Ok new → IsLiveChange 0 0 0 0 old new
removed_change place old new good good_new removed =
    let same = remove_pool_figures place old new good removed in
    record { blocks = omega (arith, same.1); bytes = omega (arith, same.0); held = omega (arith, fronts_least old good); least = fronts_least new good_new; most = omega (arith, live_most new good_new) }

-- figures that stay are those of a heap whose live blocks stay
pub same_figures : (figures : LiveFigures) (old new : Content ℕ) → IsLiveChange 0 0 0 0 old new → AreFigures figures old → AreFigures figures new
same_figures figures old new change are = record {
  blocks = omega (arith, are.blocks, change.blocks);
  bytes = omega (arith, are.bytes, change.bytes);
  most = are.most;
  again = are.again;
}
