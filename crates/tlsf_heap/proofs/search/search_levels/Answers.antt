-- The first level above with a bit, then its first class.
use Rattle.std.proofs.Common.{ℕ, sym, arith}
use Rattle.tlsf_store.specs.Cells.{Cells}
use Rattle.tlsf_heap.proofs.Bits.Search.{passes_all, found_above, has_step, level_within}
use Rattle.tlsf_heap.proofs.Bits.LastHead.{bit_has_head}
use Rattle.tlsf_heap.proofs.search.search_levels.Goals as goal

pub returns-in_err-level-clause-value : goal.returns-in_err-level-clause-value
returns-in_err-level-clause-value c =
    let old : Cells = c.args.store.now.cells in
    let none = rw (c.in_err-level.was, c.level_word-word.ensures.value) at c.lowest_from.ensures in
    rw c.from_residual.ensures (sym (passes_all old.heads old.step_words old.level_word c.requires.bitmaps c.requires.count c.args.from c.requires.within none))

pub step_word-requires : goal.step_word-requires
step_word-requires c = level_within c.level_word-word.result c.in_ok-level.level c.level_word-word.ensures.below c.in_ok-level.ensures.2

pub returns-in_err-step-clause-value : goal.returns-in_err-step-clause-value
returns-in_err-step-clause-value c =
    let old : Cells = c.args.store.now.cells in
    let level : ℕ = c.in_ok-level.level in
    let below = level_within c.level_word-word.result level c.level_word-word.ensures.below c.in_ok-level.ensures.2 in
    let fits = rw (c.step_word.ensures.value, c.level_word-word.ensures.left.cells) at c.step_word.type_inv in
    let none = rw (c.in_err-step.was, c.step_word.ensures.value, c.level_word-word.ensures.left.cells) at c.lowest_from-2.ensures in
    let set = rw c.level_word-word.ensures.value at c.in_ok-level.ensures.2 in
    absurd (has_step old.heads old.step_words old.level_word c.requires.bitmaps c.requires.count level below set fits none)

pub new-requires : goal.new-requires
new-requires c = let below = level_within c.level_word-word.result c.in_ok-level.level c.level_word-word.ensures.below c.in_ok-level.ensures.2 in omega (arith, below, c.in_ok-step.ensures.1)

pub returns-clause-value : goal.returns-clause-value
returns-clause-value c =
    let old : Cells = c.args.store.now.cells in
    let level : ℕ = c.in_ok-level.level in
    let below = level_within c.level_word-word.result level c.level_word-word.ensures.below c.in_ok-level.ensures.2 in
    let high = rw c.level_word-word.ensures.value at c.in_ok-level.ensures in
    let low = rw (c.step_word.ensures.value, c.level_word-word.ensures.left.cells) at c.in_ok-step.ensures in
    rw c.new.ensures
    (found_above old.heads old.step_words old.level_word c.requires.bitmaps c.requires.count c.args.from level c.in_ok-step.step below high low)

pub returns-clause-listed : goal.returns-clause-listed
returns-clause-listed c =
    let old : Cells = c.args.store.now.cells in
    let below = level_within c.level_word-word.result c.in_ok-level.level c.level_word-word.ensures.below c.in_ok-level.ensures.2 in
    let low = rw (c.step_word.ensures.value, c.level_word-word.ensures.left.cells) at c.in_ok-step.ensures in
    rw c.new.ensures
    (bit_has_head old.heads old.step_words old.level_word c.requires.bitmaps c.requires.count c.in_ok-level.level c.in_ok-step.step below (omega (arith, low.1)) low.2)
