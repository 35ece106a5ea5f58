-- The last level with a bit, then its last class.
use Rattle.std.proofs.Common.{ℕ, arith}
use Rattle.tlsf_store.specs.Cells.{Cells}
use Rattle.tlsf_heap.proofs.Bits.Search.{level_within}
use Rattle.tlsf_heap.proofs.Bits.LastHead.{highest_set, word_not_zero, bit_has_head, none_behind_last}
use Rattle.tlsf_heap.proofs.search.last_class.Goals as goal

pub step_word-requires : goal.step_word-requires
step_word-requires c =
    level_within c.level_word.result c.in_ok-level.level c.level_word.ensures.below (highest_set c.level_word.result c.in_ok-level.level c.in_ok-level.ensures.power_le c.in_ok-level.ensures.next_power_gt)

pub returns-in_err-step-clause-none : goal.returns-in_err-step-clause-none
returns-in_err-step-clause-none c =
    let old : Cells = c.args.store.now.cells in
    let level : ℕ = c.in_ok-level.level in
    let set = highest_set c.level_word.result level c.in_ok-level.ensures.power_le c.in_ok-level.ensures.next_power_gt in
    let within = level_within c.level_word.result level c.level_word.ensures.below set in
    absurd (word_not_zero old.heads old.step_words old.level_word c.requires.bitmaps c.requires.count level within (rw c.level_word.ensures.value at set)
    (rw (c.step_word.ensures.value, c.level_word.ensures.left.cells) at c.in_err-step.ensures.none))

pub new-requires : goal.new-requires
new-requires c =
    let set = highest_set c.level_word.result c.in_ok-level.level c.in_ok-level.ensures.power_le c.in_ok-level.ensures.next_power_gt in
    let within = level_within c.level_word.result c.in_ok-level.level c.level_word.ensures.below set in
    omega (arith, within, c.in_ok-step.ensures.bound)

pub returns-clause-last : goal.returns-clause-last
returns-clause-last c =
    let old : Cells = c.args.store.now.cells in
    let level : ℕ = c.in_ok-level.level in
    let set = highest_set c.level_word.result level c.in_ok-level.ensures.power_le c.in_ok-level.ensures.next_power_gt in
    let within = level_within c.level_word.result level c.level_word.ensures.below set in
    let step_set = highest_set c.step_word.result c.in_ok-step.step c.in_ok-step.ensures.power_le c.in_ok-step.ensures.next_power_gt in
    rw c.new.ensures (record {
      within = omega (arith, within, c.in_ok-step.ensures.bound);
      found = bit_has_head old.heads old.step_words old.level_word c.requires.bitmaps c.requires.count level c.in_ok-step.step within c.in_ok-step.ensures.bound
          (rw (c.step_word.ensures.value, c.level_word.ensures.left.cells) at step_set);
      last = none_behind_last old.heads old.step_words old.level_word c.requires.bitmaps c.requires.count level c.in_ok-step.step
          (rw c.level_word.ensures.value at c.in_ok-level.ensures.next_power_gt)
          (rw (c.step_word.ensures.value, c.level_word.ensures.left.cells) at c.in_ok-step.ensures.next_power_gt);
    })
