-- The class is found in its own level, or in one above.
use Rattle.std.proofs.Common.{◌<◌, ◌/◌, sym, ◌∙◌, arith}
use Rattle.tlsf_class.specs.Classes.{steps, classes}
use Rattle.tlsf_store.specs.Cells.{Cells}
use Rattle.tlsf_heap.proofs.Bits.Search.{passes_level, found_in_level}
use Rattle.tlsf_heap.proofs.Bits.LastHead.{bit_has_head}
use Rattle.tlsf_heap.proofs.search.search.Goals as goal

pub returns-in_default-clause-listed : goal.returns-in_default-clause-listed
returns-in_default-clause-listed c = rw c.step_word-word.ensures.left.cells at c.search_levels.ensures.listed

pub returns-in_default-clause-value : goal.returns-in_default-clause-value
returns-in_default-clause-value c =
    let old : Cells = c.args.store.now.cells in
    let within : c.args.class < classes = omega (arith, c.number-level.ensures.value, c.number-level.ensures.below) in
    let none = rw (c.in_default.is, c.step_word-word.ensures.value, c.number-level.ensures.value, c.number.ensures.value) at c.lowest_from.ensures in
    (rw (c.step_word-word.ensures.left.cells, c.number-level.ensures.value) at c.search_levels.ensures.value)
    ∙ (sym (passes_level old.heads old.step_words old.level_word c.requires.bitmaps c.requires.count c.args.class within none))

pub returns-clause-value : goal.returns-clause-value
returns-clause-value c =
    let old : Cells = c.args.store.now.cells in
    let within : c.args.class < classes = omega (arith, c.number-level.ensures.value, c.number-level.ensures.below) in
    let lowest = rw (c.step_word-word.ensures.value, c.number-level.ensures.value, c.number.ensures.value) at c.in-Some.ensures in
    rw (c.new.ensures, c.number-level.ensures.value)
    (found_in_level old.heads old.step_words old.level_word c.requires.bitmaps c.requires.count c.args.class c.in-Some.step within lowest)

pub returns-clause-listed : goal.returns-clause-listed
returns-clause-listed c =
    let old : Cells = c.args.store.now.cells in
    let within : c.args.class < classes = omega (arith, c.number-level.ensures.value, c.number-level.ensures.below) in
    let lowest = rw (c.step_word-word.ensures.value, c.number-level.ensures.value, c.number.ensures.value) at c.in-Some.ensures in
    rw (c.new.ensures, c.number-level.ensures.value)
    (bit_has_head old.heads old.step_words old.level_word c.requires.bitmaps c.requires.count (c.args.class / steps) c.in-Some.step (omega (arith, within)) (omega (arith, lowest.1)) lowest.2)
