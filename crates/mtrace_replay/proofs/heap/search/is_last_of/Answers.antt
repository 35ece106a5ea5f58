-- What the test tells of the key in front and of the key behind.
use Rattle.std.proofs.Common.{◌≡◌, length, is_some, not, arith, sym, ap, ◌∙◌}
use Rattle.std.proofs.Math.Bool.{not-not}
use Rattle.std.proofs.lemmas.Bool.Decides.{nat_tests}
use Rattle.mtrace_replay.proofs.Index.SearchLemmas.{held_stands, last_stands, two_digits}
use Rattle.mtrace_replay.proofs.heap.search.is_last_of.Goals as goal

pub returns-then-not-is_vacant-clause-stands : goal.returns-then-not-is_vacant-clause-stands
returns-then-not-is_vacant-clause-stands c told =
    let same = sym c.compare.ensures.same ∙ (sym (not-not c.compare.result.is_same) ∙ ap not c.if-not-compare.false) in
    let held = sym (not-not (is_some c.key-key.result.block)) ∙ ap not (sym c.is_vacant.ensures ∙ c.if-not-is_vacant.true) in
    held_stands c.args.keys.now.keys c.args.address c.args.at c.requires (omega (arith, c.len.ensures.len, c.if-at-len.false)) c.key-key.result (sym (c.key-key.ensures c.key-key.result)) (grind (arith, nat_tests, same)) held

pub returns-else-behind-len-clause-stands : goal.returns-else-behind-len-clause-stands
returns-else-behind-len-clause-stands c told =
    let keys = c.args.keys.now.keys in
    let same = sym c.compare.ensures.same ∙ (sym (not-not c.compare.result.is_same) ∙ ap not c.if-not-compare.false) in
    let none : c.compare-else-behind-len.result.reaches ≡ 0 = grind (arith, nat_tests, told) in
    last_stands keys c.args.address c.args.at c.requires (omega (arith, c.len.ensures.len, c.len-2.ensures.len, c.if-at-len.false, c.if-behind-len.false)) c.key-key.result c.key.result
    (sym (c.key-key.ensures c.key-key.result)) (grind (arith, nat_tests, same)) (sym (c.key.ensures c.key.result)) (c.compare-else-behind-len.ensures.above none)

pub returns-else-behind-len-clause-compared : goal.returns-else-behind-len-clause-compared
returns-else-behind-len-clause-compared c digits few =
    let two = two_digits (length c.args.keys.now.keys) digits (omega (arith, c.len.ensures.len, c.len-2.ensures.len, c.if-at-len.false, c.if-behind-len.false)) few in
    omega (arith, two, c.compare.ensures.counted, c.compare-else-behind-len.ensures.counted)
