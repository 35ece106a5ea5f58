-- What isn't live is free, and the sizes of free blocks are told by the largest request.
use Rattle.std.proofs.Common.{ℕ, ◌≡◌, ◌+◌, ◌-◌, sym, ap, ◌∙◌, subst, arith}
use Rattle.tlsf_class.specs.Classes.{class}
use Rattle.tlsf_heap.specs.Content.{blocks_of}
use Rattle.tlsf_heap.specs.Counted.{Counted}
use Rattle.tlsf_heap.specs.Good.{IsGood}
use Rattle.tlsf_heap.specs.Readings.{IsLargestRequest}
use Rattle.tlsf_heap.proofs.Good.LiveBytes.{live_most}
use Rattle.tlsf_c.specs.FreeFigures.{free_bytes}
use Rattle.tlsf_c.specs.Fronts.{front}
use Rattle.tlsf_c.proofs.FreeBytes.{free_and_live}
use Rattle.tlsf_c.proofs.FreeSizes.{largest_with_front, no_request, class_with_front, free_within, same_class, none_within}
use Rattle.tlsf_c.proofs.LiveChanges.{fronts_least}
use Rattle.tlsf_c.proofs.free_figures.tlsf_placed_free_figures.Goals as goal

pub overflow_mul-live : goal.overflow_mul-live
overflow_mul-live c =
    let heap = c.args.heap.now in
    let content = heap.handle.value.content in
    let good = subst (λ (h : Counted). IsGood h.content) c.heap.ensures.value c.keeps_good.ensures.good in
    omega (arith, heap.figures_are.blocks, fronts_least content good, live_most content good)

pub overflow_add-live : goal.overflow_add-live
overflow_add-live c =
    let heap = c.args.heap.now in
    let content = heap.handle.value.content in
    let good = subst (λ (h : Counted). IsGood h.content) c.heap.ensures.value c.keeps_good.ensures.good in
    omega (arith, heap.figures_are.bytes, live_most content good)

pub overflow_sub-bytes : goal.overflow_sub-bytes
overflow_sub-bytes c =
    let heap = c.args.heap.now in
    let good = subst (λ (h : Counted). IsGood h.content) c.heap.ensures.value c.keeps_good.ensures.good in
    omega (arith, c.bytes_of_pools.ensures, free_and_live heap.figures heap.pools heap.handle.value.content good heap.apart heap.entries heap.figures_are)

pub returns-clause-bytes : goal.returns-clause-bytes
returns-clause-bytes c =
    let heap = c.args.heap.now in
    let good = subst (λ (h : Counted). IsGood h.content) c.heap.ensures.value c.keeps_good.ensures.good in
    omega (arith, c.bytes_of_pools.ensures, free_and_live heap.figures heap.pools heap.handle.value.content good heap.apart heap.entries heap.figures_are)

pub returns-clause-largest : goal.returns-clause-largest
returns-clause-largest c =
    let largest = c.tlsf_heap_largest_request-largest in
    let is = subst (λ (h : Counted). IsLargestRequest largest.result h.content) c.heap.ensures.value largest.ensures.largest in
    largest_with_front c.saturating_sub.result largest.result c.args.heap.now.handle.value.content (omega (arith, c.saturating_sub.ensures, c.from.ensures)) is

pub returns-clause-most : goal.returns-clause-most
returns-clause-most c = λ k d within free.
    let largest = c.tlsf_heap_largest_request-largest in
    let good = subst (λ (h : Counted). IsGood h.content) c.heap.ensures.value c.keeps_good.ensures.good in
    let is = subst (λ (h : Counted). IsLargestRequest largest.result h.content) c.heap.ensures.value largest.ensures.largest in
    omega (arith, free_within largest.result c.most_free-most.result c.most_free-most.ensures c.args.heap.now.handle.value.content good is k d within free, c.saturating_sub-2.ensures, c.from-2.ensures)

pub returns-clause-near : goal.returns-clause-near
returns-clause-near c =
    let largest = c.tlsf_heap_largest_request-largest.result in
    let most = c.most_free-most.result in
    let request_is : c.saturating_sub.result ≡ largest - front = omega (arith, c.saturating_sub.ensures, c.from.ensures) in
    let most_is : c.saturating_sub-2.result ≡ most - front = omega (arith, c.saturating_sub-2.ensures, c.from-2.ensures) in
    ap (λ (n : ℕ). class (n + front)) request_is ∙ class_with_front largest ∙ same_class largest most c.most_free-most.ensures ∙ sym (ap (λ (n : ℕ). class (n + front)) most_is ∙ class_with_front most)

pub returns-clause-none : goal.returns-clause-none
returns-clause-none c = λ nothing.
    let heap = c.args.heap.now in
    let content = heap.handle.value.content in
    let largest = c.tlsf_heap_largest_request-largest in
    let good = subst (λ (h : Counted). IsGood h.content) c.heap.ensures.value c.keeps_good.ensures.good in
    let is = subst (λ (h : Counted). IsLargestRequest largest.result h.content) c.heap.ensures.value largest.ensures.largest in
    let none : free_bytes (blocks_of content.pools) ≡ 0 = omega (arith, nothing, c.bytes_of_pools.ensures, free_and_live heap.figures heap.pools content good heap.apart heap.entries heap.figures_are) in
    let zero = no_request content good largest.result is none in
    let most = none_within largest.result c.most_free-most.result c.most_free-most.ensures zero in
    (omega (arith, zero, c.saturating_sub.ensures, c.from.ensures), omega (arith, most, c.saturating_sub-2.ensures, c.from-2.ensures))
