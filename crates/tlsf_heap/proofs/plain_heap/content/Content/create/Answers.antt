use Rattle.std.proofs.Common.{◌≡◌, ℕ, List, arith, ap, ◌∙◌, replicate, []}
use Rattle.tlsf_class.specs.Classes.{classes}
use Rattle.tlsf_heap.specs.PlainHeap.{lists_of}
use Rattle.tlsf_heap.proofs.plain_heap.content.Content.create.Goals as goal

-- no pool, and all lists
pub returns : goal.returns
returns c =
    let all : c.loop-class._class ≡ classes = omega (arith, c.loop-class-test.false, c.loop-class.auto) in
    ap (λ ps. record { records = c.args.records; pools = ps; lists = lists_of c.loop-class.lists.items }) c.new-2.ensures.items
    ∙ ap (λ (ls : List (List ℕ)). record { records = c.args.records; pools = []; lists = ls }) (c.loop-class.invariant ∙ ap (λ n. replicate n []) all)
