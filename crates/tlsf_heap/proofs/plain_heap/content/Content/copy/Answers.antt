-- Copied lists are equal.
use Rattle.std.proofs.Common.{ap, ◌∙◌, List, ℕ}
use Rattle.std.specs.List.{each_same}
use Rattle.tlsf_heap.specs.Content.{Pool}
use Rattle.tlsf_heap.specs.PlainHeap.{lists_of}
use Rattle.tlsf_heap.proofs.Plain.Lists.{lists_cloned}
use Rattle.tlsf_heap.proofs.plain_heap.content.Content.copy.Goals as goal

pub returns : goal.returns
returns c =
    let pools = c.self.inside.pools.items in
    ap (λ (ps : List (Pool ℕ)). record { records = c.self.inside.records; pools = ps; lists = lists_of c.in_ok-clone-2.field-0.items }) (each_same pools c.in_ok-clone.field-0.items c.in_ok-clone.ensures.cases.0)
    ∙ ap (λ (ls : List (List ℕ)). record { records = c.self.inside.records; pools = pools; lists = ls }) (lists_cloned c.self.inside.lists.items c.in_ok-clone-2.field-0.items c.in_ok-clone-2.ensures.cases.0)
    ∙ c.self.view_is
