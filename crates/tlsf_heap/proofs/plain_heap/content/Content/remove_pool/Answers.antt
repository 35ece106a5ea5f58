-- Pools and list without what begins there.
use Rattle.std.proofs.Common.{rules, ◌≡◌, ℕ, not, filter, ap, ◌∙◌, List}
use Rattle.std.proofs.lemmas.Fn.{filter_same}
use Rattle.tlsf_heap.specs.Content.{Content, Pool}
use Rattle.tlsf_heap.specs.Pools.{is_based}
use Rattle.tlsf_heap.specs.PlainHeap.{lists_of}
use Rattle.tlsf_heap.proofs.plain_heap.content.Content.remove_pool.Goals as goal

pub returns : goal.returns
returns c =
    let others : List (Pool ℕ) → List (Pool ℕ) = filter (λ pool. not (is_based c.args.base pool)) in
    let left : c.retain.new.self.items ≡ others c.self.inside.pools.items = filter_same _ _ _ (λ x b f k. search rules) _ _ c.retain.ensures.filtered in
    ap (λ (pools : List (Pool ℕ)). record { records = c.self.inside.records; pools = pools; lists = lists_of c.self.inside.lists.items }) left
    ∙ ap (λ (content : Content ℕ). record content { pools = others content.pools }) (c.self.view_is ∙ c.unlink.ensures)
