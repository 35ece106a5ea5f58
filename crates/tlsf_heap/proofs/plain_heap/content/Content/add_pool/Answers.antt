-- Pools stay in order of base.
use Rattle.std.proofs.Common.{◌≡◌, sym, ap, arith, ◌∙◌, List, ℕ, length}
use Rattle.std.specs.Prelude.{nat_lt, position, unwrap_or}
use Rattle.std.specs.List.{insert}
use Rattle.std.proofs.lemmas.Result.{on_ok_weaker}
use Rattle.tlsf_heap.specs.Content.{Content, Pool}
use Rattle.tlsf_heap.specs.Lists.{link}
use Rattle.tlsf_heap.specs.Malloc.{gap}
use Rattle.tlsf_heap.specs.Pools.{with_pool, in_order_of_base}
use Rattle.tlsf_heap.specs.PlainHeap.{lists_of}
use Rattle.tlsf_heap.proofs.Inserted.{insert_is}
use Rattle.tlsf_heap.proofs.plain_heap.content.Content.add_pool.Goals as goal

pub returns : goal.returns
returns c =
    let pool : Pool ℕ = record { base = c.args.base; bytes = c.args.bytes; blocks = gap c.args.base c.args.bytes } in
    let pools = c.self.inside.pools.items in
    let len : c.len.result ≡ length pools = omega (arith, c.len.ensures, c.self.inside.pools.ok.0) in
    let stands : c.insert.new.self.items ≡ in_order_of_base pool pools =
    c.in_ok-insert.ensures.items
    ∙ ap (insert pools c.unwrap_or-place.result) c.in_ok-pool.ensures
    ∙ ap (λ n. insert pools n pool) (c.unwrap_or-place.ensures ∙ ap (unwrap_or c.first_behind.result) len ∙ ap (λ o. unwrap_or o (length pools)) c.first_behind.ensures.number)
    ∙ ap (λ content. insert pools (unwrap_or (position (λ other. nat_lt c.args.base other.base) content.pools) (length pools)) pool) (sym c.self.view_is)
    ∙ insert_is (λ other. other.base) pool pools in
    on_ok_weaker c.link.result (λ is.
    is
    ∙ ap (λ (ps : List (Pool ℕ)). record { records = c.self.inside.records; pools = ps; lists = link c.args.base c.args.bytes (lists_of c.self.inside.lists.items) }) stands
    ∙ ap (λ (content : Content ℕ). with_pool c.args.base c.args.bytes content) c.self.view_is) c.link.ensures
