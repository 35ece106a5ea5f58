-- The pool enters at the place found, or none has room.
use Rattle.std.proofs.Common.{ℕ, ◌-◌, ◌*◌, ◌/◌, sym, subst, inl, inr}
use Rattle.std.specs.List.{All}
use Rattle.tlsf_c.specs.Fronts.{front}
use Rattle.tlsf_c.specs.PlacedPools.{CanBePlaced, IsClearOf}
use Rattle.tlsf_c.specs.PoolPlaces.{first_in, IsPoolAdded, IsPoolRefused}
use Rattle.tlsf_c.proofs.placed_memory.tlsf_placed_add_pool.Goals as goal

pub returns-in-Some-clause-added : goal.returns-in-Some-clause-added
returns-in-Some-clause-added c = λ served.
    subst (λ (n : ℕ). IsPoolAdded c.args.align (first_in c.args.memory) (n / 16 * 16) c.add_pool_at.new.entry c.args.heap.now.pools c.add_pool_at.new.heap.pools c.args.heap.now.handle.value.content c.add_pool_at.new.heap.handle.value.content) c.saturating_sub.ensures
    (record { place = c.in-Some.place; like = c.in-Some.ensures.0; added = c.add_pool_at.ensures.ok served; entered = c.add_pool_at.ensures.entered served })

pub returns-in-Some-clause-reason : goal.returns-in-Some-clause-reason
returns-in-Some-clause-reason c = λ refused is within can clear.
    let bytes_is = sym c.saturating_sub.ensures in
    let can_whole : CanBePlaced (first_in c.args.memory) (c.saturating_sub.result / 16 * 16) = subst (λ (n : ℕ). CanBePlaced (first_in c.args.memory) (n / 16 * 16)) bytes_is can in
    let clear_whole : All (IsClearOf (first_in c.args.memory) (c.saturating_sub.result / 16 * 16 - front)) c.args.heap.now.pools = subst (λ (n : ℕ). All (IsClearOf (first_in c.args.memory) (n / 16 * 16 - front)) c.args.heap.now.pools) bytes_is clear in
    subst (λ (n : ℕ). IsPoolRefused c.args.align (first_in c.args.memory) (n / 16 * 16) c.add_pool_at.result c.args.heap.now.pools c.args.heap.now.handle.value.content) c.saturating_sub.ensures
    (elim (c.add_pool_at.ensures.reason refused can_whole clear_whole) [
      | inl by_heap ↦ inr (inr (c.in-Some.place, c.in-Some.ensures.0, c.in-Some.ensures.1, by_heap))
      | inr full ↦ inr (inl full)
    ])

pub returns-in-None-clause-reason : goal.returns-in-None-clause-reason
returns-in-None-clause-reason c = λ refused is within can clear.
    subst (λ (n : ℕ). IsPoolRefused c.args.align (first_in c.args.memory) (n / 16 * 16) c.number-in-None.result c.args.heap.now.pools c.args.heap.now.handle.value.content) c.saturating_sub.ensures
    (inl (c.number-in-None.ensures.value, c.in-None.ensures))
