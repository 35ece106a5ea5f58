-- One pool more of those that the heap starts with.
use Rattle.std.proofs.Common.{◌≡◌, ℕ, zero, suc, ◌-◌, ◌*◌, ◌<◌, ap, ◌∙◌, arith}
use Rattle.std.proofs.Math.Numerals.{sub-one}
use Rattle.tlsf_heap.specs.Pools.{add_pool}
use Rattle.mtrace_replay.specs.declared.heap.settings.Settings.{Settings}
use Rattle.mtrace_replay.specs.Started.{Bare, left_by, with_pools}

-- the highest pool that is left is added
pub with_pools-next : (settings : Settings) (left : ℕ) (content new : Bare) → 0 < left → new ≡ left_by content (add_pool ((left - 1) * settings.pool) settings.pool content)
    → with_pools settings (left - 1) new ≡ with_pools settings left content
with_pools-next settings zero content new some is = absurd (omega arith)
with_pools-next settings (suc i) content new some is =
    ap (with_pools settings (suc i - 1)) is
    ∙ ap (λ n. with_pools settings n (left_by content (add_pool (n * settings.pool) settings.pool content))) (sub-one (suc i))
