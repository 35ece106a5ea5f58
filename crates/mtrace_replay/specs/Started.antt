-- The heap on which a log is replayed, before its first line.
use Rattle.std.specs.Prelude.{ℕ, zero, suc, ◌*◌, Result, Ok, Err}
use Rattle.tlsf_heap.specs.declared.refusal.Refusal.{Refusal}
use Rattle.tlsf_heap.specs.Content.{Content}
use Rattle.tlsf_heap.specs.Pools.{created, add_pool}
use Rattle.mtrace_replay.specs.declared.heap.settings.Settings.{Settings}

-- a heap seen without what its live blocks are known by
abbrev pub Bare : Type 0
Bare = Content (Unit {0})

-- what a call leaves, by its answer: a refusal changes nothing
abbrev pub left_by : Bare → Result Bare Refusal → Bare
left_by content (Ok new) = new
left_by content (Err refusal) = content

-- the first pools of the settings are added, the highest first
abbrev pub with_pools : Settings → ℕ → Bare → Bare
with_pools settings zero content = content
with_pools settings (suc i) content = with_pools settings i (left_by content (add_pool (i * settings.pool) settings.pool content))

-- the heap before the first line
unfoldable pub started : Settings → Bare
started settings = with_pools settings settings.pools (created settings.records)
