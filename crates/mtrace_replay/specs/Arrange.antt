-- The keys under which something is held.
use Rattle.std.specs.Prelude.{List, filter, is_some}
use Rattle.mtrace_replay.specs.declared.heap.key.Key.{Key}

-- the held keys, in their order
abbrev pub held_keys : List Key → List Key
held_keys keys = filter (λ key. is_some key.block) keys
