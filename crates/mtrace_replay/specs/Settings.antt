-- The settings of a replay.
use Rattle.std.specs.Prelude.{◌*◌, ◌%◌, Bool, not, ◌||◌, ◌==◌, nat_lt}
use Rattle.tlsf_class.specs.Classes.{unit, greatest_size}
use Rattle.mtrace_replay.specs.declared.heap.settings.Settings.{Settings}
use Rattle.tlsf_heap.specs.Pools.{most_pools, most_records, end_of_places}

-- `pool` isn't a whole number of units from one to the greatest size; `pools` isn't 1 to 8; `records`
-- isn't 1 to 65535 or is below `pools`; or the pools end above the last place
abbrev pub are_bad : Settings → Bool
are_bad settings =
    not (settings.pool % unit == 0) || (nat_lt settings.pool unit || (nat_lt greatest_size settings.pool
    || (nat_lt settings.pools 1 || (nat_lt most_pools settings.pools
    || (nat_lt settings.records 1 || (nat_lt most_records settings.records || (nat_lt settings.records settings.pools
    || nat_lt end_of_places (settings.pool * settings.pools))))))))
