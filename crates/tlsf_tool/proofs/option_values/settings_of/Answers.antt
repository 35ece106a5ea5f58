-- Each setting is read, or its fault told.
use Rattle.tlsf_tool.proofs.option_values.settings_of.Goals as goal

pub returns-in_err-pool : goal.returns-in_err-pool
returns-in_err-pool c = rw c.from_residual.ensures (record { given = tt; other = λ settings has. c.in_err-pool.ensures.other settings.pool has.0 })

pub returns-in_err-pools : goal.returns-in_err-pools
returns-in_err-pools c = rw c.from_residual-in_err-pools.ensures (record { given = tt; other = λ settings has. c.in_err-pools.ensures.other settings.pools has.1 })

pub returns-in_err-records : goal.returns-in_err-records
returns-in_err-records c = rw c.from_residual-in_err-records.ensures (record { given = tt; other = λ settings has. c.in_err-records.ensures.other settings.records has.2 })
