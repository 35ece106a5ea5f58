-- The numbers that C programs get for what a call answers.
use Rattle.std.specs.Prelude.{ℕ, Result, Ok, Err}
use Rattle.tlsf_heap.specs.declared.refusal.Refusal.{Refusal}
use Rattle.tlsf_heap.specs.declared.refusal.Refusal.TheVariants.{ZeroSize, NoFit, TableFull, BadPointer, BadAlign, BadPool, PoolsFull, PoolInUse, OutOfMemory, NoPool}

-- the number of a refusal
abbrev pub number : Refusal → ℕ
number ZeroSize = 1
number NoFit = 2
number TableFull = 3
number BadPointer = 4
number BadAlign = 5
number BadPool = 6
number PoolsFull = 7
number PoolInUse = 8
number OutOfMemory = 9
number NoPool = 10

-- the number of records isn't from 1 to 65,535
abbrev pub bad_count : ℕ
bad_count = 11

-- 0 where the call is served, else the number of its refusal
abbrev pub status_of : {X : Type 0} → Result X Refusal → ℕ
status_of (Ok x) = 0
status_of (Err refusal) = number refusal
