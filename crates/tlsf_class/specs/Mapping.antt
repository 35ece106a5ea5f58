-- The mapping of the paper (TLSF, ECRTS 2004): first level and step read off the bits of a size.
use Rattle.std.specs.Prelude.{ℕ, ◌+◌, ◌-◌, ◌*◌, ◌/◌, ◌%◌, ◌^◌, ◌<◌, ◌≤◌}
use Rattle.tlsf_class.specs.Classes.{steps, level_power}

-- how many bits a step has: there are 2 ^ 5 steps
abbrev pub step_bits : ℕ
step_bits = 5

-- the place of a number's highest bit
abbrev pub IsHighestBit : ℕ → ℕ → Type 0
IsHighestBit place number = (2 ^ place ≤ number) × (number < 2 ^ (place + 1))

-- the next five bits of a number behind the one at a place
abbrev pub bits_behind : ℕ → ℕ → ℕ
bits_behind place number = number / 2 ^ (place - step_bits) % steps

-- the class whose first level is the place of the highest bit and whose step is its next five bits
abbrev pub mapped : ℕ → ℕ → ℕ
mapped place size = (place - level_power) * steps + bits_behind place size
