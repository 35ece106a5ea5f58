-- Rounding up to the unit.
use Rattle.std.specs.Prelude.{ℕ, ◌+◌, ◌%◌, ◌==◌, nat_lt, ◌||◌, if◌then◌else◌, Option, Some, None, unwrap_or}
use Rattle.tlsf_class.specs.Classes.{unit, greatest_size, least}

-- the least multiple of the unit at or above `n`
unfoldable pub rounded : ℕ → ℕ
rounded n = n + unwrap_or (least (λ k. (n + k) % unit == 0) unit) 0

-- the size of a block for `n` bytes: `n` rounded up, none for 0 and above the greatest size
abbrev pub round : ℕ → Option ℕ
round n = (if n == 0 || nat_lt greatest_size n then None else Some (rounded n))
