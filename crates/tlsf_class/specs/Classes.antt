-- Size classes by their lowest sizes (TLSF, ECRTS 2004). Each power of two has a first level,
-- divided into equal steps. There are 32 steps, and one first level for the smallest sizes, as in
-- `tlsf.c`.
use Rattle.std.specs.Prelude.{ℕ, zero, suc, ◌+◌, ◌-◌, ◌*◌, ◌/◌, ◌%◌, ◌^◌, ◌==◌, nat_le, Bool, if◌then◌else◌, Option, Some, None}

-- the unit is this power of two
abbrev pub unit_power : ℕ
unit_power = 4

-- every place and every size is a multiple of it, in bytes
abbrev pub unit : ℕ
unit = 2 ^ unit_power

-- how many equal steps a first level has
abbrev pub steps : ℕ
steps = 32

-- how many first levels there are: the last begins at 2 ^ 29
abbrev pub levels : ℕ
levels = 26 - unit_power

-- how many classes there are
abbrev pub classes : ℕ
classes = levels * steps

-- the greatest size of a block, in bytes
abbrev pub greatest_size : ℕ
greatest_size = 2 ^ 30 - unit

-- the first level `f`, from 1 on, begins at `2 ^ (f + level_power)`: the first of them at 32 units
abbrev pub level_power : ℕ
level_power = unit_power + 4

-- and its steps are of `2 ^ (f + step_power)` bytes
abbrev pub step_power : ℕ
step_power = unit_power - 1

-- the lowest size of step `g` of the first level `f`
abbrev pub low_at : ℕ → ℕ → ℕ
low_at f g = (if f == 0 then unit * g else 2 ^ (f + level_power) + g * 2 ^ (f + step_power))

-- the lowest size of class `c`, in bytes
unfoldable pub low : ℕ → ℕ
low c = low_at (c / steps) (c % steps)

-- the greatest number below `bound` that passes the test, 0 where none does
abbrev pub greatest : (ℕ → Bool) → ℕ → ℕ
greatest test zero = 0
greatest test (suc k) = (if test k then k else greatest test k)

-- the least number below `bound` that passes the test, none where none does
abbrev pub least : (ℕ → Bool) → ℕ → Option ℕ
least test zero = None
least test (suc k) = elim (least test k) [ Some c ↦ Some c | None ↦ (if test k then Some k else None) ]

-- the class of a block of `size` bytes: the greatest whose lowest size is at most `size`
unfoldable pub class : ℕ → ℕ
class size = greatest (λ c. nat_le (low c) size) classes

-- the class from which on each block holds `m` bytes: the least whose lowest size is at least `m`
unfoldable pub need : ℕ → Option ℕ
need m = least (λ c. nat_le m (low c)) classes
