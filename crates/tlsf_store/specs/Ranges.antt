-- Where a pool can be.
use Rattle.std.specs.Prelude.{ℕ, ◌+◌, ◌%◌, ◌^◌, ◌==◌, ◌&&◌, nat_le, Bool}
use Rattle.tlsf_class.specs.Classes.{unit, greatest_size}

-- no pool ends above this place
abbrev pub end_of_places : ℕ
end_of_places = 2 ^ 32

-- whether base and bytes can be those of a pool
abbrev pub can_be_pool : ℕ → ℕ → Bool
can_be_pool base bytes =
    (base % unit == 0) && ((bytes % unit == 0) && (nat_le unit bytes && (nat_le bytes greatest_size && nat_le (base + bytes) end_of_places)))
