-- Digits in base 16, sixteen at a time.
use Rattle.std.specs.Prelude.{ℕ, zero, suc, ◌+◌, ◌-◌, ◌*◌, ◌%◌, ◌^◌, ◌==◌, nat_lt, bit_and, if◌then◌else◌, Bool, not, List, slice_index}

-- what stands above the digits at a byte, or at a digit, above this bound
abbrev pub offset : ℕ → ℕ → ℕ
offset bound n = if nat_lt bound n then 87 else 48

-- the digit that a byte writes, if it writes one; any digit, if it doesn't
abbrev pub lane_digit : ℕ → ℕ
lane_digit byte = bit_and ((byte + (2 ^ 8 - offset 57 byte)) % 2 ^ 8) 15

-- the byte that writes a digit
abbrev pub lane_byte : ℕ → ℕ
lane_byte digit = (digit + offset 9 digit) % 2 ^ 8

-- whether the byte writes no digit: what was read of it is written otherwise
abbrev pub is_other : ℕ → Bool
is_other byte = not (lane_byte (lane_digit byte) == byte)

-- the number that the first this many digits write
abbrev pub value : List ℕ → ℕ → ℕ
value digits zero = 0
value digits (suc k) = value digits k * 16 + slice_index digits k
