-- The spelling of addresses and sizes.
use Rattle.std.specs.Prelude.{ℕ, zero, suc, ◌^◌, ◌<◌, List, ◌++◌, map, codes, Option, Some, None}
use Rattle.std.specs.Char.{digit_char}
use Rattle.std.specs.Int.Digits.{digits_of}

-- an address is a number of 64 bits that isn't 0
abbrev pub IsAddress : ℕ → Type 0
IsAddress address = (0 < address) × (address < 2 ^ 64)

-- the longest address, in bytes: `0x` and 16 digits
abbrev pub longest_address : ℕ
longest_address = 18

-- the digits of a number in base 16, `0` to `9` and `a` to `f`, the highest first, none for 0
abbrev pub hex_digits : ℕ → List ℕ
hex_digits n = map digit_char (digits_of 16 n)

-- ADDR: `0x` and the digits
abbrev pub address_text : ℕ → List ℕ
address_text address = codes "0x" ++ hex_digits address

-- SIZE: `0`, or spelled as an address
abbrev pub size_text : ℕ → List ℕ
size_text zero = codes "0"
size_text (suc less) = address_text (suc less)

-- PTR: `(nil)`, or an address
abbrev pub pointer_text : Option ℕ → List ℕ
pointer_text None = codes "(nil)"
pointer_text (Some address) = address_text address
