-- What the word in front of a block's address tells: its size and its slot, scrambled with the address.
use Rattle.std.specs.Prelude.{◌≡◌, ◌≢◌, ◌⊎◌, ℕ, ◌+◌, ◌-◌, ◌*◌, ◌/◌, ◌%◌, ◌^◌, ◌≤◌}

-- the bytes in front of a block's address
abbrev pub front : ℕ
front = 8

-- an odd number; another one undoes a product by it
abbrev pub unscramble : ℕ
unscramble = 17428512612931826493

-- what a word in front of an address tells, as one number
abbrev pub unscrambled : (word address : ℕ) → ℕ
unscrambled word address = (word + (2 ^ 64 - address)) % 2 ^ 64 * unscramble % 2 ^ 64

-- the slot, and the size in bytes
abbrev pub told_slot : (word address : ℕ) → ℕ
told_slot word address = unscrambled word address % 65536

abbrev pub told_size : (word address : ℕ) → ℕ
told_size word address = unscrambled word address / 65536 * 16

-- the word in front of an address is no block's. Nor is it that of a freed one, nor zeros, as where no block was
pub record IsLostFront (word address : ℕ) : Type 0 where
  pub in_units : address % 16 ≡ 0
  pub some : word ≢ 0
  pub not_freed : word ≢ address
  pub told_none : (told_size word address ≤ front) ⊎ (2 ^ 30 ≤ told_size word address)
