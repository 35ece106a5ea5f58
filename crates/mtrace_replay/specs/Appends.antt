-- What the calls leave that append to a text.
use Rattle.std.specs.Prelude.{◌≡◌, ℕ, ◌+◌, ◌≤◌, List, ◌++◌, length}
use Rattle.arrayvec.specs.ArrayVec.{ArrayVec, array_vec_len}

-- these bytes were appended, at most this many
pub record Appends (added : List ℕ) (most : ℕ) (old new : ArrayVec ℕ) : Type 0 where
  pub bytes : new.items ≡ old.items ++ added
  pub len : array_vec_len new ≤ array_vec_len old + most

-- the text, of at most this many bytes
pub record IsShort (wanted : List ℕ) (most : ℕ) (bytes : List ℕ) : Type 0 where
  pub text : bytes ≡ wanted
  pub short : length bytes ≤ most
