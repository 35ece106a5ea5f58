-- Bytes that a piece of text lacks.
use Rattle.std.specs.Prelude.{◌≢◌, ℕ, List}
use Rattle.std.specs.List.{AllByRecursion}

-- no byte of the text is b
abbrev pub Lacks : ℕ → List ℕ → Type 0
Lacks b text = AllByRecursion (λ c. c ≢ b) text

-- the byte that ends a line
abbrev pub newline : ℕ
newline = 10

-- the byte that parts the fields of a line
abbrev pub space : ℕ
space = 32
