-- A list of which the first elements are changed, one after the other.
use Rattle.std.proofs.Common.{◌≡◌, ℕ, zero, suc, ◌+◌, ◌-◌, ◌<◌, ◌≤◌, List, [], ◌∷◌, ◌++◌, length, map, get_or, refl, sym, ap, ◌∙◌, subst, arith}
use Rattle.std.specs.Prelude.{slice_set}
use Rattle.mtrace_replay.specs.declared.parts.span.Span.{Span}

-- what stands for a span that isn't there
abbrev pub no_span : Span
no_span = record { first = 0; last = 0; live = 0; most = 0; size = 0 }

-- the first of these are changed
abbrev pub mapped : {X : Type 0} → (X → X) → ℕ → List X → List X
mapped f zero xs = xs
mapped f (suc many) [] = []
mapped f (suc many) (x ∷ xs) = f x ∷ mapped f many xs

pub mapped_all : {X : Type 0} (f : X → X) (xs : List X) → mapped f (length xs) xs ≡ map f xs
mapped_all f [] = refl
mapped_all f (x ∷ xs) = ap (λ rest. f x ∷ rest) (mapped_all f xs)

pub mapped_length : {X : Type 0} (f : X → X) (many : ℕ) (xs : List X) → length (mapped f many xs) ≡ length xs
mapped_length f zero xs = refl
mapped_length f (suc many) [] = refl
mapped_length f (suc many) (x ∷ xs) = ap suc (mapped_length f many xs)

-- the next is as it was
pub mapped_next : {X : Type 0} (f : X → X) (many : ℕ) (xs : List X) (d : X) → get_or (mapped f many xs) many d ≡ get_or xs many d
mapped_next f zero xs d = refl
mapped_next f (suc many) [] d = refl
mapped_next f (suc many) (x ∷ xs) d = mapped_next f many xs d

-- one more is changed
pub mapped_more : {X : Type 0} (f : X → X) (many : ℕ) (xs : List X) (d : X) → many < length xs → slice_set (mapped f many xs) many (f (get_or xs many d)) ≡ mapped f (suc many) xs
mapped_more f zero [] d within = absurd (omega (arith, within))
mapped_more f zero (x ∷ xs) d within = refl
mapped_more f (suc many) [] d within = absurd (omega (arith, within))
mapped_more f (suc many) (x ∷ xs) d within = ap (λ rest. f x ∷ rest) (mapped_more f many xs d (omega (arith, within)))

-- behind the first ones, this many are changed
abbrev pub mapped_behind : {X : Type 0} → (X → X) → (first many : ℕ) → List X → List X
mapped_behind f zero many xs = mapped f many xs
mapped_behind f (suc first) many [] = []
mapped_behind f (suc first) many (x ∷ xs) = x ∷ mapped_behind f first many xs

pub mapped_behind_none : {X : Type 0} (f : X → X) (first : ℕ) (xs : List X) → xs ≡ mapped_behind f first 0 xs
mapped_behind_none f zero xs = refl
mapped_behind_none f (suc first) [] = refl
mapped_behind_none f (suc first) (x ∷ xs) = ap (λ rest. x ∷ rest) (mapped_behind_none f first xs)

pub mapped_behind_length : {X : Type 0} (f : X → X) (first many : ℕ) (xs : List X) → length (mapped_behind f first many xs) ≡ length xs
mapped_behind_length f zero many xs = mapped_length f many xs
mapped_behind_length f (suc first) many [] = refl
mapped_behind_length f (suc first) many (x ∷ xs) = ap suc (mapped_behind_length f first many xs)

-- the next, at this position, is as it was
pub mapped_behind_next : {X : Type 0} (f : X → X) (first many at : ℕ) (xs : List X) (d : X) → first + many ≡ at → get_or (mapped_behind f first many xs) at d ≡ get_or xs at d
mapped_behind_next f zero many at xs d is =
    let here : many ≡ at = omega (arith, is) in
    subst (λ n. get_or (mapped f many xs) n d ≡ get_or xs n d) here (mapped_next f many xs d)
mapped_behind_next f (suc first) many at [] d is = refl
mapped_behind_next f (suc first) many zero (x ∷ xs) d is = absurd (omega (arith, is))
mapped_behind_next f (suc first) many (suc at) (x ∷ xs) d is = mapped_behind_next f first many at xs d (omega (arith, is))

-- one more is changed
pub mapped_behind_more : {X : Type 0} (f : X → X) (first many at : ℕ) (xs : List X) (d : X) → first + many ≡ at → at < length xs
    → slice_set (mapped_behind f first many xs) at (f (get_or xs at d)) ≡ mapped_behind f first (suc many) xs
mapped_behind_more f zero many at xs d is within =
    let here : many ≡ at = omega (arith, is) in
    subst (λ n. slice_set (mapped f many xs) n (f (get_or xs n d)) ≡ mapped f (suc many) xs) here (mapped_more f many xs d (omega (arith, here, within)))
mapped_behind_more f (suc first) many at [] d is within = absurd (omega (arith, within))
mapped_behind_more f (suc first) many zero (x ∷ xs) d is within = absurd (omega (arith, is))
mapped_behind_more f (suc first) many (suc at) (x ∷ xs) d is within = ap (λ rest. x ∷ rest) (mapped_behind_more f first many at xs d (omega (arith, is)) (omega (arith, within)))

mapped_first : {X : Type 0} (f : X → X) (xs rest : List X) → mapped f (length xs) (xs ++ rest) ≡ map f xs ++ rest
mapped_first f [] rest = refl
mapped_first f (x ∷ xs) rest = ap (λ more. f x ∷ more) (mapped_first f xs rest)

-- all between the first ones and the last ones are changed
pub mapped_between : {X : Type 0} (f : X → X) (low high rest : List X) → mapped_behind f (length low) (length high) (low ++ high ++ rest) ≡ low ++ map f high ++ rest
mapped_between f [] high rest = mapped_first f high rest
mapped_between f (x ∷ low) high rest = ap (λ more. x ∷ more) (mapped_between f low high rest)

-- the same by positions, of which the first that is changed and the next one are told
module _ {X : Type 0} (f : X → X) (from at : ℕ) (xs : List X) (d : X) (up : from ≤ at) where
  pub next_between : get_or (mapped_behind f from (at - from) xs) at d ≡ get_or xs at d
  next_between = mapped_behind_next f from (at - from) at xs d (omega (arith, up))

  pub more_between : at < length xs → slice_set (mapped_behind f from (at - from) xs) at (f (get_or xs at d)) ≡ mapped_behind f from (at + 1 - from) xs
  more_between within =
      let one_more : suc (at - from) ≡ at + 1 - from = omega (arith, up) in
      mapped_behind_more f from (at - from) at xs d (omega (arith, up)) within ∙ ap (λ many. mapped_behind f from many xs) one_more

pub all_between : {X : Type 0} (f : X → X) (low high rest xs : List X) (from many : ℕ) → xs ≡ low ++ high ++ rest → length low ≡ from → length high ≡ many
    → mapped_behind f from many xs ≡ low ++ map f high ++ rest
all_between f low high rest xs from many parts from_is many_is =
    ap (λ all. mapped_behind f from many all) parts ∙ ap (λ n. mapped_behind f n many (low ++ high ++ rest)) (sym from_is)
    ∙ ap (λ n. mapped_behind f (length low) n (low ++ high ++ rest)) (sym many_is) ∙ mapped_between f low high rest
