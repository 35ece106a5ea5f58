-- The parts for bounds that are told, one after the other.
use Rattle.std.proofs.Common.{◌≡◌, ℕ, List, [], ◌∷◌, ◌++◌, Option, Some, None, refl, sym, ap, ◌∙◌, append_assoc}
use Rattle.std.specs.Prelude.{option_map, option_and_then}
use Rattle.mtrace_replay.specs.declared.runs.size_parts.PartBounds.{PartBounds}
use Rattle.mtrace_replay.specs.Parts.{Part}
use Rattle.mtrace_replay.specs.SizeParts.{part_for, parts_for}

-- these parts, and then those for the rest
abbrev pub and_rest : (front : ℕ) → List Part → List PartBounds → Option (List Part)
and_rest front parts rest = option_map (λ more. parts ++ more) (parts_for front rest)

-- one part more
pub one_more : (front : ℕ) (parts : List Part) (part : Part) (bounds : PartBounds) (rest : List PartBounds) → part_for front bounds ≡ Some part → and_rest front parts (bounds ∷ rest) ≡ and_rest front (parts ++ part ∷ []) rest
one_more front parts part bounds rest is =
    ap (λ (found : Option Part). option_map (λ more. parts ++ more) (option_and_then (λ part. option_map (λ more. part ∷ more) (parts_for front rest)) found)) is ∙ behind (parts_for front rest)
  where
    behind : (more : Option (List Part)) → option_map (λ (all : List Part). parts ++ all) (option_map (λ (all : List Part). part ∷ all) more) ≡ option_map (λ (all : List Part). (parts ++ part ∷ []) ++ all) more
    behind None = refl
    behind (Some more) = ap (λ all. Some all) (sym (append_assoc parts (part ∷ []) more))

-- there is none for the next
pub none_more : (front : ℕ) (parts : List Part) (bounds : PartBounds) (rest : List PartBounds) → part_for front bounds ≡ None → and_rest front parts (bounds ∷ rest) ≡ None
none_more front parts bounds rest is = ap (λ (found : Option Part). option_map (λ more. parts ++ more) (option_and_then (λ part. option_map (λ more. part ∷ more) (parts_for front rest)) found)) is
