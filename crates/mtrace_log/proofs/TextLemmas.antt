-- Pieces of a text that lack a byte, and texts before known bytes.
use Rattle.std.proofs.Common.{◌≡◌, ℕ, List, [], ◌∷◌, ◌++◌, Option, Some, None, refl, sym, ap, ◌∙◌, append_assoc}
use Rattle.std.specs.List.{AllByRecursion}
use Rattle.std.specs.Io.KnownBytes.{prepend_known}
use Rattle.mtrace_log.specs.Bytes.{Lacks, newline}

-- P holds of each element of two lists
pub AllByRecursion-append : {X : Type 0} (P : X → Type 0) (xs ys : List X) → AllByRecursion P xs → AllByRecursion P ys → AllByRecursion P (xs ++ ys)
AllByRecursion-append P [] ys first second = second
AllByRecursion-append P (x ∷ xs) ys first second = (first.0, AllByRecursion-append P xs ys first.1 second)

-- a piece that lacks the byte ends where the byte first stands, whatever follows it
pub split-same : (b : ℕ) (xs ys rest last : List ℕ) → Lacks b xs → Lacks b ys → xs ++ b ∷ rest ≡ ys ++ b ∷ last → (xs ≡ ys) × (rest ≡ last)
split-same b [] [] rest last lacks_xs lacks_ys same = (refl, cc)
split-same b [] (y ∷ ys) rest last lacks_xs lacks_ys same = let head : y ≡ b = cc in absurd (lacks_ys.0 head)
split-same b (x ∷ xs) [] rest last lacks_xs lacks_ys same = let head : x ≡ b = cc in absurd (lacks_xs.0 head)
split-same b (x ∷ xs) (y ∷ ys) rest last lacks_xs lacks_ys same =
    let tails : xs ++ b ∷ rest ≡ ys ++ b ∷ last = cc in
    let heads : x ≡ y = cc in
    let found = split-same b xs ys rest last lacks_xs.1 lacks_ys.1 tails in
    let fronts : x ∷ xs ≡ y ∷ ys = ap (λ h. h ∷ xs) heads ∙ ap (λ t. y ∷ t) found.0 in
    (fronts, found.1)

-- a text with the byte in it doesn't lack it
pub Lacks-middle : (b : ℕ) (xs rest : List ℕ) → Lacks b (xs ++ b ∷ rest) → ⊥
Lacks-middle b [] rest lacks = lacks.0 refl
Lacks-middle b (x ∷ xs) rest lacks = Lacks-middle b xs rest lacks.1

-- two texts before known bytes are one text before them
pub prepend_known-append : (xs ys : List ℕ) (known : Option (List ℕ)) → prepend_known (xs ++ ys) known ≡ prepend_known xs (prepend_known ys known)
prepend_known-append xs ys None = refl
prepend_known-append xs ys (Some bytes) = ap (λ all. Some all) (append_assoc xs ys bytes)

-- a step behind what was taken before
pub prepend_known-step : (xs ys : List ℕ) (before middle after : Option (List ℕ)) → before ≡ prepend_known xs middle → middle ≡ prepend_known ys after
    → before ≡ prepend_known (xs ++ ys) after
prepend_known-step xs ys before middle after first second =
    first ∙ ap (prepend_known xs) second ∙ sym (prepend_known-append xs ys after)

-- known bytes with a newline in them are what stands before it, with the newline, and then the rest
pub prepend_known-line : (bytes line rest : List ℕ) (known : Option (List ℕ)) → bytes ≡ line ++ newline ∷ rest
    → prepend_known bytes known ≡ prepend_known (line ++ newline ∷ []) (prepend_known rest known)
prepend_known-line bytes line rest known cut =
    ap (λ text. prepend_known text known) (cut ∙ sym (append_assoc line (newline ∷ []) rest)) ∙ prepend_known-append (line ++ newline ∷ []) rest known
