-- A sum over parts, where one has none.
use Rattle.std.proofs.Common.{◌≡◌, ℕ, zero, suc, ◌+◌, ◌<◌, ◌≤◌, List, [], ◌∷◌, ◌++◌, length, map, flat_map, drop, slice_index_or, Option, Some, None, refl, sym, ap, ◌∙◌, subst, arith, append_assoc}
use Rattle.std.specs.Prelude.{option_map, option_and_then}
use Rattle.std.proofs.lemmas.List.{map-append}
use Rattle.mtrace_replay.specs.declared.parts.text.PartOf.{PartOf}
use Rattle.mtrace_replay.specs.Parts.{size_ranges, Part, sum_over, part_line, IsCut, parts_of}
use Rattle.mtrace_replay.specs.PartsText.{part_in}

abbrev pub no_part : PartOf
no_part = record { blocks = 0; size = 0 }

pub none_there : (measure : Part → Option ℕ) (parts : List PartOf) (k : ℕ) (d : PartOf) → k < length parts → measure (part_in (slice_index_or parts k d)) ≡ None → sum_over measure (map part_in parts) ≡ None
none_there measure [] k d within is = absurd (omega (arith, within))
none_there measure (part ∷ parts) zero d within is = ap (option_and_then (λ n. option_map (λ rest. n + rest) (sum_over measure (map part_in parts)))) is
none_there measure (part ∷ parts) (suc k) d within is =
    ap (λ rest. option_and_then (λ n. option_map (λ more. n + more) rest) (measure (part_in part))) (none_there measure parts k d (omega (arith, within)) is)
    ∙ by_first (measure (part_in part))
  where
    by_first : (first : Option ℕ) → option_and_then (λ n. option_map (λ more. n + more) None) first ≡ None
    by_first None = refl
    by_first (Some n) = refl

-- one part more of a cut
pub part_more : (part : ℕ → ℕ → Part) (ends rest : List ℕ) (i first last next : ℕ) (parts new : List PartOf) (one : PartOf) (whole : List Part) → drop i ends ≡ last ∷ rest → IsCut part first (drop i ends)
    → (first ≤ last → last < size_ranges → part_in one ≡ part first last) → (last < size_ranges → next ≡ suc last) → new ≡ parts ++ one ∷ []
    → map part_in parts ++ parts_of part first (drop i ends) ≡ whole → map part_in new ++ parts_of part next rest ≡ whole
part_more part ends rest i first last next parts new one whole here cut one_is next_is new_is so_far =
    let its = subst (IsCut part first) here cut in
    ap (λ all. map part_in all ++ parts_of part next rest) new_is
    ∙ ap (λ all. all ++ parts_of part next rest) (map-append part_in parts (one ∷ []))
    ∙ append_assoc (map part_in parts) (part_in one ∷ []) (parts_of part next rest)
    ∙ ap (λ p. map part_in parts ++ p ∷ parts_of part next rest) (one_is its.0 its.1)
    ∙ ap (λ n. map part_in parts ++ part first last ∷ parts_of part n rest) (next_is its.1)
    ∙ ap (λ all. map part_in parts ++ parts_of part first all) (sym here)
    ∙ so_far

pub cut_more : (part : ℕ → ℕ → Part) (ends rest : List ℕ) (i first last next : ℕ) → drop i ends ≡ last ∷ rest → (last < size_ranges → next ≡ suc last) → IsCut part first (drop i ends) → IsCut part next rest
cut_more part ends rest i first last next here next_is cut =
    let its = subst (IsCut part first) here cut in
    subst (λ n. IsCut part n rest) (sym (next_is its.1)) its.2

-- the lines of parts, by what the text is made of
pub lines_same : (parts : List PartOf) → flat_map (λ part. part_line (part_in part)) parts ≡ flat_map part_line (map part_in parts)
lines_same [] = refl
lines_same (part ∷ parts) = ap (λ rest. part_line (part_in part) ++ rest) (lines_same parts)
