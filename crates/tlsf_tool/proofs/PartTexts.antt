-- Texts that tell heaps by size, one after the other.
use Rattle.std.proofs.Common.{◌≡◌, ℕ, zero, suc, ◌<◌, List, [], ◌∷◌, ◌++◌, length, map, take, get_or, Some, None, sym, ap, ◌∙◌, subst, codes, arith, Bor}
use Rattle.std.proofs.lemmas.List.{length-map}
use Rattle.clap.specs.Words.{Row, Text, all_of}
use Rattle.mtrace_replay.specs.declared.runs.size.Bounds.{Bounds}
use Rattle.mtrace_replay.specs.declared.runs.size_parts.PartBounds.{PartBounds}
use Rattle.tlsf_tool.specs.CommandLine.{IsPartText, ArePartTexts, HasBounds, HasNoBounds, HasParts}
use Rattle.tlsf_tool.proofs.CommandLineLemmas.{HasNoSize}

-- what the texts say
abbrev pub said : List (Bor Text) → List Text
said = map (λ text. text.now)

-- one text more is of a part
pub one_more : (all : List (Bor Text)) (i : ℕ) (d : Bor Text) (parts : List PartBounds) (part : PartBounds) → i < length all → ArePartTexts (said (take i all)) parts → IsPartText (get_or all i d).now part
    → ArePartTexts (said (take (suc i) all)) (parts ++ part ∷ [])
one_more [] i d parts part less are is = absurd (omega (arith, less))
one_more (text ∷ all) zero d [] part less are is = (is, tt)
one_more (text ∷ all) zero d (other ∷ parts) part less are is = absurd are
one_more (text ∷ all) (suc i) d [] part less are is = absurd are
one_more (text ∷ all) (suc i) d (other ∷ parts) part less are is = (are.0, one_more all i d parts part (omega (arith, less)) are.1 is)

-- one text is of none
pub no_parts : (all : List (Bor Text)) (i : ℕ) (d : Bor Text) → i < length all → ((part : PartBounds) → IsPartText (get_or all i d).now part → ⊥) → (parts : List PartBounds) → ArePartTexts (said all) parts → ⊥
no_parts [] i d less never parts are = absurd (omega (arith, less))
no_parts (text ∷ all) i d less never [] are = are
no_parts (text ∷ all) zero d less never (part ∷ parts) are = never part are.0
no_parts (text ∷ all) (suc i) d less never (part ∷ parts) are = no_parts all i d (omega (arith, less)) never parts are.1

-- ---- what matches ask for that tell heaps by size

module _ (rows : List Row) (texts : List (Bor Text)) (told : all_of (codes "part") rows ≡ Some (said texts)) where
  not_plain : (bounds : Bounds) → HasBounds rows bounds → all_of (codes "part") rows ≡ None → ⊥
  not_plain bounds has none = let e : Some (said texts) ≡ None = sym told ∙ none in cc

  same_texts : (parts : List PartBounds) (has : HasParts rows parts) → has.texts ≡ said texts
  same_texts parts has = let e : Some has.texts ≡ Some (said texts) = sym has.told ∙ told in cc

  -- bounds of a program stand beside them
  pub beside_bounds : (HasNoBounds rows → ⊥) → HasNoSize rows
  beside_bounds some = (not_plain, λ parts has none. some none)

  -- there are too many
  pub too_many : 8 < length texts → HasNoSize rows
  too_many many = (not_plain, λ parts has none. omega (arith, many, has.few, ap length (same_texts parts has), length-map texts (λ (text : Bor Text). text.now)))

  -- one isn't read
  pub unread_parts : ((parts : List PartBounds) → ArePartTexts (said texts) parts → ⊥) → HasNoSize rows
  unread_parts never = (not_plain, λ parts has none. never parts (subst (λ (all : List Text). ArePartTexts all parts) (same_texts parts has) has.read))

-- there are none, and no bounds of a program
pub no_size : (rows : List Row) → all_of (codes "part") rows ≡ None → ((bounds : Bounds) → HasBounds rows bounds → ⊥) → HasNoSize rows
no_size rows none never = (λ bounds has no. never bounds has, λ parts has no. (let e : Some has.texts ≡ None = sym has.told ∙ none in cc))
