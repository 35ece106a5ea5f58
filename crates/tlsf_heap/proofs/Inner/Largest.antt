-- The last class with a block tells the largest request.
use Rattle.std.proofs.Common.{◌≡◌, ◌≢◌, ℕ, zero, suc, pred, ◌+◌, ◌-◌, ◌%◌, ◌<◌, ◌≤◌, List, [], ◌∷◌, length, drop, refl, sym, ap, ◌∙◌, arith, Option, Some, None, inl, inr}
use Rattle.std.specs.Prelude.{Err, option_and_then}
use Rattle.std.proofs.lemmas.Bool.{cases_lt}
use Rattle.std.proofs.lemmas.List.{drop_all}
use Rattle.tlsf_class.specs.Classes.{unit, classes, greatest_size, low, need}
use Rattle.tlsf_class.specs.Rounding.{rounded, round}
use Rattle.tlsf_class.proofs.ClassLaws.{need-lt, need-None, le-low_need, low_before_need}
use Rattle.tlsf_class.proofs.LowestSizes.{low-unit, low-le}
use Rattle.tlsf_class.proofs.RoundingLaws.{rounded-le, round_within, round-Some}
use Rattle.tlsf_store.specs.Cells.{Cells, head_at}
use Rattle.tlsf_heap.specs.declared.refusal.Refusal.TheVariants.{NoFit}
use Rattle.tlsf_heap.specs.Lists.{first_of_lists, pick}
use Rattle.tlsf_heap.specs.Malloc.{malloc}
use Rattle.tlsf_heap.specs.Readings.{IsLargestRequest}
use Rattle.tlsf_heap.specs.Images.Bitmaps.{first_head}
use Rattle.tlsf_heap.specs.Inner.Following.{content_of, Stands}
use Rattle.tlsf_heap.proofs.Bits.Search.{first_head_passes}
use Rattle.tlsf_heap.proofs.Content.MallocCases.{IsPicked, malloc_cases}
use Rattle.tlsf_heap.proofs.Inner.Followed.{heads_count}
use Rattle.tlsf_heap.proofs.Inner.Picked.{search_tells}

low_last : low (pred classes) ≤ greatest_size
unfolding low
low_last = omega arith

-- a head that isn't none is found from each class up to its own
finds : (heads : List (Option ℕ)) (from class : ℕ) → from ≤ class → head_at heads class ≢ None → first_head (drop from heads) ≢ None
finds [] from class most some is = some refl
finds (head ∷ heads) (suc from) zero most some is = absurd (omega (arith, most))
finds (head ∷ heads) (suc from) (suc class) most some is = finds heads from class (omega (arith, most)) some is
finds (None ∷ heads) zero zero most some is = some refl
finds (None ∷ heads) zero (suc class) most some is = finds heads zero class (omega arith) some is
finds (Some slot ∷ heads) zero class most some is = absurd (cc)

-- no block in a class whose lowest size is above this many bytes, and one in the class whose lowest size it is
pub record AreLastHeads (bytes : ℕ) (heads : List (Option ℕ)) : Type 0 where
  pub found : bytes ≢ 0 → (class : ℕ) × (class < classes) × (low class ≡ bytes) × (head_at heads class ≢ None)
  pub none : (class : ℕ) → class < classes → bytes < low class → head_at heads class ≡ None

module _ (cells : Cells) (stands : Stands cells) (bytes : ℕ) (last : AreLastHeads bytes cells.heads) where
  -- where the class needed begins above these bytes nothing is picked
  none_picked_above : (m number : ℕ) → need m ≡ Some number → bytes < m → pick m (content_of cells).lists ≡ None
  none_picked_above m number needed above =
      let count : length cells.heads ≡ classes = heads_count cells stands in
      let within : number < classes = need-lt m number needed in
      let all : number + (classes - number) ≡ classes = omega (arith, within) in
      let none : first_head (drop number cells.heads) ≡ None =
      first_head_passes cells.heads number (classes - number) (omega (arith, all, count))
      (λ k least below. last.none k (omega (arith, below, all)) (omega (arith, above, le-low_need m number needed, low-le number k least)))
      ∙ ap (λ k. first_head (drop k cells.heads)) all ∙ ap first_head (drop_all classes cells.heads (omega (arith, count))) in
      (search_tells cells stands m number needed None (sym none)).none

  none_picked_from : (m : ℕ) (number : Option ℕ) → need m ≡ number → bytes < m → pick m (content_of cells).lists ≡ None
  none_picked_from m None needed above = ap (option_and_then (λ n. first_of_lists (drop n (content_of cells).lists))) needed
  none_picked_from m (Some number) needed above = none_picked_above m number needed above

  no_fit_above : (slot n : ℕ) → bytes < n → malloc slot n (content_of cells) ≡ Err NoFit
  no_fit_above slot n above =
      malloc_cases slot (content_of cells) n (λ r. r ≡ Err NoFit) (λ nothing. absurd (omega (arith, nothing, above))) (λ some none. refl) (λ p full. absurd (never p)) (λ p. absurd (never p))
    where
      never : IsPicked slot (content_of cells) (round n) → ⊥
      never p = let e : None ≡ Some p.place = sym (none_picked_from p.asked (need p.asked) refl (omega (arith, above, (round-Some n p.asked p.rounds).least))) ∙ p.found in cc

  -- the class of the last block has it for fewer
  picked_below : (m class : ℕ) → class < classes → head_at cells.heads class ≢ None → m ≤ low class → (place : ℕ) × (pick m (content_of cells).lists ≡ Some place)
  picked_below m class within some most = of (need m) refl
    where
      of : (number : Option ℕ) → need m ≡ number → (place : ℕ) × (pick m (content_of cells).lists ≡ Some place)
      of None needed = absurd (omega (arith, need-None m needed, most, low-le class (pred classes) (omega (arith, within))))
      of (Some number) needed = found (first_head (drop number cells.heads)) refl
        where
          first : number ≤ class
          first = elim (cases_lt class number) [
            | inl above ↦ absurd (omega (arith, low_before_need m number class needed above, most))
            | inr at_most ↦ at_most
          ]

          found : (head : Option ℕ) → first_head (drop number cells.heads) ≡ head → (place : ℕ) × (pick m (content_of cells).lists ≡ Some place)
          found None is = absurd (finds cells.heads number class first some is)
          found (Some slot) is = (_, (search_tells cells stands m number needed (Some slot) (sym is)).found)

  fits_below : (slot n : ℕ) → n ≤ bytes → malloc slot n (content_of cells) ≢ Err NoFit
  fits_below slot n most =
      malloc_cases slot (content_of cells) n (λ r. r ≢ Err NoFit) (λ nothing e. cc) (λ some none e.
      let at = last.found (λ zero. omega (arith, zero, some, most)) in
      let whole : bytes % unit ≡ 0 = omega (arith, at.2, low-unit at.0) in
      let rounds = round_within n (omega (arith, some)) (omega (arith, most, at.2, low-le at.0 (pred classes) (omega (arith, at.1)), low_last)) in
      let picked = picked_below (rounded n) at.0 at.1 at.3 (omega (arith, rounded-le n bytes whole most, at.2)) in
      let never : None ≡ Some picked.0 = sym (none (rounded n) rounds) ∙ picked.1 in absurd (cc)) (λ p full e. cc) (λ p e. cc)

  pub largest_is : IsLargestRequest bytes (content_of cells)
  largest_is = record { found = fits_below; no_fit = no_fit_above }
