-- What memalign gives, case by case, and why it is refused.
use Rattle.std.proofs.Common.{◌≡◌, ◌≢◌, ℕ, Bool, Result, subst, ◌+◌, ◌-◌, ◌<◌, ◌≤◌, true, false, cond, arith, List, [], ◌∷◌, length, length-append, not, refl, sym, ap, ◌∙◌, Option, Some, None, Ok, Err, inl, inr}
use Rattle.std.specs.Prelude.{◌==◌, ◌⊎◌, nat_lt}
use Rattle.std.specs.Int.{next_multiple_of}
use Rattle.std.proofs.lemmas.Bool.{ne_eqb, eq-eqb, cases_Bool, cases_eq, ltb-true, ltb-false}
use Rattle.tlsf_class.specs.Rounding.{round}
use Rattle.tlsf_heap.specs.declared.refusal.Refusal.{Refusal}
use Rattle.tlsf_heap.specs.declared.refusal.Refusal.TheVariants.{ZeroSize, NoFit, TableFull, BadAlign}
use Rattle.tlsf_heap.specs.Content.{Block, Content, blocks_of, size_at, used_records}
use Rattle.tlsf_heap.specs.Lists.{pick}
use Rattle.tlsf_heap.specs.Malloc.{gap}
use Rattle.tlsf_heap.specs.Memalign.{is_alignment, size_asked, gap_records, split_in_three, aligned, memalign_picked, memalign_rounded, memalign}
use Rattle.tlsf_heap.proofs.Content.Blocks.{Found}
use Rattle.tlsf_heap.proofs.Content.Replacing.{length-replaced}

-- a gap is one block, or none
pub length-gap : (A : Type 0) (place size : ℕ) → length (gap {A = A} place size) ≡ gap_records size
length-gap A place size = elim (size == 0) as (λ b. length (cond {A = List (Block A)} b [] (record { place = place; size = size; owner = None } ∷ [])) ≡ cond b 0 1) [ true ↦ refl | false ↦ refl ]

pub few_gap : (size : ℕ) → gap_records size ≤ 1
few_gap size = elim (size == 0) as (λ b. cond b 0 1 ≤ 1) [ true ↦ omega arith | false ↦ omega arith ]

-- how many blocks there are once the one at the place is split in three
pub used_aligned : {A : Type 0} (owner : A) (start m place size : ℕ) (content : Content A) → Found place (blocks_of content.pools)
    → used_records (aligned owner start m place size content) ≡ used_records content + (gap_records (start - place) + gap_records ((size - (start - place)) - m))
used_aligned {A} owner start m place size content found =
    let live : Block A = record { place = start; size = m; owner = Some owner } in
    omega (
      arith,
      length-replaced place (split_in_three owner start m place size) content.pools found,
      length-append (gap place (start - place)) (live ∷ gap (start + m) ((size - (start - place)) - m)),
      length-gap A place (start - place),
      length-gap A (start + m) ((size - (start - place)) - m),
    )

module _ {A : Type 0} (owner : A) (align n : ℕ) (content : Content A) where
  -- an alignment, and some bytes
  pub aligned_rounded : is_alignment align ≡ true → n ≢ 0 → memalign owner align n content ≡ memalign_rounded owner align (round n) content
  aligned_rounded is some =
      let asked : memalign owner align n content ≡ cond (n == 0) (Err ZeroSize) (memalign_rounded owner align (round n) content) = ap (λ b. cond (not b) (Err BadAlign) (cond (n == 0) (Err ZeroSize) (memalign_rounded owner align (round n) content))) is in
      asked ∙ ap (λ b. cond b (Err ZeroSize) (memalign_rounded owner align (round n) content)) (ne_eqb n 0 some)

  -- nothing is picked for the bytes asked
  abbrev pub NonePicked : Type 0
  NonePicked = (m : ℕ) → round n ≡ Some m → pick (size_asked align m) content.lists ≡ None

  -- a block is picked for some bytes and an alignment
  pub record IsPicked : Type 0 where
    pub is : is_alignment align ≡ true
    pub some : n ≢ 0
    pub asked : ℕ
    pub rounds : round n ≡ Some asked
    pub place : ℕ
    pub found : pick (size_asked align asked) content.lists ≡ Some place

  -- what it would leave, split in three
  abbrev pub split_aligned_of : IsPicked → Content A
  split_aligned_of p = aligned owner (next_multiple_of p.place align) p.asked p.place (size_at p.place (blocks_of content.pools)) content

  -- each of its answers: it would be too many blocks, or it is given
  pub memalign_cases : (P : Result (ℕ × Content A) Refusal → Type 0)
      → P (Err BadAlign)
      → (n ≡ 0 → P (Err ZeroSize))
      → (NonePicked → P (Err NoFit))
      → ((p : IsPicked) → content.records < used_records (split_aligned_of p) → P (Err TableFull))
      → ((p : IsPicked) → used_records (split_aligned_of p) ≤ content.records → P (Ok (next_multiple_of p.place align, split_aligned_of p)))
      → P (memalign owner align n content)
  memalign_cases P bad zero_size none full given = elim (cases_Bool (is_alignment align)) [
    | inr isn't ↦ let is : memalign owner align n content ≡ Err BadAlign = rw isn't refl in subst P (sym is) bad
    | inl is ↦ elim (cases_eq n 0) [
      | inl nothing ↦ let zero_is : memalign owner align n content ≡ Err ZeroSize = rw (is, eq-eqb n 0 nothing) refl in subst P (sym zero_is) (zero_size nothing)
      | inr some ↦ subst P (sym (aligned_rounded is some)) (of (round n) refl is some)
    ]
  ]
    where
      picked : (asked : ℕ) (place : Option ℕ) → round n ≡ Some asked → pick (size_asked align asked) content.lists ≡ place → is_alignment align ≡ true → n ≢ 0 → P (memalign_picked owner align asked place content)
      picked asked None rounds found is some = none (λ m other. let same : asked ≡ m = cc in ap (λ a. pick (size_asked align a) content.lists) (sym same) ∙ found)
      picked asked (Some place) rounds found is some =
          let p : IsPicked = record { is = is; some = some; asked = asked; rounds = rounds; place = place; found = found } in
          let answer : Bool → Result (ℕ × Content A) Refusal = λ b. cond b (Err TableFull) (Ok (next_multiple_of place align, split_aligned_of p)) in
          elim (cases_Bool (nat_lt content.records (used_records (split_aligned_of p)))) [
            | inl over ↦ subst P (ap answer (sym over)) (full p (ltb-true _ _ over))
            | inr room ↦ subst P (ap answer (sym room)) (given p (ltb-false _ _ room))
          ]

      of : (m : Option ℕ) → round n ≡ m → is_alignment align ≡ true → n ≢ 0 → P (memalign_rounded owner align m content)
      of None rounds is some = none (λ m other. absurd (cc))
      of (Some asked) rounds is some = picked asked (pick (size_asked align asked) content.lists) rounds refl is some

  -- where it is given
  pub memalign_given : (new : ℕ × Content A) → memalign owner align n content ≡ Ok new → (p : IsPicked) × ((next_multiple_of p.place align, split_aligned_of p) ≡ new) × (used_records (split_aligned_of p) ≤ content.records)
  memalign_given new =
      memalign_cases (λ r. r ≡ Ok new → (p : IsPicked) × ((next_multiple_of p.place align, split_aligned_of p) ≡ new) × (used_records (split_aligned_of p) ≤ content.records))
      (λ e. absurd (cc)) (λ nothing e. absurd (cc)) (λ none e. absurd (cc)) (λ p over e. absurd (cc)) (λ p room e. (p, cc, room))

  -- why it can be refused
  pub memalign_reasons : (refusal : Refusal) → memalign owner align n content ≡ Err refusal → (refusal ≡ BadAlign) ⊎ ((n ≡ 0) ⊎ ((refusal ≡ NoFit) ⊎ (refusal ≡ TableFull)))
  memalign_reasons refusal =
      memalign_cases (λ r. r ≡ Err refusal → (refusal ≡ BadAlign) ⊎ ((n ≡ 0) ⊎ ((refusal ≡ NoFit) ⊎ (refusal ≡ TableFull))))
      (λ e. inl (cc)) (λ nothing e. inr (inl nothing)) (λ none e. inr (inr (inl (cc)))) (λ p over e. inr (inr (inr (cc)))) (λ p room e. absurd (cc))
