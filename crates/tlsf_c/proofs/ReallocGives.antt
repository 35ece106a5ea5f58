-- What realloc of a pointer gives: a block where bytes are asked for, and else none.
use Rattle.std.proofs.Common.{◌≡◌, ℕ, Bool, true, false, Option, Some, None, Result, Ok, Err, cond, refl, ap}
use Rattle.std.specs.Prelude.{not, is_some, ◌==◌, nat_lt}
use Rattle.tlsf_heap.specs.declared.refusal.Refusal.{Refusal}
use Rattle.tlsf_heap.specs.declared.refusal.Refusal.TheVariants.{BadPointer}
use Rattle.tlsf_heap.specs.Content.{Content, blocks_of, size_at}
use Rattle.tlsf_heap.specs.Malloc.{malloc_rounded}
use Rattle.tlsf_heap.specs.Free.{is_live, after_free}
use Rattle.tlsf_heap.specs.Realloc.{fits_in_place, resized, moved, realloc_rounded, realloc}
use Rattle.tlsf_class.specs.Rounding.{round}

abbrev Answered : Type 0
Answered = Result (Option (ℕ × ℕ) × Content ℕ) Refusal

-- whether a block is given
abbrev is_block : Answered → Bool
is_block (Ok given) = is_some given.0
is_block (Err refusal) = false

module _ (new : Content ℕ) where
  moved_some : (owner old : ℕ) (answer : Result (ℕ × Content ℕ) Refusal) → moved owner old answer ≡ Ok (None, new) → ⊥
  moved_some owner old (Err refusal) e = (let apart = ap is_block e in absurd (cc))
  moved_some owner old (Ok (place, content)) e = (let apart = ap is_block e in absurd (cc))

  chosen_some : (same fits less : Bool) (x : ℕ × ℕ) (a b c : Content ℕ) (owner old : ℕ) (answer : Result (ℕ × Content ℕ) Refusal)
      → cond same (Ok (Some x, a)) (cond fits (Ok (Some x, b)) (cond less (Ok (Some x, c)) (moved owner old answer))) ≡ Ok (None, new) → ⊥
  chosen_some true fits less x a b c owner old answer e = (let apart = ap is_block e in absurd (cc))
  chosen_some false true less x a b c owner old answer e = (let apart = ap is_block e in absurd (cc))
  chosen_some false false true x a b c owner old answer e = (let apart = ap is_block e in absurd (cc))
  chosen_some false false false x a b c owner old answer e = moved_some owner old answer e

  rounded_some : (owner place known : ℕ) (size : Option ℕ) (content : Content ℕ) → realloc_rounded owner place known size content ≡ Ok (None, new) → ⊥
  rounded_some owner place known None content e = (let apart = ap is_block e in absurd (cc))
  rounded_some owner place known (Some m) content e =
      chosen_some (m == size_at place (blocks_of content.pools)) (fits_in_place place m content) (nat_lt m (size_at place (blocks_of content.pools))) (place, known)
      content (resized known place m content) content owner place (malloc_rounded owner (Some m) content) e

  -- of a live block or a stale one, where no byte is asked for or some are
  none_chosen : (live none : Bool) (freed : Content ℕ) (other another : Answered) → (other ≡ Ok (None, new) → ⊥)
      → cond (not live) (Err BadPointer) (cond none (Ok (None, freed)) other) ≡ Ok (None, new)
      → (none ≡ true) × (cond (not live) (Err BadPointer) (cond none (Ok (None, freed)) another) ≡ Ok (None, new))
  none_chosen false none freed other another never e = (let apart = ap is_block e in absurd (cc))
  none_chosen true false freed other another never e = absurd (never e)
  none_chosen true true freed other another never e = (refl, e)

  module _ (owner place known n : ℕ) (content : Content ℕ) where
    abbrev live : Bool
    live = is_live (λ other. other == known) place (blocks_of content.pools)

    -- no block is given where no byte is asked for, whatever slot a new one would have had
    pub gives_none : (another : ℕ) → realloc (λ a b. a == b) owner (Some (place, known)) n content ≡ Ok (None, new)
        → ((n == 0) ≡ true) × (realloc (λ a b. a == b) another (Some (place, known)) n content ≡ Ok (None, new))
    gives_none another e = none_chosen live (n == 0) (after_free place content) (realloc_rounded owner place known (round n) content) (realloc_rounded another place known (round n) content)
        (rounded_some owner place known (round n) content) e
