-- What is reallocated is at most the greatest size, and neither free nor realloc changes the number of records.
use Rattle.std.proofs.Common.{◌≡◌, ◌≢◌, ℕ, ◌≤◌, Bool, Option, Some, None, refl, sym, ap, ◌∙◌, Ok, Err, inl, inr}
use Rattle.std.specs.Prelude.{◌==◌}
use Rattle.std.proofs.lemmas.Bool.{cases_Bool, eqb-true}
use Rattle.tlsf_class.specs.Classes.{greatest_size}
use Rattle.tlsf_class.specs.Rounding.{round}
use Rattle.tlsf_class.proofs.RoundingLaws.{round-Some}
use Rattle.tlsf_heap.specs.declared.refusal.Refusal.TheVariants.{BadPointer}
use Rattle.tlsf_heap.specs.Content.{Content, blocks_of}
use Rattle.tlsf_heap.specs.Free.{free, is_live, after_free}
use Rattle.tlsf_heap.specs.Realloc.{realloc, realloc_rounded}
use Rattle.tlsf_heap.proofs.Content.Given.{realloc_gave}
use Rattle.mtrace_replay.proofs.OnHeap.AskedBlock.{asked_records}

pub freed_records : {A : Type 0} (meant : A → Bool) (place : ℕ) (content new : Content A) → free meant place content ≡ Ok new → new.records ≡ content.records
freed_records meant place content new freed = elim (cases_Bool (is_live meant place (blocks_of content.pools))) [
  | inl live ↦ let is : free meant place content ≡ Ok (after_free place content) = rw live refl in let same : after_free place content ≡ new = cc in sym (ap (λ (c : Content _). c.records) same)
  | inr none ↦ let is : free meant place content ≡ Err BadPointer = rw none refl in absurd (cc)
]

module _ {A : Type 0} (same : A → A → Bool) (owner known : A) (place n : ℕ) (content : Content A) where
  pub moved_records : (given : Option (ℕ × A) × Content A) → realloc same owner (Some (place, known)) n content ≡ Ok given → given.1.records ≡ content.records
  moved_records given served = realloc_gave same owner known place n content (λ (g : Option (ℕ × A) × Content A). g.1.records ≡ content.records)
      (λ live none. refl) (λ live some. refl) (λ m live some. refl) (λ new live some is. asked_records owner None n content new is) given served

  rounded_small : (m : Option ℕ) (given : Option (ℕ × A) × Content A) → round n ≡ m → realloc_rounded owner place known m content ≡ Ok given → n ≤ greatest_size
  rounded_small None given is served = absurd (cc)
  rounded_small (Some m) given is served = (round-Some n m is).most

  pub moved_small : (given : Option (ℕ × A) × Content A) → n ≢ 0 → realloc same owner (Some (place, known)) n content ≡ Ok given → n ≤ greatest_size
  moved_small given some served = elim (cases_Bool (is_live (λ other. same other known) place (blocks_of content.pools))) [
    | inl live ↦ elim (cases_Bool (n == 0)) [
      | inl zero ↦ absurd (some (eqb-true n 0 zero))
      | inr other ↦
          let is : realloc same owner (Some (place, known)) n content ≡ realloc_rounded owner place known (round n) content = rw (live, other) refl in
          rounded_small (round n) given refl (sym is ∙ served)
    ]
    | inr none ↦ let is : realloc same owner (Some (place, known)) n content ≡ Err BadPointer = rw none refl in absurd (cc)
  ]
