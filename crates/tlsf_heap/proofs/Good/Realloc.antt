-- realloc keeps a content good.
use Rattle.std.proofs.Common.{◌≡◌, ℕ, ◌<◌, Bool, refl, subst, arith, Option, Some, None, Result, Ok, Err}
use Rattle.tlsf_class.proofs.RoundingLaws.{round-Some}
use Rattle.tlsf_heap.specs.declared.refusal.Refusal.{Refusal}
use Rattle.tlsf_heap.specs.Content.{Content}
use Rattle.tlsf_heap.specs.Malloc.{malloc}
use Rattle.tlsf_heap.specs.Realloc.{given_anew, realloc}
use Rattle.tlsf_heap.specs.Good.{IsGood}
use Rattle.tlsf_heap.proofs.Good.MallocIsGood.{malloc_is_good}
use Rattle.tlsf_heap.proofs.Good.StaysLive.{live_through_malloc}
use Rattle.tlsf_heap.proofs.Content.Given.{realloc_left}
use Rattle.tlsf_heap.proofs.Meaning.FreedIsGood.{freed_is_good}
use Rattle.tlsf_heap.proofs.Meaning.ResizedIsGood.{resized_is_good}

module _ {A : Type 0} (same : A → A → Bool) where
  given_is_good : (owner : A) (content : Content A) (new : Option (ℕ × A) × Content A) (answer : Result (ℕ × Content A) Refusal) → ((given : ℕ × Content A) → answer ≡ Ok given → IsGood given.1) → given_anew owner answer ≡ Ok new → IsGood new.1
  given_is_good owner content new (Err refusal) good e = absurd (cc)
  given_is_good owner content new (Ok given) good e =
      let is : (Some (given.0, owner), given.1) ≡ new = cc in
      let P : Option (ℕ × A) × Content A → Type 0 = λ x. IsGood x.1 in
      subst P is (good given refl)

  -- realloc keeps a content good
  pub realloc_is_good : (owner : A) (pointer : Option (ℕ × A)) (n : ℕ) (content : Content A) (new : Option (ℕ × A) × Content A) → IsGood content → realloc same owner pointer n content ≡ Ok new → IsGood new.1
  realloc_is_good owner None n content new good e = given_is_good owner content new (malloc owner n content) (λ given is. malloc_is_good owner n content given good is) e
  realloc_is_good owner (Some (place, known)) n content new good e =
      let meant : A → Bool = λ other. same other known in
      realloc_left same owner known place n content (λ answer. IsGood answer.1)
      (λ there nothing. freed_is_good meant place content good there)
      (λ there some. good)
      (λ m there some is.
      let holds = round-Some n m is.rounds in
      let positive : 0 < n = grind arith in
      resized_is_good meant known place m content good there (omega (arith, holds.least, positive)) holds.whole is.fits is.other)
      (λ given there some is. freed_is_good meant place given.1 (malloc_is_good owner n content given good is) (live_through_malloc meant owner place n given.0 content given.1 good there is))
      new e
