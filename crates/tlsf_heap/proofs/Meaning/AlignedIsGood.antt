-- memalign keeps a content good, and gives a multiple of the alignment.
use Rattle.std.proofs.Common.{◌≡◌, ℕ, ◌+◌, ◌-◌, ◌%◌, ◌<◌, ◌≤◌, true, ◌∷◌, length, sym, ap, ◌∙◌, subst, arith, get_or, length-append, Some, Ok}
use Rattle.std.specs.Int.{next_multiple_of}
use Rattle.std.proofs.Math.Seq.{get_or-append_seam}
use Rattle.tlsf_class.specs.Classes.{unit}
use Rattle.tlsf_heap.specs.Content.{Block, Content, blocks_of, size_at}
use Rattle.tlsf_heap.specs.Lists.{pick}
use Rattle.tlsf_class.proofs.RoundingLaws.{round-Some}
use Rattle.tlsf_heap.specs.Memalign.{is_alignment, size_asked, memalign}
use Rattle.tlsf_heap.proofs.Content.MemalignCases.{IsPicked, memalign_given}
use Rattle.tlsf_heap.specs.Good.{IsGood}
use Rattle.tlsf_heap.proofs.Good.MallocIsGood.{Picked, picked}
use Rattle.tlsf_heap.proofs.Good.Implied.{has_aligned_blocks}
use Rattle.tlsf_heap.proofs.Content.Alignments.{IsStart, start_is}
use Rattle.tlsf_heap.proofs.Meaning.SplitInThree.{aligned_is_good}

module _ {A : Type 0} where
  -- the place that was picked is of whole units
  picked_whole : (asked place : ℕ) (content : Content A) → IsGood content → Picked asked place content → place % unit ≡ 0
  picked_whole asked place content good is =
      let at : ℕ = length is.found.front in
      let within : at < length (blocks_of content.pools) = omega (arith, ap length is.found.whole, length-append is.found.front (is.found.block ∷ is.found.back)) in
      let here : get_or (blocks_of content.pools) at is.found.block ≡ is.found.block =
      ap (λ bs. get_or bs at is.found.block) is.found.whole ∙ get_or-append_seam is.found.front is.found.block is.found.back is.found.block in
      ap (λ p. p % unit) (sym is.found.here) ∙ ap (λ (b : Block A). b.place % unit) (sym here) ∙ (has_aligned_blocks content good at is.found.block within).0

  -- where a block picked for an alignment can be split
  pub record CanSplitAligned (align m place : ℕ) (content : Content A) : Type 0 where
    pub start : IsStart align m place (next_multiple_of place align)
    pub fits : (next_multiple_of place align - place) + m ≤ size_at place (blocks_of content.pools)
    pub picked : Picked (size_asked align m) place content

  pub can_split_aligned : (align m place : ℕ) (content : Content A) → IsGood content → is_alignment align ≡ true → pick (size_asked align m) content.lists ≡ Some place → CanSplitAligned align m place content
  can_split_aligned align m place content good is found =
      let there = picked (size_asked align m) place content good found in
      let start = start_is align m place is (picked_whole (size_asked align m) place content good there) in
      record { start = start; fits = omega (arith, start.fits, there.holds); picked = there }

  -- memalign keeps a content good
  pub memalign_is_good : (owner : A) (align n : ℕ) (content : Content A) (new : ℕ × Content A) → IsGood content → memalign owner align n content ≡ Ok new → IsGood new.1
  memalign_is_good owner align n content new good e =
      let given = memalign_given owner align n content new e in
      let p : IsPicked owner align n content = given.0 in
      let split_so = can_split_aligned align p.asked p.place content good p.is p.found in
      let holds = round-Some n p.asked p.rounds in
      let positive : 0 < p.asked = omega (arith, holds.least, holds.some) in
      let P : ℕ × Content A → Type 0 = λ x. IsGood x.1 in
      subst P given.1
      (aligned_is_good owner (next_multiple_of p.place align) p.asked p.place content good split_so.picked.once split_so.start.begins split_so.fits positive holds.whole split_so.start.gap_whole given.2)
