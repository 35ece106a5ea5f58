-- Some slot up to the number of blocks is free.
use Rattle.std.proofs.Common.{◌≡◌, ℕ, ◌≤◌, arith, sym, ap, ◌∙◌, subst, inl, inr}
use Rattle.std.proofs.lemmas.Bool.{cases_lt}
use Rattle.tlsf_heap.specs.Content.{blocks_of}
use Rattle.tlsf_heap.specs.GoodSlots.{slot_times}
use Rattle.tlsf_heap.proofs.Good.SlotsLeft.{slot_new, slot_used, slots_in_use}
use Rattle.tlsf_heap.proofs.plain_heap.content.Content.least_slot.Goals as goal

pub returns-then-not-has_slot-clause-new : goal.returns-then-not-has_slot-clause-new
returns-then-not-has_slot-clause-new c = slot_new c.loop-slot.slot c.args.self.now.pools (sym c.has_slot.ensures ∙ c.if-not-has_slot.true)

pub loop-slot-preserved : goal.loop-slot-preserved
loop-slot-preserved c = λ k below. elim (cases_lt k c.loop-slot.slot) [
  | inl before ↦ c.loop-slot.invariant k before
  | inr last ↦
      let same : c.loop-slot.slot ≡ k = omega (arith, below, last) in
      let P : ℕ → Type 0 = λ n. 1 ≤ slot_times n (blocks_of c.args.self.now.pools) in
      subst P same (slot_used c.loop-slot.slot c.args.self.now.pools (sym c.has_slot.ensures ∙ c.if-not-has_slot.false))
]

pub unreachable-requires : goal.unreachable-requires
unreachable-requires c =
    omega (
      arith,
      c.requires.free,
      c.requires.few,
      slots_in_use c.args.self.now.records (blocks_of c.args.self.now.pools) (λ slot below. c.loop-slot.invariant slot (omega (arith, below, c.loop-slot-test.false, ap (λ content. content.records) c.self.view_is))),
    )
