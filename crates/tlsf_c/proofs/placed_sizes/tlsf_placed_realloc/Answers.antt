-- Each branch is the call that C's realloc is.
use Rattle.std.proofs.Common.{◌≡◌, inl, inr, refl, sym, subst}
use Rattle.std.proofs.lemmas.Bool.{cases_eq, eq-eqb, ne_eqb}
use Rattle.tlsf_c.specs.PlacedRuns.{ask, ask_again, CallStep, realloc_call}
use Rattle.tlsf_c.proofs.placed_sizes.tlsf_placed_realloc.Goals as goal

pub returns-then-address-eq0-clause-step : goal.returns-then-address-eq0-clause-step
returns-then-address-eq0-clause-step c =
    let is_call : realloc_call c.args.address c.args.word.now c.args.bytes ≡ ask c.args.bytes = rw c.if-address-eq0.true refl in
    let e = c.tlsf_placed_malloc-block.ensures in
    subst (λ call. CallStep c.args.heap.now.pools call (record { address = c.tlsf_placed_malloc-block.result.address; word = c.tlsf_placed_malloc-block.result.word }) c.args.heap.now.handle.value c.tlsf_placed_malloc-block.new.heap.handle.value) (sym is_call) (e.given, e.refused, e.live)

pub returns-clause-step : goal.returns-clause-step
returns-clause-step c =
    let is_call : realloc_call c.args.address c.args.word.now c.args.bytes ≡ ask_again c.args.address c.args.word.now c.args.bytes = rw (ne_eqb c.args.address 0 c.if-address-eq0.false) (rw (ne_eqb c.args.bytes 0 c.if-bytes-eq0.false) refl) in
    let e = c.resize_block.ensures in
    subst (λ call. CallStep c.args.heap.now.pools call (record { address = c.resize_block.result; word = c.resize_block.new.word }) c.args.heap.now.handle.value c.resize_block.new.heap.handle.value) (sym is_call) (e.given, e.refused, e.live)

pub returns-clause-moves : goal.returns-clause-moves
returns-clause-moves c = λ nonzero some. elim (cases_eq c.resize_block.result c.args.address) [
  | inl stays ↦ rw (eq-eqb c.resize_block.result c.args.address stays) (c.resize_block.ensures.stays some stays)
  | inr moves ↦ rw (ne_eqb c.resize_block.result c.args.address moves) (c.resize_block.ensures.moves some moves)
]

pub returns-clause-room : goal.returns-clause-room
returns-clause-room c = λ some which room. elim which [
  | inl none ↦ absurd (c.if-address-eq0.false none)
  | inr live ↦ c.resize_block.ensures.room live room
]
