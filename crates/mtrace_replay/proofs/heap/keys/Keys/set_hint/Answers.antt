-- A hint changes neither keys nor rows.
use Rattle.std.proofs.Common.{◌<◌, ◌/◌, length, refl, arith, ap₂}
use Rattle.mtrace_replay.specs.Keys.{Kept}
use Rattle.mtrace_replay.proofs.Index.KeysLemmas.{keys_stay, rows_stay}
use Rattle.mtrace_replay.proofs.heap.keys.Keys.set_hint.Goals as goal

pub returns-then-number-len : goal.returns-then-number-len
returns-then-number-len c =
    let there : c.hint_number-number.result / 256 < length c.self.inside.chunks.items = omega (arith, c.if-number-len.true, c.len.ensures) in
    ap₂ (λ keys rows. let kept : Kept = record { keys = keys; rows = rows } in kept)
    (keys_stay c.self.inside c.self.invariant c.args.self.now c.self.view_is (c.hint_number-number.result / 256) c.index_mut.result.now _ there c.index_mut.ensures.value refl)
    (rows_stay c.self.inside c.self.invariant c.args.self.now c.self.view_is (c.hint_number-number.result / 256) c.index_mut.result.now _ there c.index_mut.ensures.value refl)
