-- A heap lacks no memory, so none was refused.
use Rattle.std.proofs.Common.{◌≡◌, ◌≤◌, Bool, true, false, length, refl, subst, arith}
use Rattle.std.proofs.lemmas.List.{length-map}
use Rattle.tlsf_heap.specs.Pools.{most_records}
use Rattle.mtrace_replay.specs.Replay.{Replayed}
use Rattle.mtrace_replay.specs.Step.{given_of}
use Rattle.mtrace_replay.proofs.heap.replay.Replay+Heap.keeps_working.Goals as goal

never : (b : Bool) → (b ≡ true → ⊥) → b ≡ false
never true not = absurd (not refl)
never false not = refl

pub returns-clause-few : goal.returns-clause-few
returns-clause-few c =
    let live = c.self.invariant.live (never _ c.self.invariant.lacks) in
    subst (λ (replay : Replayed). length replay.given ≤ most_records) c.self.view_is
    (omega (arith, length-map c.self.inside.holder.held.all given_of, c.self.invariant.few, live.records))
