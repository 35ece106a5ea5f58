-- A block that was moved or kept is live.
use Rattle.std.proofs.Common.{◌≡◌, Option, Some, Ok, refl, ap, ◌∙◌, subst, arith}
use Rattle.std.specs.Prelude.{◌==◌, Err}
use Rattle.std.proofs.lemmas.Bool.{eq-eqb}
use Rattle.std.proofs.lemmas.Result.{err_from_is_err_and}
use Rattle.tlsf_heap.specs.Pointer.{Pointer, place_and_slot, slot_of}
use Rattle.tlsf_heap.specs.Realloc.{realloc}
use Rattle.tlsf_heap.proofs.Good.StaysLive.{live_moved}
use Rattle.mtrace_replay.proofs.heap.step.realloc_block.Goals as goal

pub end_of_block-end-requires : goal.end_of_block-end-requires
end_of_block-end-requires g c =
    let old = g.H.Heaped.content c.args.heap.now in
    let new = g.H.Heaped.content c.realloc.new.self in
    let given = c.in-Some.new in
    let R : Option Pointer → Type 0 = λ o. realloc (λ a b. a == b) (slot_of o) (Some (c.args.ptr.place, c.args.ptr.slot)) c.args.n old ≡ Ok (place_and_slot o, new) in
    let served : R (Some given) = subst R c.in-Some.is c.in_ok-new.ensures.ok.ok in
    let live = live_moved (λ a b. a == b) given.slot c.args.ptr.slot c.args.ptr.place c.args.n old given.place given.slot new (λ a. eq-eqb a a refl) c.keeps_good.ensures.good served in
    record { live = live }

pub returns-in_err-new : goal.returns-in_err-new
returns-in_err-new g c =
    let p = err_from_is_err_and c.from_residual.result c.from_residual.ensures.1 in
    let refused = c.in_err-new.ensures.refused in
    rw (p.1 ∙ ap Err p.2) (record {
      asks = record { ok = tt; slot_below = tt; slot_new = tt; refused = refused.refused; memory = refused.memory; unchanged = refused.unchanged.content };
      end = tt;
      bound = record { floor = c.realloc.ensures.bound.floor; bound = omega (arith, c.realloc.ensures.bound.bound) };
    })
