-- Both requests for a block.
use Rattle.std.proofs.Common.{arith}
use Rattle.std.proofs.lemmas.Result.{IfOk-weaker, on_err_weaker}
use Rattle.mtrace_replay.proofs.heap.step.ask_block.Goals as goal

pub returns-in-None : goal.returns-in-None
returns-in-None g c =
    let asked = c.malloc.ensures in
    rw c.in-None.is (record {
      asks = record {
        ok = IfOk-weaker c.malloc.result _ _ (λ ptr served. served.ok) asked.ok;
        slot_below = IfOk-weaker c.malloc.result _ _ (λ ptr served. served.slot_below) asked.ok;
        slot_new = IfOk-weaker c.malloc.result _ _ (λ ptr served other. served.slot_new) asked.ok;
        refused = asked.refused.refused;
        memory = asked.refused.memory;
        unchanged = on_err_weaker c.malloc.result (λ looks. looks.content) asked.refused.unchanged;
      };
      bound = record { floor = asked.bound.floor; bound = omega (arith, asked.bound.bound) };
    })

pub returns-in-Some : goal.returns-in-Some
returns-in-Some g c =
    let asked = c.memalign.ensures in
    rw (c.in-Some.is, ← c.value.ensures.value) (record {
      asks = record {
        ok = IfOk-weaker c.memalign.result _ _ (λ ptr served. served.ok) asked.ok;
        slot_below = IfOk-weaker c.memalign.result _ _ (λ ptr served. served.slot_below) asked.ok;
        slot_new = IfOk-weaker c.memalign.result _ _ (λ ptr served other. served.slot_new) asked.ok;
        refused = asked.refused.refused;
        memory = asked.refused.memory;
        unchanged = on_err_weaker c.memalign.result (λ looks. looks.content) asked.refused.unchanged;
      };
      bound = record { floor = asked.bound.floor; bound = omega (arith, asked.bound.bound) };
    })
