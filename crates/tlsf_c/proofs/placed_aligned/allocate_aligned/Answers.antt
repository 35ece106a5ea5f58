-- What a served memalign leaves of blocks and ranges.
use Rattle.std.proofs.Common.{rules, IfOk}
use Rattle.std.proofs.lemmas.Result.{IfOk-weaker}
use Rattle.tlsf_c.proofs.GivenBlock.{IsGiven, aligned_given, given_size, given_lies, given_in_units}
use Rattle.tlsf_c.proofs.LiveChanges.{given_change}
use Rattle.tlsf_c.proofs.Refusing.{aligned_without}
use Rattle.tlsf_c.proofs.placed_aligned.allocate_aligned.Goals as goal

pub returns : goal.returns
returns c =
    let bytes = c.args.bytes in
    let old = c.args.heap.now.content in
    let new = c.memalign-given.new.self.content in
    let result = c.memalign-given.result in
    let good = c.keeps_good.ensures.good in
    let good_now = c.keeps_good-2.ensures.good in
    let given : IfOk result (λ ptr. IsGiven bytes ptr old new) = IfOk-weaker result _ _ (λ ptr served. aligned_given c.args.align bytes ptr old new good served.ok) c.memalign-given.ensures.ok in
    record {
      ok = search rules;
      in_units = IfOk-weaker result _ _ (λ ptr is. given_in_units bytes ptr old new good_now is) given;
      multiple = search rules;
      lies = IfOk-weaker result _ _ (λ ptr is. given_lies bytes ptr old new good_now is) given;
      size = IfOk-weaker result _ _ (λ ptr is. given_size bytes ptr old new good_now is) given;
      live = IfOk-weaker result _ _ (λ ptr is. given_change bytes ptr old new good good_now is) given;
      ranges = IfOk-weaker result _ _ (λ ptr is. is.same_ranges) given;
      refused = search rules;
      unchanged = search rules;
      room = aligned_without c.args.align bytes old result c.memalign-given.ensures.room c.memalign-given.ensures.refused.refused;
      bound = search rules;
    }
