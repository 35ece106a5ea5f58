-- Places are apart in a good content, and addresses as places.
use Rattle.std.proofs.Common.{subst}
use Rattle.tlsf_heap.specs.Counted.{Counted}
use Rattle.tlsf_heap.specs.Good.{IsGood}
use Rattle.tlsf_c.proofs.PlacedLemmas.{live_apart}
use Rattle.tlsf_c.proofs.laws.live_blocks_are_apart.Goals as goal

pub returns : goal.returns
returns c =
    let heap = c.args.heap.now in
    let good = subst (λ (h : Counted). IsGood h.content) c.heap.ensures.value c.keeps_good.ensures.good in
    record { apart = λ one other word other_word. live_apart one other word other_word heap.pools heap.handle.value.content good heap.apart heap.entries }
