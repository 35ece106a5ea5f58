-- One chain more in each turn, added to the tally.
use Rattle.std.proofs.Common.{◌≡◌, ◌<◌, ◌∙◌, length, sym, ap, arith, Some}
use Rattle.tlsf_store.specs.Cells.{pool_at, most_pools}
use Rattle.tlsf_heap.specs.Images.Image.{Sections}
use Rattle.tlsf_heap.specs.Images.Findings.{chain_found}
use Rattle.tlsf_heap.proofs.Images.ChainLemmas.{pool_on, pool_none}
use Rattle.tlsf_heap.proofs.Images.HasSectionsLemmas.{and_reads}
use Rattle.tlsf_heap.proofs.image.chains.look_at_chains.Goals as goal
use Rattle.tlsf_heap.proofs.image.chains.look_at_chains.Goals.{in-Some+in_ok-look_at_chain, in_default}

pub loop-number-preserved : goal.loop-number-preserved
loop-number-preserved g c =
    let sections : Sections = g.T.HasSections.sections c.args.table.now in
    let read : c.pool.result ≡ pool_at sections.pools c.loop-number.number =
    c.pool.ensures.value ∙ ap (λ (p : Sections). pool_at p.pools c.loop-number.number) c.loop-number.invariant.read.same in
    let whole : length sections.pools ≡ most_pools = rw (ap (λ (p : Sections). length p.pools) (sym c.loop-number.invariant.read.same)) c.pool.ensures.whole in
    let within : c.loop-number.number < length sections.pools = omega (arith, c.loop-number-test.true, whole) in
    elim c.match-pool.branch [
      | in-Some+in_ok-look_at_chain w ↦
          let same = c.pool.ensures.read.same ∙ c.loop-number.invariant.read.same in
          let chain : chain_found sections w.in-Some.pool ≡ Some w.in_ok-look_at_chain.field-0 =
          sym (w.in_ok-look_at_chain.ensures.value ∙ ap (λ (p : Sections). chain_found p w.in-Some.pool) same) in
          rw (w.table-is, w.tally-is, w.and-tally.ensures) (record {
            read = and_reads c.loop-number.invariant.read (and_reads c.pool.ensures.read w.look_at_chain.ensures.read);
            whole = λ some. whole;
            few = omega (arith, c.loop-number.invariant.few, w.in_ok-look_at_chain.ensures.few);
            told = sym (pool_on sections c.loop-number.tally c.loop-number.number w.in-Some.pool w.in_ok-look_at_chain.field-0 within (sym read ∙ w.in-Some.is) chain) ∙ c.loop-number.invariant.told;
          })
      | in_default w ↦
          rw (w.table-is, w.tally-is) (record {
            read = and_reads c.loop-number.invariant.read c.pool.ensures.read;
            whole = λ some. whole;
            few = omega (arith, c.loop-number.invariant.few);
            told = sym (pool_none sections c.loop-number.tally c.loop-number.number within (sym read ∙ w.in_default.is)) ∙ c.loop-number.invariant.told;
          })
    ]
