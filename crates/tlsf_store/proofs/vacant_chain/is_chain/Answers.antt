use Rattle.std.proofs.Common.{◌≡◌, ℕ, ◌+◌, ◌-◌, ◌<◌, ◌↔◌, Option, Some, None, Bool, IsTrue, is_some, not, true, false, List, length, slice_index_or, refl, sym, ap, subst, ◌∙◌, arith}
use Rattle.std.proofs.lemmas.Bool.{false≢true}
use Rattle.std.proofs.lemmas.List.{get_or_default}
use Rattle.tlsf_store.specs.declared.records.Record.{Record}
use Rattle.tlsf_store.specs.Records.{blank, record_at, is_vacant}
use Rattle.tlsf_store.specs.Table.{next_at, IsVacantAt}
use Rattle.tlsf_store.specs.Table.{IsChain}
use Rattle.tlsf_store.proofs.Chains.{chain_none, chain_begins, chain_follows}
use Rattle.tlsf_store.proofs.vacant_chain.is_chain.Goals as goal

-- a link is none exactly where a test says so
none_told : (link : Option ℕ) (answer : Bool) → is_some link ≡ not answer → IsTrue answer ↔ (link ≡ None)
none_told None true told = (λ yes. refl, λ none. refl)
none_told None false told = absurd (false≢true told)
none_told (Some slot) true told = absurd (false≢true (sym told))
none_told (Some slot) false told = (λ yes. absurd (false≢true yes), λ none. let never : ⊥ = cc none in absurd never)

-- what was read at an index is the record of that slot
read_there : (records : List Record) (index slot : ℕ) (was : Record) → was ≡ slice_index_or records index was → index ≡ slot → index < length records →
    was ≡ record_at records slot
read_there records index slot was is at within = is ∙ (get_or_default records index was blank within ∙ ap (λ k. record_at records k) at)

pub returns-in_default-clause-exact : goal.returns-in_default-clause-exact
returns-in_default-clause-exact c = (
  λ never. absurd (false≢true never),
  λ chain.
      let rest = c.loop-followed.invariant.chained.1 chain in
      let left = chain_none (IsVacantAt c.args.records.now) (next_at c.args.records.now) (c.args.vacant - c.loop-followed._followed) (rw (← c.in_default.is) rest) in
      let never : ⊥ = omega (arith, left) in absurd never,
)

pub returns-then-index-records-clause-exact : goal.returns-then-index-records-clause-exact
returns-then-index-records-clause-exact c = (
  λ never. absurd (false≢true never),
  λ chain.
      let rest = c.loop-followed.invariant.chained.1 chain in
      let begins = chain_begins (IsVacantAt c.args.records.now) (next_at c.args.records.now) (c.args.vacant - c.loop-followed._followed) c.in-Some.slot (rw (← c.in-Some.is) rest) in
      let never : ⊥ = omega (arith, begins.first.0) in absurd never,
)

pub returns-then-not-is_vacant-clause-exact : goal.returns-then-not-is_vacant-clause-exact
returns-then-not-is_vacant-clause-exact c = (
  λ never. absurd (false≢true never),
  λ chain.
      let rest = c.loop-followed.invariant.chained.1 chain in
      let begins = chain_begins (IsVacantAt c.args.records.now) (next_at c.args.records.now) (c.args.vacant - c.loop-followed._followed) c.in-Some.slot (rw (← c.in-Some.is) rest) in
      let here = read_there c.args.records.now c.index-in-loop-followed.result c.in-Some.slot c.index-records-index.result c.index-records-index.is c.index-in-loop-followed.ensures (omega (arith, begins.first.0, c.index-in-loop-followed.ensures)) in
      sym c.if-not-is_vacant.true ∙ (c.is_vacant.ensures ∙ (ap (λ r. is_vacant r.state) here ∙ begins.first.1)),
)

pub loop-followed-preserved : goal.loop-followed-preserved
loop-followed-preserved c =
    let vacant = IsVacantAt c.args.records.now in
    let next = next_at c.args.records.now in
    let slot = c.in-Some.slot in
    let within : slot < length c.args.records.now = omega (arith, c.index.ensures, c.if-index-records.false) in
    let inside : c.index-in-loop-followed.result < length c.args.records.now = omega (arith, c.index-in-loop-followed.ensures) in
    let here = read_there c.args.records.now c.index-in-loop-followed.result slot c.index-records-index.result c.index-records-index.is c.index-in-loop-followed.ensures inside in
    let first : vacant slot = (within, ap (λ r. is_vacant r.state) (sym here) ∙ (sym c.is_vacant.ensures ∙ c.if-not-is_vacant.false)) in
    let link : next slot ≡ c.link_of-next.result = ap (λ r. r.next) (sym here) ∙ sym (c.link_of-next.ensures ∙ c.next_word.ensures) in
    let less : c.args.vacant - c.loop-followed._followed - 1 ≡ c.args.vacant - (c.loop-followed._followed + 1) = omega arith in
    let follows = chain_follows vacant next (c.args.vacant - c.loop-followed._followed) slot (omega arith) first in
    let before : IsChain vacant next (c.args.vacant - c.loop-followed._followed) (Some slot) ↔ IsChain vacant next c.args.vacant c.args.first =
    subst (λ v. IsChain vacant next (c.args.vacant - c.loop-followed._followed) v ↔ IsChain vacant next c.args.vacant c.args.first) c.in-Some.is c.loop-followed.invariant.chained in
    let rest : IsChain vacant next (c.args.vacant - (c.loop-followed._followed + 1)) c.link_of-next.result ↔ IsChain vacant next (c.args.vacant - c.loop-followed._followed) (Some slot) =
    subst (λ v. IsChain vacant next (c.args.vacant - (c.loop-followed._followed + 1)) v ↔ IsChain vacant next (c.args.vacant - c.loop-followed._followed) (Some slot)) link
    (subst (λ n. IsChain vacant next n (next slot) ↔ IsChain vacant next (c.args.vacant - c.loop-followed._followed) (Some slot)) less follows) in
    record {
      chained = (λ more. before.0 (rest.0 more), λ all. rest.1 (before.1 all));
      touched = omega (arith, c.tick.ensures, c.loop-followed.invariant.touched);
    }
