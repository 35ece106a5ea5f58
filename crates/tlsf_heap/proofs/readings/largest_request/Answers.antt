-- The last class with a block serves up to its lowest size.
use Rattle.std.proofs.Common.{ℕ, ◌<◌, refl, sym, inl, inr, arith}
use Rattle.tlsf_class.specs.Classes.{low}
use Rattle.tlsf_class.proofs.LowestSizes.{low-le}
use Rattle.std.proofs.lemmas.Bool.{cases_lt}
use Rattle.tlsf_store.specs.Cells.{Cells}
use Rattle.tlsf_heap.proofs.Inner.Largest.{largest_is}
use Rattle.tlsf_heap.proofs.readings.largest_request.Goals as goal

pub returns-in-Some-clause-value : goal.returns-in-Some-clause-value
returns-in-Some-clause-value c =
    let old : Cells = c.args.store.now.cells in
    let class : ℕ = c.in-Some.class in
    largest_is old c.requires c.low.result (record {
      found = λ some. (class, c.in-Some.ensures.last.within, sym c.low.ensures, c.in-Some.ensures.last.found);
      none = λ other within above. c.in-Some.ensures.last.last other (higher other (rw c.low.ensures at above)) within;
    })
  where
    higher : (other : ℕ) → low c.in-Some.class < low other → c.in-Some.class < other
    higher other above = elim (cases_lt c.in-Some.class other) [
      | inl later ↦ later
      | inr most ↦ absurd (omega (arith, above, low-le other c.in-Some.class most))
    ]

pub returns-in-None-clause-value : goal.returns-in-None-clause-value
returns-in-None-clause-value c =
    largest_is c.args.store.now.cells c.requires 0 (record {
      found = λ some. absurd (some refl);
      none = λ other within above. c.in-None.ensures.none other within;
    })
