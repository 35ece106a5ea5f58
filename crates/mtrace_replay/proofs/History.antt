-- What the lines of a log do to what is held, by the definitions.
pub mod FoundLemmas
pub mod GivenSize
pub mod HeldLemmas
pub mod HeldSums
pub mod LogRows
pub mod Moments
pub mod PlanLemmas
pub mod SortedLemmas
pub mod TotalsLemmas
pub mod TotalsStep
pub mod LineChange
pub mod HeldCounts
