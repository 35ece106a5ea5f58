-- Runs: how each reads its log, goes on, and ends.
pub mod AgainLemmas
pub mod FitLemmas
pub mod FollowingLemmas
pub mod FrontedLemmas
pub mod ReplayingLemmas
pub mod Points
pub mod RunLemmas
pub mod RunsAgain
pub mod SaveLemmas
pub mod SitesLemmas
pub mod SizePartsLemmas
pub mod NeedsLemmas
pub mod TimelineLemmas
pub mod ToldLemmas
pub mod TriedLemmas
