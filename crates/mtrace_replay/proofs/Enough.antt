-- Which pools and records are enough for a log.
pub mod EnoughBlocks
pub mod EnoughRecords
pub mod FittedPool
pub mod HeldBytes
pub mod LineOnHeap
pub mod OneSizeLog
pub mod OneSizeRows
pub mod SurePool
pub mod UnrefusedLemmas
pub mod UnrefusedTexts
pub mod VerdictLemmas
