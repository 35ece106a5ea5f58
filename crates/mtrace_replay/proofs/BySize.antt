-- Heaps by size: spans that are counted, and cuts of them.
pub mod PartsRows
pub mod PartLogRows
pub mod MirrorLemmas
pub mod PartLogLemmas
pub mod ClassSizes
pub mod RangeLemmas
pub mod SpanRowLemmas
pub mod SpansLemmas
pub mod CountedLemmas
pub mod CutLemmas
pub mod CountedRunLemmas
pub mod PartsTextLemmas
pub mod PartsRun
pub mod OneHeapsText
pub mod PartsServe
