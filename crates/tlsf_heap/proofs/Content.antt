-- Lemmas on the blocks and lists of a content, and on the calls as the definitions have them.
pub mod Alignments
pub mod Blocks
pub mod Replacing
pub mod FreeLists
pub mod MallocCases
pub mod OwnCases
pub mod ReallocCases
pub mod Results
pub mod ServedCalls
pub mod MemalignCases
pub mod BareSteps
pub mod BareFree
pub mod BareRealloc
pub mod BareMemalign
pub mod Given
pub mod PoolCases
