-- Lemmas for the plain heap.
pub mod Free
pub mod Lists
pub mod Malloc
pub mod Memalign
pub mod Realloc
pub mod RemovedPool
pub mod Pools
pub mod Rows
