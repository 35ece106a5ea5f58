-- Worked rows, computed by the definitions.
mod Heap
mod OwnClass
mod Run
mod Sizing
mod OneSize
mod LastAsked
mod Pools
mod Least
