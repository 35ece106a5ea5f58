-- Who holds it: the sites of entries.
pub mod Origins
pub mod Gathered
pub mod Exact
pub mod Sorting
pub mod OneList
pub mod CallerOrder
pub mod OneEach
