-- What the content of a layout says of a node at a position, and how edits of the layout edit the content.
pub mod BlockPositions
pub mod Places
pub mod NodeBlocks
pub mod Freed
pub mod Covered
pub mod FreeFirst
pub mod Refilled
pub mod FreedIsGood
pub mod Gaps
pub mod SplitInThree
pub mod AlignedIsGood
pub mod ResizedIsGood
pub mod FreedSlots
pub mod Entered
pub mod Resized
pub mod Aligned
