pub mod FreeStripes
mod FreeCounts
pub mod FreeSpans
pub mod Resting
pub mod Picking
pub mod Possible
pub mod TakeParts
pub mod Ascending
pub mod SplitExists
pub mod PossibleTake
pub mod PossibleDoing
