pub mod OneEnd
pub mod Fitting
pub mod Searching
pub mod TwoSpans
pub mod Lines
pub mod Both
pub mod OneItem
