pub mod Counting
pub mod Blocks
pub mod Design
pub mod Given
pub mod Families
