pub mod Sketched
pub mod Counts
pub mod Texts
