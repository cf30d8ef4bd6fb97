pub mod LinesFrom
pub mod Counting
