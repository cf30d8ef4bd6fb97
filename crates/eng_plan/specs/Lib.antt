pub mod Asked
pub mod Pooled
