pub mod Begun
pub mod Marked
pub mod Maps
pub mod Ran
pub mod Words
pub mod Given
pub mod Between
pub mod Effect
