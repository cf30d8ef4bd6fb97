pub mod Calls
pub mod Labels
pub mod Passes
pub mod Rounds
