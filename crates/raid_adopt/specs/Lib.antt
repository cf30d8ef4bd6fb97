pub mod Rounds
pub mod Found
pub mod Writes
