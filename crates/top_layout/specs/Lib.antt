pub mod Tallies
pub mod Costs
pub mod Lines
