mod Objects
mod Seated
mod Sums
mod Spread
mod Balanced
mod Lowest
pub mod ByUnits
pub mod Sent
