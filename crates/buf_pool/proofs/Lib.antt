pub mod Keeps
pub mod Leasing
pub mod Opening
pub mod Sent
pub mod Writing
