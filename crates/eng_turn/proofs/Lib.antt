pub mod Keeps
pub mod Parity
pub mod Sent
pub mod Sums
pub mod Words
