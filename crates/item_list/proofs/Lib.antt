mod Keeping
mod Patterns
pub mod Sent
