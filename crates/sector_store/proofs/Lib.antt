mod Joined
mod Chosen
mod Keeping
pub mod Putting
pub mod Sent
