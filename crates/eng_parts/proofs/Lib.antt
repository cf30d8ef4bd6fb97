pub mod Shelving
pub mod Sent
