pub mod Form
pub mod Grown
pub mod Joined
pub mod Tasks
