pub mod Picked
pub mod Free
