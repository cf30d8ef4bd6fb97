mod Made
pub mod Falling
pub mod Few
pub mod Following
pub mod Keeps
pub mod Placing
pub mod Sent
