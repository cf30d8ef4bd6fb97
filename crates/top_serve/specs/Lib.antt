pub mod Setups
pub mod Caused
pub mod Judged
pub mod Served
