pub mod Words
pub mod Binds
pub mod Thens
