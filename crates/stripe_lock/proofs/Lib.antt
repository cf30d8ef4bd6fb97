pub mod Bits
pub mod Holders
pub mod Rows
pub mod Barring
pub mod Growing
pub mod Leaving
pub mod Tables
pub mod Sent
