pub mod Rows
pub mod Studied
pub mod Views
