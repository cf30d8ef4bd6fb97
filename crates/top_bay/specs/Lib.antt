pub mod Asked
pub mod Lent
pub mod Views
pub mod Steps
