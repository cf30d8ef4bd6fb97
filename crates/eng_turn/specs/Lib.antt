pub mod Rule
pub mod Steps
pub mod Tally
pub mod Turn
pub mod View
