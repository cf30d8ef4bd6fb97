pub mod Joining
pub mod Steps
pub mod Answers
pub mod Both
pub mod Lines
