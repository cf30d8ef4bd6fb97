pub mod Asked
pub mod Format
pub mod Texts
pub mod Answers
pub mod Views
pub mod Lines
pub mod Simulated
pub mod Steps
