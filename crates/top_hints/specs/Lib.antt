pub mod Line
pub mod Tables
pub mod Words
pub mod Advice
pub mod Hint
pub mod Views
