pub mod Text
pub mod Pattern
pub mod Printed
pub mod Seen
pub mod Steps
