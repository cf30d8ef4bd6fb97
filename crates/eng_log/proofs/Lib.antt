pub mod Laying
pub mod FewItems
pub mod Seating
pub mod Filling
pub mod Repeating
pub mod Sent
pub mod Patching
