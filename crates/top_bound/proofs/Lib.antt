pub mod Below
pub mod Patched
pub mod Limits
pub mod Counted
