pub mod Dead
pub mod Status
pub mod Refusals
pub mod Steps
