pub mod List
pub mod Looks
pub mod Scanned
pub mod Lines
pub mod Places
pub mod Steps
