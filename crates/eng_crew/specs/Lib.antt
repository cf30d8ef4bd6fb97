pub mod Drained
pub mod Idle
pub mod Laws
pub mod Made
pub mod Places
