pub mod Bound
pub mod Words
pub mod Laws
pub mod Traced
