pub mod Shelf
pub mod Brought
pub mod Fresh
