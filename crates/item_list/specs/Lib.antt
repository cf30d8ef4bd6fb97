pub mod ItemList
pub mod Kept
