pub mod Show
pub mod Maps
pub mod Labels
pub mod Doubts
pub mod Laws
pub mod Steps
