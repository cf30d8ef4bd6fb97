pub mod Limits
pub mod Plain
pub mod LeftSymmetric
pub mod Rotation
pub mod Straight
pub mod Rounds
pub mod Mirrored
pub mod Chained
