pub mod Limits
pub mod Table
pub mod Positions
pub mod Counted
pub mod Seats
pub mod Offsets
pub mod Shapes
pub mod Balance
