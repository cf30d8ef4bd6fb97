pub mod Pools
pub mod Gathering
pub mod MadeDesk
pub mod Padded
pub mod Closing
pub mod MoreDesks
pub mod Keeping
pub mod SeatsApart
pub mod Scattered
pub mod Sent
mod Giving
