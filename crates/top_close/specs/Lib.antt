pub mod Calls
pub mod Reserved
pub mod Settled
pub mod Ended
pub mod Dying
pub mod Closes
pub mod Losses
pub mod Stage
