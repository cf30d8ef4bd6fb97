pub mod Ends
pub mod Summed
pub mod Copied
pub mod EndLog
pub mod Calls
