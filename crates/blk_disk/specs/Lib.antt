pub mod Disk
pub mod Mem
pub mod Stops
pub mod Sectors
pub mod Devices
pub mod Gate
pub mod MemStop
pub mod Stopped
