pub mod Firing
pub mod FireKeeps
pub mod FireStays
pub mod Beginning
pub mod Quiet
pub mod Skipping
pub mod Summing
pub mod EventsStay
pub mod ListingAll
pub mod Beginnings
mod Changing
mod KeepingServed
mod Taking
mod Refusing
mod Turned
mod Turning
mod Backing
mod GivingUp
mod Anew
mod Backed
pub mod SameStripes
