pub mod Words
mod MapsMore
mod Setting
mod Losing
mod Counting
mod Firsts
pub mod Drawing
pub mod Tables
pub mod Wanting
pub mod Sized
mod Deadened
pub mod Killing
pub mod Opens
mod Stages
mod Places
mod Named
mod Shaped
mod Placing
pub mod Labels
mod Few
mod Starting
pub mod Fitting
pub mod Fits
pub mod Returning
mod Unlost
