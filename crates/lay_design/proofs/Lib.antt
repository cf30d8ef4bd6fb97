mod Pairs
mod Tables
mod Flat
mod Combinations
mod NoFault
pub mod Sent
