pub mod Summing
