mod ActFitting
mod CloseFitting
mod RoundFitting
pub mod MapFitting
