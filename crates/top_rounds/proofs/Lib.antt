pub mod CallLaws
mod Devices
pub mod PassLaws
mod SeatLaws
pub mod RoundLaws
pub mod Words
