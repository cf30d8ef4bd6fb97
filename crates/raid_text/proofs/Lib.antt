pub mod LineCuts
pub mod WordCuts
pub mod Digits
pub mod Again
pub mod PlainLines
