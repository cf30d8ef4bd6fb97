pub mod ActSamples
pub mod CloseSamples
pub mod RoundSamples
