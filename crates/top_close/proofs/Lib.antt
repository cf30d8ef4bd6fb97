mod Settles
pub mod CallLaws
pub mod SettledLaws
pub mod Counts
pub mod DyingLaws
pub mod ClosingLaws
pub mod LackingLaws
pub mod StageLaws
mod LiveLaws
pub mod Words
