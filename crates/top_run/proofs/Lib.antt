pub mod Settled
pub mod Starting
pub mod Columns
mod FromServed
pub mod AtEnd
mod Finishing
mod Meaning
mod Causing
pub mod Caused
pub mod Kept
pub mod Outlived
pub mod Rebuilt
pub mod All
mod InTurnOps
mod InTurnSums
mod InTurnReplies
mod InTurnAlone
mod InTurnApart
mod InTurnMeans
mod InTurnSummary
pub mod InTurnSame
pub mod InTurnHeld
pub mod InTurn
pub mod Effect
