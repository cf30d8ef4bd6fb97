pub mod EndingRead
pub mod EndingWrite
pub mod Committing
pub mod Releasing
pub mod EndingPlain
pub mod Terminating
pub mod ReturningSum
pub mod EndingSum
pub mod GoodSteps
mod GoodHome
mod Over
mod Rebuilding
mod EndingRebuild
mod Copying
mod Handouts
mod EndingData
