pub mod LinesInTurn
pub mod RequestsInTurn
pub mod NumberText
pub mod WorkloadInTurn
pub mod Same
