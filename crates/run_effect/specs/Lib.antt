pub mod Effect
pub mod Run
pub mod Printed
