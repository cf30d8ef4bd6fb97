pub mod Effect
pub mod Printed
