pub mod WholeTables
