pub mod Holder
pub mod Rows
pub mod Table
