pub mod Page
pub mod Line
