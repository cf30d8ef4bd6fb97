pub mod Ready
pub mod Trial
