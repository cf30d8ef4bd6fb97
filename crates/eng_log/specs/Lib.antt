pub mod Log
pub mod Filled
pub mod Handed
pub mod Given
pub mod Laid
