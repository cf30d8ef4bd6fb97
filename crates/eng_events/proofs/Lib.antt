pub mod GoingHome
pub mod OpeningDesks
pub mod Opening
pub mod HandingBack
pub mod LaidItems
