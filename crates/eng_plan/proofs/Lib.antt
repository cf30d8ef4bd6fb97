pub mod Lacking
pub mod Maps
pub mod Choosing
pub mod SpanStripes
pub mod Pooling
