pub mod Spans
pub mod Works
