pub mod Bytes
pub mod Visits
