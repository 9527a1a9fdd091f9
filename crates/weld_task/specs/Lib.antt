pub mod Slips
pub mod Levels
