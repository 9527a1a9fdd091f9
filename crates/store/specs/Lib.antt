pub mod Called
pub mod Loaded
pub mod Unified
