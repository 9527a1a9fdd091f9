pub mod Merges
pub mod Links
pub mod Classes
