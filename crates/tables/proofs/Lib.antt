pub mod Views
pub mod Lengths
