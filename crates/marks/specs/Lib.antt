pub mod Sets
pub mod Keepers
