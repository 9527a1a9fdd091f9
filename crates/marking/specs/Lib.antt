pub mod Marking
pub mod Walks
