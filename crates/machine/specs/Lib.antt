pub mod Machine
pub mod Runs
pub mod Examples
pub mod Collections
