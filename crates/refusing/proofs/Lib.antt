pub mod Checks
pub mod NoCells
pub mod ArgumentCells
