pub mod Sets
pub mod Counts
mod Zeros
mod OneBit
mod BitSets
