pub mod Terms
pub mod Renamings
pub mod Unifiers
pub mod Robinson
pub mod Laws
