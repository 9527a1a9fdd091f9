pub mod AnyOf
pub mod Named
