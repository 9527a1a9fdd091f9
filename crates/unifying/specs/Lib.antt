pub mod Merging
pub mod Laws
pub mod Bindings
pub mod Frames
pub mod Walking
pub mod Comparing
pub mod Works
pub mod Unified
