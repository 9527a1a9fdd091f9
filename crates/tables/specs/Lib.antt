pub mod Stacks
pub mod Tables
pub mod Views
