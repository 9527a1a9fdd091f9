pub mod States
pub mod Refused
