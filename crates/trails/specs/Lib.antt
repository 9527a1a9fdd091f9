pub mod Firsts
pub mod Named
