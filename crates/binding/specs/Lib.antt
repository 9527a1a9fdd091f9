pub mod Unbinding
