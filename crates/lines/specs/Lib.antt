pub mod Faults
pub mod Words
pub mod ShortWords
pub mod Lines
pub mod Cuts
pub mod Heads
pub mod Readers
