pub mod Entries
pub mod Texts
pub mod Slips
pub mod Benches
pub mod Replies
