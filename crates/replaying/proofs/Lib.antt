pub mod Reloading
pub mod SlipsAgree
pub mod Spaces
pub mod TextsBack
pub mod WordCounts
