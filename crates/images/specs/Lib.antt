pub mod Faults
pub mod Text
pub mod Reading
pub mod Drafts
pub mod ImageLaws
