pub mod Refusals
pub mod Unifying
pub mod Pairs
pub mod Steps
pub mod Told
pub mod UnifyLaws
pub mod Whole
pub mod KeepLaws
