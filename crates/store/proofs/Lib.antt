pub mod Accepting
pub mod Keeping
pub mod HalfMade
pub mod UnifiedTerms
