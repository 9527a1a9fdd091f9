pub mod ByteLaws
pub mod VisitLaws
pub mod OccursLaws
pub mod OccursWalk
